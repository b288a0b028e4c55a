-- Plain nodes, and declarations put together from parts.
use Rattle.std.proofs.Common.{◌≡◌, ℕ, ◌+◌, List, ◌++◌, length, Some, refl, sym, ap, ◌∙◌, arith}
use Rattle.std.specs.Option.{unwrap_or}
use Rattle.hare_tree.specs.declared.token.Meaning.TheVariants as means
use Rattle.hare_tree.specs.Node.{Node, Nodes, branch, none, more, head, nodes_of}
use Rattle.hare_types.specs.declared.coercion.Ty.TheVariants as ty
use Rattle.hare_types.specs.declared.row.Scalar.TheVariants as keyword
use Rattle.hare_typed.specs.declared.constant.Const.TheVariants as constant
use Rattle.hare_typed.specs.Typed.{TypedNode, marked, typed_none, typed_nodes}
use Rattle.hare_typed.specs.Erased.{erase}
use Rattle.hare_rules.specs.Context.{Setting}
use Rattle.hare_rules.specs.Settles.{same}
use Rattle.hare_rules.specs.Words.{word_id, typed_as}
use Rattle.hare_modules.specs.Uses.{listed, kid, kids}
use Rattle.hare_whole.specs.Declared.{plain_mark, IsPlain}
use Rattle.hare_whole.specs.Turns.{plain_of}
use Rattle.hare_finish.specs.Made.{void_mark, plain_as, IsLeaf, IsFront, IsDeclaration}

-- ---- marks

-- in a setting in which this is the id of void
pub void_plain : (w : Setting) (v k : ℕ) → word_id w.store keyword.Void ≡ Some v → plain_mark w k ≡ void_mark v k
void_plain w v k e =
    let a = ap (λ o. unwrap_or (typed_as o) ty.Null) e in
    ap (λ b. record { node = k; ty = b; coerce = same b; meaning = means.None; value = constant.Absent }) a

pub plain_as-plain_of : (w : Setting) (v : ℕ) (t : Node) → word_id w.store keyword.Void ≡ Some v → plain_as v t ≡ plain_of w t
plain_as-plain_of w v t e = ap (λ m. marked (head t) m typed_none) (sym (void_plain w v 0 e))

pub plain_as-IsPlain : (w : Setting) (v : ℕ) (t : Node) → word_id w.store keyword.Void ≡ Some v → IsPlain w (plain_as v t)
plain_as-IsPlain w v t e = ap (λ m. marked (head t) m typed_none) (sym (void_plain w v 0 e))

-- ---- untyped trees

-- what is plain stands for a tree in which nothing stands
pub erase-plain_as : (v : ℕ) (t : Node) → IsLeaf t → erase (plain_as v t) ≡ t
erase-plain_as v (branch h none) e = refl
erase-plain_as v (branch h (more t ts)) e = absurd cc

-- a tree by its kids
pub one-kid : (t : Node) → length (kids t) ≡ 1 → branch (head t) (more (kid t 0) none) ≡ t
one-kid (branch h none) e = absurd (omega arith)
one-kid (branch h (more a none)) e = refl
one-kid (branch h (more a (more b ts))) e = absurd (omega arith)

pub three-kids : (t : Node) → length (kids t) ≡ 3 → branch (head t) (more (kid t 0) (more (kid t 1) (more (kid t 2) none))) ≡ t
three-kids (branch h none) e = absurd (omega arith)
three-kids (branch h (more a none)) e = absurd (omega arith)
three-kids (branch h (more a (more b none))) e = absurd (omega arith)
three-kids (branch h (more a (more b (more c none)))) e = refl
three-kids (branch h (more a (more b (more c (more d ts))))) e = absurd (omega arith)

pub four-kids : (t : Node) → length (kids t) ≡ 4 →
    branch (head t) (more (kid t 0) (more (kid t 1) (more (kid t 2) (more (kid t 3) none)))) ≡ t
four-kids (branch h none) e = absurd (omega arith)
four-kids (branch h (more a none)) e = absurd (omega arith)
four-kids (branch h (more a (more b none))) e = absurd (omega arith)
four-kids (branch h (more a (more b (more c none)))) e = absurd (omega arith)
four-kids (branch h (more a (more b (more c (more d none))))) e = refl
four-kids (branch h (more a (more b (more c (more d (more f ts)))))) e = absurd (omega arith)

pub five-kids : (t : Node) → length (kids t) ≡ 5 →
    branch (head t) (more (kid t 0) (more (kid t 1) (more (kid t 2) (more (kid t 3) (more (kid t 4) none))))) ≡ t
five-kids (branch h none) e = absurd (omega arith)
five-kids (branch h (more a none)) e = absurd (omega arith)
five-kids (branch h (more a (more b none))) e = absurd (omega arith)
five-kids (branch h (more a (more b (more c none)))) e = absurd (omega arith)
five-kids (branch h (more a (more b (more c (more d none))))) e = absurd (omega arith)
five-kids (branch h (more a (more b (more c (more d (more f none)))))) e = refl
five-kids (branch h (more a (more b (more c (more d (more f (more g ts))))))) e = absurd (omega arith)

pub nodes_of-listed : (ts : Nodes) → nodes_of (listed ts) ≡ ts
nodes_of-listed none = refl
nodes_of-listed (more t ts) = ap (more t) (nodes_of-listed ts)

pub branch-kids : (t : Node) → branch (head t) (nodes_of (kids t)) ≡ t
branch-kids (branch h ts) = ap (branch h) (nodes_of-listed ts)

-- ---- declarations

-- the front and the parts behind it are the kids of a declaration
pub declaration-made : (v n : ℕ) (t : Node) (xs ys zs : List TypedNode) (d : TypedNode) → length (kids t) ≡ n → n ≡ length ys + 2 →
    IsFront v t xs → zs ≡ xs ++ ys → d ≡ marked (head t) (void_mark v 0) (typed_nodes zs) → IsDeclaration v t ys d
declaration-made v n t xs ys zs d c m f e g = record {
  count = c ∙ m;
  export_leaf = f.export_leaf;
  name_leaf = f.name_leaf;
  is = g ∙ ap (λ us. marked (head t) (void_mark v 0) (typed_nodes us)) (e ∙ ap (λ us. us ++ ys) f.is);
}
