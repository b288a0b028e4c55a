-- Patterns of cases, by their trees.
use Rattle.std.proofs.Common.{◌≡◌, ℕ, zero, suc, List, [], ◌∷◌, ap, sym, ◌∙◌, refl}
use Rattle.hare_tree.specs.Node.{Head}
use Rattle.hare_tree.specs.declared.kind.Kind.{Kind}
use Rattle.hare_tree.specs.declared.kind.Kind.TheVariants as ki
use Rattle.hare_types.specs.declared.coercion.Ty.{Ty}
use Rattle.hare_types.specs.declared.coercion.Ty.TheVariants as ty
use Rattle.hare_types.specs.Store.{Store}
use Rattle.hare_typed.specs.Typed.{TypedNode, TypedNodes, Mark, marked, typed_none, typed_more, typed_nodes, listed_nodes}
use Rattle.hare_typed.specs.Numbers.{kind_of}
use Rattle.hare_typed.specs.Order.{missing, tree_from_front, kid_from_front}
use Rattle.hare_rules.specs.Context.{own_type}
use Rattle.hare_rules.specs.Control.{Pattern, Default, member_pattern, pattern_by, pattern_kid, pattern_of}
use Rattle.hare_rules.specs.Words.{id_in}
use Rattle.rule_judge.specs.Defined.{IsDefinedTy, IsDefinedTree, AreDefinedTrees}
use Rattle.rule_match.specs.Patterns.{IsDefinedPattern}

-- ---- kids of trees

listed-typed : (ts : List TypedNode) → listed_nodes (typed_nodes ts) ≡ ts
listed-typed [] = refl
listed-typed (t ∷ ts) = ap (λ us. t ∷ us) (listed-typed ts)

pub kid-front : (n : ℕ) (h : Head) (m : Mark) (ts : List TypedNode) (t : TypedNode) → marked h m (typed_nodes ts) ≡ t
    → tree_from_front n ts ≡ kid_from_front n t
kid-front n h m ts t v = ap (tree_from_front n) (sym (listed-typed ts)) ∙ ap (kid_from_front n) v

-- ---- what a tree stands for at the front of a case

pub read_let : (h : Head) (m : Mark) (ts : List TypedNode) (t : TypedNode) → marked h m (typed_nodes ts) ≡ t → h.kind ≡ ki.PatternLet
    → (a : Ty) (p : Pattern)
    → a ≡ own_type (tree_from_front 0 ts) → p ≡ member_pattern (id_in a) → p ≡ pattern_by (kind_of t) t
read_let h m ts t v e a p own k =
    k ∙ ap (λ b. member_pattern (id_in b)) (own ∙ ap own_type (kid-front 0 h m ts t v))
    ∙ sym (ap (λ n. pattern_by n t) (sym (ap kind_of v) ∙ e))

by_type : (k : Kind) (x : TypedNode) → (k ≡ ki.None → ⊥) → (k ≡ ki.PatternNull → ⊥) → (k ≡ ki.PatternLet → ⊥)
    → member_pattern (id_in (own_type x)) ≡ pattern_by k x
by_type ki.None x a b c = absurd (a refl)
by_type ki.PatternNull x a b c = absurd (b refl)
by_type ki.PatternLet x a b c = absurd (c refl)
by_type _ x a b c = refl

pub read_other : (h : Head) (m : Mark) (ts : List TypedNode) (t : TypedNode) → marked h m (typed_nodes ts) ≡ t → (p : Pattern)
    → p ≡ member_pattern (id_in m.ty)
    → (h.kind ≡ ki.None → ⊥) → (h.kind ≡ ki.PatternNull → ⊥) → (h.kind ≡ ki.PatternLet → ⊥) → p ≡ pattern_by (kind_of t) t
read_other h m ts t v p e a b c = e ∙ by_type h.kind (marked h m (typed_nodes ts)) a b c ∙ ap (λ x. pattern_by (kind_of x) x) v

-- ---- what a case is for

-- one that has the tree as its pattern
pub pattern_front : (h : Head) (m : Mark) (ts : List TypedNode) (case tree : TypedNode) → marked h m (typed_nodes ts) ≡ case
    → tree ≡ tree_from_front 0 ts
    → pattern_by (kind_of tree) tree ≡ pattern_of case
pattern_front h m ts case tree v e = ap (λ x. pattern_by (kind_of x) x) (e ∙ kid-front 0 h m ts case v)

-- one without a tree
pub pattern_absent : (h : Head) (m : Mark) (ts : List TypedNode) (case : TypedNode) → marked h m (typed_nodes ts) ≡ case
    → missing ≡ tree_from_front 0 ts
    → Default ≡ pattern_of case
pattern_absent h m ts case v e = pattern_front h m ts case missing v e

-- ---- what patterns name is defined

front_defined : (s : Store) (n : ℕ) (ts : TypedNodes) → AreDefinedTrees s ts → IsDefinedTree s (tree_from_front n (listed_nodes ts))
front_defined s n typed_none d = (tt, tt, tt)
front_defined s zero (typed_more t ts) d = d.0
front_defined s (suc n) (typed_more t ts) d = front_defined s n ts d.1

tree_defined : (s : Store) (xs : List TypedNode) (i : ℕ) → AreDefinedTrees s (typed_nodes xs) → IsDefinedTree s (tree_from_front i xs)
tree_defined s [] i d = (tt, tt, tt)
tree_defined s (x ∷ xs) zero d = d.0
tree_defined s (x ∷ xs) (suc i) d = tree_defined s xs i d.1

kid_defined : (s : Store) (x : TypedNode) → IsDefinedTree s x → IsDefinedTree s (kid_from_front 0 x)
kid_defined s (marked h m ts) d = front_defined s 0 ts d.2

own_defined : (s : Store) (x : TypedNode) → IsDefinedTree s x → IsDefinedTy s (own_type x)
own_defined s (marked h m ts) d = d.0

member_defined : (s : Store) (a : Ty) → IsDefinedTy s a → IsDefinedPattern s (member_pattern (id_in a))
member_defined s (ty.Of t) d = d
member_defined s (ty.Iconst v) d = tt
member_defined s ty.Null d = tt
member_defined s ty.Empty d = tt

pattern_defined : (s : Store) (k : Kind) (x : TypedNode) → IsDefinedTree s x → IsDefinedPattern s (pattern_by k x)
pattern_defined s ki.None x d = tt
pattern_defined s ki.PatternNull x d = tt
pattern_defined s ki.PatternLet x d = member_defined s (own_type (kid_from_front 0 x))
    (own_defined s (kid_from_front 0 x) (kid_defined s x d))
pattern_defined s _ x d = member_defined s (own_type x) (own_defined s x d)

pub case_defined : (s : Store) (xs : List TypedNode) (i : ℕ) → AreDefinedTrees s (typed_nodes xs)
    → IsDefinedPattern s (pattern_of (tree_from_front i xs))
case_defined s xs i d =
    let case = tree_from_front i xs in
    pattern_defined s (kind_of (pattern_kid case)) (pattern_kid case) (kid_defined s case (tree_defined s xs i d))
