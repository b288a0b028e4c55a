-- The type of a finished type declaration is the one that was judged.
use Rattle.std.proofs.Common.{◌≡◌, ℕ, true, List, [], ◌∷◌, refl, ap, sym, ◌∙◌, subst}
use Rattle.hare_tree.specs.declared.kind.Kind.{Kind}
use Rattle.hare_tree.specs.declared.kind.Kind.TheVariants as ki
use Rattle.hare_tree.specs.Node.{Node, head}
use Rattle.hare_typed.specs.Typed.{TypedNode, TypedNodes, marked, typed_none, typed_more}
use Rattle.hare_typed.specs.Erased.{erase, erase_each}
use Rattle.hare_typed.specs.Order.{tree_from_front}
use Rattle.hare_typed.specs.Numbers.{kind_of}
use Rattle.hare_rules.specs.Context.{Setting, Ordinary}
use Rattle.hare_rules.specs.Above.{Above}
use Rattle.hare_rules.specs.Flow.{Flow}
use Rattle.hare_rules.specs.Finished.{bare, behind, AllCarry}
use Rattle.hare_inference.specs.Inferred.{Found, found, infer}
use Rattle.hare_inference.specs.Laws.{InferenceIsExact}
use Rattle.hare_modules.specs.Uses.{kid}
use Rattle.hare_modules.specs.Declarations.{is_type_decl}
use Rattle.hare_depends.specs.declared.said.Sort.TheVariants as so
use Rattle.hare_depends.specs.Sorts.{sort_of, sort_by}
use Rattle.hare_whole.specs.Listing.{written_by, written_types}
use Rattle.hare_whole.specs.Parts.{type_part, written_id}
use Rattle.hare_whole.specs.Declared.{over_type, before_type, unnumbered, unnumbered_each, IsWellTypeDecl, IsWellBy, IsWellDecl}
use Rattle.hare_whole.specs.Turns.{AreTyped}

-- ---- trees without numbers

mutual
  erase-unnumbered : (t : TypedNode) → erase (unnumbered t) ≡ erase t
  erase-unnumbered (marked h m ts) = let e = erase_each-unnumbered ts in cc

  erase_each-unnumbered : (ts : TypedNodes) → erase_each (unnumbered_each ts) ≡ erase_each ts
  erase_each-unnumbered typed_none = refl
  erase_each-unnumbered (typed_more t ts) =
      let e = erase-unnumbered t in
      let i = erase_each-unnumbered ts in
      cc

written_id-unnumbered : (t : TypedNode) → written_id (unnumbered t) ≡ written_id t
written_id-unnumbered (marked h m ts) = refl

-- ---- one type

-- of bare trees that carry what they should one has this untyped tree
one_bare : InferenceIsExact → (w : Setting) (a : Above) (f : Flow) (x y : TypedNode) → erase x ≡ erase y → bare x ≡ x → bare y ≡ y →
    AllCarry w a x f → AllCarry w a y f → x ≡ y
one_bare exact w a f x y e i j h k =
    let there = (exact w a f).found_by x h in
    let other = (exact w a f).found_by y k in
    let same = ap (λ t. infer w a t f) e in
    let both : found (bare x) (behind w a x f) ≡ found (bare y) (behind w a y f) = cc in
    sym i ∙ ap (λ (z : Found). z.tree) both ∙ j

-- the type of the declaration is the one that was judged, but for its numbers
one_type : InferenceIsExact → (w : Setting) (n : ℕ) (t : Node) (d : TypedNode) (ts : List TypedNode) → erase d ≡ t →
    AreTyped w n ((Ordinary, kid t 2) ∷ []) ts → IsWellTypeDecl w n d → written_id (type_part d) ≡ written_id (tree_from_front 0 ts)
one_type exact w n t d [] e h k = absurd h
one_type exact w n t d (x ∷ y ∷ ys) e h k = absurd h.1
one_type exact w n t d (x ∷ []) e h k =
    let own : kid t 2 ≡ erase k.type = ap (λ z. kid z 2) (sym e) ∙ ap (λ z. kid (erase z) 2) k.shape in
    let erased : erase k.well_type.tree ≡ erase x =
    sym (erase-unnumbered k.well_type.tree) ∙ sym (ap erase k.well_type.is) ∙ sym own ∙ sym h.0.erases in
    let one = one_bare exact w (over_type w n Ordinary) before_type k.well_type.tree x erased k.well_type.plain h.0.plain
    k.well_type.carries h.0.carries in
    ap (λ z. written_id (type_part z)) k.shape
    ∙ ap written_id k.well_type.is
    ∙ written_id-unnumbered k.well_type.tree
    ∙ ap written_id one

-- ---- by kinds

kind-erased : (d : TypedNode) → kind_of d ≡ (head (erase d)).kind
kind-erased (marked h m ts) = refl

-- a declaration of a type is one by its tree, and it is well typed as one
pub record IsTypeDecl (w : Setting) (n : ℕ) (t : Node) (d : TypedNode) : Type 0 where
  pub sort : sort_of t ≡ so.Type
  pub well : IsWellTypeDecl w n d

type_decl-by : (w : Setting) (n : ℕ) (t : Node) (d : TypedNode) (k : Kind) → (head t).kind ≡ k → is_type_decl k ≡ true → IsWellBy w n k d →
    IsTypeDecl w n t d
type_decl-by w n t d ki.TypeDecl e i h = record { sort = ap (λ k. sort_by k t) e; well = h }
type_decl-by w n t d _ e i h = absurd cc

type_decl : (w : Setting) (n : ℕ) (t : Node) (d : TypedNode) → erase d ≡ t → is_type_decl (kind_of d) ≡ true → IsWellDecl w n d →
    IsTypeDecl w n t d
type_decl w n t d e i h = type_decl-by w n t d (kind_of d) (ap (λ z. (head z).kind) (sym e) ∙ sym (kind-erased d)) i h

pub record HasOneType (t : Node) (d : TypedNode) (ts : List TypedNode) : Type 0 where
  pub sort : sort_of t ≡ so.Type
  pub id : written_id (type_part d) ≡ written_id (tree_from_front 0 ts)

pub has_one_type : InferenceIsExact → (w : Setting) (n : ℕ) (t : Node) (d : TypedNode) (ts : List TypedNode) → erase d ≡ t →
    AreTyped w n (written_types t) ts → is_type_decl (kind_of d) ≡ true → IsWellDecl w n d → HasOneType t d ts
has_one_type exact w n t d ts e h i k =
    let own = type_decl w n t d e i k in
    record {
      sort = own.sort;
      id = one_type exact w n t d ts e (subst (λ x. AreTyped w n (written_by x t) ts) own.sort h) own.well;
    }
