-- What a judge may rely on of a node, by what a walk keeps.
use Rattle.std.proofs.Common.{◌≡◌, ℕ, zero, suc, Bool, true, false, ◌&&◌, List, [], ◌∷◌, Some, refl, inl, inr}
use Rattle.std.specs.Prelude.{slice_get}
use Rattle.hare_tree.specs.declared.form.Own.TheVariants as ow
use Rattle.hare_tree.specs.declared.form.Sort.{Sort}
use Rattle.hare_tree.specs.declared.kind.Kind.{Kind}
use Rattle.hare_tree.specs.declared.kind.Kind.TheVariants as ki
use Rattle.hare_tree.specs.Levels.{is_type}
use Rattle.hare_tree.specs.Node.{Node, branch, none, more, head}
use Rattle.hare_tree.specs.Shape.{is_shaped, is_leaf, is_none_or_comma, is_own}
use Rattle.hare_types.specs.Store.{Store}
use Rattle.hare_rules.specs.declared.declared.Local.{Local}
use Rattle.hare_rules.specs.Context.{Entry}
use Rattle.hare_find.specs.Defined.{AreDefinedLocals}
use Rattle.hare_judge.specs.Kinds.{is_judged_kind}
use Rattle.hare_told.specs.Told.{AreToldEntries}
use Rattle.hare_walk.specs.Walks.{IsPart}
use Rattle.rule_judge.specs.Meant.{IsKnownLocal}

-- ---- shapes

and-left : (a b : Bool) → (a && b) ≡ true → a ≡ true
and-left true b e = refl
and-left false b e = cc

leaf-kind : (p : Kind → Bool) (n : Node) → is_leaf p n ≡ true → p (head n).kind ≡ true
leaf-kind p (branch h none) e = and-left (p h.kind) (is_own ow.Nothing h) e
leaf-kind p (branch h (more t ts)) e = cc

-- what is neither left out nor a comma is shaped
pub part-shaped : (n : Node) → IsPart n → is_none_or_comma (head n).kind ≡ false → (s : Sort) × (is_shaped s n ≡ true)
part-shaped n (inl q) e = q
part-shaped n (inr q) e = let d = leaf-kind is_none_or_comma n q in cc

judged-leaf : (k : Kind) → is_judged_kind k ≡ true → is_none_or_comma k ≡ false
judged-leaf ki.None e = cc
judged-leaf ki.TrailingComma e = cc
judged-leaf _ e = refl

-- what a judge is asked of is
pub judged-shaped : (n : Node) → IsPart n → is_judged_kind (head n).kind ≡ true → (s : Sort) × (is_shaped s n ≡ true)
judged-shaped n p e = part-shaped n p (judged-leaf (head n).kind e)

type-leaf : (k : Kind) → is_type k ≡ true → is_none_or_comma k ≡ false
type-leaf ki.None e = cc
type-leaf ki.TrailingComma e = cc
type-leaf _ e = refl

-- and so is a written type
pub type-shaped : (n : Node) → IsPart n → is_type (head n).kind ≡ true → (s : Sort) × (is_shaped s n ≡ true)
type-shaped n p e = part-shaped n p (type-leaf (head n).kind e)

-- ---- bindings

-- a binding that has been seen is told, with a type that mentions no name without a definition
pub local-known : (s : Store) (es : List Entry) (ls : List Local) (n : ℕ) (e : Entry) → AreToldEntries es ls → AreDefinedLocals s ls →
    slice_get es n ≡ Some e →
    IsKnownLocal s (slice_get ls n)
local-known s [] ls zero e t d g = cc
local-known s [] ls (suc n) e t d g = cc
local-known s (p ∷ es) [] n e t d g = absurd t
local-known s (p ∷ es) (l ∷ ls) zero e t d g = d.0
local-known s (p ∷ es) (l ∷ ls) (suc n) e t d g = local-known s es ls n e t.1 d.1 g
