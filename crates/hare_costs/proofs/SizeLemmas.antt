-- What the first kids of a node are and give.
use Rattle.std.proofs.Common.{◌≡◌, ◌≤◌, List, [], ◌∷◌, length, Some, ap, sym, ◌∙◌, arith}
use Rattle.std.specs.Prelude.{slice_get}
use Rattle.hare_tree.specs.declared.kind.Kind.{Kind}
use Rattle.hare_tree.specs.Node.{Head}
use Rattle.hare_types.specs.declared.coercion.Ty.TheVariants as ty
use Rattle.hare_typed.specs.Typed.{TypedNode, Mark, marked, typed_nodes}
use Rattle.hare_typed.specs.Given.{given, second_given}
use Rattle.hare_typed.specs.Frame.{first_of, by_reference}
use Rattle.hare_typed.specs.Numbers.{kind_of}

pub second_given-get : (ts : List TypedNode) (x t : TypedNode) → slice_get ts 1 ≡ Some t → x ≡ t → given x ≡ second_given (typed_nodes ts)
second_given-get [] x t e h = cc
second_given-get (u ∷ []) x t e h = cc
second_given-get (u ∷ v ∷ vs) x t e h = let k : v ≡ t = cc in ap given (h ∙ sym k)

pub second_given-past : (ts : List TypedNode) → length ts ≤ 1 → ty.Empty ≡ second_given (typed_nodes ts)
second_given-past [] h = cc
second_given-past (u ∷ []) h = cc
second_given-past (u ∷ v ∷ vs) h = absurd (omega arith)

pub first_kind-get : (ts : List TypedNode) (x t : TypedNode) → slice_get ts 0 ≡ Some t → x ≡ t
    → kind_of x ≡ kind_of (first_of (typed_nodes ts))
first_kind-get [] x t e h = cc
first_kind-get (u ∷ us) x t e h = let k : u ≡ t = cc in ap kind_of (h ∙ sym k)

pub by_reference-get : (ts us : List TypedNode) (h : Head) (m : Mark) (t : TypedNode) (k : Kind) → slice_get ts 0 ≡ Some t
    → marked h m (typed_nodes us) ≡ t
    → k ≡ kind_of (first_of (typed_nodes us)) → k ≡ by_reference (first_of (typed_nodes ts))
by_reference-get [] us h m t k e v w = cc
by_reference-get (x ∷ xs) us h m t k e v w =
    let same : x ≡ t = cc in
    w ∙ ap by_reference v ∙ ap by_reference (sym same)
