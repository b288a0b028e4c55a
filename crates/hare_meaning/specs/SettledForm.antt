-- Which kids a node has by its kind: those that the grammar gives it.
use Rattle.std.specs.Prelude.{Bool, true, false, ◌&&◌, ◌||◌, List, [], ◌∷◌}
use Rattle.hare_tree.specs.declared.kind.Kind.{Kind}
use Rattle.hare_tree.specs.declared.form.Own.{Own}
use Rattle.hare_tree.specs.declared.form.Own.TheVariants as ow
use Rattle.hare_tree.specs.declared.form.Sort.{Sort}
use Rattle.hare_tree.specs.declared.form.Sort.TheVariants as so
use Rattle.hare_tree.specs.declared.form.Piece.{Piece}
use Rattle.hare_tree.specs.declared.form.Piece.TheVariants as pi
use Rattle.hare_tree.specs.Node.{Head}
use Rattle.hare_tree.specs.Forms.{expr, form_of}
use Rattle.hare_tree.specs.Levels.{admits}
use Rattle.hare_tree.specs.Shape.{is_own, is_none_or_comma, is_none_or_dots}
use Rattle.hare_typed.specs.Typed.{TypedNode, TypedNodes, typed_none, typed_more, head_of, kids_of}
use Rattle.hare_typed.specs.Constants.{own_kind}
use Rattle.hare_meaning.specs.Steps.{is_absent}

-- A kind is of a sort. How tightly an expression binds is asked only of trees that are read from tokens: here any may stand where one does.
abbrev pub is_of : Sort → Kind → Bool
is_of (so.Level n) k = admits expr k []
is_of so.Left k = admits expr k []
is_of so.Right k = admits expr k []
is_of s k = admits s k []

-- its text is an operator of its kind, or `true` or `false`; of no other text is anything asked
abbrev pub says_own : Own → Head → Bool
says_own ow.Operator h = is_own ow.Operator h
says_own ow.Bool h = is_own ow.Bool h
says_own _ h = true

-- ---- lists of kids

abbrev pub are_all : Sort → TypedNodes → Bool
are_all s typed_none = true
are_all s (typed_more t ts) = is_of s (own_kind t) && are_all s ts

-- and behind them a comma or none
abbrev pub are_listed : Sort → TypedNodes → Bool
are_listed s typed_none = false
are_listed s (typed_more t typed_none) = is_none_or_comma (own_kind t)
are_listed s (typed_more t (typed_more u us)) = is_of s (own_kind t) && are_listed s (typed_more u us)

-- behind them `...` or none, and a comma or none
abbrev pub are_elements : Sort → TypedNodes → Bool
are_elements s typed_none = false
are_elements s (typed_more t typed_none) = false
are_elements s (typed_more t (typed_more u typed_none)) = is_none_or_dots (own_kind t) && is_none_or_comma (own_kind u)
are_elements s (typed_more t (typed_more u (typed_more v vs))) = is_of s (own_kind t) && are_elements s (typed_more u (typed_more v vs))

-- ---- a form

-- one kid, and others behind it
abbrev pub begins_with : (Kind → Bool) → (TypedNodes → Bool) → TypedNodes → Bool
begins_with fits rest typed_none = false
begins_with fits rest (typed_more t ts) = fits (own_kind t) && rest ts

abbrev pub is_empty : TypedNodes → Bool
is_empty typed_none = true
is_empty (typed_more t ts) = false

-- these are the kids of a node with this head that the pieces of a form ask for
abbrev pub has_kids : Head → List Piece → TypedNodes → Bool
has_kids h [] ts = is_empty ts
has_kids h (pi.Fixed w ∷ ps) ts = has_kids h ps ts
has_kids h (pi.Own o ∷ ps) ts = says_own o h && has_kids h ps ts
has_kids h (pi.Kid s ∷ ps) ts = begins_with (is_of s) (has_kids h ps) ts
has_kids h (pi.Optional s ∷ ps) ts = begins_with (λ k. is_absent k || is_of s k) (has_kids h ps) ts
has_kids h (pi.Led w s ∷ ps) ts = begins_with (λ k. is_absent k || is_of s k) (has_kids h ps) ts
has_kids h (pi.Followed s w ∷ ps) ts = begins_with (λ k. is_absent k || is_of s k) (has_kids h ps) ts
has_kids h (pi.Value s ∷ ps) ts = begins_with (λ k. is_absent k || is_of s k) (has_kids h ps) ts
has_kids h (pi.Each s ∷ ps) ts = are_all s ts
has_kids h (pi.EachLed w s ∷ ps) ts = are_all s ts
has_kids h (pi.EachFollowed s w ∷ ps) ts = are_all s ts
has_kids h (pi.More s ∷ ps) ts = are_listed s ts
has_kids h (pi.List s ∷ ps) ts = are_listed s ts
has_kids h (pi.Elements s ∷ ps) ts = are_elements s ts
has_kids h (pi.MoreElements s ∷ ps) ts = are_elements s ts

-- the node has the kids of its form: what is not left out is there, and an expression stands where one is evaluated
abbrev pub has_form : TypedNode → Bool
has_form t = has_kids (head_of t) (form_of (own_kind t)) (kids_of t)
