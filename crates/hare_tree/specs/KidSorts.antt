-- Of which sort each kid of a form is.
use Rattle.std.specs.Prelude.{◌≡◌, ◌⊎◌, ℕ, ◌-◌, List, [], ◌∷◌, ◌++◌, true, Option, Some, None, replicate, slice_index_or}
use Rattle.hare_tree.specs.declared.kind.Kind.{Kind}
use Rattle.hare_tree.specs.declared.form.Sort.{Sort}
use Rattle.hare_tree.specs.declared.form.Sort.TheVariants as so
use Rattle.hare_tree.specs.declared.form.Piece.{Piece}
use Rattle.hare_tree.specs.declared.form.Piece.TheVariants as pi
use Rattle.hare_tree.specs.Node.{Node}
use Rattle.hare_tree.specs.Forms.{form_of}
use Rattle.hare_tree.specs.Levels.{sort_in}
use Rattle.hare_tree.specs.Shape.{is_shaped, is_absent, is_leaf, is_none_or_comma}

-- the sorts of `n` kids that these pieces stand for, in their order; the kid in which a trailing comma may stand has none
abbrev pub kid_sorts : List Piece → ℕ → List (Option Sort)
kid_sorts [] n = []
kid_sorts (pi.Fixed s ∷ ps) n = kid_sorts ps n
kid_sorts (pi.Own o ∷ ps) n = kid_sorts ps n
kid_sorts (pi.Kid s ∷ ps) n = Some s ∷ kid_sorts ps (n - 1)
kid_sorts (pi.Optional s ∷ ps) n = Some s ∷ kid_sorts ps (n - 1)
kid_sorts (pi.Led a s ∷ ps) n = Some s ∷ kid_sorts ps (n - 1)
kid_sorts (pi.Followed s a ∷ ps) n = Some s ∷ kid_sorts ps (n - 1)
kid_sorts (pi.Value s ∷ ps) n = Some s ∷ kid_sorts ps (n - 1)
kid_sorts (pi.Each s ∷ ps) n = replicate n (Some s)
kid_sorts (pi.EachLed a s ∷ ps) n = replicate n (Some s)
kid_sorts (pi.EachFollowed s a ∷ ps) n = replicate n (Some s)
kid_sorts (pi.More s ∷ ps) n = replicate (n - 1) (Some s) ++ None ∷ []
kid_sorts (pi.List s ∷ ps) n = replicate (n - 1) (Some s) ++ None ∷ []
kid_sorts (pi.Elements s ∷ ps) n = replicate (n - 2) (Some s) ++ Some so.Dots ∷ None ∷ []
kid_sorts (pi.MoreElements s ∷ ps) n = replicate (n - 2) (Some s) ++ Some so.Dots ∷ None ∷ []

-- the sort of the kid with this number, from 0, of a tree of this kind that has `n` kids
abbrev pub kid_sort : Kind → ℕ → ℕ → Option Sort
kid_sort k n i = slice_index_or (kid_sorts (form_of k) n) i None

-- the kid of a node with this level is absent or shaped of the sort; where it has none, it is absent or a trailing comma
abbrev pub IsKid : ℕ → Option Sort → Node → Type 0
IsKid level (Some s) t = (is_absent t ≡ true) ⊎ (is_shaped (sort_in level s) t ≡ true)
IsKid level None t = is_leaf is_none_or_comma t ≡ true
