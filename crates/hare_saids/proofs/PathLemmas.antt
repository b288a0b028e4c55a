-- What the paths in trees mean, kid by kid.
use Rattle.std.proofs.Common.{◌≡◌, ℕ, ◌+◌, Bool, List, ◌++◌, drop, Some, ap, sym, ◌∙◌, append_assoc}
use Rattle.std.specs.Prelude.{slice_get}
use Rattle.std.proofs.lemmas.Grind.{flat_map-append}
use Rattle.hare_tree.specs.declared.place.Place.{Place}
use Rattle.hare_tree.specs.declared.token.Meaning.{Meaning}
use Rattle.hare_tree.specs.Node.{Node, nodes_of}
use Rattle.hare_modules.proofs.ListLemmas.{drop-there}
use Rattle.hare_depends.specs.Said.{paths_in, paths_among, held_in, held_among, number_in, numbers_at}

module _ (count : ℕ) (means : Place → Meaning) where
  numbers-append : (ps qs : List Place) → numbers_at count means (ps ++ qs) ≡ numbers_at count means ps ++ numbers_at count means qs
  numbers-append ps qs = flat_map-append (λ p. number_in count (means p)) ps qs

  -- one kid more has been gone over
  step : (now new all : List ℕ) (ps qs : List Place) → now ++ numbers_at count means (ps ++ qs) ≡ all
      → new ≡ now ++ numbers_at count means ps → new ++ numbers_at count means qs ≡ all
  step now new all ps qs w e =
      ap (λ x. x ++ numbers_at count means qs) e ∙ append_assoc now (numbers_at count means ps) (numbers_at count means qs)
      ∙ ap (λ x. now ++ x) (sym (numbers-append ps qs)) ∙ w

  pub named-more : (now new all : List ℕ) (ks : List Node) (i : ℕ) (t : Node) → slice_get ks i ≡ Some t
      → new ≡ now ++ numbers_at count means (paths_in t)
      → now ++ numbers_at count means (paths_among (nodes_of (drop i ks))) ≡ all
      → new ++ numbers_at count means (paths_among (nodes_of (drop (i + 1) ks))) ≡ all
  named-more now new all ks i t g e w =
      step now new all (paths_in t) (paths_among (nodes_of (drop (i + 1) ks)))
      (ap (λ us. now ++ numbers_at count means (paths_among (nodes_of us))) (sym (drop-there ks i t g)) ∙ w) e

  pub held-more : (b : Bool) (now new all : List ℕ) (ks : List Node) (i : ℕ) (t : Node) → slice_get ks i ≡ Some t
      → new ≡ now ++ numbers_at count means (held_in b t)
      → now ++ numbers_at count means (held_among b (nodes_of (drop i ks))) ≡ all
      → new ++ numbers_at count means (held_among b (nodes_of (drop (i + 1) ks))) ≡ all
  held-more b now new all ks i t g e w =
      step now new all (held_in b t) (held_among b (nodes_of (drop (i + 1) ks)))
      (ap (λ us. now ++ numbers_at count means (held_among b (nodes_of us))) (sym (drop-there ks i t g)) ∙ w) e
