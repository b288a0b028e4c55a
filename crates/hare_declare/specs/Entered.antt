-- Types that are entered into a store. No public clause cites it.
use Rattle.std.specs.Prelude.{◌≡◌, ◌⊎◌, ℕ, ◌<◌, List, Bool, true, false, is_none, slice_get, Option, Some}
use Rattle.hare_types.specs.Store.{Store, sized_of, definition_of, with_declared}
use Rattle.hare_graph.specs.Graphs.{label_of}
use Rattle.hare_declare.specs.declared.outline.Outline.{Outline}

-- declaration number n is one of these, and a type
abbrev pub IsTypeAt : List Outline → ℕ → Type 0
IsTypeAt os n = (o : Outline) × (slice_get os n ≡ Some o) × (o.is_type ≡ true)

-- The types among the first so many are declared, with a size where they have no label; and nothing else is.
pub record AreEntered (s : Store) (os : List Outline) (lacking : List (Option ℕ)) (below : ℕ) : Type 0 where
  pub sized : (n : ℕ) → n < below → IsTypeAt os n → sized_of s n ≡ Some (is_none (label_of lacking n))
  pub only : (n : ℕ) (b : Bool) → sized_of s n ≡ Some b → (n < below) × IsTypeAt os n
  pub undefined : (n t : ℕ) → definition_of s n ≡ Some t → ⊥

-- what a store says of declarations it goes on to say, but for one with this number
pub record KeepsBeside (d : ℕ) (old new : Store) : Type 0 where
  pub sized : (n : ℕ) (b : Bool) → sized_of old n ≡ Some b → sized_of new n ≡ Some b
  pub only : (n : ℕ) (b : Bool) → sized_of new n ≡ Some b → (n ≡ d) ⊎ (sized_of old n ≡ Some b)
  pub undefined : (n t : ℕ) → definition_of new n ≡ Some t → (n ≡ d) ⊎ (definition_of old n ≡ Some t)

-- one declaration is entered, where it is a type
abbrev pub Enters : ℕ → (is_type is_sized : Bool) → Store → Store → Type 0
Enters d true is_sized old new = new ≡ with_declared old d is_sized
Enters d false is_sized old new = new ≡ old
