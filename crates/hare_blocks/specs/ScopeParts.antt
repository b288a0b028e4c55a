-- How a scope keeps its declarations: a list, and a map from each name to the number of its newest one.
use Rattle.std.specs.Prelude.{◌≡◌, ℕ, List, [], ◌∷◌, Option, Some, None, nat_eq, reverse, map}
use Rattle.std.specs.Map.{lookup}
use lib.Pointwise.{pointwise}
use Rattle.hare_blocks.specs.declared.scope.Binding.{Binding}
use Rattle.hare_blocks.specs.Scopes.{number_of}

abbrev pub joined : Option (Option ℕ) → Option ℕ
joined None = None
joined (Some o) = o

-- what a map tells of a name; its keys are seen by their bytes
abbrev pub told : {K : Type 0} → (K → List ℕ) → List ℕ → List (K × Option ℕ) → Option ℕ
told bytes x es = joined (lookup (λ k. pointwise nat_eq x (bytes k)) es)

abbrev pub named : Binding → List ℕ × ℕ
named b = (b.name.items, b.number)

-- the declarations, newest first
abbrev pub bindings_of : List Binding → List (List ℕ × ℕ)
bindings_of bs = map named (reverse bs)

-- each declaration, newest first, knows the number that its name has before
abbrev pub HideRightly : List Binding → Type 0
HideRightly [] = Unit {0}
HideRightly (b ∷ bs) = (b.hidden ≡ number_of b.name.items (map named bs)) × HideRightly bs

-- a list of declarations, oldest first, and the entries of the map
pub record IsScope {K : Type 0} (bytes : K → List ℕ) (entries : List (K × Option ℕ)) (bs : List Binding) : Type 0 where
  pub tells : (x : List ℕ) → told bytes x entries ≡ number_of x (bindings_of bs)
  pub hides : HideRightly (reverse bs)
