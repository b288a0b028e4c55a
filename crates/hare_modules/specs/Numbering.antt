-- Numbers of modules.
use Rattle.std.specs.Prelude.{◌≡◌, ◌⊎◌, ℕ, List, [], ◌∷◌, slice_get, Some, Contains}
use Rattle.hare_modules.specs.Modules.{Module, runtime}

-- the modules of files have these numbers
abbrev pub AreHomes : List Module → List Module → List ℕ → Type 0
AreHomes known [] [] = Unit {0}
AreHomes known [] (h ∷ hs) = ⊥
AreHomes known (m ∷ ms) [] = ⊥
AreHomes known (m ∷ ms) (h ∷ hs) = (slice_get known h ≡ Some m) × AreHomes known ms hs

-- Each known module has one number, `rt` the first, and no others are known than those of these files.
pub record IsNumbering (ms known : List Module) (homes : List ℕ) : Type 0 where
  pub first : slice_get known 0 ≡ Some runtime
  pub once : (i j : ℕ) (m : Module) → slice_get known i ≡ Some m → slice_get known j ≡ Some m → i ≡ j
  pub only : (i : ℕ) (m : Module) → slice_get known i ≡ Some m → (m ≡ runtime) ⊎ Contains ms m
  pub homes_are : AreHomes known ms homes
