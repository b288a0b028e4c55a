-- The first function that has a name is the one that the name calls.
use Rattle.std.proofs.Common.{◌≡◌, ℕ, List, [], ◌∷◌, Option, Some, refl, ap, ◌∙◌}
use Rattle.std.specs.Prelude.{bytes_eq, find, if◌then◌else◌}
use Rattle.flat_code.specs.declared.program.FlatFn.{FlatFn}
use Rattle.flat_code.specs.Evaluation.{function_named}

first_called : (fs : List FlatFn) (name : List ℕ) → find (λ (f : FlatFn). bytes_eq f.name name) fs ≡ function_named fs name
first_called [] name = refl
first_called (f ∷ fs) name = ap (λ (o : Option FlatFn). if bytes_eq f.name name then Some f else o) (first_called fs name)

pub called : (fs : List FlatFn) (name : List ℕ) (o : Option FlatFn) → o ≡ find (λ (f : FlatFn). bytes_eq f.name name) fs →
    o ≡ function_named fs name
called fs name o e = e ∙ first_called fs name
