-- Heights of lists of statements.
use Rattle.std.proofs.Common.{◌≡◌, suc, ◌+◌, ◌<◌, List, [], ◌∷◌, ◌++◌, map, Option, Some, None, IfSome, ap, ◌∙◌, arith}
use Rattle.std.specs.Prelude.{option_to_list}
use Rattle.std.proofs.lemmas.List.{map-append}
use Rattle.flat_code.specs.declared.flat.Flat.{Flat}
use Rattle.flat_code.specs.Code.{Code, codes_of, height, heights}
use Rattle.flat_code.specs.Shape.{code_of}

-- a statement at the end of a list
heights_end : (cs : List Code) (c : Code) → heights (codes_of (cs ++ c ∷ [])) ≡ heights (codes_of cs) + suc (suc (height c))
heights_end [] c = omega arith
heights_end (x ∷ cs) c = omega (arith, heights_end cs c)

-- a list is higher than what its last statement leaves, by that statement
pub popped : (old new : List Flat) (last : Option Flat) → old ≡ new ++ option_to_list last →
    IfSome last (λ f. height (code_of f) + heights (codes_of (map code_of new)) < heights (codes_of (map code_of old)))
popped old new None e = tt
popped old new (Some f) e =
    let parts : map code_of old ≡ map code_of new ++ code_of f ∷ [] = ap (map code_of) e ∙ map-append code_of new (f ∷ []) in
    rw parts (omega (arith, heights_end (map code_of new) (code_of f)))
