-- What comes of a token does not depend on heights above 256, nor does what is told.
use Rattle.std.proofs.Common.{◌≡◌, ℕ, List, [], ◌∷◌, ◌++◌, Bool, true, false, refl, ap}
use Rattle.hare_automaton.specs.declared.class.Class.{Class}
use Rattle.hare_automaton.specs.declared.rule.Symbol.{Symbol}
use Rattle.hare_automaton.specs.declared.rule.Symbol.TheVariants as sy
use Rattle.hare_automaton.specs.Rows.{Row, Fault, Skips, Uses, has_sign}
use Rattle.hare_automaton.specs.Table.{row}
use Rattle.hare_nesting.specs.Marks.{Frame, close, all_changed}
use Rattle.hare_nesting.specs.Gauge.{Step, Goes, Ends, wanted, acted, step}
use Rattle.hare_recogniser.specs.Capped.{capped, capped_step}
use Rattle.hare_recogniser.proofs.Marks.Capping.{close_alike, all_changed_alike}

wanted_alike : (b : Bool) (st : List Symbol) (fs gs : List Frame) → capped fs ≡ capped gs →
    capped_step (wanted b (Goes st fs)) ≡ capped_step (wanted b (Goes st gs))
wanted_alike true st fs gs e = ap (λ hs. Goes st hs) e
wanted_alike false st fs gs e = refl

acted_alike : (r : Row) (n : ℕ) (st : List Symbol) (fs gs : List Frame) (k : List Frame → Step) →
    ((xs ys : List Frame) → capped xs ≡ capped ys → capped_step (k xs) ≡ capped_step (k ys)) →
    capped fs ≡ capped gs → capped_step (acted r n st fs k) ≡ capped_step (acted r n st gs k)
acted_alike Fault n st fs gs k h e = refl
acted_alike (Skips cs) n st fs gs k h e = h (all_changed n cs fs) (all_changed n cs gs) (all_changed_alike n cs fs gs e)
acted_alike (Uses cs ss) n st fs gs k h e = ap (λ hs. Goes (ss ++ st) hs) (all_changed_alike n cs fs gs e)

pub step_alike : (n : ℕ) (c : Class) (st : List Symbol) (fs gs : List Frame) → capped fs ≡ capped gs →
    capped_step (step n c st fs) ≡ capped_step (step n c st gs)
unfolding step
step_alike n c [] fs gs e = ap (λ hs. Ends hs) e
step_alike n c (sy.Close k ∷ st) fs gs e = step_alike n c st (close k fs) (close k gs) (close_alike k fs gs e)
step_alike n c (sy.Want s ∷ st) fs gs e = wanted_alike (has_sign s c) st fs gs e
step_alike n c (sy.Part r ∷ st) fs gs e = acted_alike (row r c) n st fs gs (λ hs. step n c st hs) (λ xs ys h. step_alike n c st xs ys h) e
