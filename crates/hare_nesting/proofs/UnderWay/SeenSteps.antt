-- The gauge does what the grammar's machine does, on the marks of its trees.
use Rattle.std.proofs.Common.{◌≡◌, List, ◌∷◌, [], ◌++◌, Bool, true, false, refl, ap, sym, ◌∙◌}
use Rattle.hare_automaton.specs.declared.rule.Symbol.TheVariants as sy
use Rattle.hare_automaton.specs.Rows.{Row, Fault, Skips, Uses, has_sign}
use Rattle.hare_automaton.specs.Table.{row}
use Rattle.hare_automaton.specs.Engine.{Group, Goes, wanted, acted, step}
use Rattle.hare_automaton.specs.Engine as engine
use Rattle.hare_nesting.specs.Gauge as gauges
use Rattle.hare_nesting.proofs.UnderWay.Stacks.{frames}
use Rattle.hare_nesting.proofs.UnderWay.Seen.{frames_close, frames_all_changed}
use Rattle.hare_nesting.proofs.Telling.Claims.{seen_step, StepsAreSeen}

pub steps_are_seen : StepsAreSeen
unfolding step gauges.step
steps_are_seen f t c [] gs = refl
steps_are_seen f t c (sy.Close k ∷ st) gs = ap (gauges.step t.place.line c st) (sym (frames_close k gs)) ∙ steps_are_seen f t c st
    (engine.close k gs)
steps_are_seen f t c (sy.Want s ∷ st) gs = by (has_sign s c)
  where
    by : (b : Bool) → gauges.wanted b (gauges.Goes st (frames gs)) ≡ seen_step (wanted b (Goes st gs))
    by true = refl
    by false = refl
steps_are_seen f t c (sy.Part n ∷ st) gs = by (row n c) (λ hs. steps_are_seen f t c st hs)
  where
    by : (r : Row) → ((hs : List Group) → gauges.step t.place.line c st (frames hs) ≡ seen_step (step f t c st hs)) →
        gauges.acted r t.place.line st (frames gs) (λ fs. gauges.step t.place.line c st fs) ≡
        seen_step (acted r f t st gs (λ hs. step f t c st hs))
    by Fault k = refl
    by (Skips cs) k = ap (gauges.step t.place.line c st) (sym (frames_all_changed f t cs gs)) ∙ k (engine.all_changed f t cs gs)
    by (Uses cs ss) k = ap (gauges.Goes (ss ++ st)) (sym (frames_all_changed f t cs gs))
