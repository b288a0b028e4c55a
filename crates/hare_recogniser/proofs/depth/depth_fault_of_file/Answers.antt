use Rattle.std.proofs.Common.{[], ◌∷◌, subst}
use Rattle.hare_tree.specs.Grammar.{files}
use Rattle.hare_nesting.specs.Depth.{gauged_file}
use Rattle.hare_nesting.proofs.LeastFault.Gauges.{file_gauges_tell}
use Rattle.hare_tree.specs.declared.form.Sort.TheVariants as so
use Rattle.hare_automaton.specs.declared.rule.Rule.TheVariants as ru
use Rattle.hare_automaton.specs.Rows.{part}
use Rattle.hare_ll_table.specs.declared.row.Wait.TheVariants as wa
use Rattle.hare_ll_table.specs.Seen.{waited}
use Rattle.hare_recogniser.specs.Gauged.{IsLeastOf, gauged_from}
use Rattle.hare_recogniser.proofs.GaugedRun.Depths.{first_told, files_fit}
use Rattle.hare_recogniser.proofs.depth.depth_fault_of_file.Goals as goal

pub returns-clause-value : goal.returns-clause-value
returns-clause-value c =
    first_told files c.args.tokens.now (gauged_file c.args.tokens.now) (file_gauges_tell c.args.tokens.now) 0 c.in_ok-gauged.gauged.fault
    (subst (λ w. IsLeastOf (gauged_from c.args.tokens.now 0 (waited (w ∷ wa.One (part (ru.Each so.Decl)) ∷ []))).faults 0
    c.in_ok-gauged.gauged.fault) c.part.ensures
    (subst (λ w. IsLeastOf (gauged_from c.args.tokens.now 0 (waited (c.part.result ∷ w ∷ []))).faults 0 c.in_ok-gauged.gauged.fault)
    c.part-2.ensures c.in_ok-gauged.ensures.fault))

pub returns-clause-shallow : goal.returns-clause-shallow
returns-clause-shallow c = files_fit c.args.tokens.now 0 c.in_ok-gauged.gauged.fault
    (subst (λ w. IsLeastOf (gauged_from c.args.tokens.now 0 (waited (w ∷ wa.One (part (ru.Each so.Decl)) ∷ []))).faults 0
    c.in_ok-gauged.gauged.fault) c.part.ensures
    (subst (λ w. IsLeastOf (gauged_from c.args.tokens.now 0 (waited (c.part.result ∷ w ∷ []))).faults 0 c.in_ok-gauged.gauged.fault)
    c.part-2.ensures c.in_ok-gauged.ensures.fault))
