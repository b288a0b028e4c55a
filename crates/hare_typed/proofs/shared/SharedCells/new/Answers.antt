use Rattle.std.proofs.Common.{◌≡◌, ◌∙◌, sym, ap}
use Rattle.hare_typed.specs.Leads.{leads}
use Rattle.hare_typed.proofs.LeadLemmas.{leads-alike}
use Rattle.hare_typed.proofs.shared.SharedCells.new.Goals as goal

pub invariant_of-result : goal.invariant_of-result
invariant_of-result c =
    let cells = c.args.cells in
    let kept = c.kept.result.now in
    let there : leads c.in_ok-new.field-0.value ≡ leads cells = ap leads c.in_ok-new.ensures.ok in (
      λ h. there ∙ leads-alike kept cells (λ x i. (c.kept.ensures x).1 i) (c.lead_nowhere-lead_nowhere.ensures.0 h),
      λ e. c.lead_nowhere-lead_nowhere.ensures.1 (leads-alike cells kept (λ x i. (c.kept.ensures x).0 i) (sym there ∙ e)),
    )
