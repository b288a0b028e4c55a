use Rattle.std.proofs.Common.{sym, subst, ◌∙◌, true≢false}
use Rattle.hare_modules.specs.Takings.{using}
use Rattle.hare_modules.specs.CirclesIn.{Follows}
use Rattle.hare_graph.proofs.RankLemmas.{no-way-up}
use Rattle.hare_modules.proofs.CircleLemmas.{follows-none, follows-later, follows-circle, no-circle, no-target}
use Rattle.hare_modules.proofs.circles.follow.Goals as goal

pub returns-in_default : goal.returns-in_default
returns-in_default c =
    follows-none c.args.forward.now (using c.args.used) c.args.found (no-target c.args.forward.now (using c.args.used) c.in_default.is)

pub returns-then-is_later : goal.returns-then-is_later
returns-then-is_later c =
    follows-later c.args.forward.now (using c.args.used) c.args.found c.circle-fault.result c.circle-fault.ensures
    (sym c.is_later.ensures ∙ c.if-is_later.true)

pub returns-then-leads_up : goal.returns-then-leads_up
returns-then-leads_up c =
    let g = c.args.forward.now in
    follows-none g (using c.args.used) c.args.found
    (no-circle g (using c.args.used) c.in-Some.to c.in-Some.is
    (no-way-up g c.args.ranks.now c.args.used.home c.in-Some.to c.requires.ranks (sym c.leads_up.ensures ∙ c.if-leads_up.true)))

pub returns-then-branch : goal.returns-then-branch
returns-then-branch c =
    subst (Follows c.args.forward.now (using c.args.used) c.args.found) (sym c.earlier.ensures)
    (follows-circle c.args.forward.now (using c.args.used) c.args.found c.circle-fault.result c.in-Some.to c.circle-fault.ensures
    c.in-Some.is (c.in_ok-leads_to.ensures.0 c.if-branch.true))

pub returns : goal.returns
returns c =
    let g = c.args.forward.now in
    follows-none g (using c.args.used) c.args.found
    (no-circle g (using c.args.used) c.in-Some.to c.in-Some.is (λ r. true≢false (sym (c.in_ok-leads_to.ensures.1 r) ∙ c.if-branch.false)))
