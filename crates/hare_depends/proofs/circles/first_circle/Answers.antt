use Rattle.std.proofs.Common.{length, Some, sym, ◌∙◌, subst}
use Rattle.hare_graph.specs.Ranks.{AreRanks}
use Rattle.hare_depends.specs.Circles.{TellsCircle}
use Rattle.hare_depends.specs.Edges.{TellsReturn}
use Rattle.hare_depends.proofs.FindLemmas.{graphs-at, within-graph, circular-none, circular-first}
use Rattle.hare_depends.proofs.circles.first_circle.Goals as goal

pub ranks-requires : goal.ranks-requires
ranks-requires c =
    (graphs-at c.args.saids.now c.as_slice.result.now c.as_slice-2.result.now c.in_ok-forward.forward c.in_ok-backward.backward
    c.requires.within
    c.in_ok-forward.ensures c.in_ok-backward.ensures (c.as_slice.ensures.value ∙ c.in_ok-edges.ensures)
    (c.as_slice-2.ensures.value ∙ c.in_ok-edges.ensures)).forward.reverse

pub first_returning-requires-clause-ranks : goal.first_returning-requires-clause-ranks
first_returning-requires-clause-ranks c = subst (AreRanks c.in_ok-forward.forward) (sym c.as_slice-3.ensures.value) c.in_ok-ranks.ensures

pub first_returning-requires-clause-stays : goal.first_returning-requires-clause-stays
first_returning-requires-clause-stays c =
    (graphs-at c.args.saids.now c.as_slice.result.now c.as_slice-2.result.now c.in_ok-forward.forward c.in_ok-backward.backward
    c.requires.within
    c.in_ok-forward.ensures c.in_ok-backward.ensures (c.as_slice.ensures.value ∙ c.in_ok-edges.ensures)
    (c.as_slice-2.ensures.value ∙ c.in_ok-edges.ensures)).forward.stays

pub returns-in_default : goal.returns-in_default
returns-in_default c =
    let a = graphs-at c.args.saids.now c.as_slice.result.now c.as_slice-2.result.now c.in_ok-forward.forward c.in_ok-backward.backward
    c.requires.within
    c.in_ok-forward.ensures c.in_ok-backward.ensures (c.as_slice.ensures.value ∙ c.in_ok-edges.ensures)
    (c.as_slice-2.ensures.value ∙ c.in_ok-edges.ensures) in
    circular-none c.args.saids.now c.requires.within c.in_ok-forward.forward c.in_ok-backward.backward a
    (subst (TellsReturn c.in_ok-forward.forward (length c.args.saids.now)) c.in_default.is c.in_ok-decl.ensures)

pub has_constant-requires-clause-reverse : goal.has_constant-requires-clause-reverse
has_constant-requires-clause-reverse c =
    (graphs-at c.args.saids.now c.as_slice.result.now c.as_slice-2.result.now c.in_ok-forward.forward c.in_ok-backward.backward
    c.requires.within
    c.in_ok-forward.ensures c.in_ok-backward.ensures (c.as_slice.ensures.value ∙ c.in_ok-edges.ensures)
    (c.as_slice-2.ensures.value ∙ c.in_ok-edges.ensures)).forward.reverse

pub has_constant-requires-clause-back : goal.has_constant-requires-clause-back
has_constant-requires-clause-back c =
    (graphs-at c.args.saids.now c.as_slice.result.now c.as_slice-2.result.now c.in_ok-forward.forward c.in_ok-backward.backward
    c.requires.within
    c.in_ok-forward.ensures c.in_ok-backward.ensures (c.as_slice.ensures.value ∙ c.in_ok-edges.ensures)
    (c.as_slice-2.ensures.value ∙ c.in_ok-edges.ensures)).backward.reverse

pub has_constant-requires-clause-stays : goal.has_constant-requires-clause-stays
has_constant-requires-clause-stays c =
    (graphs-at c.args.saids.now c.as_slice.result.now c.as_slice-2.result.now c.in_ok-forward.forward c.in_ok-backward.backward
    c.requires.within
    c.in_ok-forward.ensures c.in_ok-backward.ensures (c.as_slice.ensures.value ∙ c.in_ok-edges.ensures)
    (c.as_slice-2.ensures.value ∙ c.in_ok-edges.ensures)).forward.stays

pub has_constant-requires-clause-stays_back : goal.has_constant-requires-clause-stays_back
has_constant-requires-clause-stays_back c =
    (graphs-at c.args.saids.now c.as_slice.result.now c.as_slice-2.result.now c.in_ok-forward.forward c.in_ok-backward.backward
    c.requires.within
    c.in_ok-forward.ensures c.in_ok-backward.ensures (c.as_slice.ensures.value ∙ c.in_ok-edges.ensures)
    (c.as_slice-2.ensures.value ∙ c.in_ok-edges.ensures)).backward.stays

pub has_constant-requires-clause-there : goal.has_constant-requires-clause-there
has_constant-requires-clause-there c =
    let a = graphs-at c.args.saids.now c.as_slice.result.now c.as_slice-2.result.now c.in_ok-forward.forward c.in_ok-backward.backward
    c.requires.within
    c.in_ok-forward.ensures c.in_ok-backward.ensures (c.as_slice.ensures.value ∙ c.in_ok-edges.ensures)
    (c.as_slice-2.ensures.value ∙ c.in_ok-edges.ensures) in
    let t = subst (TellsReturn c.in_ok-forward.forward (length c.args.saids.now)) c.in-Some.is c.in_ok-decl.ensures in
    within-graph c.args.saids.now c.in_ok-forward.forward c.in_ok-backward.backward c.in-Some.decl a t.0

pub circle_fault-requires : goal.circle_fault-requires
circle_fault-requires c =
    let t = subst (TellsReturn c.in_ok-forward.forward (length c.args.saids.now)) c.in-Some.is c.in_ok-decl.ensures in t.0

pub returns : goal.returns
returns c =
    let a = graphs-at c.args.saids.now c.as_slice.result.now c.as_slice-2.result.now c.in_ok-forward.forward c.in_ok-backward.backward
    c.requires.within
    c.in_ok-forward.ensures c.in_ok-backward.ensures (c.as_slice.ensures.value ∙ c.in_ok-edges.ensures)
    (c.as_slice-2.ensures.value ∙ c.in_ok-edges.ensures) in
    let t = subst (TellsReturn c.in_ok-forward.forward (length c.args.saids.now)) c.in-Some.is c.in_ok-decl.ensures in
    subst (λ f. TellsCircle c.args.saids.now (Some f)) (sym c.circle_fault.ensures)
    (circular-first c.args.saids.now c.requires.within c.in_ok-forward.forward c.in_ok-backward.backward a c.in-Some.decl t
    c.in_ok-constant.constant c.in_ok-constant.ensures)
