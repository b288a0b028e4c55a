use Rattle.hare_names.specs.Answers.{meaning_in}
use Rattle.hare_saids.proofs.PathLemmas.{held-more}
use Rattle.hare_saids.proofs.paths.+held.Goals as goal

pub push_held_among-loop-i-preserved : goal.push_held_among-loop-i-preserved
push_held_among-loop-i-preserved t c =
    held-more c.args.count (meaning_in c.args.names.now) c.args.behind _ _ _ c.args.kids.now c.loop-i.i c.in-Some.t.now
    c.in-Some.ensures.found c.in_ok-push_held.ensures c.loop-i.invariant
