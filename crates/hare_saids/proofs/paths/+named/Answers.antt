use Rattle.hare_names.specs.Answers.{meaning_in}
use Rattle.hare_saids.proofs.PathLemmas.{named-more}
use Rattle.hare_saids.proofs.paths.+named.Goals as goal

pub push_named_among-loop-i-preserved : goal.push_named_among-loop-i-preserved
push_named_among-loop-i-preserved t c =
    named-more c.args.count (meaning_in c.args.names.now) _ _ _ c.args.kids.now c.loop-i.i c.in-Some.t.now c.in-Some.ensures.found
    c.in_ok-push_named.ensures c.loop-i.invariant
