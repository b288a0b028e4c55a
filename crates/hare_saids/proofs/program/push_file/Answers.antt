use Rattle.hare_names.specs.Answers.{meaning_in}
use Rattle.hare_depends.specs.Said.{said_of}
use Rattle.hare_saids.proofs.FileLemmas.{mapped-more}
use Rattle.hare_saids.proofs.program.push_file.Goals as goal

pub loop-i-preserved : goal.loop-i-preserved
loop-i-preserved c =
    mapped-more (said_of c.args.count (meaning_in c.args.names.now)) _ _ _ c.args.decls.now c.loop-i.i c.in-Some.decl.now
    c.in_ok-said.said c.in-Some.ensures.found c.in_ok-said.ensures
    c.in_ok-push.ensures.items c.loop-i.invariant
