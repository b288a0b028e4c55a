use Rattle.hare_names.specs.Answers.{meaning_in}
use Rattle.hare_declare.specs.Outlines.{outline_of}
use Rattle.hare_declare.proofs.TypesSeen.SeenTrees.{one-more}
use Rattle.hare_declare.proofs.outline.push_file.Goals as goal

pub loop-i-preserved : goal.loop-i-preserved
loop-i-preserved c =
    one-more (outline_of c.args.count (meaning_in c.args.names.now)) _ _ _ c.args.decls.now c.loop-i.i c.in-Some.decl.now
    c.outline_of.result c.in-Some.ensures.found c.outline_of.ensures c.in_ok-push.ensures.items c.loop-i.invariant
