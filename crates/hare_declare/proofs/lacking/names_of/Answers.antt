use Rattle.std.proofs.Common.{refl}
use Rattle.std.proofs.lemmas.Option.{slice_get-get_or}
use Rattle.hare_declare.proofs.TypesSeen.Graph.{none-below, one-more, all-below}
use Rattle.hare_declare.proofs.lacking.names_of.Goals as goal

pub loop-decl-init : goal.loop-decl-init
loop-decl-init c = none-below _ _ c.in_ok-graph.ensures

pub loop-decl-preserved : goal.loop-decl-preserved
loop-decl-preserved c =
    one-more c.args.outlines.now c.loop-decl.decl _ _ c.loop-decl.graph _
    (slice_get-get_or c.args.outlines.now c.loop-decl.decl _ c.loop-decl-test.true) refl c.in_ok-put_name.ensures c.loop-decl.invariant

pub returns : goal.returns
returns c = all-below _ _ _ c.loop-decl-test.false c.loop-decl.auto.decl-end c.loop-decl.invariant
