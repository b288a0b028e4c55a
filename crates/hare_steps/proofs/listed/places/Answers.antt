use Rattle.std.proofs.Common.{sym}
use Rattle.hare_steps.proofs.PlacesListed.Places.{files-next}
use Rattle.hare_steps.proofs.listed.places.Goals as goal

pub loop-file-preserved : goal.loop-file-preserved
loop-file-preserved c =
    files-next c.args.files.now c.in-Some.tree.now c.loop-file.file _ _ _ (sym c.in-Some.ensures)
    (c.in_ok-push_places.ensures c.args.files.now c.in-Some.tree.now (sym c.in-Some.ensures) (sym c.len.ensures)) c.loop-file.invariant
