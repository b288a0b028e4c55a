use Rattle.std.proofs.Common.{◌+◌, ◌∙◌, ap, Some, take, get_or}
use Rattle.std.specs.Ordering.{nat_cmp}
use Rattle.std.specs.BTreeMap.{get}
use Rattle.std.proofs.lemmas.Option.{slice_get-get_or}
use Rattle.hare_typed.proofs.KidLemmas.{take-get}
use Rattle.hare_const.proofs.ReachedLemmas.{get_or_any, listed_more}
use Rattle.hare_const.proofs.reached.listed.Goals as goal

pub loop-n-preserved : goal.loop-n-preserved
loop-n-preserved c =
    let ns = c.args.numbers.now in
    let i = c.loop-n.n-index in
    let n = get_or ns i 0 in
    listed_more (get nat_cmp c.args.table.now) (take i ns) (take (i + 1) ns) n c.in_ok-cells.cells c.loop-n.objects c.push.new.self
    (take-get ns i n (slice_get-get_or ns i n c.loop-n-test.true ∙ ap Some (get_or_any ns i n 0 c.loop-n-test.true)))
    c.in_ok-cells.ensures c.in_ok-push.ensures.ok c.loop-n.invariant
