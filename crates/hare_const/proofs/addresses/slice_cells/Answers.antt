use Rattle.std.proofs.Common.{rules, ◌<◌, ◌^◌}
use Rattle.hare_const.proofs.AddressLemmas.{slice_given}
use Rattle.hare_const.proofs.addresses.slice_cells.Goals as goal

pub returns : goal.returns
returns c =
    let few : c.args.count < 2 ^ 64 = search rules in
    slice_given c.args.object c.args.count c.with_room-cells.result c.extend.new.self c.extend-2.new.self c.extend-3.new.self
    c.word_of-word.result few c.with_room-cells.ensures c.word_of-word.ensures
    (search rules) (search rules) (search rules)
