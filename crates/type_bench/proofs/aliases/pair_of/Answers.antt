use Rattle.hare_types.specs.declared.row.Row.TheVariants as row
use Rattle.hare_types.specs.declared.row.Scalar.TheVariants as keyword
use Rattle.hare_types.proofs.FollowLemmas.{row-continued}
use Rattle.type_bench.proofs.AliasLemmas.{reduced-pair, held-pair}
use Rattle.type_bench.proofs.aliases.pair_of.Goals as goal

pub intern-requires-2-clause-reduced : goal.intern-requires-2-clause-reduced
intern-requires-2-clause-reduced c =
    let s = c.intern.new.self in
    let word = row-continued c.args.store.now s c.in_ok-pointer.ensures.grows.rows c.args.int (row.Scalar keyword.Int) c.requires in
    reduced-pair s c.in_ok-pointer.ensures.later.sound c.args.int c.in_ok-pointer.pointer c.in_ok-members.members c.in_ok-members.ensures
    word c.in_ok-pointer.ensures.numbered.stands

pub returns-clause-held : goal.returns-clause-held
returns-clause-held c =
    let s = c.intern.new.self in
    let word = row-continued c.args.store.now s c.in_ok-pointer.ensures.grows.rows c.args.int (row.Scalar keyword.Int) c.requires in
    held-pair s c.intern-2.new.self c.in_ok-pointer.ensures.later.sound c.args.int c.in_ok-pointer.pointer c.in_ok-pair.pair
    c.in_ok-members.members c.in_ok-members.ensures word
    c.in_ok-pointer.ensures.numbered.stands c.in_ok-pair.ensures.stands
