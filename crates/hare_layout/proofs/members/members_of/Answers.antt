use Rattle.std.proofs.Common.{Some, ap, sym, ◌∙◌, subst}
use Rattle.hare_types.specs.declared.row.Row.TheVariants as row
use Rattle.hare_types.specs.Rows.{Ascends}
use Rattle.hare_layout.proofs.MemberLemmas.{union_within, union_row}
use Rattle.hare_layout.proofs.members.members_of.Goals as goal

pub row-requires : goal.row-requires
row-requires c = union_within c.args.s.now c.args.t c.requires

pub unreachable-requires : goal.unreachable-requires
unreachable-requires c =
    let union = union_row c.args.s.now c.row.ensures.sound c.args.t c.row.result.now c.requires c.row.ensures.row in
    c.in_default.not-Union union.0 union.1

pub returns-clause-ascend : goal.returns-clause-ascend
returns-clause-ascend c =
    let here = c.row.ensures.row ∙ ap Some c.in-Union.is in
    let members = c.row.ensures.sound.rows_sound.reduced c.args.t (row.Union c.in-Union.types) here in
    subst Ascends (sym c.as_slice.ensures) members.ascend
