use Rattle.std.proofs.Common.{true, Some, ap, sym, ◌∙◌, subst}
use Rattle.hare_types.specs.Rows.{tree_in, trees}
use Rattle.hare_layout.specs.Ids.{AreBrought}
use Rattle.hare_layout.proofs.SpreadLemmas.{id-tree_at, brought-spread, no_union-other, no_union-open}
use Rattle.hare_layout.proofs.spread.spread.Goals as goal

pub row-requires : goal.row-requires
row-requires c = (id-tree_at c.args.s.now c.in-Some.base c.in-Some.ensures.some.1 c.in-Some.ensures.some.3).0

pub returns-in-Union-clause-some : goal.returns-in-Union-clause-some
returns-in-Union-clause-some c =
    subst (λ js. AreBrought c.args.s.now true (tree_in (trees c.args.s.now.rows) c.args.t) js) (sym c.as_slice.ensures)
    (brought-spread c.args.s.now c.row.ensures.sound c.args.t c.in-Some.base c.in-Union.types c.in-Some.ensures.some
    (c.row.ensures.row ∙ ap Some c.in-Union.is))

pub returns-in_default : goal.returns-in_default
returns-in_default c = record {
  some = tt;
  none = no_union-other c.args.s.now c.row.ensures.sound c.args.t c.in-Some.base c.row.result.now c.in-Some.ensures.some c.row.ensures.row
      c.in_default.not-Union;
}

pub returns-in-None-clause-none : goal.returns-in-None-clause-none
returns-in-None-clause-none c = no_union-open c.args.s.now c.requires.sound c.args.t c.requires.within c.in-None.ensures.none
