use Rattle.std.proofs.Common.{Some, ap, sym, ◌∙◌}
use Rattle.hare_types.proofs.MeaningsLemmas.{ids_mean_trees}
use Rattle.hare_layout.proofs.SpreadLemmas.{id-tree_at}
use Rattle.hare_assign.proofs.ChosenLemmas.{no_base, no_union}
use Rattle.hare_assign.proofs.chosen.members_of_base.Goals as goal

pub row_of-requires : goal.row_of-requires
row_of-requires c = (id-tree_at c.args.s.now c.in-Some.b c.in-Some.ensures.some.1 c.in-Some.ensures.some.3).0

pub returns-in-Union-clause-some : goal.returns-in-Union-clause-some
returns-in-Union-clause-some c =
    ((ids_mean_trees c.args.s.now c.base.ensures.sound).members c.args.t c.in-Union.members).1
    (c.in-Some.b, c.in-Some.ensures.some, c.row_of.ensures.row ∙ ap Some c.in-Union.is) ∙ ap Some (sym c.as_slice.ensures)

pub returns-in_default : goal.returns-in_default
returns-in_default c = record {
  some = tt;
  none = no_union c.args.s.now c.base.ensures.sound c.args.t c.in-Some.b c.row_of.result.now c.in-Some.ensures.some c.row_of.ensures.row
      c.in_default.not-Union;
  within = tt;
  sound = c.base.ensures.sound;
}

pub returns-in-None-clause-none : goal.returns-in-None-clause-none
returns-in-None-clause-none c = no_base c.args.s.now c.base.ensures.sound c.args.t c.in-None.ensures.none
