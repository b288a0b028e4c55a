use Rattle.std.proofs.Common.{sym, ◌∙◌}
use Rattle.hare_types.specs.Assign.{value_at}
use Rattle.hare_assign.proofs.ChosenLemmas.{by_number}
use Rattle.hare_assign.proofs.chosen.member_for.Goals as goal

pub returns-then-count_const-eq1 : goal.returns-then-count_const-eq1
returns-then-count_const-eq1 c =
    by_number c.args.s.now (value_at c.args.s.now c.args.from.now) c.args.members.now c.first_of-then-count_const-eq1.result
    c.in_default.ensures c.in_default-first_of.ensures
    (sym c.count_const.ensures ∙ c.if-count_const-eq1.true) c.first_of-then-count_const-eq1.ensures
