use Rattle.std.proofs.Common.{ap, sym, ◌∙◌, subst, IsSome}
use Rattle.hare_rules.specs.Context.{own_type}
use Rattle.rule_judge.proofs.KidLemmas.{front_found}
use Rattle.rule_types.specs.Known.{IsBasedTy}
use Rattle.hare_written.proofs.PartOfType.Known.{first-stands}
use Rattle.hare_written.proofs.around.holds_based.Goals as goal

pub returns-in-Of : goal.returns-in-Of
returns-in-Of c e =
    let there = c.kid.view_is ∙ front_found c.args.kids.now 0 c.in-Some.kid.now c.in-Some.ensures.found in
    let type = ap own_type (sym there) ∙ c.in-Of.is in
    subst (IsBasedTy c.args.s.now) (sym type)
    (record {
      within = first-stands c.args.s.now c.args.kids.now c.in-Of.u c.requires type;
      based = subst IsSome c.base.ensures.value
          (sym c.is_some.ensures ∙ e);
    })
