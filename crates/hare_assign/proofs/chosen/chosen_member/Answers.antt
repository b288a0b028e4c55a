use Rattle.std.proofs.Common.{◌≡◌, Option, Some, None, refl, sym, ◌∙◌}
use Rattle.std.specs.Prelude.{IfSome, IfNone}
use Rattle.hare_types.specs.declared.coercion.Coercion.{Coercion}
use Rattle.hare_assign.specs.Chosen.{IsChosen, KeepsMember}
use Rattle.hare_assign.proofs.ChosenLemmas.{member_within, is_chosen, goes_there, keeps_none, keeps_own}
use Rattle.hare_assign.proofs.chosen.chosen_member.Goals as goal

pub assignable-requires-clause-to : goal.assignable-requires-clause-to
assignable-requires-clause-to c = member_within c.args.s.now c.args.from c.in-Some.members.now c.in-Some-member_for.m
    c.in-Some.ensures.within (sym c.in-Some-member_for.ensures)

pub returns-in-Some-member_for-clause-some : goal.returns-in-Some-member_for-clause-some
returns-in-Some-member_for-clause-some c = by c.assignable.result refl
  where
    by : (o : Option Coercion) → c.assignable.result ≡ o → IfSome o (λ x. IsChosen c.args.s.now c.args.from c.args.to x)
    by None e = tt
    by (Some x) e =
        is_chosen c.args.s.now c.members_of_base.ensures.sound c.args.from c.args.to c.requires.to c.in-Some.members.now
        c.in-Some-member_for.m c.in-Some.ensures.some (sym c.in-Some-member_for.ensures) x
        (sym c.assignable.ensures.value ∙ e)

pub returns-in-Some-member_for-clause-none : goal.returns-in-Some-member_for-clause-none
returns-in-Some-member_for-clause-none c = by c.assignable.result refl
  where
    by : (o : Option Coercion) → c.assignable.result ≡ o → IfNone o (KeepsMember c.args.s.now c.args.from c.args.to)
    by (Some x) e = tt
    by None e =
        absurd
        (goes_there c.args.s.now c.members_of_base.ensures.sound c.args.from c.args.to c.requires.to c.in-Some.members.now
        c.in-Some-member_for.m (sym c.in-Some-member_for.ensures) (sym c.assignable.ensures.value ∙ e))

pub returns-in-None-member_for-clause-none : goal.returns-in-None-member_for-clause-none
returns-in-None-member_for-clause-none c =
    keeps_own c.args.s.now c.members_of_base.ensures.sound c.args.from c.args.to c.requires.to c.in-Some.members.now c.in-Some.ensures.some
    (sym c.in-None-member_for.ensures)

pub returns-in-None-clause-none : goal.returns-in-None-clause-none
returns-in-None-clause-none c = keeps_none c.args.s.now c.members_of_base.ensures.sound c.args.from c.args.to c.requires.to
    c.in-None.ensures.none
