use Rattle.std.proofs.Common.{ℕ, sym, subst}
use Rattle.std.specs.Prelude.{Contains}
use Rattle.rule_judge.specs.Defined.{IsDefined, HoldsDefined}
use Rattle.rule_judge.proofs.MemberLemmas.{held_member}
use Rattle.rule_judge.proofs.errors.has_error_member.Goals as goal

pub is_error-requires : goal.is_error-requires
is_error-requires c =
    held_member c.args.s.now _ c.loop-member.member-index c.member-item.result _
    (subst (λ is. (j : ℕ) → Contains is j → IsDefined c.args.s.now j) (sym c.as_slice-member-items.ensures)
    (subst (HoldsDefined c.args.s.now) c.in-Some-Union.field-0-is c.in-Some-Union.ensures.defined))
    c.loop-member-test.true c.member-item.is
