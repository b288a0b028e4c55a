use Rattle.std.proofs.Common.{sym, subst, ◌<◌}
use Rattle.hare_lex.proofs.Sound.Numbers.{number_some}
use Rattle.hare_lex.specs.declared.number.Number as number
use Rattle.hare_lex.proofs.front.number_front.Goals as goal

pub returns-else-begins_fraction-clause-within : goal.returns-else-begins_fraction-clause-within
returns-else-begins_fraction-clause-within c =
    let some = subst (λ (n : number.Number). 0 < n.len) (sym c.number_at-number.ensures.value) (number_some c.args.s.now c.requires) in
    (some, c.number_at-number.ensures.within, λ e. absurd (cc))
