use Rattle.std.proofs.Common.{◌≡◌, drop}
use Rattle.hare_rules.specs.Words.{is_among}
use Rattle.rule_judge.proofs.members.is_among.Given as goal

-- it is among those that are left, or nowhere
abbrev pub invariant-loop-u : goal.invariant-loop-u
invariant-loop-u l = is_among l.t l.types ≡ is_among l.t (drop l.u-index l.types)
