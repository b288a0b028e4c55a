use Rattle.std.proofs.Common.{ℕ, List, length, sym, subst, arith}
use Rattle.std.specs.Prelude.{Contains}
use Rattle.hare_types.specs.Rows.{AllBelow}
use Rattle.rule_types.proofs.UnionLemmas.{joinable_below}
use Rattle.rule_types.proofs.unions.joined.Goals as goal

pub returns-then-left-eq1-clause-defined : goal.returns-then-left-eq1-clause-defined
returns-then-left-eq1-clause-defined c h = h c.index-left-0.result (0, omega (arith, c.if-left-eq1.true), sym c.index-left-0.is)

pub returns-then-left-eq1-clause-member : goal.returns-then-left-eq1-clause-member
returns-then-left-eq1-clause-member c e = c.requires.joinable.members c.index-left-0.result
    (0, omega (arith, c.if-left-eq1.true), sym c.index-left-0.is)

pub entered-requires-clause-within : goal.entered-requires-clause-within
entered-requires-clause-within c =
    subst (λ (ts : List ℕ). AllBelow (length c.args.s.now.rows) ts) (sym c.in_ok-members.ensures)
    (joinable_below c.args.s.now c.args.left.now c.requires.joinable.members)

pub returns-clause-defined : goal.returns-clause-defined
returns-clause-defined c h =
    c.in_ok-u.ensures.defined (λ d e. cc) (λ i m. h i (subst (λ (ts : List ℕ). Contains ts i) c.in_ok-members.ensures m))
