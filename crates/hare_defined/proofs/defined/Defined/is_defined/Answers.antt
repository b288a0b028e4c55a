use Rattle.std.proofs.Common.{◌∙◌, ℕ, ap, sym, subst, take, Ok, Contains, true≢false}
use Rattle.rule_judge.specs.Defined.{IsDefined}
use Rattle.hare_defined.proofs.BaseLemmas.{baseless, based_within}
use Rattle.hare_defined.proofs.PartLemmas.{take-Continues}
use Rattle.hare_defined.proofs.defined.Defined.is_defined.Goals as goal
use Rattle.hare_defined.proofs.defined.Defined.is_defined.Goals.{in-Ok-true, in_default, in_default-2}

pub returns-then-is_none-clause-value : goal.returns-then-is_none-clause-value
returns-then-is_none-clause-value c =
    let fails = baseless c.args.s.now c.base.ensures.sound c.args.t c.base.result c.base.ensures.value c.if-is_none.ensures in
    ((λ e. absurd (true≢false (sym e))), (λ d. absurd (fails d)))

pub meet_mentioned-answer-requires-clause-within : goal.meet_mentioned-answer-requires-clause-within
meet_mentioned-answer-requires-clause-within c = based_within c.args.s.now c.args.t c.base.result c.base.ensures.some c.if-is_none.ensures

pub meet_mentioned-answer-requires-clause-known : goal.meet_mentioned-answer-requires-clause-known
meet_mentioned-answer-requires-clause-known c =
    subst (λ ks. (t : ℕ) → Contains ks t → IsDefined c.args.s.now t) (sym c.self.view_is) c.requires.known

pub returns-then-not-matches-clause-known : goal.returns-then-not-matches-clause-known
returns-then-not-matches-clause-known c =
    let kept = c.truncate.ensures.keys ∙ ap (λ n. take n c.meet_mentioned-answer.new.known.keys) c.len-before.ensures.len
    ∙ take-Continues c.self.inside.known.keys c.meet_mentioned-answer.new.known.keys c.meet_mentioned-answer.ensures.grows
    ∙ c.self.view_is in
    subst (λ ks. (t : ℕ) → Contains ks t → IsDefined c.args.s.now t) (sym kept) c.requires.known

pub returns-else-not-matches-clause-known : goal.returns-else-not-matches-clause-known
returns-else-not-matches-clause-known c =
    elim c.match-matches.branch [
      | in-Ok-true w ↦ w.in-Ok-true.ensures.known (ap Ok w.in-Ok-true.field-0-test)
      | in_default w ↦ absurd (true≢false (sym c.if-not-matches.false ∙ w.matches-is))
      | in_default-2 w ↦ absurd (true≢false (sym c.if-not-matches.false ∙ w.matches-is))
    ]
