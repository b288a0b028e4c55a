use Rattle.std.proofs.Common.{ap, sym, ◌∙◌, subst}
use Rattle.hare_rules.specs.Control.{pattern_of}
use Rattle.rule_judge.proofs.KidLemmas.{front_found, front_past}
use Rattle.rule_match.specs.Patterns.{IsDefinedPattern}
use Rattle.rule_match.proofs.PatternLemmas.{case_defined}
use Rattle.rule_match.proofs.patterns.pattern_at.Goals as goal

pub returns-in-Some : goal.returns-in-Some
returns-in-Some c =
    let value = c.of_case.ensures ∙ ap pattern_of (front_found c.args.kids.now c.args.i c.in-Some.case.now c.in-Some.ensures.found) in
    record { value = value; defined = λ s d. subst (IsDefinedPattern s) (sym value) (case_defined s c.args.kids.now c.args.i d) }

pub returns-in-None-clause-value : goal.returns-in-None-clause-value
returns-in-None-clause-value c = ap pattern_of (front_past c.args.kids.now c.args.i c.in-None.ensures.none)
