use Rattle.std.proofs.Common.{◌≡◌, ap, ◌∙◌, subst, refl}
use Rattle.hare_typed.specs.Typed.{TypedNode}
use Rattle.hare_rules.specs.Context.{place_of}
use Rattle.hare_rules.specs.Control.{pattern_kid}
use Rattle.rule_judge.proofs.KidLemmas.{front_found, front_past}
use Rattle.rule_match.proofs.PatternLemmas.{kid-front}
use Rattle.rule_match.proofs.patterns.pattern_place.Goals as goal

pub returns-in-Some : goal.returns-in-Some
returns-in-Some c =
    c.place_at.ensures
    ∙ ap place_of
    (kid-front 0 _ _ c.case.inside.kids c.in-Some.case.now c.case.view_is
    ∙ ap pattern_kid (front_found c.args.kids.now c.args.i c.in-Some.case.now c.in-Some.ensures.found))

pub returns-in-None : goal.returns-in-None
returns-in-None c =
    c.place_at-in-None.ensures
    ∙ subst (λ (x : TypedNode). place_of x ≡ place_of (pattern_kid x)) (front_past c.args.kids.now c.args.i c.in-None.ensures.none) refl
