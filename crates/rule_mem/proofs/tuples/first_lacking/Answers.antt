use Rattle.std.proofs.Common.{ap, sym, ◌∙◌, not, Bool, arith, Some}
use Rattle.std.specs.Prelude.{option_map}
use Rattle.hare_types.specs.declared.coercion.Ty.{Ty}
use Rattle.hare_rules.specs.Context.{own_type, place_of}
use Rattle.hare_rules.specs.Words.{has_default}
use Rattle.hare_rules.specs.Aggregates.{lacks_default}
use Rattle.rule_mem.proofs.ListLemmas.{find-passed, find-here, find-end}
use Rattle.rule_mem.proofs.tuples.first_lacking.Goals as goal

pub returns-then-not-has_default : goal.returns-then-not-has_default
returns-then-not-has_default c =
    let lacks = ap not (ap has_default (sym (ap own_type c.item.view_is)) ∙ sym c.has_default.ensures ∙ c.if-not-has_default.true) in
    ap (λ p. Some p) (ap place_of c.item.view_is)
    ∙ ap (option_map place_of) (find-here lacks_default c.args.t.now.kids.now c.loop-i.i c.in-Some.item.now _ c.in-Some.ensures.found
    (omega arith) lacks c.loop-i.invariant)

pub loop-i-preserved : goal.loop-i-preserved
loop-i-preserved c =
    let lacks = ap not (ap has_default (sym (ap own_type c.item.view_is)) ∙ sym c.has_default.ensures ∙ c.if-not-has_default.false) in
    find-passed lacks_default c.args.t.now.kids.now c.loop-i.i c.in-Some.item.now _ c.in-Some.ensures.found (omega arith) lacks
    c.loop-i.invariant

pub returns : goal.returns
returns c = ap (option_map place_of) (find-end lacks_default c.args.t.now.kids.now c.loop-i.i _ (omega arith) c.loop-i.invariant)
