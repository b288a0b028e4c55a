use Rattle.std.proofs.Common.{◌≡◌, take, length, ap, sym, ◌∙◌, is_some, true, false, arith}
use Rattle.std.specs.Prelude.{option_and_then}
use Rattle.hare_types.specs.declared.row.Scalar.TheVariants as keyword
use Rattle.hare_rules.specs.Above.{hint_id, hint_word}
use Rattle.hare_rules.specs.Words.{allocation}
use Rattle.rule_judge.specs.Settings.{setting_of}
use Rattle.rule_mem.specs.Asking.{object_of}
use Rattle.rule_mem.proofs.HintedLemmas.{hint_to-asks, allocation_first}
use Rattle.rule_mem.proofs.hinted.allocation_asks.Goals as goal

pub returns-then-has_capacity-clause-value : goal.returns-then-has_capacity-clause-value
returns-then-has_capacity-clause-value c f l =
    let w = setting_of f c.args.t.now.decls.now in
    let own = c.args.t.now.case.now.hint in
    let none : length (take c.args.i c.args.t.now.kids.now) ≡ 0 = omega arith in
    c.is_some.ensures ∙ ap is_some (c.asked.ensures.value f l) ∙ sym (hint_to-asks (option_and_then (allocation f) (hint_id own)))
    ∙ allocation_first w own (hint_word w keyword.Size) c.args.t.now.kids.now c.args.i true none
    (sym c.if-has_capacity.true ∙ c.has_capacity.ensures f)

pub returns-clause-value : goal.returns-clause-value
returns-clause-value c f l =
    let w = setting_of f c.args.t.now.decls.now in
    let own = c.args.t.now.case.now.hint in
    let none : length (take c.args.i c.args.t.now.kids.now) ≡ 0 = omega arith in
    c.is_some-2.ensures ∙ ap is_some (c.object_asked.ensures.value f l) ∙ sym (hint_to-asks (object_of f own))
    ∙ allocation_first w own (hint_word w keyword.Size) c.args.t.now.kids.now c.args.i false none
    (sym c.if-has_capacity.false ∙ c.has_capacity.ensures f)
