use Rattle.std.proofs.Common.{◌≡◌, ap, sym, ◌∙◌, arith}
use Rattle.std.specs.Cmp.{unsigned_Decides}
use Rattle.hare_types.proofs.LaterLemmas.{later_trans}
use Rattle.hare_rules.specs.Words.{default_in}
use Rattle.rule_mem.specs.Asking.{object_of}
use Rattle.rule_mem.proofs.HintedLemmas.{not_full, at_operand, none_asked}
use Rattle.rule_mem.proofs.hinted.object_target.Goals as goal

pub returns-then-has_capacity-clause-value : goal.returns-then-has_capacity-clause-value
returns-then-has_capacity-clause-value c f l = not_full _ _ _ _ (sym (c.has_capacity.ensures f) ∙ c.if-has_capacity.true)

pub returns-clause-value : goal.returns-clause-value
returns-clause-value c f l =
    let before = later_trans c.args.s.now c.default_in.new.s f c.default_in.ensures.grown.later l in
    at_operand _ _ _ _ c.in_ok-d.d ((unsigned_Decides c.args.i 0).1 (omega arith))
    (sym (c.has_capacity.ensures f) ∙ c.if-has_capacity.false)
    (none_asked (object_of f c.args.t.now.case.now.hint) c.object_asked.result c.is_some.result (c.object_asked.ensures.value f before)
    c.is_some.ensures c.if-is_some.false)
    (c.in_ok-d.ensures.value f l ∙ ap (default_in f) c.own-operand.ensures.value)
