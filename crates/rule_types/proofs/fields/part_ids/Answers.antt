use Rattle.std.proofs.Common.{sym, ◌∙◌, arith}
use Rattle.rule_types.proofs.PartLemmas.{part_known, not_known, ids-more, ids-end}
use Rattle.rule_types.proofs.fields.part_ids.Goals as goal

pub unreachable-requires-in_default-part_type : goal.unreachable-requires-in_default-part_type
unreachable-requires-in_default-part_type c =
    not_known c.requires.0 c.part_type.result _ c.part_type.ensures
    (part_known c.requires.0 c.args.kids.now c.loop-i.i c.in-Some.kid.now c.requires.1 c.in-Some.ensures.found (omega arith))
    c.in_default-part_type.not-Of

pub loop-i-preserved : goal.loop-i-preserved
loop-i-preserved c =
    ids-more c.args.kids.now c.loop-i.i c.in-Some.kid.now c.in-Of.u c.in-Some.ensures.found (omega arith)
    (sym c.part_type.ensures ∙ c.in-Of.is) c.loop-i.types c.push.new.self _ c.in_ok-push.ensures.ok c.loop-i.invariant

pub returns : goal.returns
returns c = ids-end c.args.kids.now c.loop-i.types c.loop-i.i _ (omega arith) c.loop-i.invariant
