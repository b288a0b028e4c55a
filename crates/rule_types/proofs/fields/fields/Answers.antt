use Rattle.std.proofs.Common.{ℕ, List, Some, ap, sym, ◌∙◌, arith}
use Rattle.hare_types.proofs.LaterLemmas.{later_trans}
use Rattle.hare_rules.specs.Context.{text_of}
use Rattle.rule_types.proofs.Grows.{grown_here, grown_trans, grown_names}
use Rattle.rule_types.proofs.NameLemmas.{numbered_stays}
use Rattle.rule_types.proofs.PartLemmas.{part_known, not_known, ids-more, ids-end, fields-more, fields-end, types-push, no_ids, no_fields}
use Rattle.rule_types.proofs.fields.fields.Goals as goal

pub unreachable-requires-in_default-part_type : goal.unreachable-requires-in_default-part_type
unreachable-requires-in_default-part_type c =
    not_known c.args.s.now c.part_type.result _ c.part_type.ensures
    (part_known c.args.s.now c.args.kids.now c.loop-i.i c.in-Some.kid.now c.requires c.in-Some.ensures.found (omega arith))
    c.in_default-part_type.not-Of

pub loop-i-init : goal.loop-i-init
loop-i-init c = record {
  grown = grown_here c.args.s.now c.declarations-law.ensures.sound;
  types = no_ids c.new-fields.result _ c.new-fields.ensures;
  rest = λ f l. no_fields c.new-fields.result _ c.new-fields.ensures;
}

pub loop-i-preserved : goal.loop-i-preserved
loop-i-preserved c =
    let here = sym c.part_type.ensures ∙ c.in-Of.is in
    record {
      grown = grown_trans c.args.s.now c.loop-i.s c.name.new.self c.loop-i.invariant.grown
          (grown_names c.loop-i.s c.name.new.self c.in_ok-name.ensures.rest c.name.ensures.grows c.name.ensures.later);
      types =
          ids-more c.args.kids.now c.loop-i.i c.in-Some.kid.now c.in-Of.ty c.in-Some.ensures.found (omega arith) here _ _ _
          (types-push c.loop-i.fields c.push.new.self _ c.in_ok-push.ensures.ok) c.loop-i.invariant.types;
      rest = λ f l.
          fields-more f c.args.kids.now c.loop-i.i c.in-Some.kid.now _ c.loop-i.fields c.push.new.self _ c.in-Some.ensures.found
          (omega arith) here
          (numbered_stays c.name.new.self f l (text_of c.in-Some.kid.now) c.in_ok-name.name
          (c.in_ok-name.ensures.numbered.stands ∙ ap (λ (w : List ℕ). Some w) (c.bytes.ensures ∙ ap text_of c.kid.view_is)))
          c.in_ok-push.ensures.ok
          (c.loop-i.invariant.rest f (later_trans c.loop-i.s c.name.new.self f c.name.ensures.later l));
    }

pub returns-clause-value : goal.returns-clause-value
returns-clause-value c f l = fields-end f c.args.kids.now c.loop-i.fields c.loop-i.i _ (omega arith) (c.loop-i.invariant.rest f l)

pub returns-clause-types : goal.returns-clause-types
returns-clause-types c = ids-end c.args.kids.now _ c.loop-i.i _ (omega arith) c.loop-i.invariant.types
