use Rattle.std.proofs.Common.{ℕ, Option, is_some, refl, ap, sym, ◌∙◌, subst, arith}
use Rattle.std.specs.Prelude.{IfSome}
use Rattle.hare_types.proofs.LaterLemmas.{later_trans}
use Rattle.rule_judge.specs.Defined.{IsDefined}
use Rattle.rule_judge.proofs.DefinedLemmas.{defined_stays}
use Rattle.rule_judge.proofs.TurnLemmas.{turn_stays, grown_trans}
use Rattle.rule_mem.proofs.TupleLemmas.{defaults-more, defaults-none, defaults-end, each-more}
use Rattle.rule_mem.proofs.ItemLemmas.{lacking-here, lacking-passed, lacking-end}
use Rattle.rule_mem.proofs.tuples.defaults.Goals as goal

pub default_in-requires : goal.default_in-requires
default_in-requires c =
    c.own-item.ensures.defined c.loop-i.s (turn_stays c.args.s.now c.loop-i.s c.declarations-law.ensures.sound
    c.loop-i.invariant.grown.later c.args.t.now c.requires)

pub returns-in_default-clause-value : goal.returns-in_default-clause-value
returns-in_default-clause-value c f l =
    defaults-none f c.args.t.now.kids.now c.loop-i.types c.loop-i.i c.own-item.result _ (omega arith) c.own-item.ensures.value
    (sym c.in_default.is ∙ c.in_ok-d.ensures.value f l)
    (c.loop-i.invariant.rest f (later_trans c.loop-i.s c.default_in.new.s f c.default_in.ensures.grown.later l))

pub returns-in_default-clause-there : goal.returns-in_default-clause-there
returns-in_default-clause-there c =
    lacking-here c.args.t.now.kids.now c.loop-i.i c.own-item.result _ _ (omega arith) c.own-item.ensures.value
    (sym (ap is_some c.in_default.is) ∙ c.in_ok-d.ensures.there) refl c.loop-i.invariant.lacking

pub loop-i-preserved : goal.loop-i-preserved
loop-i-preserved c = record {
  grown = grown_trans c.args.s.now c.loop-i.s c.default_in.new.s c.loop-i.invariant.grown c.default_in.ensures.grown;
  defined =
      each-more (IsDefined c.default_in.new.s) c.loop-i.types c.push.new.self c.in-Some.d c.in_ok-push.ensures.ok
      (λ k h. defined_stays c.loop-i.s c.default_in.new.s c.loop-i.invariant.grown.later.sound c.default_in.ensures.grown.later k
      (c.loop-i.invariant.defined k h))
      (subst (λ (o : Option ℕ). IfSome o (IsDefined c.default_in.new.s)) c.in-Some.is c.in_ok-d.ensures.defined);
  rest = λ f l.
      defaults-more f c.args.t.now.kids.now c.loop-i.types c.push.new.self c.loop-i.i c.in-Some.d c.own-item.result _ (omega arith)
      c.own-item.ensures.value (sym c.in-Some.is ∙ c.in_ok-d.ensures.value f l)
      c.in_ok-push.ensures.ok
      (c.loop-i.invariant.rest f (later_trans c.loop-i.s c.default_in.new.s f c.default_in.ensures.grown.later l));
  lacking =
      lacking-passed c.args.t.now.kids.now c.loop-i.i c.own-item.result _ _ (omega arith) c.own-item.ensures.value
      (sym (ap is_some c.in-Some.is) ∙ c.in_ok-d.ensures.there) refl c.loop-i.invariant.lacking;
}

pub returns-clause-value : goal.returns-clause-value
returns-clause-value c f l = defaults-end f c.args.t.now.kids.now c.loop-i.types c.loop-i.i _ (omega arith) (c.loop-i.invariant.rest f l)

pub returns-clause-there : goal.returns-clause-there
returns-clause-there c = lacking-end c.args.t.now.kids.now c.loop-i.i _ (omega arith) c.loop-i.invariant.lacking
