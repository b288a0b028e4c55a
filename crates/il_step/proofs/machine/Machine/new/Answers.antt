use Rattle.std.proofs.Common.{◌≡◌, Option, refl, sym, subst}
use Rattle.std.specs.Prelude.{IfSome}
use Rattle.il_engine.specs.declared.engine.Engine.{Engine}
use Rattle.il_engine.specs.Laid.{IsLaid}
use Rattle.il_engine.specs.Room.{HasRoom}
use Rattle.il_acts.specs.Blocks.{IsHeapLaid}
use Rattle.il_mem.specs.Kept.{Kept}
use Rattle.il_step.proofs.Sound.{under_heap}
use Rattle.il_step.proofs.Starting.{starts, starts_full}
use Rattle.il_step.proofs.machine.Machine.new.Goals as goal

pub returns-in_default-clause-stands : goal.returns-in_default-clause-stands
returns-in_default-clause-stands c = λ input.
    starts_full c.args.m.now c.args.args.now c.args.fill c.requires.valid c.in_ok-code.code c.in_ok-code.ensures.decoded
    c.in_ok-memory.memory c.in_ok-memory.ensures.stands input c.in_ok-engine.field-0 c.in_default.not-Some c.in_ok-engine.ensures.done

pub invariant_of-result-2 : goal.invariant_of-result-2
invariant_of-result-2 c =
    let e = c.in-Some.engine in
    let memory = c.in_ok-memory.memory in
    record {
      few = c.in_ok-code.ensures.few;
      laid = subst (λ (o : Option Engine). IfSome o IsLaid) c.in-Some.is c.in_ok-engine.ensures.laid;
      room = subst (λ (o : Option Engine). IfSome o (HasRoom c.in_ok-code.code)) c.in-Some.is c.in_ok-engine.ensures.room;
      heap = subst (λ (k : Kept). IsHeapLaid k.ranges c.new.result)
          (sym (subst (λ (o : Option Engine). IfSome o (λ x. x.memory ≡ memory)) c.in-Some.is c.in_ok-engine.ensures.memory))
          (c.new.ensures.laid memory.ranges (under_heap memory.ranges c.in_ok-memory.ensures.below));
    }

pub returns-clause-stands : goal.returns-clause-stands
returns-clause-stands c = λ input.
    starts c.args.m.now c.args.args.now c.args.fill c.requires.valid c.in_ok-code.code c.in_ok-code.ensures.decoded
    c.in_ok-memory.memory c.in_ok-memory.ensures.stands input _ c.in_ok-engine.field-0 refl c.in-Some.is c.in_ok-engine.ensures.done
    c.new.ensures.holds refl
