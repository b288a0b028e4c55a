use Rattle.std.proofs.Common.{sym, ◌∙◌, arith, refl}
use Rattle.std.proofs.lemmas.Option.{slice_get_within}
use Rattle.hare_recogniser.specs.declared.run.Stop.TheVariants as so
use Rattle.hare_recogniser.proofs.GaugedRun.GaugedLoop.{ReadsAt, goes_at, ends_here, stuck_here, used_up_here, stops_at}
use Rattle.hare_ll_table.proofs.SeenTokens.Places.{place_further}
use Rattle.hare_recogniser.proofs.Steps.Widths.{begins_with_front}
use Rattle.hare_recogniser.proofs.run.run.Goals as goal

pub number_of-number-requires-clause-within : goal.number_of-number-requires-clause-within
number_of-number-requires-clause-within c = slice_get_within c.args.tokens.now c.loop-token.at c.in-Some.token.now (sym c.in-Some.ensures)

pub loop-token-smaller : goal.loop-token-smaller
loop-token-smaller c =
    let ts = c.args.tokens.now in
    let h = slice_get_within ts c.loop-token.at c.in-Some.token.now (sym c.in-Some.ensures) in
    let b = begins_with_front ts c.loop-token.at c.place_behind_joined-at.result c.in-Some.token.now (sym c.in-Some.ensures)
    c.place_behind_joined-at.ensures in
    omega (arith, h, b.further)

pub loop-token-preserved : goal.loop-token-preserved
loop-token-preserved c =
    let ts = c.args.tokens.now in
    let i = c.loop-token.invariant in
    let a = c.in_ok-step.ensures in
    let n = c.place_behind_joined-at.ensures in
    let r : ReadsAt ts c.args.from c.loop-token.at c.place_behind_joined-at.result c.in_ok-step.field-0 _ c.loop-token.frames _
    c.step.new.frames =
    record {
      token = c.in-Some.token.now;
      number = c.number_of-number.result;
      class = c.class_of.result;
      stands = sym c.in-Some.ensures;
      next_is = n;
      behind = i.place.behind;
      number_is = c.number_of-number.ensures;
      class_is = c.class_of.ensures.value;
      answers = a.value;
    } in
    record {
      run = goes_at ts c.args.from c.loop-token.at c.place_behind_joined-at.result c.in_ok-step.field-0 _ c.loop-token.told c.found.result
          c.lesser-told.result c.step.new.agenda.nodes _ _ c.loop-token.frames c.step.new.frames r c.in-Goes.is a.paired c.found.ensures
          c.lesser-told.ensures i.run;
      paired = a.paired;
      place = place_further ts c.args.from c.loop-token.at c.place_behind_joined-at.result _ i.place
          (begins_with_front ts c.loop-token.at c.place_behind_joined-at.result c.in-Some.token.now (sym c.in-Some.ensures) n);
    }

pub returns-in-Ends : goal.returns-in-Ends
returns-in-Ends c =
    let ts = c.args.tokens.now in
    let i = c.loop-token.invariant in
    let r : ReadsAt ts c.args.from c.loop-token.at _ c.in_ok-step.field-0 _ c.loop-token.frames _ c.step.new.frames =
    record {
      token = c.in-Some.token.now;
      number = c.number_of-number.result;
      class = c.class_of.result;
      stands = sym c.in-Some.ensures;
      next_is = refl;
      behind = i.place.behind;
      number_is = c.number_of-number.ensures;
      class_is = c.class_of.ensures.value;
      answers = c.in_ok-step.ensures.value;
    } in
    let h = ends_here ts c.args.from c.loop-token.at _ c.in_ok-step.field-0 _ c.loop-token.told _ _ c.loop-token.frames c.step.new.frames r
    c.in-Ends.is i.run in
    record {
      told = c.stopped.ensures.told ∙ h.least_is;
      stops = rw c.stopped.ensures.stop (stops_at ts c.args.from c.loop-token.at _ c.loop-token.told (so.Over c.loop-token.at) h i.place
          refl);
    }

pub returns-in-Stuck : goal.returns-in-Stuck
returns-in-Stuck c =
    let ts = c.args.tokens.now in
    let i = c.loop-token.invariant in
    let r : ReadsAt ts c.args.from c.loop-token.at _ c.in_ok-step.field-0 _ c.loop-token.frames _ c.step.new.frames =
    record {
      token = c.in-Some.token.now;
      number = c.number_of-number.result;
      class = c.class_of.result;
      stands = sym c.in-Some.ensures;
      next_is = refl;
      behind = i.place.behind;
      number_is = c.number_of-number.ensures;
      class_is = c.class_of.ensures.value;
      answers = c.in_ok-step.ensures.value;
    } in
    let h = stuck_here ts c.args.from c.loop-token.at _ c.in_ok-step.field-0 _ c.loop-token.told _ _ c.loop-token.frames c.step.new.frames r
    c.in-Stuck.is i.run in
    record {
      told = c.stopped-in-Stuck.ensures.told ∙ h.least_is;
      stops = rw c.stopped-in-Stuck.ensures.stop
          (stops_at ts c.args.from c.loop-token.at _ c.loop-token.told (so.Stuck c.loop-token.at) h i.place refl);
    }

pub returns : goal.returns
returns c =
    let ts = c.args.tokens.now in
    let i = c.loop-token.invariant in
    let h = used_up_here ts c.loop-token.at _ _ c.loop-token.told _ c.loop-token.frames (sym c.in_default.ensures) i.run in
    record {
      told = c.stopped-2.ensures.told ∙ h.least_is;
      stops = rw c.stopped-2.ensures.stop (stops_at ts c.args.from c.loop-token.at _ c.loop-token.told (so.Stuck c.loop-token.at) h i.place
          refl);
    }
