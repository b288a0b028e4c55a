use Rattle.std.proofs.Common.{rules, ◌≡◌, ◌∙◌, length, subst, arith}
use Rattle.hare_types.proofs.LaterLemmas.{later_here, later_trans}
use Rattle.hare_walk.proofs.Steps.{err_same}
use Rattle.hare_steps.specs.Plans.{listing}
use Rattle.hare_turns.specs.Ends.{IsDeclarationStop}
use Rattle.hare_declarations.specs.Standing.{IsPlanned, IsStanding, steps_before}
use Rattle.hare_declarations.proofs.OneMore.Ends.{places-count, begins, ends}
use Rattle.hare_declarations.proofs.WhileStoresGrow.Stands.{stays-trans}
use Rattle.hare_declarations.proofs.judge.judge_declarations.Goals as goal

pub loop-place-init : goal.loop-place-init
loop-place-init c =
    let p = listing c.args.names.now c.args.files.now in
    let s = c.args.s.now in
    let len : c.len.result ≡ length c.args.plan.now.places.items = search rules in
    let count = len ∙ places-count c.args.files.now c.args.plan.now.places.items c.requires.places in
    record {
      standing =
          begins c.laws.ensures p s c.in_ok-state.state c.len.result c.requires.declared c.requires.nomem c.requires.only
          count c.in_ok-state.ensures;
      stays = record { later = later_here s c.requires.declared.sound; declared = c.requires.declared; nomem = c.requires.nomem };
    }

pub loop-place-preserved : goal.loop-place-preserved
loop-place-preserved c = record {
  standing = c.in_ok-pass.ensures.ok;
  stays =
      stays-trans (listing c.args.names.now c.args.files.now) c.args.s.now c.loop-place.s c.pass.new.s c.loop-place.invariant.stays
      c.pass.ensures.stays;
}

pub returns-in_err-pass-clause-err : goal.returns-in_err-pass-clause-err
returns-in_err-pass-clause-err c =
    let p = listing c.args.names.now c.args.files.now in
    err_same c.from_residual-in_err-pass.result c.in_err-pass.field-0.0 (IsDeclarationStop p c.pass.new.s)
    c.from_residual-in_err-pass.ensures.1
    c.in_err-pass.ensures.err

pub returns-in_err-pass-clause-later : goal.returns-in_err-pass-clause-later
returns-in_err-pass-clause-later c =
    later_trans c.args.s.now c.loop-place.s c.pass.new.s c.loop-place.invariant.stays.later c.pass.ensures.stays.later

pub returns-clause-ok : goal.returns-clause-ok
returns-clause-ok c =
    let p = listing c.args.names.now c.args.files.now in
    let q = c.args.plan.now in
    let planned : IsPlanned c.args.names.now c.args.files.now q =
    record { shaped = c.requires.shaped; places = c.requires.places; steps = c.requires.steps } in
    let len : c.len-place-end.result ≡ length q.steps.items = search rules in
    let at : c.loop-place.place ≡ length q.steps.items = omega (arith, len, c.loop-place.auto.place-end, c.loop-place-test.false) in
    ends c.laws.ensures c.args.names.now c.args.files.now q c.loop-place.s c.loop-place.state c.in_ok-judged.judged planned
    (subst (λ i. IsStanding p c.loop-place.s c.loop-place.state (steps_before q i)) at c.loop-place.invariant.standing)
    c.in_ok-judged.ensures
