use Rattle.std.proofs.Common.{rules, ◌≡◌, ◌∙◌, true, slice_get, slice_set, Some, None, refl, ap, sym, subst}
use Rattle.std.specs.Prelude.{option_copied}
use Rattle.hare_saids.specs.Saids.{decls}
use Rattle.hare_walk.proofs.Grows.{grown-trans}
use Rattle.hare_walk.proofs.Steps.{err_same}
use Rattle.hare_steps.specs.declared.step.Step.TheVariants as st
use Rattle.hare_steps.specs.Plans.{listing, step_of}
use Rattle.hare_turns.specs.Ends.{IsDeclarationStop}
use Rattle.hare_declarations.specs.declared.parts.Parts.{Parts}
use Rattle.hare_declarations.specs.declared.state.State.{State}
use Rattle.hare_declarations.specs.Standing.{IsStanding, steps_before}
use Rattle.hare_declarations.proofs.JudgedByStage.Lists.{map-take-next, slice_set-set}
use Rattle.hare_declarations.proofs.WhileStoresGrow.Stores.{grown-to}
use Rattle.hare_declarations.proofs.WhileStoresGrow.Judged.{value-later}
use Rattle.hare_declarations.proofs.WhileStoresGrow.Ready.{taken-later}
use Rattle.hare_declarations.proofs.WhileStoresGrow.Stands.{standing-walked, stays-walked}
use Rattle.hare_declarations.proofs.OneMore.Values.{JudgesValue, types-erase, value-goes, value-stop}
use Rattle.hare_declarations.proofs.value.pass_value.Goals as goal

pub judge_value-requires-clause-types : goal.judge_value-requires-clause-types
judge_value-requires-clause-types c =
    let there : slice_get (decls c.args.files.now) c.args.own ≡ Some c.in-Some.decl.now =
    sym c.declaration_at.ensures ∙ ap option_copied c.in-Some.is in
    types-erase (listing c.args.names.now c.args.files.now) c.args.s.now c.args.state.now
    (steps_before c.args.plan.now c.args.place) c.args.own
    c.in-Some.decl.now c.in-Some-take_slot.parts c.requires.standing there c.in-Some-take_slot.ensures.there

pub returns-in_err-value-clause-err : goal.returns-in_err-value-clause-err
returns-in_err-value-clause-err c =
    let p = listing c.args.names.now c.args.files.now in
    let r = c.judge_value.new.s in
    let xs = steps_before c.args.plan.now c.args.place in
    let q = c.in_err-value.field-0.0 in
    let there : slice_get (decls c.args.files.now) c.args.own ≡ Some c.in-Some.decl.now =
    sym c.declaration_at.ensures ∙ ap option_copied c.in-Some.is in
    let standing =
    standing-walked c.laws.ensures p c.args.s.now r c.args.state.now xs c.judge_value.ensures.sound c.judge_value.ensures.grown
    c.requires.standing in
    err_same c.from_residual.result q (IsDeclarationStop p r) c.from_residual.ensures.1
    (value-stop c.laws.ensures c.args.names.now c.args.files.now c.args.plan.now c.args.place r c.args.state.now c.args.own
    c.in-Some.decl.now c.in-Some-take_slot.parts c.requires.planned c.requires.step
    standing there c.in-Some-take_slot.ensures.there q
    c.in_err-value.ensures.err)

pub returns-in_err-value-clause-stays : goal.returns-in_err-value-clause-stays
returns-in_err-value-clause-stays c =
    stays-walked c.laws.ensures (listing c.args.names.now c.args.files.now) c.args.s.now c.judge_value.new.s c.args.state.now
    (steps_before c.args.plan.now c.args.place) c.judge_value.ensures.sound c.judge_value.ensures.grown c.requires.standing

pub know_value-requires-clause-defs : goal.know_value-requires-clause-defs
know_value-requires-clause-defs c =
    (standing-walked c.laws.ensures (listing c.args.names.now c.args.files.now) c.args.s.now c.judge_value.new.s c.args.state.now
    (steps_before c.args.plan.now c.args.place) c.judge_value.ensures.sound c.judge_value.ensures.grown c.requires.standing).defs

pub returns-in_err-know_value-clause-stays : goal.returns-in_err-know_value-clause-stays
returns-in_err-know_value-clause-stays c =
    let grown = grown-trans c.args.s.now c.judge_value.new.s c.know_value.new.s c.judge_value.ensures.grown c.know_value.ensures.grown in
    stays-walked c.laws.ensures (listing c.args.names.now c.args.files.now) c.args.s.now c.know_value.new.s c.args.state.now
    (steps_before c.args.plan.now c.args.place) c.know_value.ensures.sound grown c.requires.standing

pub returns-clause-ok : goal.returns-clause-ok
returns-clause-ok c =
    let w = c.laws.ensures in
    let p = listing c.args.names.now c.args.files.now in
    let r = c.judge_value.new.s in
    let f = c.know_value.new.s in
    let xs = steps_before c.args.plan.now c.args.place in
    let a = c.args.state.now in
    let b : State =
    record {
      known = c.know_value.new.known;
      ready = c.judge_value.new.ready;
      defined = c.know_value.new.defined;
      waits = c.args.state.now.waits;
      slots = c.put_slot.new.slots;
    } in
    let t = c.in-Some.decl.now in
    let q = c.in-Some-take_slot.parts in
    let x = c.in_ok-value.value in
    let v = c.judge_value.ensures.sound in
    let grown = grown-trans c.args.s.now r f c.judge_value.ensures.grown c.know_value.ensures.grown in
    let more = grown-to r f c.know_value.ensures.sound c.know_value.ensures.grown in
    let standing : IsStanding p f a xs =
    standing-walked w p c.args.s.now f a xs c.know_value.ensures.sound grown c.requires.standing in
    let there : slice_get (decls c.args.files.now) c.args.own ≡ Some t = sym c.declaration_at.ensures ∙ ap option_copied c.in-Some.is in
    let yes : c.can_value.result ≡ true = search (rules, c.if-not-can_value.false) in
    let filled : Parts = record { types = q.types; value = Some x } in
    let judges : JudgesValue p f a b c.args.own t q x =
    record {
      is_there = there;
      can = c.can_value.ensures yes;
      there = c.in-Some-take_slot.ensures.there;
      value = value-later r f v more.later p a.known c.args.own t q.types x c.in_ok-value.ensures.ok;
      known = c.in_ok-know_value.ensures.ok;
      taken = taken-later r f v more.later a.known b.ready c.judge_value.ensures.taken;
      defined = c.know_value.ensures.defined;
      waits = refl;
      slots =
          c.put_slot.ensures ∙ ap (λ qs. slice_set qs c.args.own (Some filled)) c.in-Some-take_slot.ensures.left
          ∙ slice_set-set a.slots.items c.args.own None (Some filled);
      defs = c.know_value.ensures.defs;
    } in
    subst (λ ys. IsStanding p f b ys)
    (sym (map-take-next step_of c.args.plan.now.steps.items c.args.place (st.Value c.args.own) c.requires.step))
    (value-goes w p f a b xs c.args.own t q x standing judges)

pub returns-clause-stays : goal.returns-clause-stays
returns-clause-stays c =
    let grown = grown-trans c.args.s.now c.judge_value.new.s c.know_value.new.s c.judge_value.ensures.grown c.know_value.ensures.grown in
    stays-walked c.laws.ensures (listing c.args.names.now c.args.files.now) c.args.s.now c.know_value.new.s c.args.state.now
    (steps_before c.args.plan.now c.args.place) c.know_value.ensures.sound grown c.requires.standing
