use Rattle.std.proofs.Common.{rules, ◌≡◌, ◌∙◌, true, slice_get, Some, refl, ap, sym, subst}
use Rattle.std.specs.Prelude.{option_copied}
use Rattle.hare_saids.specs.Saids.{decls}
use Rattle.hare_walk.proofs.Grows.{grown-trans}
use Rattle.hare_walk.proofs.Steps.{err_same}
use Rattle.hare_steps.specs.declared.step.Step.TheVariants as st
use Rattle.hare_steps.specs.Plans.{listing, step_of}
use Rattle.hare_turns.specs.Ends.{IsDeclarationStop}
use Rattle.hare_declarations.specs.declared.state.State.{State}
use Rattle.hare_declarations.specs.Standing.{IsStanding, steps_before}
use Rattle.hare_declarations.proofs.JudgedByStage.Lists.{map-take-next}
use Rattle.hare_declarations.proofs.WhileStoresGrow.Stores.{grown-to}
use Rattle.hare_declarations.proofs.WhileStoresGrow.Judged.{stand-later, fit-later, types-later}
use Rattle.hare_declarations.proofs.WhileStoresGrow.Stands.{standing-walked, stays-walked}
use Rattle.hare_declarations.proofs.OneMore.Types.{JudgesTypes, types-go, types-stop}
use Rattle.hare_declarations.proofs.types.pass_types.Goals as goal

pub returns-in_err-types-clause-err : goal.returns-in_err-types-clause-err
returns-in_err-types-clause-err c =
    let p = listing c.args.names.now c.args.files.now in
    let r = c.judge_types.new.s in
    let xs = steps_before c.args.plan.now c.args.place in
    let q = c.in_err-types.field-0.0 in
    let there : slice_get (decls c.args.files.now) c.args.own ≡ Some c.in-Some.decl.now =
    sym c.declaration_at.ensures ∙ ap option_copied c.in-Some.is in
    let standing =
    standing-walked c.laws.ensures p c.args.s.now r c.args.state.now xs c.judge_types.ensures.sound c.judge_types.ensures.grown
    c.requires.standing in
    err_same c.from_residual.result q (IsDeclarationStop p r) c.from_residual.ensures.1
    (types-stop c.laws.ensures c.args.names.now c.args.files.now c.args.plan.now c.args.place r c.args.state.now c.args.own
    c.in-Some.decl.now c.requires.planned c.requires.step standing there q c.in_err-types.ensures.err)

pub returns-in_err-types-clause-stays : goal.returns-in_err-types-clause-stays
returns-in_err-types-clause-stays c =
    stays-walked c.laws.ensures (listing c.args.names.now c.args.files.now) c.args.s.now c.judge_types.new.s c.args.state.now
    (steps_before c.args.plan.now c.args.place) c.judge_types.ensures.sound c.judge_types.ensures.grown c.requires.standing

pub know_types-requires : goal.know_types-requires
know_types-requires c =
    let standing =
    standing-walked c.laws.ensures (listing c.args.names.now c.args.files.now) c.args.s.now c.judge_types.new.s c.args.state.now
    (steps_before c.args.plan.now c.args.place) c.judge_types.ensures.sound c.judge_types.ensures.grown c.requires.standing in
    record { defs = standing.defs }

pub returns-in_err-know_types-clause-stays : goal.returns-in_err-know_types-clause-stays
returns-in_err-know_types-clause-stays c =
    let grown = grown-trans c.args.s.now c.judge_types.new.s c.know_types.new.s c.judge_types.ensures.grown c.know_types.ensures.grown in
    stays-walked c.laws.ensures (listing c.args.names.now c.args.files.now) c.args.s.now c.know_types.new.s c.args.state.now
    (steps_before c.args.plan.now c.args.place) c.know_types.ensures.sound grown c.requires.standing

pub returns-in_err-enter-clause-stays : goal.returns-in_err-enter-clause-stays
returns-in_err-enter-clause-stays c =
    let grown = grown-trans c.args.s.now c.judge_types.new.s c.know_types.new.s c.judge_types.ensures.grown c.know_types.ensures.grown in
    stays-walked c.laws.ensures (listing c.args.names.now c.args.files.now) c.args.s.now c.know_types.new.s c.args.state.now
    (steps_before c.args.plan.now c.args.place) c.know_types.ensures.sound grown c.requires.standing

pub enter-requires-clause-stands : goal.enter-requires-clause-stands
enter-requires-clause-stands c =
    let r = c.judge_types.new.s in
    let f = c.know_types.new.s in
    let more = grown-to r f c.know_types.ensures.sound c.know_types.ensures.grown in
    stand-later r f c.judge_types.ensures.sound more.later c.in_ok-types.types c.in_ok-types.ensures.ok.types.stand

pub enter-requires-clause-fits : goal.enter-requires-clause-fits
enter-requires-clause-fits c =
    let r = c.judge_types.new.s in
    let f = c.know_types.new.s in
    let v = c.judge_types.ensures.sound in
    let more = grown-to r f c.know_types.ensures.sound c.know_types.ensures.grown in
    fit-later r f v more.later (c.laws.ensures.bytes r f v more.later more.same) c.in_ok-types.types c.in_ok-types.ensures.ok.types.stand
    c.in_ok-types.ensures.ok.fit

pub returns-clause-ok : goal.returns-clause-ok
returns-clause-ok c =
    let w = c.laws.ensures in
    let p = listing c.args.names.now c.args.files.now in
    let r = c.judge_types.new.s in
    let f = c.know_types.new.s in
    let xs = steps_before c.args.plan.now c.args.place in
    let a = c.args.state.now in
    let b : State =
    record {
      known = c.know_types.new.known;
      ready = c.args.state.now.ready;
      defined = c.args.state.now.defined;
      waits = c.enter.new.self;
      slots = c.put_slot.new.slots;
    } in
    let t = c.in-Some.decl.now in
    let ts = c.in_ok-types.types in
    let v = c.judge_types.ensures.sound in
    let grown = grown-trans c.args.s.now r f c.judge_types.ensures.grown c.know_types.ensures.grown in
    let more = grown-to r f c.know_types.ensures.sound c.know_types.ensures.grown in
    let standing : IsStanding p f a xs =
    standing-walked w p c.args.s.now f a xs c.know_types.ensures.sound grown c.requires.standing in
    let own = c.in_ok-types.ensures.ok in
    let there : slice_get (decls c.args.files.now) c.args.own ≡ Some t = sym c.declaration_at.ensures ∙ ap option_copied c.in-Some.is in
    let yes : c.is_new.result ≡ true = search (rules, c.if-not-is_new.false) in
    let judges : JudgesTypes p f a b c.args.own t ts =
    record {
      is_there = there;
      new = c.is_new.ensures yes;
      types = types-later r f v more.later p a.known c.args.own t ts own.types;
      fit = fit-later r f v more.later (w.bytes r f v more.later more.same) ts own.types.stand own.fit;
      known = c.in_ok-know_types.ensures.ok;
      ready = refl;
      defined = refl;
      waits = c.in_ok-enter.ensures.ok;
      slots = c.put_slot.ensures;
      defs = c.know_types.ensures.defs;
    } in
    subst (λ ys. IsStanding p f b ys)
    (sym (map-take-next step_of c.args.plan.now.steps.items c.args.place (st.Types c.args.own) c.requires.step))
    (types-go w p f a b xs c.args.own t ts standing judges)

pub returns-clause-stays : goal.returns-clause-stays
returns-clause-stays c =
    let grown = grown-trans c.args.s.now c.judge_types.new.s c.know_types.new.s c.judge_types.ensures.grown c.know_types.ensures.grown in
    stays-walked c.laws.ensures (listing c.args.names.now c.args.files.now) c.args.s.now c.know_types.new.s c.args.state.now
    (steps_before c.args.plan.now c.args.place) c.know_types.ensures.sound grown c.requires.standing
