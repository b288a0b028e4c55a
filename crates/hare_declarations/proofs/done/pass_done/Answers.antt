use Rattle.std.proofs.Common.{rules, ◌≡◌, ◌∙◌, true, false, slice_get, Some, None, refl, ap, sym, subst}
use Rattle.std.specs.Prelude.{option_copied, Ok}
use Rattle.hare_saids.specs.Saids.{decls}
use Rattle.hare_tree.specs.Node.{head}
use Rattle.hare_modules.specs.Declarations.{is_type_decl}
use Rattle.hare_steps.specs.declared.step.Step.TheVariants as st
use Rattle.hare_steps.specs.Plans.{listing, step_of}
use Rattle.hare_waits.specs.declared.waiting.Late.{Late}
use Rattle.hare_declarations.specs.declared.state.State.{State}
use Rattle.hare_declarations.specs.Standing.{IsStanding, steps_before}
use Rattle.hare_declarations.proofs.JudgedByStage.Lists.{map-take-next}
use Rattle.hare_declarations.proofs.WhileStoresGrow.Stores.{defines-also}
use Rattle.hare_declarations.proofs.OneMore.Done.{DefinesType, WaitsNow, is-type, no-type, other-goes, type-stays, type-goes, type-stop}
use Rattle.hare_declarations.proofs.done.pass_done.Goals as goal

pub returns-then-not-is_type-clause-ok : goal.returns-then-not-is_type-clause-ok
returns-then-not-is_type-clause-ok c =
    let p = listing c.args.names.now c.args.files.now in
    let a = c.args.state.now in
    let xs = steps_before c.args.plan.now c.args.place in
    let t = c.in-Some.decl.now in
    let q = c.in-Some-parts_at.parts.now in
    let there : slice_get (decls c.args.files.now) c.args.own ≡ Some t = sym c.declaration_at.ensures ∙ ap option_copied c.in-Some.is in
    let slot : slice_get a.slots.items c.args.own ≡ Some (Some q) = search rules in
    let other : is_type_decl (head t).kind ≡ false = sym c.is_type.ensures ∙ c.if-not-is_type.true in
    subst (λ ys. IsStanding p c.args.s.now a ys)
    (sym (map-take-next step_of c.args.plan.now.steps.items c.args.place (st.Done c.args.own) c.requires.step))
    (other-goes c.laws.ensures p c.args.s.now a xs c.args.own t q c.requires.standing there slot (no-type t other))

pub returns-in_err-late-clause-stays : goal.returns-in_err-late-clause-stays
returns-in_err-late-clause-stays c =
    let p = listing c.args.names.now c.args.files.now in
    let s = c.args.s.now in
    let r = c.define_written.new.s in
    let a = c.args.state.now in
    let xs = steps_before c.args.plan.now c.args.place in
    let t = c.in-Some.decl.now in
    let q = c.in-Some-parts_at.parts.now in
    let there : slice_get (decls c.args.files.now) c.args.own ≡ Some t = sym c.declaration_at.ensures ∙ ap option_copied c.in-Some.is in
    let slot : slice_get a.slots.items c.args.own ≡ Some (Some q) = search rules in
    let kind : is_type_decl (head t).kind ≡ true = sym c.is_type.ensures ∙ c.if-not-is_type.false in
    let defines : DefinesType p s r a c.args.own t q =
    record { is_there = there; sort = is-type t kind; there = slot; more = c.in_ok-define_written.ensures.ok } in
    type-stays c.laws.ensures p s r a xs c.args.own t q c.requires.standing defines

pub returns-in-Some-2-clause-stays : goal.returns-in-Some-2-clause-stays
returns-in-Some-2-clause-stays c =
    let p = listing c.args.names.now c.args.files.now in
    let s = c.args.s.now in
    let r = c.define_written.new.s in
    let a = c.args.state.now in
    let xs = steps_before c.args.plan.now c.args.place in
    let t = c.in-Some.decl.now in
    let q = c.in-Some-parts_at.parts.now in
    let there : slice_get (decls c.args.files.now) c.args.own ≡ Some t = sym c.declaration_at.ensures ∙ ap option_copied c.in-Some.is in
    let slot : slice_get a.slots.items c.args.own ≡ Some (Some q) = search rules in
    let kind : is_type_decl (head t).kind ≡ true = sym c.is_type.ensures ∙ c.if-not-is_type.false in
    let defines : DefinesType p s r a c.args.own t q =
    record { is_there = there; sort = is-type t kind; there = slot; more = c.in_ok-define_written.ensures.ok } in
    type-stays c.laws.ensures p s r a xs c.args.own t q c.requires.standing defines

pub returns-in-None-clause-stays : goal.returns-in-None-clause-stays
returns-in-None-clause-stays c =
    let p = listing c.args.names.now c.args.files.now in
    let s = c.args.s.now in
    let r = c.define_written.new.s in
    let a = c.args.state.now in
    let xs = steps_before c.args.plan.now c.args.place in
    let t = c.in-Some.decl.now in
    let q = c.in-Some-parts_at.parts.now in
    let there : slice_get (decls c.args.files.now) c.args.own ≡ Some t = sym c.declaration_at.ensures ∙ ap option_copied c.in-Some.is in
    let slot : slice_get a.slots.items c.args.own ≡ Some (Some q) = search rules in
    let kind : is_type_decl (head t).kind ≡ true = sym c.is_type.ensures ∙ c.if-not-is_type.false in
    let defines : DefinesType p s r a c.args.own t q =
    record { is_there = there; sort = is-type t kind; there = slot; more = c.in_ok-define_written.ensures.ok } in
    type-stays c.laws.ensures p s r a xs c.args.own t q c.requires.standing defines

pub returns-in-Some-2-clause-err : goal.returns-in-Some-2-clause-err
returns-in-Some-2-clause-err c =
    let p = listing c.args.names.now c.args.files.now in
    let s = c.args.s.now in
    let r = c.define_written.new.s in
    let a = c.args.state.now in
    let xs = steps_before c.args.plan.now c.args.place in
    let t = c.in-Some.decl.now in
    let q = c.in-Some-parts_at.parts.now in
    let there : slice_get (decls c.args.files.now) c.args.own ≡ Some t = sym c.declaration_at.ensures ∙ ap option_copied c.in-Some.is in
    let slot : slice_get a.slots.items c.args.own ≡ Some (Some q) = search rules in
    let kind : is_type_decl (head t).kind ≡ true = sym c.is_type.ensures ∙ c.if-not-is_type.false in
    let defines : DefinesType p s r a c.args.own t q =
    record { is_there = there; sort = is-type t kind; there = slot; more = c.in_ok-define_written.ensures.ok } in
    let e : Late = c.in-Some-2.late in
    let is : c.done.result ≡ Ok (Some e) = c.in_ok-late.was ∙ ap Ok c.in-Some-2.is in
    let also = defines-also s r c.args.own _ defines.more in
    let late = c.done.ensures.some e is s c.requires.standing.stage.typed also c.requires.standing.awaited in
    type-stop c.laws.ensures c.args.names.now c.args.files.now c.args.plan.now c.args.place s r a c.args.own e.decl t q e.place
    c.requires.planned c.requires.step c.requires.standing defines late

pub returns-in-None-clause-ok : goal.returns-in-None-clause-ok
returns-in-None-clause-ok c =
    let p = listing c.args.names.now c.args.files.now in
    let s = c.args.s.now in
    let r = c.define_written.new.s in
    let a = c.args.state.now in
    let xs = steps_before c.args.plan.now c.args.place in
    let t = c.in-Some.decl.now in
    let q = c.in-Some-parts_at.parts.now in
    let there : slice_get (decls c.args.files.now) c.args.own ≡ Some t = sym c.declaration_at.ensures ∙ ap option_copied c.in-Some.is in
    let slot : slice_get a.slots.items c.args.own ≡ Some (Some q) = search rules in
    let kind : is_type_decl (head t).kind ≡ true = sym c.is_type.ensures ∙ c.if-not-is_type.false in
    let defines : DefinesType p s r a c.args.own t q =
    record { is_there = there; sort = is-type t kind; there = slot; more = c.in_ok-define_written.ensures.ok } in
    let b : State = record { known = a.known; ready = a.ready; defined = a.defined; waits = c.done.new.self; slots = a.slots } in
    let is : c.done.result ≡ Ok None = c.in_ok-late.was ∙ ap Ok c.in-None.is in
    let also = defines-also s r c.args.own _ defines.more in
    let now : WaitsNow s r a b =
    record { waits = λ js h. c.done.ensures.none is s js also h; known = refl; ready = refl; defined = refl; slots = refl } in
    subst (λ ys. IsStanding p r b ys)
    (sym (map-take-next step_of c.args.plan.now.steps.items c.args.place (st.Done c.args.own) c.requires.step))
    (type-goes c.laws.ensures p s r a xs c.args.own t q c.requires.standing defines b now)
