use Rattle.std.proofs.Common.{◌≡◌}
use Rattle.hare_modules.specs.Uses.{kid}
use Rattle.hare_modules.proofs.Trees.{kid-there}
use Rattle.hare_steps.specs.Plans.{listing}
use Rattle.hare_walk.proofs.Grows.{grown-trans}
use Rattle.hare_walk.proofs.Steps.{err_same}
use Rattle.hare_check.proofs.Walks.Growing.{grown-later}
use Rattle.hare_values.specs.Values.{IsValueStop}
use Rattle.hare_values.proofs.SaidOfValue.Answers.{erased, stop-inside, value-of, stop-itself}
use Rattle.hare_values.proofs.ReadyToJudge.Ready.{taken-later}
use Rattle.hare_values.proofs.ReadyToJudge.Shape.{value-shaped}
use Rattle.hare_values.proofs.value.judge_value.Goals as goal

pub typed_value-requires-clause-shaped : goal.typed_value-requires-clause-shaped
typed_value-requires-clause-shaped c =
    value-shaped _ _ c.args.decl.now c.in-Some.value.now c.decl.view_is c.requires.kind c.requires.shaped c.in-Some.ensures.found

-- ---- the value has a fault

pub returns-in_err-typed-clause-err : goal.returns-in_err-typed-clause-err
returns-in_err-typed-clause-err c =
    let p = listing c.args.program.names.now c.args.program.files.now in
    let ds = c.args.program.known.now in
    let t = c.args.decl.now in
    let b = c.in-Some.value.now in
    let is : b ≡ kid t 3 = kid-there _ _ t b 3 c.decl.view_is c.in-Some.ensures.found in
    let q = c.in_err-typed.field-0.0 in
    err_same c.from_residual-in_err-typed.result q (IsValueStop p ds c.typed_value.new.s c.args.own t c.args.types.now)
    c.from_residual-in_err-typed.ensures.1
    (stop-inside p ds c.typed_value.new.s c.args.own t b c.args.types.now c.hint_by-hint.result is c.hint_by-hint.ensures q
    c.in_err-typed.ensures.err)

pub returns-in_err-typed-clause-defined : goal.returns-in_err-typed-clause-defined
returns-in_err-typed-clause-defined c =
    c.law_defined_types_stay.ensures c.args.s.now c.typed_value.new.s c.can_judge.new.defined c.declarations-law.ensures.sound
    (grown-later c.args.s.now c.typed_value.new.s c.typed_value.ensures.sound c.typed_value.ensures.grown) c.can_judge.ensures.defined

pub returns-in_err-typed-clause-taken : goal.returns-in_err-typed-clause-taken
returns-in_err-typed-clause-taken c =
    taken-later c.args.s.now c.typed_value.new.s c.declarations-law.ensures.sound
    (grown-later c.args.s.now c.typed_value.new.s c.typed_value.ensures.sound c.typed_value.ensures.grown) c.args.program.known.now
    c.can_judge.new.ready c.can_judge.ensures.taken

-- ---- it has a tree

pub judge_binding-requires-clause-value : goal.judge_binding-requires-clause-value
judge_binding-requires-clause-value c =
    let p = listing c.args.program.names.now c.args.program.files.now in
    let t = c.args.decl.now in
    let b = c.in-Some.value.now in
    let is : b ≡ kid t 3 = kid-there _ _ t b 3 c.decl.view_is c.in-Some.ensures.found in
    erased p c.args.program.known.now c.typed_value.new.s c.args.own t b c.args.types.now c.hint_by-hint.result is c.hint_by-hint.ensures
    c.typed_value.ensures.sound c.in_ok-typed.typed c.in_ok-typed.ensures.ok

pub judge_binding-requires-clause-defined : goal.judge_binding-requires-clause-defined
judge_binding-requires-clause-defined c =
    c.law_defined_types_stay.ensures c.args.s.now c.typed_value.new.s c.can_judge.new.defined c.declarations-law.ensures.sound
    (grown-later c.args.s.now c.typed_value.new.s c.typed_value.ensures.sound c.typed_value.ensures.grown) c.can_judge.ensures.defined

-- ---- the declaration has a fault

pub returns-in_err-judge_binding-clause-err : goal.returns-in_err-judge_binding-clause-err
returns-in_err-judge_binding-clause-err c =
    let p = listing c.args.program.names.now c.args.program.files.now in
    let ds = c.args.program.known.now in
    let s = c.typed_value.new.s in
    let r = c.judge_binding.new.s in
    let t = c.args.decl.now in
    let b = c.in-Some.value.now in
    let is : b ≡ kid t 3 = kid-there _ _ t b 3 c.decl.view_is c.in-Some.ensures.found in
    let q = c.in_err-judge_binding.field-0.0 in
    let later = grown-later s r c.judge_binding.ensures.sound c.judge_binding.ensures.grown in
    err_same c.from_residual-in_err-judge_binding.result q (IsValueStop p ds r c.args.own t c.args.types.now)
    c.from_residual-in_err-judge_binding.ensures.1
    (stop-itself p ds s c.args.own t b c.args.types.now c.hint_by-hint.result is c.hint_by-hint.ensures r later c.in_ok-typed.typed
    c.in_ok-typed.ensures.ok q c.in_err-judge_binding.ensures.err)

pub returns-in_err-judge_binding-clause-taken : goal.returns-in_err-judge_binding-clause-taken
returns-in_err-judge_binding-clause-taken c =
    let grown = grown-trans _ _ _ c.typed_value.ensures.grown c.judge_binding.ensures.grown in
    taken-later c.args.s.now c.judge_binding.new.s c.declarations-law.ensures.sound
    (grown-later c.args.s.now c.judge_binding.new.s c.judge_binding.ensures.sound grown) c.args.program.known.now c.can_judge.new.ready
    c.can_judge.ensures.taken

pub returns-in_err-judge_binding-clause-grown : goal.returns-in_err-judge_binding-clause-grown
returns-in_err-judge_binding-clause-grown c = grown-trans _ _ _ c.typed_value.ensures.grown c.judge_binding.ensures.grown

-- ---- it has none

pub returns-clause-ok : goal.returns-clause-ok
returns-clause-ok c =
    let p = listing c.args.program.names.now c.args.program.files.now in
    let ds = c.args.program.known.now in
    let s = c.typed_value.new.s in
    let r = c.judge_binding.new.s in
    let t = c.args.decl.now in
    let b = c.in-Some.value.now in
    let is : b ≡ kid t 3 = kid-there _ _ t b 3 c.decl.view_is c.in-Some.ensures.found in
    let later = grown-later s r c.judge_binding.ensures.sound c.judge_binding.ensures.grown in
    let can = c.in_ok-can_judge.ensures.value c.if-not-branch.false in
    value-of p ds s c.args.own t b c.args.types.now c.hint_by-hint.result is c.hint_by-hint.ensures r later c.in_ok-typed.typed
    c.in_ok-typed.ensures.ok c.typed_value.ensures.sound can.readable c.in_ok-judge_binding.ensures.ok

pub returns-clause-taken : goal.returns-clause-taken
returns-clause-taken c =
    let grown = grown-trans _ _ _ c.typed_value.ensures.grown c.judge_binding.ensures.grown in
    taken-later c.args.s.now c.judge_binding.new.s c.declarations-law.ensures.sound
    (grown-later c.args.s.now c.judge_binding.new.s c.judge_binding.ensures.sound grown) c.args.program.known.now c.can_judge.new.ready
    c.can_judge.ensures.taken

pub returns-clause-grown : goal.returns-clause-grown
returns-clause-grown c = grown-trans _ _ _ c.typed_value.ensures.grown c.judge_binding.ensures.grown
