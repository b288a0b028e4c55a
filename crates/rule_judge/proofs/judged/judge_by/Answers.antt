use Rattle.std.proofs.Common.{ap, refl, sym, ◌∙◌, ◌++◌, subst}
use Rattle.hare_tree.specs.Node.{head}
use Rattle.hare_types.proofs.LaterLemmas.{later_trans}
use Rattle.hare_rules.specs.Judged.{IsRefusal, yield_coercions}
use Rattle.hare_rules.specs.Control.{block_values}
use Rattle.hare_rules.specs.Settles.{joined_target}
use Rattle.rule_judge.specs.Turns.{context_in, kind_in, yields_in}
use Rattle.rule_judge.proofs.DefinedLemmas.{ty_stays, hint_stays}
use Rattle.rule_judge.proofs.TurnLemmas.{grown_trans, turn_stays}
use Rattle.rule_judge.proofs.JudgedLemmas.{refused_own, refused_last, passed, own_passed, no_row}
use Rattle.rule_judge.proofs.judged.judge_by.Goals as goal

pub returns-in-Some-clause-err : goal.returns-in-Some-clause-err
returns-in-Some-clause-err g c f l =
    refused_own g.R.Rules.asks (context_in f c.args.t.now) (g.met.R.Rules.rows (kind_in c.args.t.now) c.requires.kind) refl c.in-Some.fault
    (sym c.in-Some.is ∙ c.in_ok-fault.ensures.value f l)

pub own_type-requires-clause-turn : goal.own_type-requires-clause-turn
own_type-requires-clause-turn g c = turn_stays c.args.s.now c.own_fault.new.s c.declarations-law.ensures.sound
    c.own_fault.ensures.grown.later c.args.t.now c.requires.turn

pub own_type-requires-clause-rows : goal.own_type-requires-clause-rows
own_type-requires-clause-rows g c f l = own_passed (context_in f c.args.t.now) c.in_ok-fault.field-0 c.in_default.not-Some
    (c.in_ok-fault.ensures.value f l)

pub last_failing-requires-clause-hint : goal.last_failing-requires-clause-hint
last_failing-requires-clause-hint g c =
    let grown = grown_trans c.args.s.now c.own_fault.new.s c.own_type.new.s c.own_fault.ensures.grown c.own_type.ensures.grown in
    hint_stays c.args.s.now c.own_type.new.s c.declarations-law.ensures.sound grown.later c.args.t.now.case.now.hint c.requires.turn.hint

pub returns-in-Some-last_failing-clause-err : goal.returns-in-Some-last_failing-clause-err
returns-in-Some-last_failing-clause-err g c f l =
    let x = context_in f c.args.t.now in
    let before = later_trans c.own_fault.new.s c.own_type.new.s f c.own_type.ensures.grown.later l in
    subst (λ n. IsRefusal x (record { number = c.number.result; place = (head n).place })) (sym c.node.view_is)
    (refused_last g.R.Rules.asks x (g.met.R.Rules.rows (kind_in c.args.t.now) c.requires.kind) refl c.in_ok-ty.ty c.in-Some-last_failing.row
    c.number.result
    (own_passed x c.in_ok-fault.field-0 c.in_default.not-Some (c.in_ok-fault.ensures.value f before)) (c.in_ok-ty.ensures.value f l)
    (c.in-Some-last_failing.ensures f l) c.number.ensures.value)

pub returns-in-Some-last_failing-clause-kept : goal.returns-in-Some-last_failing-clause-kept
returns-in-Some-last_failing-clause-kept g c =
    grown_trans c.args.s.now c.own_fault.new.s c.own_type.new.s c.own_fault.ensures.grown c.own_type.ensures.grown

pub own_coercion-own-requires-clause-hint : goal.own_coercion-own-requires-clause-hint
own_coercion-own-requires-clause-hint g c =
    let grown = grown_trans c.args.s.now c.own_fault.new.s c.own_type.new.s c.own_fault.ensures.grown c.own_type.ensures.grown in
    hint_stays c.args.s.now c.own_type.new.s c.declarations-law.ensures.sound grown.later c.args.t.now.case.now.hint c.requires.turn.hint

pub kid_coercions-requires-clause-turn : goal.kid_coercions-requires-clause-turn
kid_coercions-requires-clause-turn g c =
    let grown = grown_trans c.args.s.now c.own_fault.new.s c.own_type.new.s c.own_fault.ensures.grown c.own_type.ensures.grown in
    turn_stays c.args.s.now c.own_type.new.s c.declarations-law.ensures.sound grown.later c.args.t.now c.requires.turn

pub kid_coercions-requires-clause-needs : goal.kid_coercions-requires-clause-needs
kid_coercions-requires-clause-needs g c =
    g.met.R.Rules.needs_stay c.args.s.now c.own_type.new.s c.args.t.now
    (grown_trans c.args.s.now c.own_fault.new.s c.own_type.new.s c.own_fault.ensures.grown c.own_type.ensures.grown)
    c.requires.needs

pub kid_coercions-requires-clause-rows : goal.kid_coercions-requires-clause-rows
kid_coercions-requires-clause-rows g c f l =
    own_passed (context_in f c.args.t.now) c.in_ok-fault.field-0 c.in_default.not-Some
    (c.in_ok-fault.ensures.value f (later_trans c.own_fault.new.s c.own_type.new.s f c.own_type.ensures.grown.later l))

pub kid_coercions-requires-clause-gives : goal.kid_coercions-requires-clause-gives
kid_coercions-requires-clause-gives g c = c.in_ok-ty.ensures.value

pub kid_coercions-requires-clause-defined : goal.kid_coercions-requires-clause-defined
kid_coercions-requires-clause-defined g c = c.in_ok-ty.ensures.defined

pub add_yields-requires-clause-turn : goal.add_yields-requires-clause-turn
add_yields-requires-clause-turn g c =
    let first = grown_trans c.args.s.now c.own_fault.new.s c.own_type.new.s c.own_fault.ensures.grown c.own_type.ensures.grown in
    let grown = grown_trans c.args.s.now c.own_type.new.s c.kid_coercions.new.s first c.kid_coercions.ensures.grown in
    turn_stays c.args.s.now c.kid_coercions.new.s c.declarations-law.ensures.sound grown.later c.args.t.now c.requires.turn

pub returns-clause-ok : goal.returns-clause-ok
returns-clause-ok g c f l =
    let x = context_in f c.args.t.now in
    let kids = later_trans c.kid_coercions.new.s c.add_yields.new.s f c.add_yields.ensures.grown.later l in
    let ty = later_trans c.own_type.new.s c.kid_coercions.new.s f c.kid_coercions.ensures.grown.later kids in
    let own = later_trans c.own_fault.new.s c.own_type.new.s f c.own_type.ensures.grown.later ty in
    record {
      rows =
          passed g.R.Rules.asks x (g.met.R.Rules.rows (kind_in c.args.t.now) c.requires.kind) refl c.in_ok-ty.ty
          (own_passed x c.in_ok-fault.field-0 c.in_default.not-Some (c.in_ok-fault.ensures.value f own)) (c.in_ok-ty.ensures.value f ty)
          (no_row c.last_failing.result c.in_default-last_failing.not-Some ∙ c.last_failing.ensures f ty);
      type = c.in_ok-ty.ensures.value f ty;
      own = c.own_coercion-own.ensures.value f ty;
      coerce =
          c.in_ok-add_yields.ensures.value f l
          ∙ ap (λ rs. rs ++ yield_coercions f x.hint (joined_target f x.hint (block_values x)) (yields_in c.args.t.now))
          (c.in_ok-coerce.ensures.value f kids);
    }

pub returns-clause-defined : goal.returns-clause-defined
returns-clause-defined g c =
    let sound = c.own_type.ensures.grown.later.sound in
    let grown = grown_trans c.own_type.new.s c.kid_coercions.new.s c.add_yields.new.s c.kid_coercions.ensures.grown
    c.add_yields.ensures.grown in
    record {
      ty = ty_stays c.own_type.new.s c.add_yields.new.s sound grown.later c.in_ok-ty.ty c.in_ok-ty.ensures.defined;
      own = ty_stays c.own_type.new.s c.add_yields.new.s sound grown.later c.own_coercion-own.result.to c.own_coercion-own.ensures.defined;
      coerce = c.in_ok-add_yields.ensures.defined;
    }
