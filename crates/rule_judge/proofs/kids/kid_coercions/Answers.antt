use Rattle.std.proofs.Common.{◌<◌, ◌≤◌, ◌+◌, ◌++◌, length, drop, sym, ap, ◌∙◌, subst, arith, append-nil}
use Rattle.hare_rules.specs.Judged.{coercions_from}
use Rattle.hare_types.proofs.LaterLemmas.{later_trans}
use Rattle.rule_judge.specs.Defined.{AreDefinedCoercions}
use Rattle.rule_judge.specs.Turns.{context_in}
use Rattle.rule_judge.proofs.DefinedLemmas.{ty_stays, coercions_stay}
use Rattle.rule_judge.proofs.TurnLemmas.{grown_trans, turn_stays}
use Rattle.rule_judge.proofs.KidLemmas.{skipped, listed_next, put_listed, some_defined, no_coercion, drop_past}
use Rattle.rule_judge.proofs.YieldLemmas.{coercions_push}
use Rattle.rule_judge.proofs.kids.kid_coercions.Goals as goal
use Rattle.rule_judge.proofs.kids.kid_coercions.Goals.{in-Some+in_ok-push, in_default}

pub kid_coercion-requires-clause-turn : goal.kid_coercion-requires-clause-turn
kid_coercion-requires-clause-turn g c = turn_stays c.args.s.now c.loop-i.s c.declarations-law.ensures.sound c.loop-i.invariant.grown.later
    c.args.t.now c.requires.turn

pub kid_coercion-requires-clause-rows : goal.kid_coercion-requires-clause-rows
kid_coercion-requires-clause-rows g c f l = c.requires.rows f (later_trans c.args.s.now c.loop-i.s f c.loop-i.invariant.grown.later l)

pub kid_coercion-requires-clause-gives : goal.kid_coercion-requires-clause-gives
kid_coercion-requires-clause-gives g c f l = c.requires.gives f (later_trans c.args.s.now c.loop-i.s f c.loop-i.invariant.grown.later l)

pub kid_coercion-requires-clause-defined : goal.kid_coercion-requires-clause-defined
kid_coercion-requires-clause-defined g c =
    ty_stays c.args.s.now c.loop-i.s c.declarations-law.ensures.sound c.loop-i.invariant.grown.later c.args.ty.now c.requires.defined

pub loop-i-preserved : goal.loop-i-preserved
loop-i-preserved g c =
    let now = c.loop-i.s in
    let new = c.kid_coercion.new.s in
    let later = c.kid_coercion.ensures.grown.later in
    let kept = coercions_stay now new c.loop-i.invariant.grown.later.sound later c.loop-i.coercions c.loop-i.invariant.defined in
    record {
      grown = grown_trans c.args.s.now now new c.loop-i.invariant.grown c.kid_coercion.ensures.grown;
      defined =
          elim c.match-branch-2.branch [
            | in-Some+in_ok-push w ↦
                subst (AreDefinedCoercions new) (sym (w.coercions-is ∙ w.in_ok-push.ensures.ok))
                (coercions_push new c.loop-i.coercions w.in-Some.r kept
                (some_defined new c.in_ok-r.field-0 w.in-Some.r c.in_ok-r.ensures.defined w.in-Some.is))
            | in_default w ↦ subst (AreDefinedCoercions new) (sym w.coercions-is) kept
          ];
      rest = λ f l.
          let x = context_in f c.args.t.now in
          let h : c.loop-i.i < length x.kids = omega (arith, c.loop-i-test.true, c.len-i-end.ensures) in
          let before = c.loop-i.invariant.rest f (later_trans now new f later l) in
          let is = c.in_ok-r.ensures.value f l in
          elim c.match-branch-2.branch [
            | in-Some+in_ok-push w ↦
                put_listed c.loop-i.coercions c.match-branch-2.coercions w.in-Some.r _ _ _ before
                (listed_next x c.loop-i.i h w.in-Some.r (sym w.in-Some.is ∙ is))
                (w.coercions-is ∙ w.in_ok-push.ensures.ok)
            | in_default w ↦
                before ∙ ap (λ cs. c.loop-i.coercions ++ cs)
                (skipped x c.loop-i.i h (no_coercion c.in_ok-r.field-0 w.in_default.not-Some ∙ is))
                ∙ ap (λ cs. cs ++ coercions_from x (c.loop-i.i + 1) (drop (c.loop-i.i + 1) x.kids)) (sym w.coercions-is)
          ];
    }

pub returns-clause-value : goal.returns-clause-value
returns-clause-value g c f l =
    let xs = c.args.t.now.kids.now in
    let past : length xs ≤ c.loop-i.i = omega (arith, c.loop-i-test.false, c.len-i-end.ensures) in
    sym (c.loop-i.invariant.rest f l ∙ ap (λ ys. c.loop-i.coercions ++ coercions_from (context_in f c.args.t.now) c.loop-i.i ys)
    (drop_past xs c.loop-i.i past) ∙ append-nil c.loop-i.coercions)
