use Rattle.hare_tree.specs.declared.stop.Stop.TheVariants.{Memory}
use Rattle.hare_whole.specs.Judged.{IsFinal}
use Rattle.hare_walk.proofs.Steps.{err_same}
use Rattle.hare_unit.specs.Programs.{listing_of, IsPhaseStop}
use Rattle.hare_unit.proofs.PhaseByPhase.ToBodies.{AreJudgedWith, AreFinishedWith, circle-stops, declaration-stops, body-stops}
use Rattle.hare_unit.proofs.PhaseByPhase.ToBodies.{judged-finished}
use Rattle.hare_unit.proofs.phases.judge.Goals as goal

pub returns-in_err-plan-clause-err : goal.returns-in_err-plan-clause-err
returns-in_err-plan-clause-err c =
    let n = c.args.named.now in
    let e = c.in_err-plan.field-0.0 in
    err_same c.from_residual.result e (IsPhaseStop n) c.from_residual.ensures.1 (circle-stops n e c.in_err-plan.ensures.err)

pub returns-in_err-judged-clause-err : goal.returns-in_err-judged-clause-err
returns-in_err-judged-clause-err c =
    let n = c.args.named.now in
    let e = c.in_err-judged.field-0.0 in
    let final : IsFinal (listing_of n) c.judge_declarations.new.s =
    record { declared = c.judge_declarations.ensures.declared; nomem = c.judge_declarations.ensures.nomem } in
    err_same c.from_residual-in_err-judged.result e (IsPhaseStop n) c.from_residual-in_err-judged.ensures.1
    (declaration-stops n c.judge_declarations.new.s e final c.in_err-judged.ensures.err)

pub returns-in_err-bodies-clause-err : goal.returns-in_err-bodies-clause-err
returns-in_err-bodies-clause-err c =
    let n = c.args.named.now in
    let e = c.in_err-bodies.field-0.0 in
    let with : AreJudgedWith (listing_of n) c.judge_declarations.new.s c.judge_bodies.new.s c.in_ok-judged.judged =
    record {
      judged = c.in_ok-judged.ensures.ok;
      sound = c.judge_declarations.ensures.declared.sound;
      grown = c.judge_bodies.ensures.grown;
      sound_behind = c.judge_bodies.ensures.sound;
    } in
    err_same c.from_residual-in_err-bodies.result e (IsPhaseStop n) c.from_residual-in_err-bodies.ensures.1
    (body-stops c.law_bodies_stop.ensures n c.judge_declarations.new.s c.judge_bodies.new.s c.in_ok-judged.judged e with
    c.in_err-bodies.ensures.err)

pub returns-in_err-decls-clause-err : goal.returns-in_err-decls-clause-err
returns-in_err-decls-clause-err c =
    err_same c.from_residual-in_err-decls.result Memory (IsPhaseStop c.args.named.now) c.from_residual-in_err-decls.ensures.1 tt

pub returns-clause-ok : goal.returns-clause-ok
returns-clause-ok c =
    let p = listing_of c.args.named.now in
    let s = c.judge_declarations.new.s in
    let r = c.judge_bodies.new.s in
    let f = c.finish_all.new.s in
    let with : AreFinishedWith p s r f c.in_ok-judged.judged c.in_ok-bodies.bodies c.in_ok-decls.decls =
    record {
      judged = record {
        judged = c.in_ok-judged.ensures.ok;
        sound = c.judge_declarations.ensures.declared.sound;
        grown = c.judge_bodies.ensures.grown;
        sound_behind = c.judge_bodies.ensures.sound;
      };
      bodies = c.in_ok-bodies.ensures.ok;
      grown = c.finish_all.ensures.grown;
      sound = c.finish_all.ensures.sound;
      finished = c.in_ok-decls.ensures.ok;
    } in
    judged-finished c.law_finished_are_typed.ensures c.law_stages_stay.ensures c.law_ends_are_seen.ensures p s r f c.in_ok-judged.judged
    c.in_ok-bodies.bodies c.in_ok-decls.decls with
