use Rattle.std.proofs.Common.{rules, ◌≡◌, ◌+◌, ◌∙◌, [], take, slice_get, Some, ap, sym, refl, subst}
use Rattle.std.specs.Prelude.{option_copied}
use denote.Enum.Bare.{same_true, same_false}
use Rattle.hare_tree.specs.declared.kind.Kind.TheVariants as ki
use Rattle.hare_tree.specs.contracts.kind.Kind.{the_type}
use Rattle.hare_tree.specs.Node.{head}
use Rattle.hare_saids.specs.Saids.{decls}
use Rattle.hare_steps.specs.Plans.{listing}
use Rattle.hare_turns.specs.Ends.{AreBodies, IsBodyStop}
use Rattle.hare_types.specs.Sound.{IsStore}
use Rattle.hare_walk.specs.Grown.{IsGrown}
use Rattle.hare_depends.proofs.ListLemmas.{Contains-there}
use Rattle.hare_walk.proofs.Grows.{grown-refl, grown-trans}
use Rattle.hare_walk.proofs.Steps.{err_same}
use Rattle.hare_check.proofs.Walks.Growing.{grown-later}
use Rattle.hare_bodies.specs.Functions.{CanJudge, IsTreeOf, IsStopOf}
use Rattle.hare_bodies.proofs.ListLemmas.{next-function, next-other, next-stop}
use Rattle.hare_bodies.proofs.ReadyLemmas.{can-judge-later}
use Rattle.hare_bodies.proofs.bodies.judge_bodies.Goals.{then-eq+in_ok-body+in_ok-push, else-eq}
use Rattle.hare_bodies.proofs.bodies.judge_bodies.Goals as goal

pub loop-i-init : goal.loop-i-init
loop-i-init c = record {
  can = c.in_ok-can_judge.ensures (search (rules, c.if-not-branch.false));
  bodies =
      subst (λ xs. AreBodies (listing c.args.names.now c.args.files.now) c.args.known.now c.args.s.now 0 [] xs) (sym c.new-bodies.ensures)
      (AreBodies.none 0);
  grown = grown-refl c.args.s.now;
  sound = c.declarations-law.ensures.sound;
}

pub judge_function-requires-clause-shaped : goal.judge_function-requires-clause-shaped
judge_function-requires-clause-shaped c =
    let t = c.in-Some.decl.now in
    let there : slice_get (decls c.args.files.now) c.in-Ok.number ≡ Some t = sym c.declaration_at.ensures ∙ ap option_copied c.in-Some.is in
    c.requires.shaped t (Contains-there (decls c.args.files.now) c.in-Ok.number t there)

pub returns-in_err-body-clause-err : goal.returns-in_err-body-clause-err
returns-in_err-body-clause-err c =
    let names = c.args.names.now in
    let p = listing names c.args.files.now in
    let ds = c.args.known.now in
    let t = c.in-Some.decl.now in
    let r = c.judge_function.new.s in
    let i = c.loop-i.i in
    let q = c.in_err-body.field-0.0 in
    let same : c.in-Ok.number ≡ i = search (rules, c.in-Ok.ensures) in
    let there : slice_get (decls c.args.files.now) c.in-Ok.number ≡ Some t = sym c.declaration_at.ensures ∙ ap option_copied c.in-Some.is in
    let here : slice_get (decls c.args.files.now) i ≡ Some t = subst (λ n. slice_get (decls c.args.files.now) n ≡ Some t) same there in
    let kind = sym (ap (λ u. (head u).kind) c.decl.view_is) ∙ same_true the_type (search rules) _ _ (sym c.eq.ensures ∙ c.if-eq.true) in
    let later = grown-later c.loop-i.s r c.judge_function.ensures.sound c.judge_function.ensures.grown in
    err_same c.from_residual-in_err-body.result q (IsBodyStop p ds r) c.from_residual-in_err-body.ensures.1
    (next-stop p ds names refl c.loop-i.s r later (decls c.args.files.now) i t here c.loop-i.bodies c.loop-i.invariant.bodies q refl kind
    (subst (λ n. IsStopOf names ds r n t q) same c.in_err-body.ensures.err))

pub loop-i-preserved : goal.loop-i-preserved
loop-i-preserved c =
    let names = c.args.names.now in
    let p = listing names c.args.files.now in
    let all = decls c.args.files.now in
    let ds = c.args.known.now in
    let t = c.in-Some.decl.now in
    let i = c.loop-i.i in
    let same : c.in-Ok.number ≡ i = search (rules, c.in-Ok.ensures) in
    let there : slice_get all c.in-Ok.number ≡ Some t = sym c.declaration_at.ensures ∙ ap option_copied c.in-Some.is in
    let here : slice_get all i ≡ Some t = subst (λ n. slice_get all n ≡ Some t) same there in
    let own : c.decl.inside.kind ≡ (head t).kind = ap (λ u. (head u).kind) c.decl.view_is in
    elim c.if-eq.branch [
      | then-eq+in_ok-body+in_ok-push w ↦
          let r = w.judge_function.new.s in
          let kind = sym own ∙ same_true the_type (search rules) _ _ (sym c.eq.ensures ∙ w.if-eq.true) in
          let later = grown-later c.loop-i.s r w.judge_function.ensures.sound w.judge_function.ensures.grown in
          record {
            can =
                subst (λ z. CanJudge z ds) (sym w.s-is)
                (can-judge-later c.loop-i.s r ds c.loop-i.invariant.sound later c.loop-i.invariant.can);
            bodies =
                subst (λ z. AreBodies p ds z 0 (take (i + 1) all) c.if-eq.bodies) (sym w.s-is)
                (next-function p ds names refl c.loop-i.s r later all i t here c.loop-i.bodies c.loop-i.invariant.bodies w.in_ok-body.body
                c.if-eq.bodies kind (subst (λ n. IsTreeOf names ds r n t w.in_ok-body.body) same w.in_ok-body.ensures.ok)
                (w.bodies-is ∙ w.in_ok-push.ensures.ok));
            grown = subst (λ z. IsGrown c.args.s.now z) (sym w.s-is)
                (grown-trans _ _ _ c.loop-i.invariant.grown w.judge_function.ensures.grown);
            sound = subst IsStore (sym w.s-is) w.judge_function.ensures.sound;
          }
      | else-eq w ↦
          let other : ¬ ((head t).kind ≡ ki.Fn) = λ e. same_false the_type _ _ (sym c.eq.ensures ∙ w.if-eq.false) (own ∙ e) in
          record {
            can = subst (λ z. CanJudge z ds) (sym w.s-is) c.loop-i.invariant.can;
            bodies =
                subst (λ z. AreBodies p ds z 0 (take (i + 1) all) c.if-eq.bodies) (sym w.s-is)
                (subst (λ xs. AreBodies p ds c.loop-i.s 0 (take (i + 1) all) xs) (sym w.bodies-is)
                (next-other p ds c.loop-i.s all i t here c.loop-i.bodies c.loop-i.invariant.bodies other));
            grown = subst (λ z. IsGrown c.args.s.now z) (sym w.s-is) c.loop-i.invariant.grown;
            sound = subst IsStore (sym w.s-is) c.loop-i.invariant.sound;
          }
    ]
