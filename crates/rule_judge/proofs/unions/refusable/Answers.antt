use Rattle.std.proofs.Common.{sym, subst}
use Rattle.std.proofs.lemmas.Result.{IfOk-weaker}
use Rattle.std.specs.Prelude.{ℕ, Contains}
use Rattle.hare_types.specs.Rows.{AreMembers}
use Rattle.hare_types.proofs.LaterLemmas.{later_trans}
use Rattle.rule_judge.specs.Defined.{IsDefined}
use Rattle.rule_judge.proofs.TurnLemmas.{grown_trans}
use Rattle.rule_judge.proofs.UnionLemmas.{both_held, are_members, refusable_stays, refusal_is}
use Rattle.rule_judge.proofs.unions.refusable.Goals as goal

pub entered-requires-clause-held : goal.entered-requires-clause-held
entered-requires-clause-held c =
    let now = c.nomem.new.s in
    let t = refusable_stays c.args.s.now now c.declarations-law.ensures.sound c.nomem.ensures.grown.later c.args.t c.requires.kept in
    subst (λ is. (i : ℕ) → Contains is i → IsDefined now i) (sym c.in_ok-members.ensures)
    (both_held now c.args.t c.in_ok-n.n t.defined c.in_ok-n.ensures.defined)

pub entered-requires-clause-reduced : goal.entered-requires-clause-reduced
entered-requires-clause-reduced c =
    let now = c.nomem.new.s in
    let t = refusable_stays c.args.s.now now c.declarations-law.ensures.sound c.nomem.ensures.grown.later c.args.t c.requires.kept in
    subst (λ is. AreMembers now.rows is) (sym c.in_ok-members.ensures) (are_members now c.args.t c.in_ok-n.n t c.in_ok-n.ensures.row)

pub returns-clause-id : goal.returns-clause-id
returns-clause-id c =
    IfOk-weaker c.entered.result _ _
    (λ u h f l. refusal_is f c.args.t c.in_ok-n.n u c.in_ok-members.members
    (c.in_ok-n.ensures.id f (later_trans c.nomem.new.s c.entered.new.s f c.entered.ensures.grown.later l)) c.in_ok-members.ensures
    (h f l))
    c.entered.ensures.id

pub returns-clause-grown : goal.returns-clause-grown
returns-clause-grown c = grown_trans c.args.s.now c.nomem.new.s c.entered.new.s c.nomem.ensures.grown c.entered.ensures.grown
