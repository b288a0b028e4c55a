use Rattle.std.proofs.Common.{sym, ◌∙◌, subst}
use Rattle.hare_types.proofs.LaterLemmas.{later_trans}
use Rattle.rule_judge.specs.Defined.{IsDefinedTy}
use Rattle.rule_judge.specs.Turns.{context_in}
use Rattle.rule_judge.proofs.DefinedLemmas.{ty_stays}
use Rattle.rule_judge.proofs.TurnLemmas.{grown_trans, turn_stays}
use Rattle.rule_judge.proofs.KidLemmas.{own_defined, listed_is}
use Rattle.rule_judge.proofs.kids.kid_coercion.Goals as goal

pub target-requires-clause-turn : goal.target-requires-clause-turn
target-requires-clause-turn g c = turn_stays c.args.s.now c.was_hinted.new.s c.declarations-law.ensures.sound
    c.was_hinted.ensures.grown.later c.args.t.now c.requires.turn

pub target-requires-clause-rows : goal.target-requires-clause-rows
target-requires-clause-rows g c f l = c.requires.rows f (later_trans c.args.s.now c.was_hinted.new.s f c.was_hinted.ensures.grown.later l)

pub target-requires-clause-gives : goal.target-requires-clause-gives
target-requires-clause-gives g c f l = c.requires.gives f (later_trans c.args.s.now c.was_hinted.new.s f c.was_hinted.ensures.grown.later l)

pub target-requires-clause-defined : goal.target-requires-clause-defined
target-requires-clause-defined g c =
    ty_stays c.args.s.now c.was_hinted.new.s c.declarations-law.ensures.sound c.was_hinted.ensures.grown.later c.args.ty.now
    c.requires.defined

pub to_type-requires-clause-value : goal.to_type-requires-clause-value
to_type-requires-clause-value g c =
    let grown = grown_trans c.args.s.now c.was_hinted.new.s c.target.new.s c.was_hinted.ensures.grown c.target.ensures.grown in
    let turn = turn_stays c.args.s.now c.target.new.s c.declarations-law.ensures.sound grown.later c.args.t.now c.requires.turn in
    subst (IsDefinedTy c.target.new.s) (sym c.type_at-own.ensures) (own_defined c.target.new.s c.args.t.now.kids.now c.args.i turn.types)

pub returns-clause-value : goal.returns-clause-value
returns-clause-value g c f l =
    listed_is (context_in f c.args.t.now) c.args.i c.type_at-own.result c.in_ok-to.to c.to_type.result
    (sym (c.in_ok-was_hinted.ensures.value f (later_trans c.was_hinted.new.s c.target.new.s f c.target.ensures.grown.later l)) ∙
    c.if-branch.false) (c.to_type.ensures.value f l)
    c.type_at-own.ensures (c.in_ok-to.ensures.value f l)
