use Rattle.hare_types.proofs.LaterLemmas.{later_trans}
use Rattle.rule_judge.proofs.TurnLemmas.{grown_trans}
use Rattle.hare_walk.proofs.Steps.{err_same}
use Rattle.hare_bindings.specs.Own.{IsRowsStop}
use Rattle.hare_bindings.proofs.ToldOfNode.Told.{told_node, place_told, meets, stops}
use Rattle.hare_bindings.proofs.node.judge_node.Goals as goal

pub judge_declaration-requires-clause-told : goal.judge_declaration-requires-clause-told
judge_declaration-requires-clause-told c =
    let grown = grown_trans _ _ _ c.inconstant_place.ensures.grown c.word.ensures.grown in
    told_node c.args.s.now c.word.new.s c.declarations-law.ensures.sound grown.later c.args.decl.now c.args.kids.now c.args.own
    c.in_ok-never.never c.case_of-case.result c.case_of-case.ensures c.requires.shaped c.requires.kids c.requires.types

pub judge_declaration-requires-clause-inconstant : goal.judge_declaration-requires-clause-inconstant
judge_declaration-requires-clause-inconstant c =
    place_told c.args.own c.in_ok-never.never c.args.decl.now c.args.kids.now c.requires.kind c.word.new.s c.in_ok-inconstant.inconstant
    (λ a f l. c.in_ok-inconstant.ensures.place a f (later_trans _ _ f c.word.ensures.grown.later l)) c.new-decls.result c.new-locals.result
    c.case_of-case.result c.new-decls.ensures c.new-locals.ensures c.case_of-case.ensures

pub returns-in_err-_verdict-clause-err : goal.returns-in_err-_verdict-clause-err
returns-in_err-_verdict-clause-err c =
    let own = c.args.own in
    let t = c.args.decl.now in
    let xs = c.args.kids.now in
    let s = c.judge_declaration.new.s in
    let q = c.in_err-_verdict.field-0.0 in
    err_same c.from_residual-in_err-_verdict.result q (IsRowsStop s own t xs) c.from_residual-in_err-_verdict.ensures.1
    (stops own c.in_ok-never.never t xs c.requires.kind s c.new-decls.result c.new-locals.result c.case_of-case.result
    c.new-decls.ensures c.new-locals.ensures c.case_of-case.ensures q c.in_err-_verdict.ensures.err)

pub returns-in_err-_verdict-clause-grown : goal.returns-in_err-_verdict-clause-grown
returns-in_err-_verdict-clause-grown c =
    grown_trans _ _ _ (grown_trans _ _ _ c.inconstant_place.ensures.grown c.word.ensures.grown) c.judge_declaration.ensures.kept

pub returns-clause-ok : goal.returns-clause-ok
returns-clause-ok c =
    meets c.args.own c.in_ok-never.never c.args.decl.now c.args.kids.now c.requires.kind c.judge_declaration.new.s
    c.new-decls.result c.new-locals.result c.case_of-case.result c.new-decls.ensures c.new-locals.ensures c.case_of-case.ensures
    c.in_ok-_verdict._verdict c.in_ok-_verdict.ensures.ok

pub returns-clause-grown : goal.returns-clause-grown
returns-clause-grown c =
    grown_trans _ _ _ (grown_trans _ _ _ c.inconstant_place.ensures.grown c.word.ensures.grown) c.judge_declaration.ensures.kept
