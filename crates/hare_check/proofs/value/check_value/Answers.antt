use Rattle.std.proofs.Common.{ap, ◌∙◌}
use Rattle.hare_tree.specs.Node.{head}
use Rattle.hare_types.proofs.LaterLemmas.{later_trans}
use Rattle.rule_judge.proofs.DefinedLemmas.{hint_stays}
use Rattle.hare_walk.proofs.Grows.{grown-trans}
use Rattle.hare_whole.specs.Declared as whole
use Rattle.hare_check.specs.Answers.{program_in, over_value}
use Rattle.hare_check.proofs.Walks.Values.{over-value, judged-trees, judged-answers}
use Rattle.hare_check.proofs.Walks.Growing.{known_stays, decls_stay, grown-types, grown-later}
use Rattle.hare_check.proofs.value.check_value.Goals as goal

pub check_by-judged-requires-clause-ready : goal.check_by-judged-requires-clause-ready
check_by-judged-requires-clause-ready c =
    let s = c.args.s.now in
    let r = c.word-entered.new.s in
    let ds = c.args.env.now.decls.now in
    let v = c.declarations-law.ensures.sound in
    let l = c.in_ok-never.ensures.grown.later in
    c.in_ok-w.ensures.walks r (known_stays s r v l ds c.requires.known)
    (decls_stay s r v l ds c.requires.decls) c.in_ok-never.ensures.defined
    (hint_stays s r v l c.args.hint c.requires.hint) (head c.args.value.now).kind

pub returns-clause-ok : goal.returns-clause-ok
returns-clause-ok c =
    let s = c.word-entered.new.s in
    let r = c.check_by-judged.new.s in
    let e = c.args.env.now in
    let w = c.in_ok-w.w in
    let h = c.args.hint in
    let later = grown-later s r c.declarations-sound.ensures.sound c.check_by-judged.ensures.grown in
    judged-trees r c.args.value.now e.names.now w.names.now e.decls.now w.decls.now (over_value e h) w.standing.above
    (whole.before_value c.args.value.now) w.seen c.check_by-judged.result
    (λ l k. record {
      names = c.in_ok-w.ensures.names;
      decls = c.in_ok-w.ensures.decls;
      above =
          ap (λ z. z.above) c.in_ok-w.ensures.standing
          ∙ over-value (program_in e l) e.own c.in_ok-never.never h (c.in_ok-never.ensures.id l (later_trans s r l later k));
      flow = c.in_ok-w.ensures.seen;
    })
    c.check_by-judged.ensures.ok

pub returns-clause-err : goal.returns-clause-err
returns-clause-err c =
    let s = c.word-entered.new.s in
    let r = c.check_by-judged.new.s in
    let e = c.args.env.now in
    let w = c.in_ok-w.w in
    let h = c.args.hint in
    let later = grown-later s r c.declarations-sound.ensures.sound c.check_by-judged.ensures.grown in
    judged-answers r c.args.value.now e.names.now w.names.now e.decls.now w.decls.now (over_value e h) w.standing.above
    (whole.before_value c.args.value.now) w.seen c.check_by-judged.result
    (λ l k. record {
      names = c.in_ok-w.ensures.names;
      decls = c.in_ok-w.ensures.decls;
      above =
          ap (λ z. z.above) c.in_ok-w.ensures.standing
          ∙ over-value (program_in e l) e.own c.in_ok-never.never h (c.in_ok-never.ensures.id l (later_trans s r l later k));
      flow = c.in_ok-w.ensures.seen;
    })
    c.check_by-judged.ensures.err

pub returns-clause-grown : goal.returns-clause-grown
returns-clause-grown c =
    grown-trans c.args.s.now c.word-entered.new.s c.check_by-judged.new.s
    (grown-types c.args.s.now c.word-entered.new.s c.in_ok-never.ensures.grown) c.check_by-judged.ensures.grown
