use Rattle.std.proofs.Common.{◌≡◌, ◌++◌, length, refl, map, ap, sym, ◌∙◌, subst}
use Rattle.hare_types.proofs.LaterLemmas.{later_here, later_trans}
use Rattle.hare_told.specs.Settled.{listed_late}
use Rattle.hare_flow.specs.Seen.{given_of}
use Rattle.hare_rules.specs.Context.{Setting}
use Rattle.hare_rules.specs.Above.{Above}
use Rattle.hare_rules.specs.Flow.{Flow}
use Rattle.hare_types.specs.Store.{Store}
use Rattle.hare_tree.specs.Node.{head}
use Rattle.hare_walk.specs.Walks.{IsTurnedBack}
use Rattle.hare_walk.proofs.Steps.{err_same}
use Rattle.hare_rules.specs.Judged.{coercions_from}
use Rattle.rule_judge.specs.Defined.{AreDefinedCoercions}
use Rattle.rule_judge.specs.Turns.{context_in, kind_in, yields_in}
use Rattle.rule_judge.proofs.DefinedLemmas.{ty_stays, coercions_stay}
use Rattle.hare_find.specs.Findings.{IsAtTurn, AreDefinedSettlings}
use Rattle.hare_find.specs.Listed.{yields_listed}
use Rattle.hare_find.proofs.Asked.AtTurn.{asked-at}
use Rattle.hare_find.specs.Settling.{option_in}
use Rattle.hare_find.proofs.Verdicts.Next.{ready_stays}
use Rattle.hare_find.proofs.FoundOfNode.Settled.{AreSettled, settled_many, settled_defined, listed_defined}
use Rattle.hare_find.proofs.FoundOfNode.Judged.{found_judged, turned_back}
use Rattle.hare_find.proofs.finding.find_judged.Goals as goal

pub returns-in_err-v-clause-err : goal.returns-in_err-v-clause-err
returns-in_err-v-clause-err c =
    let t = c.args.t.now in
    let gs = map given_of c.args.gs.now in
    let s = c.judge.new.s in
    let e = c.in_err-v.field-0.0 in
    err_same c.from_residual.result e
    (λ x. (w : Store → Setting) (a : Above) (f : Flow) → IsAtTurn w s a f t gs → IsTurnedBack w s a (head t.node.now) t.kids.now f x)
    c.from_residual.ensures.1
    (λ w a f q.
    turned_back w s a f t gs e (asked-at w c.args.s.now s a f t gs c.judge.ensures.kept.later.sound c.requires.ready.turn q)
    c.in_err-v.ensures.err)

pub list_kids-requires-clause-ready : goal.list_kids-requires-clause-ready
list_kids-requires-clause-ready c =
    ready_stays c.args.s.now c.judge.new.s c.declarations-law.ensures.sound c.judge.ensures.kept.later c.args.t.now c.requires.ready

pub returns-clause-ok : goal.returns-clause-ok
returns-clause-ok c w a f q l d =
    let gs = map given_of c.args.gs.now in
    let s = c.list_kids.new.s in
    found_judged w s a f c.args.t.now gs c.in_ok-v.v
    (record { ty = c.in_ok-v.v.ty; own = c.in_ok-v.v.own; kids = c.in_ok-kids-2.kids; late = c.in_ok-late.late }) l c.requires.kind
    (asked-at w c.args.s.now s a f c.args.t.now gs c.list_kids.ensures.grown.later.sound c.requires.ready.turn q) d
    (c.in_ok-v.ensures.ok l (later_trans c.judge.new.s s l c.list_kids.ensures.grown.later d))
    (record {
      ty = refl;
      own = refl;
      listed = λ e. ap (map option_in) (c.in_ok-kids-2.ensures.listed e) ∙ c.in_ok-kids.ensures.kids l d;
      nones = c.in_ok-kids-2.ensures.nones;
      asked = λ h y. c.in_ok-late.ensures.asked h y ∙ ap (listed_late gs) (c.in_ok-kids.ensures.yields l d);
      hinted = c.in_ok-late.ensures.hinted;
      others = c.in_ok-late.ensures.others;
    })

pub returns-clause-many : goal.returns-clause-many
returns-clause-many c =
    let t = c.args.t.now in
    let n = length t.kids.now in
    let settled : AreSettled (kind_in t) n c.in_ok-kids.field-0.kids c.in_ok-kids-2.kids =
    record { listed = c.in_ok-kids-2.ensures.listed; nones = c.in_ok-kids-2.ensures.nones } in
    settled_many (kind_in t) n c.in_ok-kids.field-0.kids c.in_ok-kids-2.kids settled c.in_ok-kids.ensures.many

pub returns-clause-defined : goal.returns-clause-defined
returns-clause-defined c =
    let t = c.args.t.now in
    let s = c.judge.new.s in
    let new = c.list_kids.new.s in
    let later = c.list_kids.ensures.grown.later in
    let here = later_here new later.sound in
    let x = context_in new t in
    let v = c.in_ok-v.v in
    let d = c.in_ok-v.ensures.defined in
    let sound = c.judge.ensures.kept.later.sound in
    let rest = yields_listed x (yields_in t) in
    let stays : AreDefinedCoercions new v.coerce = coercions_stay s new sound later v.coerce d.coerce in
    let is : v.coerce ≡ coercions_from x 0 t.kids.now ++ rest = (c.in_ok-v.ensures.ok new later).coerce in
    let each = listed_defined new x 0 t.kids.now rest (subst (AreDefinedCoercions new) is stays) in
    let listed : AreDefinedSettlings new (map option_in c.in_ok-kids.field-0.kids) =
    subst (AreDefinedSettlings new) (sym (c.in_ok-kids.ensures.kids new here)) each in
    let settled : AreSettled (kind_in t) (length t.kids.now) c.in_ok-kids.field-0.kids c.in_ok-kids-2.kids =
    record { listed = c.in_ok-kids-2.ensures.listed; nones = c.in_ok-kids-2.ensures.nones } in
    record {
      ty = ty_stays s new sound later v.ty d.ty;
      own = ty_stays s new sound later v.own.to d.own;
      kids = settled_defined new (kind_in t) (length t.kids.now) c.in_ok-kids.field-0.kids c.in_ok-kids-2.kids settled listed;
    }
