use Rattle.std.proofs.Common.{length, map, refl, ap, sym, ◌∙◌, subst}
use Rattle.hare_tree.specs.Node.{head}
use Rattle.hare_types.specs.Store.{Store}
use Rattle.hare_types.specs.Later.{IsLater}
use Rattle.hare_types.proofs.LaterLemmas.{later_trans}
use Rattle.hare_flow.specs.Seen.{given_of}
use Rattle.hare_find.specs.Yields.{AreDefinedGivens}
use Rattle.hare_find.proofs.YieldsSeen.DefinedTypes.{givens_defined}
use Rattle.hare_check.specs.Nodes.{above_of}
use Rattle.hare_check.proofs.NodeAtHand.Later.{node-grown, ready-turn, at-turn}
use Rattle.hare_check.proofs.FoundOfNode.Judging.{judged-answer, judged-stop}
use Rattle.hare_check.proofs.walker.Walker.find_by_judge.Goals as goal

pub told_yields-requires : goal.told_yields-requires
told_yields-requires c =
    let w = c.args.self.now in
    let s = c.look.new.s in
    let a = node-grown c.args.s.now s w c.args.node.now c.args.kids.now c.declarations-law.ensures.sound c.in_ok-look.ensures.grown
    c.requires.node in
    let e = ap (map given_of) c.as_slice.ensures ∙ c.in_ok-gs.ensures in
    subst (AreDefinedGivens s) (sym e)
    (givens_defined s (head c.args.node.now).kind (length (above_of w).inside.labels) w.seen.yields a.walks.1.yields)

pub find_judged-requires-clause-ready : goal.find_judged-requires-clause-ready
find_judged-requires-clause-ready c =
    let w = c.args.self.now in
    let n = c.args.node.now in
    let xs = c.args.kids.now in
    let s = c.look.new.s in
    let r = c.told_yields.new.s in
    let a = node-grown c.args.s.now s w n xs c.declarations-law.ensures.sound c.in_ok-look.ensures.grown c.requires.node in
    let b = node-grown s r w n xs c.in_ok-look.ensures.grown.later.sound c.in_ok-yields.ensures.grown a in
    ready-turn r w _ c.tell.new.self b c.requires.kind
    (record {
      node = refl;
      kids = refl;
      decls = refl;
      locals = refl;
      case = c.case.ensures;
      above = ap (λ z. z.above) c.tell.ensures;
    })
    (rw c.tell.ensures (c.is_known.ensures c.if-not-is_known.false r b.walks.1.decls b.walks.1.locals))
    (rw c.tell.ensures c.in_ok-yields.ensures.defined)

pub returns-clause-ok : goal.returns-clause-ok
returns-clause-ok c =
    let w = c.args.self.now in
    let n = c.args.node.now in
    let xs = c.args.kids.now in
    let s0 = c.args.s.now in
    let s1 = c.look.new.s in
    let s2 = c.told_yields.new.s in
    let r = c.find_judged.new.s in
    let v0 = c.declarations-law.ensures.sound in
    let g1 = c.in_ok-look.ensures.grown in
    let g2 = c.in_ok-yields.ensures.grown in
    let g3 = c.find_judged.ensures.grown in
    let a1 = node-grown s0 s1 w n xs v0 g1 c.requires.node in
    let a2 = node-grown s1 s2 w n xs g1.later.sound g2 a1 in
    let a3 = node-grown s2 r w n xs g2.later.sound g3 a2 in
    let later1 : (l : Store) → IsLater r l → IsLater s1 l = λ l d. later_trans s1 s2 l g2.later (later_trans s2 r l g3.later d) in
    let given = ap (map given_of) c.as_slice-2.ensures ∙ c.in_ok-gs.ensures in
    let turn =
    at-turn r w _ c.tell.new.self (map given_of c.as_slice-2.result.now) a3
    (record {
      node = refl;
      kids = refl;
      decls = refl;
      locals = refl;
      case = c.case.ensures;
      above = ap (λ z. z.above) c.tell.ensures;
    })
    c.requires.role (λ v e. ap (λ z. z.meaning) c.tell.ensures ∙ c.path_meaning-meaning.ensures v e) given
    (λ l d.
    let k = c.in_ok-yields.ensures.told l (later_trans s2 r l g3.later d) in
    rw (c.tell.ensures, c.as_slice-2.ensures) (rw c.as_slice.ensures at k))
    (λ l d. c.in_ok-look.ensures.looked l (later1 l d)) in
    judged-answer r w _ (map given_of c.as_slice-2.result.now) c.find_judged.result
    (record {
      sound = g3.later.sound;
      kind = c.requires.kind;
      role = c.requires.role;
      kept = a3.kept;
      hand = c.requires.node.hand;
      turn = turn;
      void = λ e l d m i t h f g. c.in_ok-look.ensures.void e l (later1 l d) m i t h f (later1 f g);
    })
    c.find_judged.ensures.ok c.find_judged.ensures.many c.find_judged.ensures.defined

pub returns-clause-err : goal.returns-clause-err
returns-clause-err c =
    let w = c.args.self.now in
    let n = c.args.node.now in
    let xs = c.args.kids.now in
    let s0 = c.args.s.now in
    let s1 = c.look.new.s in
    let s2 = c.told_yields.new.s in
    let r = c.find_judged.new.s in
    let v0 = c.declarations-law.ensures.sound in
    let g1 = c.in_ok-look.ensures.grown in
    let g2 = c.in_ok-yields.ensures.grown in
    let g3 = c.find_judged.ensures.grown in
    let a1 = node-grown s0 s1 w n xs v0 g1 c.requires.node in
    let a2 = node-grown s1 s2 w n xs g1.later.sound g2 a1 in
    let a3 = node-grown s2 r w n xs g2.later.sound g3 a2 in
    let later1 : (l : Store) → IsLater r l → IsLater s1 l = λ l d. later_trans s1 s2 l g2.later (later_trans s2 r l g3.later d) in
    let given = ap (map given_of) c.as_slice-2.ensures ∙ c.in_ok-gs.ensures in
    let turn =
    at-turn r w _ c.tell.new.self (map given_of c.as_slice-2.result.now) a3
    (record {
      node = refl;
      kids = refl;
      decls = refl;
      locals = refl;
      case = c.case.ensures;
      above = ap (λ z. z.above) c.tell.ensures;
    })
    c.requires.role (λ v e. ap (λ z. z.meaning) c.tell.ensures ∙ c.path_meaning-meaning.ensures v e) given
    (λ l d.
    let k = c.in_ok-yields.ensures.told l (later_trans s2 r l g3.later d) in
    rw (c.tell.ensures, c.as_slice-2.ensures) (rw c.as_slice.ensures at k))
    (λ l d. c.in_ok-look.ensures.looked l (later1 l d)) in
    judged-stop r w _ (map given_of c.as_slice-2.result.now) c.find_judged.result turn c.find_judged.ensures.err
