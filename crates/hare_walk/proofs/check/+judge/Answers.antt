use Rattle.std.proofs.Common.{◌≡◌, ◌+◌, ◌≤◌, ◌++◌, ◌∷◌, [], length, map, drop, ap, sym, ◌∙◌, arith, rules, length-append}
use Rattle.hare_tree.specs.Node.{head, kids_of, nodes_of}
use Rattle.hare_types.specs.Store.{Store}
use Rattle.hare_rules.specs.Finished.{bare}
use Rattle.hare_walk.specs.Walks.{IsStopped}
use Rattle.hare_walk.specs.Grown.{IsGrown}
use Rattle.hare_walk.specs.Spots.{spot}
use Rattle.hare_walk.proofs.Counted.{at-kid, begun-kid, among-more, behind-turn}
use Rattle.hare_walk.proofs.Grows.{grown-refl, grown-trans, later-grown}
use Rattle.hare_walk.proofs.Parts.{part-kid, each-grown, each-now, each-append, erased-more, erased-all, take_all}
use Rattle.hare_walk.proofs.Steps.{IsKid, each_end, err_same, turn-inferred, turn-stopped, turn-erases, kids-stopped, kids-inferred, over-moved, before-moved, inferred-moved, stopped-moved, next_at, rest_at, stop_at, kid-rest, kid-leaves, kid-stopped, hand-more, each_below-more, stop-same}
use Rattle.hare_walk.proofs.check.+judge.Goals as goal

pub judge_tree-returns-in_err-kids-clause-err : goal.judge_tree-returns-in_err-kids-clause-err
judge_tree-returns-in_err-kids-clause-err g t c =
    let w = g.W.Walk.setting c.args.w.now in
    let a = g.W.Walk.above c.args.w.now in
    let f = g.W.Walk.flow c.args.w.now in
    let s = c.judge_kids.new.s in
    let e = c.in_err-kids.field-0.0 in
    err_same c.from_residual-in_err-kids.result e (λ x. IsStopped w s a c.args.t.now f x) c.from_residual-in_err-kids.ensures.1
    (kids-stopped w s a c.args.t.now (nodes_of c.t.inside.kids) f e (sym (ap kids_of c.t.view_is)) c.in_err-kids.ensures.err)

pub judge_tree-returns-clause-ok : goal.judge_tree-returns-clause-ok
judge_tree-returns-clause-ok g t c =
    let v = c.judge_kids.new.w in
    turn-inferred (g.W.Walk.setting c.args.w.now) (g.W.Walk.setting v) c.judge_kids.new.s c.turn.new.s (g.W.Walk.above c.args.w.now)
    (g.W.Walk.above v)
    c.args.t.now (nodes_of c.t.inside.kids) c.in_ok-kids.kids (g.W.Walk.flow c.args.w.now) (g.W.Walk.flow v)
    (g.W.Walk.flow c.turn.new.self) c.turn.result
    (sym (ap kids_of c.t.view_is))
    c.in_ok-kids.ensures.setting
    c.in_ok-kids.ensures.above
    c.turn.ensures.grown
    c.in_ok-kids.ensures.ok
    c.turn.ensures.ok

pub judge_tree-returns-clause-err : goal.judge_tree-returns-clause-err
judge_tree-returns-clause-err g t c =
    let v = c.judge_kids.new.w in
    turn-stopped (g.W.Walk.setting c.args.w.now) (g.W.Walk.setting v) c.judge_kids.new.s c.turn.new.s (g.W.Walk.above c.args.w.now)
    (g.W.Walk.above v)
    c.args.t.now (nodes_of c.t.inside.kids) c.in_ok-kids.kids (g.W.Walk.flow c.args.w.now) (g.W.Walk.flow v) c.turn.result
    (sym (ap kids_of c.t.view_is))
    c.in_ok-kids.ensures.setting
    c.in_ok-kids.ensures.above
    c.turn.ensures.grown
    c.in_ok-kids.ensures.ok
    c.turn.ensures.err

pub judge_kids-returns-clause-ok : goal.judge_kids-returns-clause-ok
judge_kids-returns-clause-ok g t c l k =
    let w = g.W.Walk.setting c.args.w.now in
    let a = g.W.Walk.above c.args.w.now in
    let past : length c.args.kids.now ≤ c.loop-i.i = omega arith in
    sym (c.loop-i.invariant.rest l k)
    ∙ each_end (w l) a (head c.args.node.now) (map bare c.loop-i.done) c.args.kids.now c.loop-i.i (g.W.Walk.flow c.loop-i.w) past

pub judge_kids-returns-in-Err-clause-err : goal.judge_kids-returns-in-Err-clause-err
judge_kids-returns-in-Err-clause-err g t c =
    let w = g.W.Walk.setting c.args.w.now in
    let a = g.W.Walk.above c.args.w.now in
    let u = c.loop-i.w in
    let v = c.enter.new.self in
    let h = head c.args.node.now in
    let xs = c.loop-i.done in
    let ts = c.args.kids.now in
    let kid = c.in-Some.kid.now in
    let s = c.judge_tree.new.s in
    let e = c.in-Err.stop in
    let i = c.loop-i.invariant in
    let rest = nodes_of (drop (length xs + 1) ts) in
    let n = next_at ts (length xs) c.loop-i.i kid i.many c.in-Some.ensures.found in
    let over = over-moved (g.W.Walk.setting u) w c.enter.new.s s (g.W.Walk.above u) a h xs kid rest
    (g.W.Walk.above v) i.setting i.above c.judge_tree.ensures.grown
    c.in_ok-enter.ensures.over in
    let before = before-moved (g.W.Walk.setting u) w c.enter.new.s s (g.W.Walk.above u) a h xs (g.W.Walk.flow u)
    (g.W.Walk.flow v) i.setting i.above
    c.judge_tree.ensures.grown
    c.in_ok-enter.ensures.seen in
    let stopped = stopped-moved (g.W.Walk.setting v) w s (g.W.Walk.above v) kid (g.W.Walk.flow v) e (c.enter.ensures.setting
    ∙ i.setting) c.in-Err.ensures.err in
    let grown = grown-trans c.loop-i.s c.enter.new.s s c.enter.ensures.grown c.judge_tree.ensures.grown in
    λ l k.
    let p = kid-stopped w s a (g.W.Walk.above v) h xs ts kid (g.W.Walk.flow u) (g.W.Walk.flow v) e l n over before stopped k in
    let q = stop_at w a h (map bare xs) ts (length xs) c.loop-i.i (g.W.Walk.flow u) l e i.many p in
    stop-same e _ _ (i.rest l (later-grown c.loop-i.s s l grown k)) q

pub judge_kids-loop-i-preserved : goal.judge_kids-loop-i-preserved
judge_kids-loop-i-preserved g t c =
    let w = g.W.Walk.setting c.args.w.now in
    let a = g.W.Walk.above c.args.w.now in
    let u = c.loop-i.w in
    let v = c.enter.new.self in
    let h = head c.args.node.now in
    let xs = c.loop-i.done in
    let ts = c.args.kids.now in
    let kid = c.in-Some.kid.now in
    let s = c.judge_tree.new.s in
    let x = c.in-Ok.x in
    let f = g.W.Walk.flow u in
    let b = g.W.Walk.flow v in
    let d = g.W.Walk.flow c.judge_tree.new.w in
    let o = g.W.Walk.above v in
    let i = c.loop-i.invariant in
    let rest = nodes_of (drop (length xs + 1) ts) in
    let k : IsKid w s a o h xs ts kid f b d x =
    record {
      next = next_at ts (length xs) c.loop-i.i kid i.many c.in-Some.ensures.found;
      over = over-moved (g.W.Walk.setting u) w c.enter.new.s s
          (g.W.Walk.above u) a h xs kid rest o i.setting i.above c.judge_tree.ensures.grown
          c.in_ok-enter.ensures.over;
      before = before-moved (g.W.Walk.setting u) w c.enter.new.s s
          (g.W.Walk.above u) a h xs f b i.setting i.above c.judge_tree.ensures.grown
          c.in_ok-enter.ensures.seen;
      inferred = inferred-moved (g.W.Walk.setting v) w s o kid b d x (c.enter.ensures.setting ∙ i.setting) c.in-Ok.ensures.ok;
    } in
    let leaves = kid-leaves w s a o h xs ts kid f b d x k c.in-Ok.ensures.sound in
    let out = c.in-Ok.ensures.outer ∙ c.in_ok-enter.ensures.outer in
    let grown = grown-trans c.loop-i.s c.enter.new.s s c.enter.ensures.grown c.judge_tree.ensures.grown in
    let p : c.push.new.self ≡ xs ++ x ∷ [] = c.in_ok-push-in-Ok.ensures.ok in
    let hand = hand-more f d xs x leaves i.hand i.below c.in-Ok.ensures.hand in
    let below = each_below-more f d xs x leaves i.below in
    let flow = c.leave.ensures.flow in
    record {
      many = ap length p ∙ length-append xs (x ∷ []) ∙ ap (λ n. n + 1) i.many;
      above = c.leave.ensures.above (g.W.Walk.above u) (g.W.Walk.outer u) out ∙ i.above;
      outer = c.leave.ensures.outer (g.W.Walk.above u) (g.W.Walk.outer u) out ∙ i.outer;
      setting = c.leave.ensures.setting ∙ c.judge_tree.ensures.setting ∙ c.enter.ensures.setting ∙ i.setting;
      hand = rw (flow, p) hand;
      below = rw (flow, p) below;
      counts = among-more a h xs c.push.new.self x c.loop-i.counts c.judge_tree.new.counts i.counts c.in-Ok.ensures.counts p;
      ready = λ ps r.
          let at = spot h.kind (length xs) in
          let judged = c.in-Ok.ensures.ready (at ∷ ps) (c.in_ok-enter.ensures.ready ps (i.ready ps r)) in
          let n : length c.push.new.self ≡ length xs + 1 = ap length p ∙ length-append xs (x ∷ []) in
          rw n (c.leave.ensures.ready s (head kid).kind at ps judged);
      kept =
          let each = each-grown g.W.Walk.Keeps c.loop-i.s s xs grown i.kept in
          rw p (each-append (λ y. (r : Store) → IsGrown s r → g.W.Walk.Keeps r y) xs x each c.in-Ok.ensures.kept);
      erased = erased-more xs c.push.new.self ts x kid c.loop-i.i i.erased c.in-Some.ensures.found c.in-Ok.ensures.erases p;
      grown = grown-trans c.args.s.now c.loop-i.s s i.grown grown;
      rest = λ l e.
          let r = kid-rest w s a o h xs ts kid f b d x l k e in
          let q = rest_at w a h (map bare xs) (map bare (xs ++ x ∷ [])) ts (length xs) c.loop-i.i f d l i.many r in
          rw (flow, p) (sym q ∙ i.rest l (later-grown c.loop-i.s s l grown e));
    }

pub judge_tree-returns-clause-erases : goal.judge_tree-returns-clause-erases
judge_tree-returns-clause-erases g t c =
    turn-erases (g.W.Walk.setting c.args.w.now) c.turn.new.s (g.W.Walk.above c.args.w.now) c.args.t.now (g.W.Walk.flow c.args.w.now)
    (g.W.Walk.flow c.turn.new.self) c.turn.result
    (judge_tree-returns-clause-ok g t c)
    c.turn.ensures.sound

pub judge_kids-enter-requires-clause-kept : goal.judge_kids-enter-requires-clause-kept
judge_kids-enter-requires-clause-kept g t c =
    each-now g.W.Walk.Keeps c.loop-i.s c.loop-i.s c.loop-i.done (grown-refl c.loop-i.s) c.loop-i.invariant.kept

pub judge_kids-judge_tree-requires : goal.judge_kids-judge_tree-requires
judge_kids-judge_tree-requires g t c =
    let found = c.in-Some.ensures.found in
    let part = part-kid c.args.node.now c.in-Some.kid.now c.args.kids.now c.loop-i.i c.requires.part c.requires.whole found in
    let begun = begun-kid (g.W.Walk.setting c.loop-i.w) (g.W.Walk.setting c.loop-i.w) c.enter.new.s (g.W.Walk.above c.args.w.now)
    (g.W.Walk.above c.loop-i.w)
    (g.W.Walk.above c.enter.new.self) (head c.args.node.now) c.loop-i.done c.in-Some.kid.now
    (nodes_of (drop (length c.loop-i.done + 1) c.args.kids.now))
    c.loop-i.counts c.loop-i.invariant.above c.enter.ensures.sound c.in_ok-enter.ensures.over c.loop-i.invariant.counts in
    let at = spot (head c.args.node.now).kind (length c.loop-i.done) in
    let ps = c.requires.ready.0 in
    let ready = c.in_ok-enter.ensures.ready ps (c.loop-i.invariant.ready ps c.requires.ready.1) in
    λ k l. (search rules, (search rules, ((at ∷ ps, ready), (part, begun))))

pub judge_kids-enter-requires-clause-at : goal.judge_kids-enter-requires-clause-at
judge_kids-enter-requires-clause-at g t c =
    let i = c.loop-i.invariant in
    at-kid (g.W.Walk.above c.args.w.now) (g.W.Walk.above c.loop-i.w) (head c.args.node.now) c.node.inside.kind c.loop-i.done c.args.kids.now
    c.loop-i.i
    c.in-Some.kid.now c.loop-i.counts c.args.counts.now c.in_ok-number.number i.above (sym (ap (λ n. (head n).kind) c.node.view_is)) i.many
    i.erased
    c.in-Some.ensures.found c.requires.counts i.counts c.in_ok-number.ensures

pub judge_kids-returns-clause-counts : goal.judge_kids-returns-clause-counts
judge_kids-returns-clause-counts g t c = c.loop-i.invariant.counts

pub judge_tree-returns-clause-counts : goal.judge_tree-returns-clause-counts
judge_tree-returns-clause-counts g t c =
    let v = c.judge_kids.new.w in
    behind-turn (g.W.Walk.setting v) c.turn.new.s (g.W.Walk.above c.args.w.now) (g.W.Walk.above v) (head c.args.t.now) c.in_ok-kids.kids
    (g.W.Walk.flow v) (g.W.Walk.flow c.turn.new.self) c.turn.result c.args.counts.now c.judge_kids.new.counts c.finish.new.self
    c.in_ok-kids.ensures.above c.turn.ensures.ok c.turn.ensures.sound c.requires.counts c.in_ok-kids.ensures.counts
    (ap (λ x. x.nodes) c.in_ok-finish.ensures)
    (ap (λ x. x.bindings) c.in_ok-finish.ensures)

pub judge_kids-returns-clause-erases : goal.judge_kids-returns-clause-erases
judge_kids-returns-clause-erases g t c =
    let past : length c.args.kids.now ≤ c.loop-i.i = omega arith in
    erased-all c.loop-i.done c.args.kids.now c.loop-i.i c.loop-i.invariant.erased (take_all c.args.kids.now c.loop-i.i past)

pub judge_kids-returns-clause-kept : goal.judge_kids-returns-clause-kept
judge_kids-returns-clause-kept g t c =
    each-now g.W.Walk.Keeps c.loop-i.s c.loop-i.s c.loop-i.done (grown-refl c.loop-i.s) c.loop-i.invariant.kept

pub judge_tree-turn-requires-clause-inferred : goal.judge_tree-turn-requires-clause-inferred
judge_tree-turn-requires-clause-inferred g t c =
    let w = c.args.w.now in
    let v = c.judge_kids.new.w in
    kids-inferred (g.W.Walk.setting w) (g.W.Walk.setting v) c.judge_kids.new.s (g.W.Walk.above w) (g.W.Walk.above v) c.args.t.now
    (nodes_of c.t.inside.kids) c.in_ok-kids.kids (g.W.Walk.flow w) (g.W.Walk.flow v)
    (sym (ap kids_of c.t.view_is)) c.in_ok-kids.ensures.setting c.in_ok-kids.ensures.above c.in_ok-kids.ensures.ok

pub judge_kids-returns-in_err-push-in-Ok-clause-grown : goal.judge_kids-returns-in_err-push-in-Ok-clause-grown
judge_kids-returns-in_err-push-in-Ok-clause-grown g t c =
    let step = grown-trans c.loop-i.s c.enter.new.s c.judge_tree.new.s c.enter.ensures.grown c.judge_tree.ensures.grown in
    grown-trans c.args.s.now c.loop-i.s c.judge_tree.new.s c.loop-i.invariant.grown step
