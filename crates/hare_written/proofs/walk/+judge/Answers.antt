use Rattle.std.proofs.Common.{◌≡◌, ◌+◌, ◌++◌, [], ◌∷◌, length, rules, arith, ap, sym, ◌∙◌, subst, length-append}
use Rattle.std.specs.Prelude.{slice_get}
use Rattle.hare_tree.specs.Node.{head}
use Rattle.hare_typed.specs.Order.{check_order}
use Rattle.hare_rules.specs.Above.{role_of}
use Rattle.hare_inference.specs.Inferred.{infer_each}
use Rattle.hare_walk.proofs.Grows.{grown-trans}
use Rattle.hare_walk.proofs.Parts.{part-kid}
use Rattle.hare_walk.proofs.Steps.{err_same, stop-same}
use Rattle.hare_written.specs.Judged.{IsJudged, IsStopped, AreJudged, AreStopped}
use Rattle.hare_written.specs.Nodes.{is_written, nodes_in, seen_of}
use Rattle.hare_written.specs.Program.{program_of}
use Rattle.hare_written.specs.Roles.{role_in}
use Rattle.hare_written.specs.Turns.{IsTurn}
use Rattle.hare_written.proofs.Fitting.Fits.{grown-later}
use Rattle.hare_written.proofs.JudgedWhole.Kids.{kid-stopped, judged-more}
use Rattle.hare_written.proofs.PartOfType.Known.{defs-stay}
use Rattle.hare_written.proofs.Fitting.NodeLists.{nodes-more}
use Rattle.hare_written.proofs.JudgedWhole.Parts.{kids-stopped, turn-stopped, judged, judged-count}
use Rattle.hare_written.proofs.walk.+judge.Goals as goal

pub judge_kids-judge_tree-judged-requires : goal.judge_kids-judge_tree-judged-requires
judge_kids-judge_tree-judged-requires t c =
    let s = c.loop-i.s in
    let part = part-kid c.args.node.now c.in-Some.kid.now c.args.kids.now c.loop-i.i c.requires.part c.requires.whole
    c.in-Some.ensures.found in
    let later = grown-later c.args.s.now s c.loop-i.invariant.grown c.declarations-sound.ensures.sound in
    let defs = defs-stay c.args.s.now s c.declarations-law.ensures.sound later c.args.env.now.decls.now c.requires.defs in
    (search rules, (part, defs))

pub judge_kids-returns-in_err-x-clause-err : goal.judge_kids-returns-in_err-x-clause-err
judge_kids-returns-in_err-x-clause-err t c =
    let w = program_of c.args.env.now in
    let h = head c.args.node.now in
    let ts = c.args.kids.now in
    let xs = c.loop-i.done in
    let kid = c.in-Some.kid.now in
    let n = c.args.count.now in
    let s = c.loop-i.s in
    let r = c.judge_tree-judged.new.s in
    let i = c.loop-i.invariant in
    let e = c.in_err-x.field-0.0 in
    let kind = ap (λ x. (head x).kind) c.node.view_is in
    let next : slice_get ts (length xs) ≡ _ = ap (slice_get ts) i.many ∙ c.in-Some.ensures.found in
    let role =
    c.role_of_kid.ensures (ap is_written kind ∙ c.requires.kind) (head kid).kind ∙ ap (λ k. role_of k c.loop-i.i (head kid).kind) kind
    ∙ ap (λ m. role_of h.kind m (head kid).kind) (sym i.many) in
    let stopped =
    subst (λ o. IsStopped w r o kid (n + length (nodes_in xs)) e) role
    (subst (λ m. IsStopped w r (role_in c.role_of_kid.result) kid m e) i.count c.in_err-x.ensures.err) in
    err_same c.from_residual.result e (AreStopped w r c.args.node.now n) c.from_residual.ensures.1
    (λ f l m a cs k.
    stop-same e _ _ (ap (λ us. infer_each (w f) a h [] us (seen_of cs)) (sym c.requires.whole))
    (kid-stopped w h c.requires.kind ts n xs kid next s r c.law_bytes_follow_definitions.ensures c.judge_tree-judged.ensures.grown
    c.declarations-sound.ensures.sound c.declarations-still.ensures.sound i.judged e stopped f l m a cs k))

pub judge_kids-loop-i-preserved : goal.judge_kids-loop-i-preserved
judge_kids-loop-i-preserved t c =
    let w = program_of c.args.env.now in
    let h = head c.args.node.now in
    let ts = c.args.kids.now in
    let xs = c.loop-i.done in
    let x = c.in_ok-x.x in
    let kid = c.in-Some.kid.now in
    let n = c.args.count.now in
    let s = c.loop-i.s in
    let r = c.judge_tree-judged.new.s in
    let i = c.loop-i.invariant in
    let kind = ap (λ x. (head x).kind) c.node.view_is in
    let next : slice_get ts (length xs) ≡ _ = ap (slice_get ts) i.many ∙ c.in-Some.ensures.found in
    let role =
    c.role_of_kid.ensures (ap is_written kind ∙ c.requires.kind) (head kid).kind ∙ ap (λ k. role_of k c.loop-i.i (head kid).kind) kind
    ∙ ap (λ m. role_of h.kind m (head kid).kind) (sym i.many) in
    let one =
    subst (λ o. IsJudged w r o kid (n + length (nodes_in xs)) x) role
    (subst (λ m. IsJudged w r (role_in c.role_of_kid.result) kid m x) i.count c.in_ok-x.ensures.ok) in
    let p : c.push.new.self ≡ xs ++ x ∷ [] = c.in_ok-push.ensures.ok in
    let more =
    judged-more w h c.requires.kind ts n xs kid next s r c.law_bytes_follow_definitions.ensures c.judge_tree-judged.ensures.grown
    c.declarations-sound.ensures.sound c.declarations-still.ensures.sound i.judged x one in
    record {
      many = ap length p ∙ length-append xs (x ∷ []) ∙ ap (λ m. m + 1) i.many;
      judged = subst (AreJudged w r h ts n) (sym p) more;
      count =
          let nodes : length (nodes_in c.push.new.self) ≡ length (nodes_in xs) + length (check_order x) =
          ap (λ ys. length (nodes_in ys)) p ∙ ap length (nodes-more xs x) ∙ length-append (nodes_in xs) (check_order x) in
          omega (arith, nodes, c.in_ok-x.ensures.count, i.count);
      grown = grown-trans c.args.s.now s r i.grown c.judge_tree-judged.ensures.grown;
    }

pub judge_tree-returns-in_err-kids-clause-err : goal.judge_tree-returns-in_err-kids-clause-err
judge_tree-returns-in_err-kids-clause-err t c =
    let w = program_of c.args.env.now in
    let e = c.in_err-kids.field-0.0 in
    err_same c.from_residual.result e (IsStopped w c.judge_kids.new.s (role_in c.args.role) c.args.t.now c.args.count.now)
    c.from_residual.ensures.1
    (kids-stopped w c.judge_kids.new.s (role_in c.args.role) c.args.t.now c.args.count.now e c.in_err-kids.ensures.err)

pub judge_tree-turn-judged-requires-clause-defs : goal.judge_tree-turn-judged-requires-clause-defs
judge_tree-turn-judged-requires-clause-defs t c =
    let s = c.judge_kids.new.s in
    let later = grown-later c.args.s.now s c.judge_kids.ensures.grown c.declarations-sound.ensures.sound in
    defs-stay c.args.s.now s c.declarations-law.ensures.sound later c.args.env.now.decls.now c.requires.defs

pub judge_tree-returns-in_err-tree-clause-err : goal.judge_tree-returns-in_err-tree-clause-err
judge_tree-returns-in_err-tree-clause-err t c =
    let w = program_of c.args.env.now in
    let role = role_in c.args.role in
    let e = c.in_err-tree.field-0.0 in
    err_same c.from_residual-in_err-tree.result e (IsStopped w c.turn-judged.new.s role c.args.t.now c.args.count.now)
    c.from_residual-in_err-tree.ensures.1
    (turn-stopped w c.judge_kids.new.s c.turn-judged.new.s c.law_bytes_follow_definitions.ensures c.turn-judged.ensures.grown
    c.declarations-sound.ensures.sound
    c.declarations-still.ensures.sound c.args.t.now c.args.count.now c.in_ok-kids.kids c.in_ok-kids.ensures.ok role e
    c.in_err-tree.ensures.err)

pub judge_tree-returns-clause-ok : goal.judge_tree-returns-clause-ok
judge_tree-returns-clause-ok t c =
    let w = program_of c.args.env.now in
    let role = role_in c.args.role in
    let r = c.turn-judged.new.s in
    let xs = c.in_ok-kids.kids in
    let x = c.in_ok-tree.tree in
    judged w c.judge_kids.new.s r c.law_bytes_follow_definitions.ensures c.turn-judged.ensures.grown c.declarations-sound.ensures.sound
    c.declarations-still.ensures.sound c.args.t.now c.args.count.now xs c.in_ok-kids.ensures.ok role x
    (subst (λ m. IsTurn w r role (head c.args.t.now) xs m x) c.in_ok-kids.ensures.count c.in_ok-tree.ensures.ok)
