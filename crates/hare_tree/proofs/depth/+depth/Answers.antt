use Rattle.std.proofs.Common.{◌≡◌, ◌<◌, false, true, ap, sym, ◌∙◌, refl, arith}
use Rattle.hare_tree.specs.Node.{nodes_of, size_of, sizes_of}
use Rattle.hare_tree.specs.Judged.{keeps_low, keep_low, kid_keeps, nodes_from}
use Rattle.hare_tree.proofs.Sizes.Kids.{kid_size}
use Rattle.hare_tree.proofs.TreeKids.KidsFrom.{nodes_from-get, nodes_from-past}
use Rattle.hare_tree.proofs.Low.Limits.{keeps-open, keeps-full, keeps-then, keeps-else, keep_low-none, keep_low-step}
use Rattle.hare_tree.proofs.depth.+depth.Goals as goal

pub kid_keeps-keeps_limits-requires : goal.kid_keeps-keeps_limits-requires
kid_keeps-keeps_limits-requires t c =
    let h : size_of c.in-Some.kid.now < sizes_of (nodes_of c.args.kids.now) =
    kid_size c.args.kids.now c.args.i c.in-Some.kid.now c.in-Some.ensures.found in
    (omega arith, omega arith)

pub kid_keeps-returns-in-Some : goal.kid_keeps-returns-in-Some
kid_keeps-returns-in-Some t c =
    rw (nodes_from-get c.args.kids.now c.args.i c.in-Some.kid.now c.in-Some.ensures.found) c.keeps_limits.ensures

pub kid_keeps-returns-in-None : goal.kid_keeps-returns-in-None
kid_keeps-returns-in-None t c = rw (nodes_from-past c.args.kids.now c.args.i c.in-None.ensures.none) refl

pub keeps_limits-returns-then-opened-ge-LIMIT : goal.keeps_limits-returns-then-opened-ge-LIMIT
keeps_limits-returns-then-opened-ge-LIMIT t c =
    sym (keeps-open _ _ c.args.room c.args.opened c.args.is_left (sym c.is_node.ensures ∙ c.if-is_node.true) c.if-opened-ge-LIMIT.true)
    ∙ ap (keeps_low c.args.room c.args.opened c.args.is_left) c.t.view_is

pub keeps_limits-returns-in_default : goal.keeps_limits-returns-in_default
keeps_limits-returns-in_default t c =
    let p = c.in_default.ensures in
    sym (keeps-full _ _ c.args.room c.args.opened c.args.is_left p.0 p.1) ∙ ap (keeps_low c.args.room c.args.opened c.args.is_left)
    c.t.view_is

pub keeps_limits-returns-then-kid_keeps : goal.keeps_limits-returns-then-kid_keeps
keeps_limits-returns-then-kid_keeps t c =
    keeps-then _ _ c.args.room c.in-Some.room c.args.opened c.args.is_left _ _ _ _ _ _
    (record {
      stands = c.else-is_node.either;
      node = c.is_node.ensures;
      within = c.in-Some.ensures;
      left = c.left_room.ensures;
      opened = c.open_within-opened.ensures;
      operator = c.is_operator.ensures;
      first = c.kid_keeps.ensures;
      keeps = c.if-kid_keeps.true;
      others = c.others_keep.ensures;
    })
    ∙ ap (keeps_low c.args.room c.args.opened c.args.is_left) c.t.view_is

pub keeps_limits-returns-else-kid_keeps : goal.keeps_limits-returns-else-kid_keeps
keeps_limits-returns-else-kid_keeps t c =
    keeps-else _ _ c.args.room c.in-Some.room c.args.opened c.args.is_left _ _ _ _ _ c.else-is_node.either c.is_node.ensures
    c.in-Some.ensures c.left_room.ensures c.open_within-opened.ensures c.is_operator.ensures c.kid_keeps.ensures c.if-kid_keeps.false
    ∙ ap (keeps_low c.args.room c.args.opened c.args.is_left) c.t.view_is

pub others_keep-returns-then-not-kid_keeps : goal.others_keep-returns-then-not-kid_keeps
others_keep-returns-then-not-kid_keeps t c =
    let step = keep_low-step c.args.kids.now c.loop-i.i c.args.room c.args.opened (omega arith) in
    let first : kid_keeps c.args.room c.args.opened false (nodes_from c.loop-i.i (nodes_of c.args.kids.now)) ≡ false =
    sym c.kid_keeps.ensures ∙ c.if-not-kid_keeps.true in
    sym (rw first at step) ∙ c.loop-i.invariant

pub others_keep-loop-i-preserved : goal.others_keep-loop-i-preserved
others_keep-loop-i-preserved t c =
    let step = keep_low-step c.args.kids.now c.loop-i.i c.args.room c.args.opened (omega arith) in
    let first : kid_keeps c.args.room c.args.opened false (nodes_from c.loop-i.i (nodes_of c.args.kids.now)) ≡ true =
    sym c.kid_keeps.ensures ∙ c.if-not-kid_keeps.false in
    sym (rw first at step) ∙ c.loop-i.invariant

pub others_keep-returns : goal.others_keep-returns
others_keep-returns t c =
    let none = nodes_from-past c.args.kids.now c.loop-i.i (omega arith) in
    sym (keep_low-none c.args.room c.args.opened false) ∙ (ap (keep_low c.args.room c.args.opened false) (sym none) ∙ c.loop-i.invariant)
