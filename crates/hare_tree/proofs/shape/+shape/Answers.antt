use Rattle.std.proofs.Common.{◌≡◌, ◌+◌, ◌-◌, ◌<◌, Some, None, true, false, length, drop, [], ap, sym, ◌∙◌, refl, arith, if◌then◌else◌}
use Rattle.std.specs.Prelude.{not}
use Rattle.hare_tree.specs.Node.{head, kids_of, nodes_of, size_of, sizes_of}
use Rattle.hare_tree.specs.Forms.{form_of}
use Rattle.hare_tree.specs.Levels.{admits}
use Rattle.hare_tree.specs.Shape.{edges, behind_kid, is_none, is_none_or_dots}
use Rattle.hare_tree.specs.Judged as spec
use Rattle.hare_tree.specs.Judged.{nodes_from, judged, judged_behind, judged_tree, judged_first, judged_optional, judged_followed, both}
use Rattle.hare_tree.proofs.Sizes.Kids.{kid_size}
use Rattle.hare_tree.proofs.Spelling.Spelled.{drop-past}
use Rattle.hare_tree.proofs.TreeKids.KidsFrom.{nodes_from-get, nodes_from-past, kids_of-open}
use Rattle.hare_tree.proofs.TreeKids.Behind.{pieces-at, kid_size-tree}
use Rattle.hare_tree.proofs.Low.LowTrees as low
use Rattle.hare_tree.proofs.shape.+shape.Goals as goal

-- ---- single kids

pub judged_first-returns-then-len-i : goal.judged_first-returns-then-len-i
judged_first-returns-then-len-i t c =
    ap (judged_first c.args.room c.args.sort _ c.args.i)
    (sym (low.kids-past _ c.t.inside.kids c.args.t.now c.args.i c.t.view_is (omega arith)))

pub judged_first-judged_tree-requires : goal.judged_first-judged_tree-requires
judged_first-judged_tree-requires t c =
    let h : size_of c.in_ok-get.field-0.now < size_of c.args.t.now =
    kid_size-tree _ c.t.inside.kids c.args.t.now c.in_ok-get.field-0.now c.args.i c.t.view_is c.in_ok-get.ensures.found in
    (omega arith, tt)

pub judged_first-returns-in_err-ends : goal.judged_first-returns-in_err-ends
judged_first-returns-in_err-ends t c =
    c.from_residual-in_err-ends.ensures
    ∙ sym (low.first-refused c.args.room c.args.sort _ c.args.i c.in_ok-get.field-0.now _ _
    (low.kids-get _ c.t.inside.kids c.args.t.now c.args.i c.in_ok-get.field-0.now c.t.view_is c.in_ok-get.ensures.found)
    c.in_err-ends.ensures)

pub judged_first-returns-then-not-ends_before : goal.judged_first-returns-then-not-ends_before
judged_first-returns-then-not-ends_before t c =
    sym (low.first-answer c.args.room c.args.sort _ c.sign_behind-sign.result c.args.i c.in_ok-get.field-0.now _ _ c.in_ok-ends.ends
    c.ends_before.result (low.kids-get _ c.t.inside.kids c.args.t.now c.args.i c.in_ok-get.field-0.now c.t.view_is
    c.in_ok-get.ensures.found) c.in_ok-ends.ensures
    (c.sign_behind-sign.ensures ∙ ap (λ ks. behind_kid c.args.behind.now (edges (nodes_from (c.args.i + 1) ks)))
    (sym (kids_of-open _ c.t.inside.kids c.args.t.now c.t.view_is))) c.ends_before.ensures
    ∙ ap (λ b. if b then Some record { kid = c.args.i + 1; ends = c.in_ok-ends.ends } else None) c.if-not-ends_before.true)

pub judged_first-returns : goal.judged_first-returns
judged_first-returns t c =
    sym (low.first-answer c.args.room c.args.sort _ c.sign_behind-sign.result c.args.i c.in_ok-get.field-0.now _ _ c.in_ok-ends.ends
    c.ends_before.result (low.kids-get _ c.t.inside.kids c.args.t.now c.args.i c.in_ok-get.field-0.now c.t.view_is
    c.in_ok-get.ensures.found) c.in_ok-ends.ensures
    (c.sign_behind-sign.ensures ∙ ap (λ ks. behind_kid c.args.behind.now (edges (nodes_from (c.args.i + 1) ks)))
    (sym (kids_of-open _ c.t.inside.kids c.args.t.now c.t.view_is))) c.ends_before.ensures
    ∙ ap (λ b. if b then Some record { kid = c.args.i + 1; ends = c.in_ok-ends.ends } else None) c.if-not-ends_before.false)

pub judged_optional-returns-then-len-at : goal.judged_optional-returns-then-len-at
judged_optional-returns-then-len-at t c =
    ap (judged_optional c.args.room c.args.sort _ c.args.at)
    (sym (low.kids-past _ c.t.inside.kids c.args.t.now c.args.at.kid c.t.view_is (omega arith)))

pub judged_optional-returns-then-not-is_none : goal.judged_optional-returns-then-not-is_none
judged_optional-returns-then-not-is_none t c =
    c.judged_first.ensures
    ∙ sym (low.optional-there c.args.room c.args.sort _ c.args.at c.in_ok-kid.kid.now _ _
    (low.kids-get _ c.t.inside.kids c.args.t.now c.args.at.kid c.in_ok-kid.kid.now c.t.view_is c.in_ok-kid.ensures.found)
    (sym (ap (λ t. is_none (head t).kind) c.kid.view_is) ∙ (sym c.is_none.ensures ∙ c.if-not-is_none.true)))

pub judged_optional-returns-then-not-is_absent : goal.judged_optional-returns-then-not-is_absent
judged_optional-returns-then-not-is_absent t c =
    sym (low.optional-absent c.args.room c.args.sort _ c.args.at c.in_ok-kid.kid.now _ _ false
    (low.kids-get _ c.t.inside.kids c.args.t.now c.args.at.kid c.in_ok-kid.kid.now c.t.view_is c.in_ok-kid.ensures.found)
    (sym (ap (λ t. is_none (head t).kind) c.kid.view_is) ∙ (sym c.is_none.ensures ∙ c.if-not-is_none.false))
    (sym c.is_absent.ensures ∙ c.if-not-is_absent.true))

pub judged_optional-returns : goal.judged_optional-returns
judged_optional-returns t c =
    sym (low.optional-absent c.args.room c.args.sort _ c.args.at c.in_ok-kid.kid.now _ _ true
    (low.kids-get _ c.t.inside.kids c.args.t.now c.args.at.kid c.in_ok-kid.kid.now c.t.view_is c.in_ok-kid.ensures.found)
    (sym (ap (λ t. is_none (head t).kind) c.kid.view_is) ∙ (sym c.is_none.ensures ∙ c.if-not-is_none.false))
    (sym c.is_absent.ensures ∙ c.if-not-is_absent.false))

pub judged_followed-returns-in_err-kid : goal.judged_followed-returns-in_err-kid
judged_followed-returns-in_err-kid t c =
    c.from_residual.ensures ∙ ap (judged_followed c.args.room c.args.sort c.args.at)
    (sym (low.kids-past _ c.t.inside.kids c.args.t.now c.args.at.kid c.t.view_is c.in_err-kid.ensures.none))

pub judged_followed-returns-then-is_none : goal.judged_followed-returns-then-is_none
judged_followed-returns-then-is_none t c =
    c.judged_optional.ensures ∙ sym
    (low.followed-none c.args.room c.args.sort None c.args.at c.in_ok-kid.kid.now _ _
    (low.kids-get _ c.t.inside.kids c.args.t.now c.args.at.kid c.in_ok-kid.kid.now c.t.view_is c.in_ok-kid.ensures.found)
    (sym (ap (λ t. is_none (head t).kind) c.kid.view_is) ∙ (sym c.is_none.ensures ∙ c.if-is_none.true)))

pub judged_followed-returns-in_err-found : goal.judged_followed-returns-in_err-found
judged_followed-returns-in_err-found t c =
    c.from_residual-in_err-found.ensures ∙ sym
    (low.followed-refused c.args.room c.args.sort c.args.at c.in_ok-kid.kid.now _ _
    (low.kids-get _ c.t.inside.kids c.args.t.now c.args.at.kid c.in_ok-kid.kid.now c.t.view_is c.in_ok-kid.ensures.found)
    (sym (ap (λ t. is_none (head t).kind) c.kid.view_is) ∙ (sym c.is_none.ensures ∙ c.if-is_none.false)) c.in_err-found.ensures)

pub judged_followed-returns : goal.judged_followed-returns
judged_followed-returns t c =
    sym (low.followed-found c.args.room c.args.sort c.args.at c.in_ok-found.found c.in_ok-kid.kid.now _ _
    (low.kids-get _ c.t.inside.kids c.args.t.now c.args.at.kid c.in_ok-kid.kid.now c.t.view_is c.in_ok-kid.ensures.found)
    (sym (ap (λ t. is_none (head t).kind) c.kid.view_is) ∙ (sym c.is_none.ensures ∙ c.if-is_none.false)) c.in_ok-found.ensures)

-- ---- pieces

pub judged_piece-returns-in-Kid : goal.judged_piece-returns-in-Kid
judged_piece-returns-in-Kid t c =
    low.at-kid c.args.room (head c.args.t.now) c.args.at.ends c.in-Kid.s _ _ _ _ c.args.at.kid (kids_of c.args.t.now) _ _
    (pieces-at c.args.form.now c.args.j _ _ c.requires c.in-Kid.is) c.split_at.ensures.back c.kid_sort.ensures c.judged_first.ensures
    c.next-in-Kid.ensures

pub judged_piece-returns-in-Optional : goal.judged_piece-returns-in-Optional
judged_piece-returns-in-Optional t c =
    low.at-optional c.args.room (head c.args.t.now) c.in-Optional.s c.args.at _ _ _ (kids_of c.args.t.now) _ _
    (pieces-at c.args.form.now c.args.j _ _ c.requires c.in-Optional.is) c.split_at.ensures.back c.judged_optional.ensures
    c.next-in-Optional.ensures

pub judged_piece-returns-in-Led : goal.judged_piece-returns-in-Led
judged_piece-returns-in-Led t c =
    low.at-led c.args.room (head c.args.t.now) c.in-Led.c c.in-Led.s c.args.at c.led.result _ _ _ (kids_of c.args.t.now) _ _
    (record {
      form = pieces-at c.args.form.now c.args.j _ _ c.requires c.in-Led.is;
      behind = c.split_at.ensures.back;
      same_kid = c.led.ensures.kid;
      else_ends = c.led.ensures.before_else;
      comma_ends = c.led.ensures.before_comma;
      judgement = c.judged_optional-in-Led.ensures;
      answer = c.next-in-Led.ensures;
    })

pub judged_piece-returns-in-Followed : goal.judged_piece-returns-in-Followed
judged_piece-returns-in-Followed t c =
    low.at-followed c.args.room (head c.args.t.now) c.in-Followed.field-1 c.in-Followed.s c.args.at _ _ (kids_of c.args.t.now) _ _
    (pieces-at c.args.form.now c.args.j _ _ c.requires c.in-Followed.is) c.judged_followed.ensures c.next-in-Followed.ensures

pub judged_piece-returns-in-Value : goal.judged_piece-returns-in-Value
judged_piece-returns-in-Value t c =
    low.at-value c.args.room (head c.args.t.now) c.in-Value.s c.args.at c.valued.result _ _ _ (kids_of c.args.t.now) _ _
    (record {
      form = pieces-at c.args.form.now c.args.j _ _ c.requires c.in-Value.is;
      behind = c.split_at.ensures.back;
      same_kid = c.valued.ensures.kid;
      else_ends = c.valued.ensures.before_else;
      comma_ends = c.valued.ensures.before_comma;
      judgement = c.judged_optional-in-Value.ensures;
      answer = c.next-in-Value.ensures;
    })

pub judged_piece-returns-in-Each : goal.judged_piece-returns-in-Each
judged_piece-returns-in-Each t c =
    low.at-last c.args.room (head c.args.t.now) c.args.at.ends _ _ _ (nodes_from c.args.at.kid (kids_of c.args.t.now))
    (kids_of c.args.t.now) _ c.all_low.result _ (pieces-at c.args.form.now c.args.j _ _ c.requires c.in-Each.is) c.last.ensures
    (c.all_low.ensures ∙ ap (λ ks. spec.all_low c.args.room c.in-Each.s (nodes_from c.args.at.kid ks))
    (sym (kids_of-open _ c.t.inside.kids c.args.t.now c.t.view_is)))
    (low.each-is c.args.room _ c.in-Each.s (drop (c.args.j + 1) c.args.form.now) (nodes_from c.args.at.kid (kids_of c.args.t.now))) refl

pub judged_piece-returns-in-EachLed : goal.judged_piece-returns-in-EachLed
judged_piece-returns-in-EachLed t c =
    low.at-last c.args.room (head c.args.t.now) c.args.at.ends _ _ _ (nodes_from c.args.at.kid (kids_of c.args.t.now))
    (kids_of c.args.t.now) _ c.all_low-in-EachLed.result _ (pieces-at c.args.form.now c.args.j _ _ c.requires c.in-EachLed.is)
    c.last-in-EachLed.ensures (c.all_low-in-EachLed.ensures ∙ ap
    (λ ks. spec.all_low c.args.room c.in-EachLed.s (nodes_from c.args.at.kid ks))
    (sym (kids_of-open _ c.t.inside.kids c.args.t.now c.t.view_is)))
    (low.each_led-is c.args.room _ c.in-EachLed.field-0 c.in-EachLed.s (drop (c.args.j + 1) c.args.form.now)
    (nodes_from c.args.at.kid (kids_of c.args.t.now))) refl

pub judged_piece-returns-in-EachFollowed : goal.judged_piece-returns-in-EachFollowed
judged_piece-returns-in-EachFollowed t c =
    low.at-last c.args.room (head c.args.t.now) c.args.at.ends _ _ _ (nodes_from c.args.at.kid (kids_of c.args.t.now))
    (kids_of c.args.t.now) _ c.all_low-in-EachFollowed.result _ (pieces-at c.args.form.now c.args.j _ _ c.requires c.in-EachFollowed.is)
    c.last-in-EachFollowed.ensures (c.all_low-in-EachFollowed.ensures ∙ ap
    (λ ks. spec.all_low c.args.room c.in-EachFollowed.s (nodes_from c.args.at.kid ks))
    (sym (kids_of-open _ c.t.inside.kids c.args.t.now c.t.view_is)))
    (low.each_followed-is c.args.room _ c.in-EachFollowed.s c.in-EachFollowed.field-1 (drop (c.args.j + 1) c.args.form.now)
    (nodes_from c.args.at.kid (kids_of c.args.t.now))) refl

pub judged_piece-returns-in-More : goal.judged_piece-returns-in-More
judged_piece-returns-in-More t c =
    low.at-last c.args.room (head c.args.t.now) c.args.at.ends _ _ _ (nodes_from c.args.at.kid (kids_of c.args.t.now))
    (kids_of c.args.t.now) _ c.more_low.result _ (pieces-at c.args.form.now c.args.j _ _ c.requires c.in-More.is) c.last-in-More.ensures
    (c.more_low.ensures ∙ ap (λ ks. spec.more_low c.args.room c.in-More.s (nodes_from c.args.at.kid ks))
    (sym (kids_of-open _ c.t.inside.kids c.args.t.now c.t.view_is)))
    (low.more-is c.args.room _ c.in-More.s (drop (c.args.j + 1) c.args.form.now) (nodes_from c.args.at.kid (kids_of c.args.t.now))) refl

pub judged_piece-returns-in-List : goal.judged_piece-returns-in-List
judged_piece-returns-in-List t c =
    low.at-last c.args.room (head c.args.t.now) c.args.at.ends _ _ _ (nodes_from c.args.at.kid (kids_of c.args.t.now))
    (kids_of c.args.t.now) _ c.list_low.result _ (pieces-at c.args.form.now c.args.j _ _ c.requires c.in-List.is) c.last-in-List.ensures
    (c.list_low.ensures ∙ ap (λ ks. spec.list_low c.args.room c.in-List.s (nodes_from c.args.at.kid ks))
    (sym (kids_of-open _ c.t.inside.kids c.args.t.now c.t.view_is)))
    (low.list-is c.args.room _ c.in-List.s (drop (c.args.j + 1) c.args.form.now) (nodes_from c.args.at.kid (kids_of c.args.t.now))) refl

pub judged_piece-returns-in-Elements : goal.judged_piece-returns-in-Elements
judged_piece-returns-in-Elements t c =
    low.at-last c.args.room (head c.args.t.now) c.args.at.ends _ _ _ (nodes_from c.args.at.kid (kids_of c.args.t.now))
    (kids_of c.args.t.now) _ c.elements_low.result _ (pieces-at c.args.form.now c.args.j _ _ c.requires c.in-Elements.is)
    c.last-in-Elements.ensures (c.elements_low.ensures ∙ ap
    (λ ks. spec.elements_low c.args.room c.in-Elements.s (nodes_from c.args.at.kid ks))
    (sym (kids_of-open _ c.t.inside.kids c.args.t.now c.t.view_is)))
    (low.elements-is c.args.room _ c.in-Elements.s (drop (c.args.j + 1) c.args.form.now)
    (nodes_from c.args.at.kid (kids_of c.args.t.now))) refl

pub judged_piece-returns-in-MoreElements : goal.judged_piece-returns-in-MoreElements
judged_piece-returns-in-MoreElements t c =
    low.at-last c.args.room (head c.args.t.now) c.args.at.ends _ _ _ (nodes_from c.args.at.kid (kids_of c.args.t.now))
    (kids_of c.args.t.now) _ c.more_elements_low.result _ (pieces-at c.args.form.now c.args.j _ _ c.requires c.in-MoreElements.is)
    c.last-in-MoreElements.ensures (c.more_elements_low.ensures ∙ ap
    (λ ks. spec.more_elements_low c.args.room c.in-MoreElements.s (nodes_from c.args.at.kid ks))
    (sym (kids_of-open _ c.t.inside.kids c.args.t.now c.t.view_is)))
    (low.more_elements-is c.args.room _ c.in-MoreElements.s (drop (c.args.j + 1) c.args.form.now)
    (nodes_from c.args.at.kid (kids_of c.args.t.now))) refl

-- ---- trees

pub judged_kids-returns-in-None : goal.judged_kids-returns-in-None
judged_kids-returns-in-None t c =
    let tree = c.args.t.now in
    let ps = c.form_of-form.result.now in
    let is : ps ≡ form_of (head tree).kind = c.form_of-form.ensures ∙ ap (λ t. form_of (head t).kind) c.t.view_is in
    let past : drop c.loop-j.j ps ≡ [] = drop-past ps c.loop-j.j (omega arith) in
    let done : drop c.loop-j.j (form_of (head tree).kind) ≡ [] = ap (drop c.loop-j.j) (sym is) ∙ past in
    low.done-none c.args.room (head tree) c.loop-j.at.ends _ _ _ done
    (low.kids-past _ c.t.inside.kids tree c.loop-j.at.kid c.t.view_is c.in-None.ensures.none) c.loop-j.invariant

pub judged_kids-returns-in-Some : goal.judged_kids-returns-in-Some
judged_kids-returns-in-Some t c =
    let tree = c.args.t.now in
    let ps = c.form_of-form.result.now in
    let is : ps ≡ form_of (head tree).kind = c.form_of-form.ensures ∙ ap (λ t. form_of (head t).kind) c.t.view_is in
    let past : drop c.loop-j.j ps ≡ [] = drop-past ps c.loop-j.j (omega arith) in
    let done : drop c.loop-j.j (form_of (head tree).kind) ≡ [] = ap (drop c.loop-j.j) (sym is) ∙ past in
    low.done-some c.args.room (head tree) c.loop-j.at.ends _ _ _ _ _ done
    (low.kids-get _ c.t.inside.kids tree c.loop-j.at.kid _ c.t.view_is c.in-Some.ensures.found) c.loop-j.invariant

pub judged_tree-returns-then-not-admits : goal.judged_tree-returns-then-not-admits
judged_tree-returns-then-not-admits t c =
    sym (low.tree-refused c.args.room c.args.sort _ _
    (ap (λ x. admits c.args.sort c.t.inside.kind x) (sym c.bytes.ensures) ∙ (sym c.admits.ensures ∙ c.if-not-admits.true))) ∙ ap
    (judged_tree c.args.room c.args.sort) c.t.view_is

pub judged_tree-returns-then-not-has_own : goal.judged_tree-returns-then-not-has_own
judged_tree-returns-then-not-has_own t c =
    sym (low.tree-other c.args.room c.args.sort _ _
    (low.own-is _ _ c.args.t.now _ _ _ c.t.view_is c.form_of.ensures c.own_of.ensures c.has_own.ensures ∙ c.if-not-has_own.true)) ∙ ap
    (judged_tree c.args.room c.args.sort) c.t.view_is

pub judged_tree-returns-in_err-room_within : goal.judged_tree-returns-in_err-room_within
judged_tree-returns-in_err-room_within t c =
    let p = c.in_err-room_within.ensures in
    c.from_residual.ensures ∙ (sym (low.tree-full c.args.room c.args.sort _ _ p.0 p.1) ∙ ap (judged_tree c.args.room c.args.sort)
    c.t.view_is)

pub judged_tree-returns-in_err-ends : goal.judged_tree-returns-in_err-ends
judged_tree-returns-in_err-ends t c =
    c.from_residual-in_err-ends.ensures ∙ sym
    (low.tree-none c.args.room c.in_ok-room_within.field-0 c.args.sort _ _ c.args.t.now c.t.view_is
    (ap (λ x. admits c.args.sort c.t.inside.kind x) (sym c.bytes.ensures) ∙ (sym c.admits.ensures ∙ c.if-not-admits.false))
    (low.own-is _ _ c.args.t.now _ _ _ c.t.view_is c.form_of.ensures c.own_of.ensures c.has_own.ensures ∙ c.if-not-has_own.false)
    c.in_ok-room_within.ensures c.in_err-ends.ensures)

pub judged_tree-returns-then-takes_label : goal.judged_tree-returns-then-takes_label
judged_tree-returns-then-takes_label t c =
    sym (low.tree-parts c.args.room c.in_ok-room_within.field-0 c.args.sort _ _ c.args.t.now _ c.takes_label.result c.t.view_is
    (ap (λ x. admits c.args.sort c.t.inside.kind x) (sym c.bytes.ensures) ∙ (sym c.admits.ensures ∙ c.if-not-admits.false))
    (low.own-is _ _ c.args.t.now _ _ _ c.t.view_is c.form_of.ensures c.own_of.ensures c.has_own.ensures ∙ c.if-not-has_own.false)
    c.in_ok-room_within.ensures c.in_ok-ends.ensures c.takes_label.ensures ∙ ap (λ k. if not k then Some c.in_ok-ends.ends else None)
    c.if-takes_label.true)

pub judged_tree-returns : goal.judged_tree-returns
judged_tree-returns t c =
    sym (low.tree-parts c.args.room c.in_ok-room_within.field-0 c.args.sort _ _ c.args.t.now _ c.takes_label.result c.t.view_is
    (ap (λ x. admits c.args.sort c.t.inside.kind x) (sym c.bytes.ensures) ∙ (sym c.admits.ensures ∙ c.if-not-admits.false))
    (low.own-is _ _ c.args.t.now _ _ _ c.t.view_is c.form_of.ensures c.own_of.ensures c.has_own.ensures ∙ c.if-not-has_own.false)
    c.in_ok-room_within.ensures c.in_ok-ends.ensures c.takes_label.ensures ∙ ap (λ k. if not k then Some c.in_ok-ends.ends else None)
    c.if-takes_label.false)

-- ---- lists

pub kid_low-judged_tree-requires : goal.kid_low-judged_tree-requires
kid_low-judged_tree-requires t c =
    let h : size_of c.in-Some.kid.now < sizes_of (nodes_of c.args.kids.now) =
    kid_size c.args.kids.now c.args.i c.in-Some.kid.now c.in-Some.ensures.found in
    (omega arith, tt)

pub kid_low-returns-in-Some-judged_tree : goal.kid_low-returns-in-Some-judged_tree
kid_low-returns-in-Some-judged_tree t c =
    sym (low.kid-answer c.args.room c.args.sort c.in-Some.kid.now _ _ _
    (nodes_from-get c.args.kids.now c.args.i c.in-Some.kid.now c.in-Some.ensures.found) c.in-Some-judged_tree.ensures)

pub kid_low-returns-in-None-judged_tree : goal.kid_low-returns-in-None-judged_tree
kid_low-returns-in-None-judged_tree t c =
    sym (low.kid-refused c.args.room c.args.sort c.in-Some.kid.now _ _
    (nodes_from-get c.args.kids.now c.args.i c.in-Some.kid.now c.in-Some.ensures.found) c.in-None-judged_tree.ensures)

pub kid_low-returns-in-None : goal.kid_low-returns-in-None
kid_low-returns-in-None t c =
    ap (spec.kid_low c.args.room c.args.sort) (sym (nodes_from-past c.args.kids.now c.args.i c.in-None.ensures.none))

pub all_low-returns-then-not-kid_low : goal.all_low-returns-then-not-kid_low
all_low-returns-then-not-kid_low t c =
    let step = low.all-step c.args.kids.now c.loop-i.i c.args.room c.args.sort (omega arith) in
    let first : spec.kid_low c.args.room c.args.sort (nodes_from c.loop-i.i (nodes_of c.args.kids.now)) ≡ false =
    sym c.kid_low.ensures ∙ c.if-not-kid_low.true in
    sym (rw first at step) ∙ c.loop-i.invariant

pub all_low-loop-i-preserved : goal.all_low-loop-i-preserved
all_low-loop-i-preserved t c =
    let step = low.all-step c.args.kids.now c.loop-i.i c.args.room c.args.sort (omega arith) in
    let first : spec.kid_low c.args.room c.args.sort (nodes_from c.loop-i.i (nodes_of c.args.kids.now)) ≡ true =
    sym c.kid_low.ensures ∙ c.if-not-kid_low.false in
    sym (rw first at step) ∙ c.loop-i.invariant

pub all_low-returns : goal.all_low-returns
all_low-returns t c =
    ap (spec.all_low c.args.room c.args.sort) (sym (nodes_from-past c.args.kids.now c.loop-i.i (omega arith))) ∙ c.loop-i.invariant

pub item_low-returns-then-len-i : goal.item_low-returns-then-len-i
item_low-returns-then-len-i t c = ap (spec.item_low c.args.room c.args.sort) (sym (nodes_from-past c.args.kids.now c.args.i (omega arith)))

pub item_low-judged_tree-requires : goal.item_low-judged_tree-requires
item_low-judged_tree-requires t c =
    let h : size_of c.in-Some.kid.now < sizes_of (nodes_of c.args.kids.now) =
    kid_size c.args.kids.now c.args.i c.in-Some.kid.now c.in-Some.ensures.found in
    (omega arith, tt)

pub item_low-returns-in-Some-judged_tree : goal.item_low-returns-in-Some-judged_tree
item_low-returns-in-Some-judged_tree t c =
    sym (low.item-answer c.args.room c.args.sort c.comma_behind-sign.result c.in-Some.kid.now _ _ c.in-Some-judged_tree.ends
    c.ends_before.result (nodes_from-get c.args.kids.now c.args.i c.in-Some.kid.now c.in-Some.ensures.found)
    c.in-Some-judged_tree.ensures c.comma_behind-sign.ensures c.ends_before.ensures)

pub item_low-returns-in-None-judged_tree : goal.item_low-returns-in-None-judged_tree
item_low-returns-in-None-judged_tree t c =
    sym (low.item-refused c.args.room c.args.sort c.in-Some.kid.now _ _
    (nodes_from-get c.args.kids.now c.args.i c.in-Some.kid.now c.in-Some.ensures.found) c.in-None-judged_tree.ensures)

pub more_low-returns-then-len-from : goal.more_low-returns-then-len-from
more_low-returns-then-len-from t c =
    ap (spec.more_low c.args.room c.args.sort) (sym (nodes_from-past c.args.kids.now c.args.from (omega arith)))

pub more_low-returns-then-not-item_low : goal.more_low-returns-then-not-item_low
more_low-returns-then-not-item_low t c =
    let step = low.more-step c.args.kids.now c.loop-i.i c.args.room c.args.sort (omega arith) in
    let first : spec.item_low c.args.room c.args.sort (nodes_from c.loop-i.i (nodes_of c.args.kids.now)) ≡ false =
    sym c.item_low.ensures ∙ c.if-not-item_low.true in
    sym (rw first at step) ∙ c.loop-i.invariant

pub more_low-loop-i-preserved : goal.more_low-loop-i-preserved
more_low-loop-i-preserved t c =
    let step = low.more-step c.args.kids.now c.loop-i.i c.args.room c.args.sort (omega arith) in
    let first : spec.item_low c.args.room c.args.sort (nodes_from c.loop-i.i (nodes_of c.args.kids.now)) ≡ true =
    sym c.item_low.ensures ∙ c.if-not-item_low.false in
    sym (rw first at step) ∙ c.loop-i.invariant

pub more_low-returns : goal.more_low-returns
more_low-returns t c =
    let end : c.loop-i.i ≡ c.len-end.result - 1 = omega arith in
    let same = ap (λ i. spec.more_low c.args.room c.args.sort (nodes_from i (nodes_of c.args.kids.now))) (sym end) in
    c.is_comma_at.ensures ∙ (sym (low.more-end c.args.kids.now (c.len-end.result - 1) c.args.room c.args.sort (omega arith)) ∙
    (same ∙ c.loop-i.invariant))

pub more_elements_low-returns-then-saturating_sub-lt2 : goal.more_elements_low-returns-then-saturating_sub-lt2
more_elements_low-returns-then-saturating_sub-lt2 t c =
    sym (low.elements-few c.args.kids.now c.args.from c.args.room c.args.sort (omega arith))

pub more_elements_low-returns-then-not-item_low : goal.more_elements_low-returns-then-not-item_low
more_elements_low-returns-then-not-item_low t c =
    let step = low.elements-step c.args.kids.now c.loop-i.i c.args.room c.args.sort (omega arith) in
    let first : spec.item_low c.args.room c.args.sort (nodes_from c.loop-i.i (nodes_of c.args.kids.now)) ≡ false =
    sym c.item_low.ensures ∙ c.if-not-item_low.true in
    sym (rw first at step) ∙ c.loop-i.invariant

pub more_elements_low-loop-i-preserved : goal.more_elements_low-loop-i-preserved
more_elements_low-loop-i-preserved t c =
    let step = low.elements-step c.args.kids.now c.loop-i.i c.args.room c.args.sort (omega arith) in
    let first : spec.item_low c.args.room c.args.sort (nodes_from c.loop-i.i (nodes_of c.args.kids.now)) ≡ true =
    sym c.item_low.ensures ∙ c.if-not-item_low.false in
    sym (rw first at step) ∙ c.loop-i.invariant

pub more_elements_low-returns-then-are_dots_at : goal.more_elements_low-returns-then-are_dots_at
more_elements_low-returns-then-are_dots_at t c =
    let end : c.loop-i.i ≡ c.len-end.result - 2 = omega arith in
    let same = ap (λ i. spec.more_elements_low c.args.room c.args.sort (nodes_from i (nodes_of c.args.kids.now))) (sym end) in
    let both = low.elements-end c.args.kids.now (c.len-end.result - 2) c.args.room c.args.sort (omega arith) in
    let dots : spec.first_is is_none_or_dots (nodes_from (c.len-end.result - 2) (nodes_of c.args.kids.now)) ≡ true =
    sym c.are_dots_at.ensures ∙ c.if-are_dots_at.true in
    c.is_comma_at.ensures ∙ (sym (rw dots at both) ∙ (same ∙ c.loop-i.invariant))

pub more_elements_low-returns-else-are_dots_at : goal.more_elements_low-returns-else-are_dots_at
more_elements_low-returns-else-are_dots_at t c =
    let end : c.loop-i.i ≡ c.len-end.result - 2 = omega arith in
    let same = ap (λ i. spec.more_elements_low c.args.room c.args.sort (nodes_from i (nodes_of c.args.kids.now))) (sym end) in
    let both = low.elements-end c.args.kids.now (c.len-end.result - 2) c.args.room c.args.sort (omega arith) in
    let dots : spec.first_is is_none_or_dots (nodes_from (c.len-end.result - 2) (nodes_of c.args.kids.now)) ≡ false =
    sym c.are_dots_at.ensures ∙ c.if-are_dots_at.false in
    c.if-are_dots_at.false ∙ (sym (rw dots at both) ∙ (same ∙ c.loop-i.invariant))

pub list_low-returns-then-saturating_sub-eq1 : goal.list_low-returns-then-saturating_sub-eq1
list_low-returns-then-saturating_sub-eq1 t c =
    c.is_absent_at.ensures ∙ sym (low.list-one c.args.kids.now c.args.from c.args.room c.args.sort (omega arith))

pub list_low-returns : goal.list_low-returns
list_low-returns t c =
    let left : c.saturating_sub.result ≡ length c.args.kids.now - c.args.from = omega arith in
    c.more_low.ensures ∙ sym (low.list-other c.args.kids.now c.args.from c.args.room c.args.sort
    (λ e. c.if-saturating_sub-eq1.false (left ∙ e)))

pub elements_low-returns-then-is_absent_at : goal.elements_low-returns-then-is_absent_at
elements_low-returns-then-is_absent_at t c =
    let two = low.elements-two c.args.kids.now c.args.from c.args.room c.args.sort (omega arith) in
    let first : spec.first_is is_none (nodes_from c.args.from (nodes_of c.args.kids.now)) ≡ true =
    sym c.is_absent_at.ensures ∙ c.if-is_absent_at.true in
    c.is_absent_at-then-is_absent_at.ensures ∙ sym (rw first at two)

pub elements_low-returns-else-is_absent_at : goal.elements_low-returns-else-is_absent_at
elements_low-returns-else-is_absent_at t c =
    let two = low.elements-two c.args.kids.now c.args.from c.args.room c.args.sort (omega arith) in
    let first : spec.first_is is_none (nodes_from c.args.from (nodes_of c.args.kids.now)) ≡ false =
    sym c.is_absent_at.ensures ∙ c.if-is_absent_at.false in
    c.if-is_absent_at.false ∙ sym (rw first at two)

pub elements_low-returns : goal.elements_low-returns
elements_low-returns t c =
    let left : c.saturating_sub.result ≡ length c.args.kids.now - c.args.from = omega arith in
    c.more_elements_low.ensures ∙ sym
    (low.elements-other c.args.kids.now c.args.from c.args.room c.args.sort (λ e. c.if-saturating_sub-eq2.false (left ∙ e)))
