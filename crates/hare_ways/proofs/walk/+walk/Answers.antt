use Rattle.std.proofs.Common.{rules, ◌≡◌, ◌+◌, ◌<◌, [], ◌∷◌, ◌++◌, true, false, length, get_or, drop, ap, sym, ◌∙◌, arith}
use Rattle.std.proofs.lemmas.Grind.{common_steps}
use Rattle.std.proofs.lemmas.List.{append-nil}
use Rattle.std.proofs.lemmas.Result.{on_ok_weaker}
use Rattle.hare_tree.specs.declared.form.Piece.TheVariants as pi
use Rattle.hare_tree.specs.declared.form.Sign.TheVariants as si
use Rattle.hare_tree.specs.Node.{head, kids_of, nodes_of, size_of, sizes_of}
use Rattle.hare_tree.specs.Forms.{form_of}
use Rattle.hare_tree.specs.Spell.{kids_spelled, stands_alone}
use Rattle.hare_tree.specs.Judged.{nodes_from}
use Rattle.hare_tree.proofs.Spelling.Spelled.{drop-past}
use Rattle.hare_tree.proofs.TreeKids.KidsFrom.{nodes_from-get, nodes_from-one, nodes_from-past, kids_of-open}
use Rattle.hare_ways.specs.Breaks.{breaks_of}
use Rattle.hare_ways.specs.Ways.{ways}
use Rattle.hare_ways.specs.Parts.{items_of, part_of, nodes_behind}
use Rattle.hare_ways.specs.Walk.{at_depth, kid_ways, first_ways, row_ways, start_of, pieces_walk}
use Rattle.hare_ways.proofs.Counted.{trees_have_ways}
use Rattle.hare_ways.proofs.Walked.{tree-walk}
use Rattle.hare_ways.proofs.FormSteps.{drop-at}
use Rattle.hare_ways.proofs.KidLemmas.{nodes_from-next}
use Rattle.hare_ways.proofs.Puts.{IsPut, put-many, walk-next, walk-room, put-deeper, put-within, length-put, before-alone, behind-alone}
use Rattle.hare_ways.proofs.Puts.{sign-is, own-is, one-is, all-is, listed-is, depth-fits, never-inside}
use Rattle.hare_ways.proofs.RowPuts as row
use Rattle.hare_ways.proofs.LedPuts as led
use Rattle.hare_ways.proofs.walk.+walk.Goals as goal

-- ---- single kids

pub put_kid-put_led-requires : goal.put_kid-put_led-requires
put_kid-put_led-requires t c =
    let kid = c.in-Some.kid.now in
    let h : size_of kid < sizes_of (nodes_of c.args.kids.now) = c.in-Some.ensures.smaller in
    let one = nodes_from-get c.args.kids.now c.args.i kid c.in-Some.ensures.found in
    let many = ap (λ us. length (first_ways c.args.comments.now c.args.stand.kind c.args.stand.start c.args.lead
    (length c.args.out.now.items) us)) one in
    (omega arith, (omega (arith, many, c.requires.room), c.requires.within))

pub put_kid-returns-in-Some : goal.put_kid-returns-in-Some
put_kid-returns-in-Some t c =
    let kid = c.in-Some.kid.now in
    let one = nodes_from-get c.args.kids.now c.args.i kid c.in-Some.ensures.found in
    on_ok_weaker c.put_led.result
    (λ e. e ∙ ap (λ us. c.args.out.now.items ++ at_depth c.args.stand.depth
    (first_ways c.args.comments.now c.args.stand.kind c.args.stand.start c.args.lead (length c.args.out.now.items) us)) (sym one))
    c.put_led.ensures

pub put_kid-returns-in-None : goal.put_kid-returns-in-None
put_kid-returns-in-None t c =
    let none = nodes_from-past c.args.kids.now c.args.i c.in-None.ensures.none in
    sym (append-nil c.args.out.now.items)
    ∙ ap (λ us. c.args.out.now.items ++ at_depth c.args.stand.depth
    (first_ways c.args.comments.now c.args.stand.kind c.args.stand.start c.args.lead (length c.args.out.now.items) us)) (sym none)

-- ---- kids side by side

pub put_row-put_kid-requires : goal.put_row-put_kid-requires
put_row-put_kid-requires t c =
    let s = c.args.stand in
    let cs = c.args.comments.now in
    let one = nodes_from-one c.args.kids.now c.loop-i.i (omega arith) in
    let old = c.args.out.now.items in
    let all = old ++ at_depth s.depth (row_ways cs s.kind s.start c.args.lead (length old) (nodes_from c.args.from
    (nodes_of c.args.kids.now))) in
    let long = row.length-all s.depth old
    (row_ways cs s.kind s.start c.args.lead (length old) (nodes_from c.args.from (nodes_of c.args.kids.now))) in
    let room = row.row-room cs s.kind s.start c.args.lead s.depth 4294967296 c.loop-i.out.items all
    (nodes_from c.loop-i.i (nodes_of c.args.kids.now)) one.0 _ one.1 c.loop-i.invariant.text (omega (arith, long, c.requires.room)) in
    (omega arith, (room, c.loop-i.invariant.within))

pub put_row-loop-i-preserved : goal.put_row-loop-i-preserved
put_row-loop-i-preserved t c =
    let s = c.args.stand in
    let cs = c.args.comments.now in
    let one = nodes_from-one c.args.kids.now c.loop-i.i (omega arith) in
    let many = length-put s.depth c.loop-i.out.items c.put_kid.new.out.items _ c.in_ok-put_kid.ensures in
    record {
      text = row.row-next cs s.kind s.start c.args.lead s.depth c.loop-i.out.items c.put_kid.new.out.items _
          (nodes_from c.loop-i.i (nodes_of c.args.kids.now)) one.0 _ one.1 c.in_ok-put_kid.ensures c.loop-i.invariant.text;
      within = omega (arith, many, c.loop-i.invariant.within);
    }

pub put_row-returns : goal.put_row-returns
put_row-returns t c =
    let s = c.args.stand in
    row.row-end c.args.comments.now s.kind s.start c.args.lead s.depth c.loop-i.out.items _ _
    (nodes_from-past c.args.kids.now c.loop-i.i (omega arith)) c.loop-i.invariant.text

pub put_listed-returns-then-len-from : goal.put_listed-returns-then-len-from
put_listed-returns-then-len-from t c =
    row.listed-none c.args.comments.now c.args.stand.kind c.args.stand.start c.args.stand.depth c.args.out.now.items _
    (nodes_from-past c.args.kids.now c.args.from (omega arith))

pub put_listed-put_kid-requires : goal.put_listed-put_kid-requires
put_listed-put_kid-requires t c = (
  omega arith,
  (
    row.listed-room c.args.comments.now c.args.stand.kind c.args.stand.start 4294967296 c.args.out.now.items
        (nodes_from c.args.from (nodes_of c.args.kids.now)) c.requires.room,
    c.requires.within,
  ),
)

pub put_listed-put_row-requires : goal.put_listed-put_row-requires
put_listed-put_row-requires t c =
    let s = c.args.stand in
    let many = length-put s.depth c.args.out.now.items c.put_kid.new.out.items _ c.in_ok-put_kid.ensures in (
      omega arith,
      (
        row.listed-others c.args.comments.now s.kind s.start s.depth 4294967296 c.args.out.now.items c.put_kid.new.out.items
            (nodes_from c.args.from (nodes_of c.args.kids.now)) _ (nodes_from-next c.args.from
            (nodes_of c.args.kids.now)) c.in_ok-put_kid.ensures
            c.requires.room,
        omega (arith, many, c.requires.within),
      ),
    )

pub put_listed-returns : goal.put_listed-returns
put_listed-returns t c =
    let s = c.args.stand in
    on_ok_weaker c.put_row.result
    (row.listed-put c.args.comments.now s.kind s.start s.depth c.args.out.now.items c.put_kid.new.out.items c.put_row.new.out.items
    (nodes_from c.args.from (nodes_of c.args.kids.now)) _ (nodes_from-next c.args.from (nodes_of c.args.kids.now)) c.in_ok-put_kid.ensures)
    c.put_row.ensures

-- ---- a kid with its sign

pub put_led-put_started-requires : goal.put_led-put_started-requires
put_led-put_started-requires t c =
    let n = length c.args.out.now.items in
    let same = ap (λ l. length (kid_ways c.args.comments.now c.args.stand.kind c.args.stand.start l n c.args.kid.now)) c.in-Nothing.is in
    let room = led.nothing-room c.args.comments.now c.args.stand.kind c.args.stand.start 4294967296 c.args.out.now.items c.args.kid.now
    (omega (arith, same, c.requires.room)) in
    (omega arith, (room, c.requires.within))

pub put_led-put_before-requires : goal.put_led-put_before-requires
put_led-put_before-requires t c =
    let n = length c.args.out.now.items in
    let same = ap (λ l. length (kid_ways c.args.comments.now c.args.stand.kind c.args.stand.start l n c.args.kid.now)) c.in-Before.is in
    (omega arith, (omega (arith, same, c.requires.room), c.requires.within))

pub put_led-put_behind-requires : goal.put_led-put_behind-requires
put_led-put_behind-requires t c =
    let n = length c.args.out.now.items in
    let same = ap (λ l. length (kid_ways c.args.comments.now c.args.stand.kind c.args.stand.start l n c.args.kid.now)) c.in-Behind.is in
    (omega arith, (omega (arith, same, c.requires.room), c.requires.within))

pub put_led-returns-in-Nothing : goal.put_led-returns-in-Nothing
put_led-returns-in-Nothing t c =
    let s = c.args.stand in
    let n = length c.args.out.now.items in
    on_ok_weaker c.put_started.result
    (λ e. led.nothing-put c.args.comments.now s.kind s.start s.depth c.args.out.now.items c.put_started.new.out.items c.args.kid.now e
    ∙ ap (λ l. c.args.out.now.items ++ at_depth s.depth (kid_ways c.args.comments.now s.kind s.start l n c.args.kid.now))
    (sym c.in-Nothing.is))
    c.put_started.ensures

pub put_led-returns-in-Before : goal.put_led-returns-in-Before
put_led-returns-in-Before t c =
    let s = c.args.stand in
    let n = length c.args.out.now.items in
    on_ok_weaker c.put_before.result
    (λ e. e ∙ ap (λ l. c.args.out.now.items ++ at_depth s.depth (kid_ways c.args.comments.now s.kind s.start l n c.args.kid.now))
    (sym c.in-Before.is))
    c.put_before.ensures

pub put_led-returns-in-Behind : goal.put_led-returns-in-Behind
put_led-returns-in-Behind t c =
    let s = c.args.stand in
    let n = length c.args.out.now.items in
    on_ok_weaker c.put_behind.result
    (λ e. e ∙ ap (λ l. c.args.out.now.items ++ at_depth s.depth (kid_ways c.args.comments.now s.kind s.start l n c.args.kid.now))
    (sym c.in-Behind.is))
    c.put_behind.ensures

-- ---- a sign in front

pub put_before-put_tree-requires : goal.put_before-put_tree-requires
put_before-put_tree-requires t c =
    let k : stands_alone (head c.args.kid.now).kind ≡ true =
    ap (λ u. stands_alone (head u).kind) (sym c.kid.view_is) ∙ sym c.stands_alone.ensures ∙ c.if-stands_alone.true in
    let same = ap length
    (before-alone c.args.comments.now c.args.stand.kind c.args.stand.start c.args.s (length c.args.out.now.items) c.args.kid.now k) in
    (omega arith, (omega (arith, same, c.requires.room), c.requires.within))

pub put_before-returns-then-stands_alone : goal.put_before-returns-then-stands_alone
put_before-returns-then-stands_alone t c =
    let s = c.args.stand in
    let k : stands_alone (head c.args.kid.now).kind ≡ true =
    ap (λ u. stands_alone (head u).kind) (sym c.kid.view_is) ∙ sym c.stands_alone.ensures ∙ c.if-stands_alone.true in
    on_ok_weaker c.put_tree.result
    (λ e. e ∙ ap (λ ws. c.args.out.now.items ++ at_depth s.depth ws)
    (sym (before-alone c.args.comments.now s.kind s.start c.args.s (length c.args.out.now.items) c.args.kid.now k)))
    c.put_tree.ensures

pub put_before-put_started-requires : goal.put_before-put_started-requires
put_before-put_started-requires t c =
    let s = c.args.stand in
    let k : stands_alone (head c.args.kid.now).kind ≡ false =
    ap (λ u. stands_alone (head u).kind) (sym c.kid.view_is) ∙ sym c.stands_alone.ensures ∙ c.if-stands_alone.false in
    let room = led.before-room c.args.comments.now s.kind s.start c.args.s 4294967296 c.args.out.now.items c.push.new.self.items
    c.sign_way.result c.args.kid.now k c.in_ok-push.ensures.items c.requires.room in
    let many = led.length-one c.args.out.now.items c.push.new.self.items c.sign_way.result c.in_ok-push.ensures.items in
    (omega arith, (room, omega (arith, many, c.requires.within)))

pub put_before-returns : goal.put_before-returns
put_before-returns t c =
    let s = c.args.stand in
    let k : stands_alone (head c.args.kid.now).kind ≡ false =
    ap (λ u. stands_alone (head u).kind) (sym c.kid.view_is) ∙ sym c.stands_alone.ensures ∙ c.if-stands_alone.false in
    on_ok_weaker c.put_started.result
    (led.before-put c.args.comments.now s.kind s.start c.args.s s.depth c.args.out.now.items c.push.new.self.items
    c.put_started.new.out.items
    c.sign_way.result c.args.kid.now k c.in_ok-push.ensures.items c.sign_way.ensures)
    c.put_started.ensures

-- ---- a sign behind

pub put_behind-put_tree-requires : goal.put_behind-put_tree-requires
put_behind-put_tree-requires t c =
    let k : stands_alone (head c.args.kid.now).kind ≡ true =
    ap (λ u. stands_alone (head u).kind) (sym c.kid.view_is) ∙ sym c.stands_alone.ensures ∙ c.if-stands_alone.true in
    let same = ap length
    (behind-alone c.args.comments.now c.args.stand.kind c.args.stand.start c.args.s (length c.args.out.now.items) c.args.kid.now k) in
    (omega arith, (omega (arith, same, c.requires.room), c.requires.within))

pub put_behind-returns-then-stands_alone : goal.put_behind-returns-then-stands_alone
put_behind-returns-then-stands_alone t c =
    let s = c.args.stand in
    let k : stands_alone (head c.args.kid.now).kind ≡ true =
    ap (λ u. stands_alone (head u).kind) (sym c.kid.view_is) ∙ sym c.stands_alone.ensures ∙ c.if-stands_alone.true in
    on_ok_weaker c.put_tree.result
    (λ e. e ∙ ap (λ ws. c.args.out.now.items ++ at_depth s.depth ws)
    (sym (behind-alone c.args.comments.now s.kind s.start c.args.s (length c.args.out.now.items) c.args.kid.now k)))
    c.put_tree.ensures

pub put_behind-put_started-requires : goal.put_behind-put_started-requires
put_behind-put_started-requires t c =
    let s = c.args.stand in
    let k : stands_alone (head c.args.kid.now).kind ≡ false =
    ap (λ u. stands_alone (head u).kind) (sym c.kid.view_is) ∙ sym c.stands_alone.ensures ∙ c.if-stands_alone.false in (
      omega arith,
      (
        led.behind-room c.args.comments.now s.kind s.start c.args.s 4294967296 c.args.out.now.items c.args.kid.now k c.requires.room,
        c.requires.within,
      ),
    )

pub put_behind-returns : goal.put_behind-returns
put_behind-returns t c =
    let s = c.args.stand in
    let k : stands_alone (head c.args.kid.now).kind ≡ false =
    ap (λ u. stands_alone (head u).kind) (sym c.kid.view_is) ∙ sym c.stands_alone.ensures ∙ c.if-stands_alone.false in
    led.behind-put c.args.comments.now s.kind s.start c.args.s s.depth c.args.out.now.items c.put_started.new.out.items
    c.push.new.self.items
    c.sign_way.result c.args.kid.now k c.in_ok-put_started.ensures c.sign_way.ensures c.in_ok-push.ensures.items

-- ---- beginning a line

pub put_started-put_tree-requires : goal.put_started-put_tree-requires
put_started-put_tree-requires t c = (omega arith, (c.requires.room, c.requires.within))

pub put_started-returns : goal.put_started-returns
put_started-returns t c =
    let old = c.args.out.now.items in
    let first : length old ≡ c.len-first.result = omega (arith, c.len-first.ensures) in
    led.started-put c.args.comments.now c.args.stand.start c.args.stand.depth old c.begin.new.out.items c.args.kid.now
    (c.begin.ensures old (at_depth c.args.stand.depth (ways c.args.comments.now (length old) c.args.kid.now)) c.in_ok-put_tree.ensures
    first)

-- ---- parts

pub put_part-depth_within-requires : goal.put_part-depth_within-requires
put_part-depth_within-requires t c = λ i. omega (arith, c.requires.deeper i, c.requires.room)

pub put_part-returns-in_ok-push-in-Sign : goal.put_part-returns-in_ok-push-in-Sign
put_part-returns-in_ok-push-in-Sign t c =
    let tree = c.args.t.now in
    let is = sign-is c.args.comments.now (head tree) c.args.breaks c.args.at.inside c.args.start c.args.part c.in-Sign.s
    (length c.args.out.now.items) (nodes_from c.args.at.kid (kids_of tree)) c.in-Sign.is in
    put-within c.args.breaks c.args.at.inside c.args.depth c.depth_within.result c.args.out.now.items c.push.new.self.items _ _
    c.depth_within.ensures (c.in_ok-push-in-Sign.ensures.items ∙ ap (λ w. c.args.out.now.items ++ w ∷ []) c.fixed_way.ensures) (sym is)

pub put_part-returns-in-Own : goal.put_part-returns-in-Own
put_part-returns-in-Own t c =
    let tree = c.args.t.now in
    let is = own-is c.args.comments.now (head tree) c.args.breaks c.args.at.inside c.args.start c.args.part c.in-Own.own
    (length c.args.out.now.items) (nodes_from c.args.at.kid (kids_of tree)) c.in-Own.is in
    on_ok_weaker c.put_own.result
    (λ e. put-within c.args.breaks c.args.at.inside c.args.depth c.depth_within.result c.args.out.now.items c.put_own.new.out.items _ _
    c.depth_within.ensures e (sym is))
    c.put_own.ensures

pub put_part-put_kid-requires : goal.put_part-put_kid-requires
put_part-put_kid-requires t c =
    let tree = c.args.t.now in
    let kids : kids_of tree ≡ nodes_of c.t.inside.kids = kids_of-open _ c.t.inside.kids tree c.t.view_is in
    let is = one-is c.args.comments.now (head tree) c.args.breaks c.args.at.inside c.args.start c.args.part c.in-One.lead
    (length c.args.out.now.items)
    c.args.at.kid c.t.inside.kind (kids_of tree) (nodes_of c.t.inside.kids) c.in-One.is (ap (λ u. (head u).kind) c.t.view_is) kids in (
      first_of (search rules, grind (arith, common_steps)),
      (
        omega (arith, ap length is, c.requires.room),
        depth-fits c.args.breaks c.args.at.inside c.args.depth c.depth_within.result (length c.args.out.now.items) c.depth_within.ensures
            c.requires.within c.requires.deeper,
      ),
    )

pub put_part-returns-in-One : goal.put_part-returns-in-One
put_part-returns-in-One t c =
    let tree = c.args.t.now in
    let kids : kids_of tree ≡ nodes_of c.t.inside.kids = kids_of-open _ c.t.inside.kids tree c.t.view_is in
    let is = one-is c.args.comments.now (head tree) c.args.breaks c.args.at.inside c.args.start c.args.part c.in-One.lead
    (length c.args.out.now.items)
    c.args.at.kid c.t.inside.kind (kids_of tree) (nodes_of c.t.inside.kids) c.in-One.is (ap (λ u. (head u).kind) c.t.view_is) kids in
    on_ok_weaker c.put_kid.result
    (λ e. put-within c.args.breaks c.args.at.inside c.args.depth c.depth_within.result c.args.out.now.items c.put_kid.new.out.items _ _
    c.depth_within.ensures e (sym is))
    c.put_kid.ensures

pub put_part-put_row-requires : goal.put_part-put_row-requires
put_part-put_row-requires t c =
    let tree = c.args.t.now in
    let kids : kids_of tree ≡ nodes_of c.t.inside.kids = kids_of-open _ c.t.inside.kids tree c.t.view_is in
    let is = all-is c.args.comments.now (head tree) c.args.breaks c.args.at.inside c.args.start c.args.part c.in-All.lead
    (length c.args.out.now.items)
    c.args.at.kid c.t.inside.kind (kids_of tree) (nodes_of c.t.inside.kids) c.in-All.is (ap (λ u. (head u).kind) c.t.view_is) kids in (
      first_of (search rules, grind (arith, common_steps)),
      (
        omega (arith, ap length is, c.requires.room),
        depth-fits c.args.breaks c.args.at.inside c.args.depth c.depth_within.result (length c.args.out.now.items) c.depth_within.ensures
            c.requires.within c.requires.deeper,
      ),
    )

pub put_part-returns-in-All : goal.put_part-returns-in-All
put_part-returns-in-All t c =
    let tree = c.args.t.now in
    let kids : kids_of tree ≡ nodes_of c.t.inside.kids = kids_of-open _ c.t.inside.kids tree c.t.view_is in
    let is = all-is c.args.comments.now (head tree) c.args.breaks c.args.at.inside c.args.start c.args.part c.in-All.lead
    (length c.args.out.now.items)
    c.args.at.kid c.t.inside.kind (kids_of tree) (nodes_of c.t.inside.kids) c.in-All.is (ap (λ u. (head u).kind) c.t.view_is) kids in
    on_ok_weaker c.put_row.result
    (λ e. put-within c.args.breaks c.args.at.inside c.args.depth c.depth_within.result c.args.out.now.items c.put_row.new.out.items _ _
    c.depth_within.ensures e (sym is))
    c.put_row.ensures

pub put_part-put_listed-requires : goal.put_part-put_listed-requires
put_part-put_listed-requires t c =
    let tree = c.args.t.now in
    let kids : kids_of tree ≡ nodes_of c.t.inside.kids = kids_of-open _ c.t.inside.kids tree c.t.view_is in
    let is = listed-is c.args.comments.now (head tree) c.args.breaks c.args.at.inside c.args.start c.args.part (length c.args.out.now.items)
    c.args.at.kid c.t.inside.kind (kids_of tree) (nodes_of c.t.inside.kids) c.in-Listed.is (ap (λ u. (head u).kind) c.t.view_is) kids in (
      first_of (search rules, grind (arith, common_steps)),
      (
        omega (arith, ap length is, c.requires.room),
        depth-fits c.args.breaks c.args.at.inside c.args.depth c.depth_within.result (length c.args.out.now.items) c.depth_within.ensures
            c.requires.within c.requires.deeper,
      ),
    )

pub put_part-returns-in-Listed : goal.put_part-returns-in-Listed
put_part-returns-in-Listed t c =
    let tree = c.args.t.now in
    let kids : kids_of tree ≡ nodes_of c.t.inside.kids = kids_of-open _ c.t.inside.kids tree c.t.view_is in
    let is = listed-is c.args.comments.now (head tree) c.args.breaks c.args.at.inside c.args.start c.args.part (length c.args.out.now.items)
    c.args.at.kid c.t.inside.kind (kids_of tree) (nodes_of c.t.inside.kids) c.in-Listed.is (ap (λ u. (head u).kind) c.t.view_is) kids in
    on_ok_weaker c.put_listed.result
    (λ e. put-within c.args.breaks c.args.at.inside c.args.depth c.depth_within.result c.args.out.now.items c.put_listed.new.out.items _ _
    c.depth_within.ensures e (sym is))
    c.put_listed.ensures

-- ---- trees

pub put_tree-breaks_of-breaks-requires : goal.put_tree-breaks_of-breaks-requires
put_tree-breaks_of-breaks-requires t c =
    omega (arith, c.requires.room, c.len.ensures, trees_have_ways c.args.comments.now (length c.args.out.now.items) c.args.t.now)

pub put_tree-loop-j-init : goal.put_tree-loop-j-init
put_tree-loop-j-init t c =
    let tree = c.args.t.now in
    let cs = c.args.comments.now in
    let old = c.args.out.now.items in
    let at : c.len.result ≡ length old = omega (arith, c.len.ensures) in
    record {
      text = ap (λ b. old ++ at_depth c.args.depth (pieces_walk cs (head tree) b false (form_of (head tree).kind) (length old)
          (kids_of tree)))
          (c.breaks_of-breaks.ensures ∙ ap (λ n. breaks_of cs (head tree) n (kids_spelled 0 tree) (items_of (kids_of tree))) at)
          ∙ ap (λ ws. old ++ at_depth c.args.depth ws) (sym (tree-walk cs (length old) tree));
      within = c.requires.within;
      deeper = λ e. never-inside c.args.depth (length old) e;
    }

pub put_tree-put_part-requires : goal.put_tree-put_part-requires
put_tree-put_part-requires t c =
    let tree = c.args.t.now in
    let cs = c.args.comments.now in
    let old = c.args.out.now.items in
    let ps = form_of (head tree).kind in
    let is : c.form_of-form.result.now ≡ ps = c.form_of-form.ensures ∙ ap (λ u. form_of (head u).kind) c.t.view_is in
    let d = pi.Fixed si.Abort in
    let j = c.loop-j.j in
    let within : j < length ps = omega (arith, ap length is) in
    let part : c.part_of-part.result ≡ part_of (get_or ps j d) (head tree).text =
    c.part_of-part.ensures ∙ ap (λ qs. part_of (get_or qs j d) c.bytes.result.now) is
    ∙ ap (part_of (get_or ps j d)) (c.bytes.ensures ∙ ap (λ u. (head u).text) c.t.view_is) in
    let start : c.start_of-start.result ≡ start_of c.breaks_of-breaks.result c.loop-j.at.inside (get_or ps j d) =
    c.start_of-start.ensures ∙ ap (λ qs. start_of c.breaks_of-breaks.result c.loop-j.at.inside (get_or qs j d)) is in
    let all = old ++ at_depth c.args.depth (ways cs (length old) tree) in
    let long = row.length-all c.args.depth old (ways cs (length old) tree) in
    let room = walk-room cs (head tree) c.breaks_of-breaks.result c.args.depth 4294967296 (get_or ps j d) (drop j ps) (drop (j + 1) ps)
    c.loop-j.at.inside c.start_of-start.result c.part_of-part.result c.loop-j.out.items all (nodes_from c.loop-j.at.kid (kids_of tree))
    (drop-at ps j d within) part start c.loop-j.invariant.text (omega (arith, long, c.requires.room)) in
    (omega arith, (room, (c.loop-j.invariant.within, c.loop-j.invariant.deeper)))

pub put_tree-loop-j-preserved : goal.put_tree-loop-j-preserved
put_tree-loop-j-preserved t c =
    let tree = c.args.t.now in
    let cs = c.args.comments.now in
    let ps = form_of (head tree).kind in
    let is : c.form_of-form.result.now ≡ ps = c.form_of-form.ensures ∙ ap (λ u. form_of (head u).kind) c.t.view_is in
    let d = pi.Fixed si.Abort in
    let j = c.loop-j.j in
    let within : j < length ps = omega (arith, ap length is) in
    let q = c.part_of-part.result in
    let part : q ≡ part_of (get_or ps j d) (head tree).text =
    c.part_of-part.ensures ∙ ap (λ qs. part_of (get_or qs j d) c.bytes.result.now) is
    ∙ ap (part_of (get_or ps j d)) (c.bytes.ensures ∙ ap (λ u. (head u).text) c.t.view_is) in
    let start : c.start_of-start.result ≡ start_of c.breaks_of-breaks.result c.loop-j.at.inside (get_or ps j d) =
    c.start_of-start.ensures ∙ ap (λ qs. start_of c.breaks_of-breaks.result c.loop-j.at.inside (get_or qs j d)) is in
    let kids : kids_of tree ≡ nodes_of c.t.inside.kids = kids_of-open _ c.t.inside.kids tree c.t.view_is in
    let x : IsPut cs (head tree) c.breaks_of-breaks.result c.args.depth (get_or ps j d) = record {
      part = q;
      start = c.start_of-start.result;
      inside = c.loop-j.at.inside;
      next_inside = c.inside_behind.result;
      kids = nodes_from c.loop-j.at.kid (kids_of tree);
      next_kids = nodes_from c.kid_behind.result (kids_of tree);
      out = c.loop-j.out.items;
      next_out = c.put_part.new.out.items;
      part_is = part;
      start_is = start;
      put = c.in_ok-put_part.ensures;
      inside_is = c.inside_behind.ensures;
      kids_are = ap (nodes_from c.kid_behind.result) kids ∙ c.kid_behind.ensures
          ∙ ap (λ us. nodes_behind q (nodes_from c.loop-j.at.kid us)) (sym kids);
    } in
    let many = put-many cs (head tree) c.breaks_of-breaks.result c.args.depth (get_or ps j d) x in
    record {
      text = walk-next cs (head tree) c.breaks_of-breaks.result c.args.depth (get_or ps j d) (drop j ps) (drop (j + 1) ps) _ x
          (drop-at ps j d within) c.loop-j.invariant.text;
      within = omega (arith, many, c.loop-j.invariant.within);
      deeper = put-deeper cs (head tree) c.breaks_of-breaks.result c.args.depth (get_or ps j d) x c.loop-j.invariant.within
          c.loop-j.invariant.deeper;
    }

pub put_tree-returns : goal.put_tree-returns
put_tree-returns t c =
    let tree = c.args.t.now in
    let ps = form_of (head tree).kind in
    let is : c.form_of-form.result.now ≡ ps = c.form_of-form.ensures ∙ ap (λ u. form_of (head u).kind) c.t.view_is in
    let past = drop-past ps c.loop-j.j (omega (arith, ap length is)) in
    sym (append-nil c.loop-j.out.items)
    ∙ ap (λ qs. c.loop-j.out.items ++ at_depth c.args.depth (pieces_walk c.args.comments.now (head tree) c.breaks_of-breaks.result
    c.loop-j.at.inside qs (length c.loop-j.out.items) (nodes_from c.loop-j.at.kid (kids_of tree)))) (sym past)
    ∙ c.loop-j.invariant.text
