use Rattle.std.proofs.Common.{◌≡◌, ◌<◌, true, false, length, get_or, ap, sym, ◌∙◌, arith}
use Rattle.hare_tree.specs.declared.form.Piece.TheVariants as pi
use Rattle.hare_tree.specs.declared.form.Sign.TheVariants as si
use Rattle.hare_tree.specs.Node.{head, kids_of, nodes_of, size_of, sizes_of}
use Rattle.hare_tree.specs.Forms.{form_of}
use Rattle.hare_tree.specs.Spell.{stands_alone}
use Rattle.hare_tree.specs.Judged.{nodes_from}
use Rattle.hare_tree.proofs.Spelling.Spelled.{spell-pieces}
use Rattle.hare_tree.proofs.TreeKids.KidsFrom.{nodes_from-get, nodes_from-one, nodes_from-past, kids_of-open}
use Rattle.hare_ways.specs.Parts.{part_of, nodes_behind}
use Rattle.hare_ways.proofs.Counting.{with-alone, with-sign, one-here, one-none, row-here, row-none, listed-here, listed-none}
use Rattle.hare_ways.proofs.FormSteps.{tokens-next, tokens-room}
use Rattle.hare_ways.proofs.count.+count.Goals as goal

-- ---- single kids

pub count_kid-count_tree-requires : goal.count_kid-count_tree-requires
count_kid-count_tree-requires t c =
    let kid = c.in-Some.kid.now in
    let us = nodes_from c.args.i (nodes_of c.args.kids.now) in
    let h : size_of kid < sizes_of (nodes_of c.args.kids.now) = c.in-Some.ensures.smaller in
    let k : stands_alone (head kid).kind ≡ true =
    ap (λ u. stands_alone (head u).kind) (sym c.kid.view_is) ∙ sym c.stands_alone.ensures ∙ c.if-stands_alone.true in
    let one = one-here c.args.lead us kid _ (nodes_from-get c.args.kids.now c.args.i kid c.in-Some.ensures.found) in
    (omega arith, omega (arith, one, with-alone c.args.lead kid k, c.requires))

pub count_kid-count_tree-requires-else-stands_alone : goal.count_kid-count_tree-requires-else-stands_alone
count_kid-count_tree-requires-else-stands_alone t c =
    let kid = c.in-Some.kid.now in
    let us = nodes_from c.args.i (nodes_of c.args.kids.now) in
    let h : size_of kid < sizes_of (nodes_of c.args.kids.now) = c.in-Some.ensures.smaller in
    let k : stands_alone (head kid).kind ≡ false =
    ap (λ u. stands_alone (head u).kind) (sym c.kid.view_is) ∙ sym c.stands_alone.ensures ∙ c.if-stands_alone.false in
    let one = one-here c.args.lead us kid _ (nodes_from-get c.args.kids.now c.args.i kid c.in-Some.ensures.found) in
    (omega arith, omega (arith, one, with-sign c.args.lead kid k, c.requires))

pub count_kid-overflow_add-result : goal.count_kid-overflow_add-result
count_kid-overflow_add-result t c =
    let kid = c.in-Some.kid.now in
    let us = nodes_from c.args.i (nodes_of c.args.kids.now) in
    let k : stands_alone (head kid).kind ≡ false =
    ap (λ u. stands_alone (head u).kind) (sym c.kid.view_is) ∙ sym c.stands_alone.ensures ∙ c.if-stands_alone.false in
    let one = one-here c.args.lead us kid _ (nodes_from-get c.args.kids.now c.args.i kid c.in-Some.ensures.found) in
    omega (arith, one, with-sign c.args.lead kid k, c.requires, c.count_tree-else-stands_alone.ensures, c.count_lead.ensures)

pub count_kid-returns-then-stands_alone : goal.count_kid-returns-then-stands_alone
count_kid-returns-then-stands_alone t c =
    let kid = c.in-Some.kid.now in
    let us = nodes_from c.args.i (nodes_of c.args.kids.now) in
    let k : stands_alone (head kid).kind ≡ true =
    ap (λ u. stands_alone (head u).kind) (sym c.kid.view_is) ∙ sym c.stands_alone.ensures ∙ c.if-stands_alone.true in
    let one = one-here c.args.lead us kid _ (nodes_from-get c.args.kids.now c.args.i kid c.in-Some.ensures.found) in
    c.count_tree.ensures ∙ sym (with-alone c.args.lead kid k) ∙ sym one

pub count_kid-returns-else-stands_alone : goal.count_kid-returns-else-stands_alone
count_kid-returns-else-stands_alone t c =
    let kid = c.in-Some.kid.now in
    let us = nodes_from c.args.i (nodes_of c.args.kids.now) in
    let k : stands_alone (head kid).kind ≡ false =
    ap (λ u. stands_alone (head u).kind) (sym c.kid.view_is) ∙ sym c.stands_alone.ensures ∙ c.if-stands_alone.false in
    let one = one-here c.args.lead us kid _ (nodes_from-get c.args.kids.now c.args.i kid c.in-Some.ensures.found) in
    omega (arith, one, with-sign c.args.lead kid k, c.count_tree-else-stands_alone.ensures, c.count_lead.ensures)

pub count_kid-returns-in-None : goal.count_kid-returns-in-None
count_kid-returns-in-None t c = one-none c.args.lead _ (nodes_from-past c.args.kids.now c.args.i c.in-None.ensures.none)

-- ---- kids side by side

pub count_row-loop-i-preserved : goal.count_row-loop-i-preserved
count_row-loop-i-preserved t c =
    let one = nodes_from-one c.args.kids.now c.loop-i.i (omega arith) in
    let here = row-here c.args.lead (nodes_from c.loop-i.i (nodes_of c.args.kids.now)) one.0 _ one.1 in
    omega (arith, here, c.loop-i.invariant, c.count_kid-count.ensures)

pub count_row-returns : goal.count_row-returns
count_row-returns t c =
    let none = row-none c.args.lead _ (nodes_from-past c.args.kids.now c.loop-i.i (omega arith)) in
    omega (arith, none, c.loop-i.invariant)

pub count_listed-returns-then-len-from : goal.count_listed-returns-then-len-from
count_listed-returns-then-len-from t c = listed-none _ (nodes_from-past c.args.kids.now c.args.from (omega arith))

pub count_listed-count_row-requires : goal.count_listed-count_row-requires
count_listed-count_row-requires t c =
    let one = nodes_from-one c.args.kids.now c.args.from (omega arith) in
    let here = listed-here (nodes_from c.args.from (nodes_of c.args.kids.now)) one.0 _ one.1 in
    (omega arith, omega (arith, here, c.requires))

pub count_listed-overflow_add-result : goal.count_listed-overflow_add-result
count_listed-overflow_add-result t c =
    let one = nodes_from-one c.args.kids.now c.args.from (omega arith) in
    let here = listed-here (nodes_from c.args.from (nodes_of c.args.kids.now)) one.0 _ one.1 in
    omega (arith, here, c.requires, c.count_kid.ensures, c.count_row.ensures)

pub count_listed-returns : goal.count_listed-returns
count_listed-returns t c =
    let one = nodes_from-one c.args.kids.now c.args.from (omega arith) in
    let here = listed-here (nodes_from c.args.from (nodes_of c.args.kids.now)) one.0 _ one.1 in
    omega (arith, here, c.count_kid.ensures, c.count_row.ensures)

-- ---- trees

pub count_tree-loop-j-init : goal.count_tree-loop-j-init
count_tree-loop-j-init t c = omega (arith, ap length (spell-pieces 0 c.args.t.now))

pub count_tree-count_part-count-requires : goal.count_tree-count_part-count-requires
count_tree-count_part-count-requires t c =
    let tree = c.args.t.now in
    let ps = form_of (head tree).kind in
    let is : c.form_of-form.result.now ≡ ps = c.form_of-form.ensures ∙ ap (λ u. form_of (head u).kind) c.t.view_is in
    let d = pi.Fixed si.Abort in
    let j = c.loop-j.j in
    let within : j < length ps = omega (arith, ap length is) in
    let part : c.part_of-part.result ≡ part_of (get_or ps j d) (head tree).text =
    c.part_of-part.ensures ∙ ap (λ qs. part_of (get_or qs j d) c.bytes.result.now) is
    ∙ ap (part_of (get_or ps j d)) (c.bytes.ensures ∙ ap (λ u. (head u).text) c.t.view_is) in
    let room = tokens-room (head tree) ps j d c.part_of-part.result (nodes_from c.loop-j.kid (kids_of tree)) c.loop-j.count _ within part
    c.loop-j.invariant in
    (omega arith, omega (arith, room, c.requires))

pub count_tree-overflow_add-count : goal.count_tree-overflow_add-count
count_tree-overflow_add-count t c =
    let tree = c.args.t.now in
    let ps = form_of (head tree).kind in
    let is : c.form_of-form.result.now ≡ ps = c.form_of-form.ensures ∙ ap (λ u. form_of (head u).kind) c.t.view_is in
    let d = pi.Fixed si.Abort in
    let j = c.loop-j.j in
    let within : j < length ps = omega (arith, ap length is) in
    let part : c.part_of-part.result ≡ part_of (get_or ps j d) (head tree).text =
    c.part_of-part.ensures ∙ ap (λ qs. part_of (get_or qs j d) c.bytes.result.now) is
    ∙ ap (part_of (get_or ps j d)) (c.bytes.ensures ∙ ap (λ u. (head u).text) c.t.view_is) in
    let room = tokens-room (head tree) ps j d c.part_of-part.result (nodes_from c.loop-j.kid (kids_of tree)) c.loop-j.count _ within part
    c.loop-j.invariant in
    omega (arith, room, c.requires, c.count_part-count.ensures)

pub count_tree-loop-j-preserved : goal.count_tree-loop-j-preserved
count_tree-loop-j-preserved t c =
    let tree = c.args.t.now in
    let ps = form_of (head tree).kind in
    let is : c.form_of-form.result.now ≡ ps = c.form_of-form.ensures ∙ ap (λ u. form_of (head u).kind) c.t.view_is in
    let d = pi.Fixed si.Abort in
    let j = c.loop-j.j in
    let within : j < length ps = omega (arith, ap length is) in
    let q = c.part_of-part.result in
    let part : q ≡ part_of (get_or ps j d) (head tree).text =
    c.part_of-part.ensures ∙ ap (λ qs. part_of (get_or qs j d) c.bytes.result.now) is
    ∙ ap (part_of (get_or ps j d)) (c.bytes.ensures ∙ ap (λ u. (head u).text) c.t.view_is) in
    let kids : kids_of tree ≡ nodes_of c.t.inside.kids = kids_of-open _ c.t.inside.kids tree c.t.view_is in
    tokens-next (head tree) ps j d q (nodes_from c.loop-j.kid (kids_of tree)) (nodes_from c.kid_behind-kid.result (kids_of tree))
    c.loop-j.count c.count_part-count.result _ within part
    (ap (nodes_from c.kid_behind-kid.result) kids ∙ c.kid_behind-kid.ensures
    ∙ ap (λ us. nodes_behind q (nodes_from c.loop-j.kid us)) (sym kids))
    c.count_part-count.ensures c.loop-j.invariant
