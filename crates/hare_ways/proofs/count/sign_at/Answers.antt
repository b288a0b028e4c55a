use Rattle.std.proofs.Common.{◌≡◌, ◌+◌, ◌<◌, ◌≤◌, false, length, get_or, refl, ap, sym, ◌∙◌, arith}
use Rattle.hare_tree.specs.declared.form.Piece.TheVariants as pi
use Rattle.hare_tree.specs.declared.form.Sign.TheVariants as si
use Rattle.hare_tree.specs.Node.{head, kids_of, nodes_of}
use Rattle.hare_tree.specs.Forms.{form_of}
use Rattle.hare_tree.specs.Judged.{nodes_from}
use Rattle.hare_tree.specs.Spell.{spells}
use Rattle.hare_tree.proofs.Spelling.Spelled.{spell-pieces}
use Rattle.hare_tree.proofs.TreeKids.KidsFrom.{kids_of-open}
use Rattle.hare_ways.specs.Breaks.{is_fixed}
use Rattle.hare_ways.specs.Parts.{part_of, nodes_behind}
use Rattle.hare_ways.proofs.FormSteps.{tokens-next, tokens-room, sign-found, sign-next, sign-end}
use Rattle.hare_ways.proofs.count.sign_at.Goals as goal

pub loop-j-init : goal.loop-j-init
loop-j-init c = record { place = refl; whole = ap (λ n. c.args.n + n) (ap length (sym (spell-pieces 0 c.args.t.now))) }

pub returns-then-is_fixed : goal.returns-then-is_fixed
returns-then-is_fixed c =
    let tree = c.args.t.now in
    let ps = form_of (head tree).kind in
    let is : c.form_of-form.result.now ≡ ps = c.form_of-form.ensures ∙ ap (λ u. form_of (head u).kind) c.t.view_is in
    let d = pi.Fixed si.Abort in
    let within : c.loop-j.j < length ps = omega (arith, ap length is) in
    sign-found c.args.s (head tree) ps c.loop-j.j d c.loop-j.count _ (spells 0 (nodes_from c.loop-j.kid (kids_of tree))) within
    (ap (λ qs. is_fixed c.args.s (get_or qs c.loop-j.j d)) (sym is) ∙ sym c.is_fixed.ensures ∙ c.if-is_fixed.true) c.loop-j.invariant.place

pub count_part-count-requires : goal.count_part-count-requires
count_part-count-requires c =
    let tree = c.args.t.now in
    let ps = form_of (head tree).kind in
    let is : c.form_of-form.result.now ≡ ps = c.form_of-form.ensures ∙ ap (λ u. form_of (head u).kind) c.t.view_is in
    let d = pi.Fixed si.Abort in
    let j = c.loop-j.j in
    let within : j < length ps = omega (arith, ap length is) in
    let part : c.part_of-part.result ≡ part_of (get_or ps j d) (head tree).text =
    c.part_of-part.ensures ∙ ap (λ qs. part_of (get_or qs j d) c.bytes.result.now) is
    ∙ ap (part_of (get_or ps j d)) (c.bytes.ensures ∙ ap (λ u. (head u).text) c.t.view_is) in
    let room = tokens-room (head tree) ps j d c.part_of-part.result (nodes_from c.loop-j.kid (kids_of tree)) c.loop-j.count _ within part
    c.loop-j.invariant.whole in
    omega (arith, room, c.requires)

pub overflow_add-count : goal.overflow_add-count
overflow_add-count c =
    let tree = c.args.t.now in
    let ps = form_of (head tree).kind in
    let is : c.form_of-form.result.now ≡ ps = c.form_of-form.ensures ∙ ap (λ u. form_of (head u).kind) c.t.view_is in
    let d = pi.Fixed si.Abort in
    let j = c.loop-j.j in
    let within : j < length ps = omega (arith, ap length is) in
    let part : c.part_of-part.result ≡ part_of (get_or ps j d) (head tree).text =
    c.part_of-part.ensures ∙ ap (λ qs. part_of (get_or qs j d) c.bytes.result.now) is
    ∙ ap (part_of (get_or ps j d)) (c.bytes.ensures ∙ ap (λ u. (head u).text) c.t.view_is) in
    let room = tokens-room (head tree) ps j d c.part_of-part.result (nodes_from c.loop-j.kid (kids_of tree)) c.loop-j.count _ within part
    c.loop-j.invariant.whole in
    omega (arith, room, c.requires, c.count_part-count.ensures)

pub loop-j-preserved : goal.loop-j-preserved
loop-j-preserved c =
    let tree = c.args.t.now in
    let ps = form_of (head tree).kind in
    let is : c.form_of-form.result.now ≡ ps = c.form_of-form.ensures ∙ ap (λ u. form_of (head u).kind) c.t.view_is in
    let d = pi.Fixed si.Abort in
    let j = c.loop-j.j in
    let within : j < length ps = omega (arith, ap length is) in
    let q = c.part_of-part.result in
    let part : q ≡ part_of (get_or ps j d) (head tree).text =
    c.part_of-part.ensures ∙ ap (λ qs. part_of (get_or qs j d) c.bytes.result.now) is
    ∙ ap (part_of (get_or ps j d)) (c.bytes.ensures ∙ ap (λ u. (head u).text) c.t.view_is) in
    let kids : kids_of tree ≡ nodes_of c.t.inside.kids = kids_of-open _ c.t.inside.kids tree c.t.view_is in
    let left : nodes_from c.kid_behind-kid.result (kids_of tree) ≡ nodes_behind q (nodes_from c.loop-j.kid (kids_of tree)) =
    ap (nodes_from c.kid_behind-kid.result) kids ∙ c.kid_behind-kid.ensures
    ∙ ap (λ us. nodes_behind q (nodes_from c.loop-j.kid us)) (sym kids) in
    let other : is_fixed c.args.s (get_or ps j d) ≡ false =
    ap (λ qs. is_fixed c.args.s (get_or qs j d)) (sym is) ∙ sym c.is_fixed.ensures ∙ c.if-is_fixed.false in
    record {
      place = sign-next c.args.s (head tree) ps j d q (nodes_from c.loop-j.kid (kids_of tree)) (nodes_from c.kid_behind-kid.result
          (kids_of tree))
          c.loop-j.count c.count_part-count.result _ within other part left c.count_part-count.ensures c.loop-j.invariant.place;
      whole = tokens-next (head tree) ps j d q (nodes_from c.loop-j.kid (kids_of tree)) (nodes_from c.kid_behind-kid.result (kids_of tree))
          c.loop-j.count c.count_part-count.result _ within part left c.count_part-count.ensures c.loop-j.invariant.whole;
    }

pub returns : goal.returns
returns c =
    let tree = c.args.t.now in
    let ps = form_of (head tree).kind in
    let is : c.form_of-form.result.now ≡ ps = c.form_of-form.ensures ∙ ap (λ u. form_of (head u).kind) c.t.view_is in
    let past : length ps ≤ c.loop-j.j = omega (arith, ap length is) in
    sign-end c.args.s (head tree) ps c.loop-j.j c.loop-j.count _ (spells 0 (nodes_from c.loop-j.kid
    (kids_of tree))) past c.loop-j.invariant.place
