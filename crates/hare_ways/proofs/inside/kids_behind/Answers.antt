use Rattle.std.proofs.Common.{◌≡◌, ◌<◌, ◌≤◌, length, ap, sym, ◌∙◌, arith, get_or}
use Rattle.hare_tree.specs.declared.form.Piece.TheVariants as pi
use Rattle.hare_tree.specs.declared.form.Sign.TheVariants as si
use Rattle.hare_tree.specs.Node.{head, kids_of, nodes_of}
use Rattle.hare_tree.specs.Forms.{form_of}
use Rattle.hare_tree.specs.Judged.{nodes_from}
use Rattle.hare_tree.proofs.TreeKids.KidsFrom.{kids_of-open}
use Rattle.hare_ways.specs.Breaks.{is_fixed}
use Rattle.hare_ways.specs.Parts.{items_of, part_of, nodes_behind}
use Rattle.hare_ways.proofs.FormSteps.{behind-found, behind-next, behind-end}
use Rattle.hare_ways.proofs.inside.kids_behind.Goals as goal

pub returns-then-is_fixed : goal.returns-then-is_fixed
returns-then-is_fixed c =
    let t = c.args.t.now in
    let ps = form_of (head t).kind in
    let is : c.form_of-form.result.now ≡ ps = c.form_of-form.ensures ∙ ap (λ u. form_of (head u).kind) c.t.view_is in
    let d = pi.Fixed si.Abort in
    let within : c.loop-j.j < length ps = omega (arith, ap length is) in
    behind-found c.args.s ps c.loop-j.j d (items_of (nodes_from c.loop-j.kid (kids_of t))) _ within
    (ap (λ qs. is_fixed c.args.s (get_or qs c.loop-j.j d)) (sym is) ∙ sym c.is_fixed.ensures ∙ c.if-is_fixed.true) c.loop-j.invariant

pub loop-j-preserved : goal.loop-j-preserved
loop-j-preserved c =
    let t = c.args.t.now in
    let ps = form_of (head t).kind in
    let is : c.form_of-form.result.now ≡ ps = c.form_of-form.ensures ∙ ap (λ u. form_of (head u).kind) c.t.view_is in
    let d = pi.Fixed si.Abort in
    let text = c.bytes.result.now in
    let kids : kids_of t ≡ nodes_of c.t.inside.kids = kids_of-open _ c.t.inside.kids t c.t.view_is in
    let within : c.loop-j.j < length ps = omega (arith, ap length is) in
    let q = c.part_of.result in
    behind-next c.args.s ps c.loop-j.j d text q (nodes_from c.loop-j.kid (kids_of t)) (nodes_from c.kid_behind-kid.result
    (kids_of t)) _ within
    (ap (λ qs. is_fixed c.args.s (get_or qs c.loop-j.j d)) (sym is) ∙ sym c.is_fixed.ensures ∙ c.if-is_fixed.false)
    (c.part_of.ensures ∙ ap (λ qs. part_of (get_or qs c.loop-j.j d) text) is)
    (ap (nodes_from c.kid_behind-kid.result) kids ∙ c.kid_behind-kid.ensures
    ∙ ap (λ us. nodes_behind q (nodes_from c.loop-j.kid us)) (sym kids)) c.loop-j.invariant

pub returns : goal.returns
returns c =
    let t = c.args.t.now in
    let ps = form_of (head t).kind in
    let is : c.form_of-form.result.now ≡ ps = c.form_of-form.ensures ∙ ap (λ u. form_of (head u).kind) c.t.view_is in
    let past : length ps ≤ c.loop-j.j = omega (arith, ap length is) in
    behind-end c.args.s ps c.loop-j.j (items_of (nodes_from c.loop-j.kid (kids_of t))) _ past c.loop-j.invariant
