use Rattle.std.proofs.Common.{◌≡◌, ◌<◌, ◌≤◌, length, ap, sym, ◌∙◌, arith, get_or}
use Rattle.hare_tree.specs.declared.form.Piece.TheVariants as pi
use Rattle.hare_tree.specs.declared.form.Sign.TheVariants as si
use Rattle.hare_tree.specs.Node.{head, kids_of}
use Rattle.hare_tree.specs.Forms.{form_of}
use Rattle.hare_tree.specs.Shape.{stops}
use Rattle.hare_tree.specs.Judged.{nodes_from}
use Rattle.hare_ways.specs.Edges.{end_behind}
use Rattle.hare_ways.proofs.Ends.{stops-form}
use Rattle.hare_ways.proofs.FormSteps.{told-next, told-none, told-end}
use Rattle.hare_ways.proofs.edge.end_of.Goals as goal

pub loop-j-init : goal.loop-j-init
loop-j-init c = sym (stops-form c.args.t.now)

pub loop-j-preserved : goal.loop-j-preserved
loop-j-preserved c =
    let t = c.args.t.now in
    let ps = form_of (head t).kind in
    let is : c.form_of-form.result.now ≡ ps = c.form_of-form.ensures ∙ ap (λ u. form_of (head u).kind) c.t.view_is in
    let d = pi.Fixed si.Abort in
    let within : c.loop-j.j < length ps = omega (arith, ap length is) in
    told-next t ps c.loop-j.j d c.loop-j.seen c.in-Some.next (stops si.Comma t) within
    (sym c.in-Some.is ∙ c.end_behind.ensures
    ∙ ap (λ qs. end_behind (head t) (get_or qs c.loop-j.j d) (nodes_from c.loop-j.seen.kid (kids_of t)) c.loop-j.seen) is)
    c.loop-j.invariant

pub returns-in-None : goal.returns-in-None
returns-in-None c =
    let t = c.args.t.now in
    let ps = form_of (head t).kind in
    let is : c.form_of-form.result.now ≡ ps = c.form_of-form.ensures ∙ ap (λ u. form_of (head u).kind) c.t.view_is in
    let d = pi.Fixed si.Abort in
    let within : c.loop-j.j < length ps = omega (arith, ap length is) in
    told-none t ps c.loop-j.j d c.loop-j.seen (stops si.Comma t) within
    (sym c.in-None.is ∙ c.end_behind.ensures
    ∙ ap (λ qs. end_behind (head t) (get_or qs c.loop-j.j d) (nodes_from c.loop-j.seen.kid (kids_of t)) c.loop-j.seen) is)
    c.loop-j.invariant

pub returns : goal.returns
returns c =
    let t = c.args.t.now in
    let ps = form_of (head t).kind in
    let is : c.form_of-form.result.now ≡ ps = c.form_of-form.ensures ∙ ap (λ u. form_of (head u).kind) c.t.view_is in
    let past : length ps ≤ c.loop-j.j = omega (arith, ap length is) in
    told-end t ps c.loop-j.j c.loop-j.seen (stops si.Comma t) past c.loop-j.invariant
