use Rattle.std.proofs.Common.{◌≡◌, ◌∙◌, ◌<◌, ◌++◌, sym, ap, ap₂, subst, append_assoc, append-nil, arith}
use Rattle.std.specs.Prelude.{OnOk}
use Rattle.hare_typed.specs.Typed.{typed_nodes, size_of, sizes_of, mark_of, kids_of}
use Rattle.hare_typed.specs.Constants.{own_kind}
use Rattle.hare_typed.specs.ConstantValues.{objects_of, text_object}
use Rattle.hare_typed.specs.Coherent.{scope_in, held, statics_in, statics_in_each}
use Rattle.hare_typed.proofs.KidLemmas.{kid_size}
use Rattle.hare_const.proofs.StaticLemmas.{statics_parts, statics_more}
use Rattle.hare_const.proofs.statics.+statics.Goals as goal

pub put_statics_of-put_statics-requires : goal.put_statics_of-put_statics-requires
put_statics_of-put_statics-requires t c =
    let h : size_of c.in-Some.kid.now < sizes_of (typed_nodes c.args.kids.now) =
    kid_size c.args.kids.now c.loop-i.i c.in-Some.kid.now c.in-Some.ensures.found in
    (omega arith, c.requires.own)

pub put_statics_of-loop-i-init : goal.put_statics_of-loop-i-init
put_statics_of-loop-i-init t c = sym (append-nil c.args.objects.now)

pub put_statics_of-loop-i-preserved : goal.put_statics_of-loop-i-preserved
put_statics_of-loop-i-preserved t c =
    statics_more c.args.own c.args.kids.now c.loop-i.i c.in-Some.kid.now c.args.objects.now c.loop-i.objects c.put_statics.new.objects
    c.in-Some.ensures.found c.loop-i.invariant c.in_ok-put_statics.ensures

pub put_statics-returns : goal.put_statics-returns
put_statics-returns t c =
    let first = c.args.objects.now in
    let text = held (text_object (scope_in c.args.own) c.args.t.now (own_kind c.args.t.now)) in
    let listed = held (objects_of (mark_of c.args.t.now).value) in
    let front : c.put_listed.new.objects ≡ first ++ (text ++ listed) =
    c.in_ok-put_listed.ensures
    ∙ ap₂ (λ a b. a ++ held (objects_of b)) c.in_ok-put_text.ensures (ap (λ y. (mark_of y).value) c.t.view_is)
    ∙ append_assoc first text listed in
    let all : c.put_listed.new.objects ++ statics_in_each c.args.own (typed_nodes c.t.inside.kids) ≡
    first ++ statics_in c.args.own c.args.t.now =
    ap₂ (λ a b. a ++ statics_in_each c.args.own b) front (ap kids_of c.t.view_is)
    ∙ append_assoc first (text ++ listed) (statics_in_each c.args.own (kids_of c.args.t.now))
    ∙ ap (λ l. first ++ l) (statics_parts c.args.own c.args.t.now) in
    subst (λ x. OnOk c.put_statics_of.result (c.put_statics_of.new.objects ≡ x)) all c.put_statics_of.ensures
