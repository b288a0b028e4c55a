use Rattle.std.proofs.Common.{◌≡◌, ◌<◌, arith, subst, sym}
use Rattle.std.specs.Prelude.{IfOk, IfSome, Some}
use Rattle.hare_typed.specs.Typed.{typed_nodes, size_of, sizes_of}
use Rattle.hare_typed.proofs.KidLemmas.{kid_size}
use Rattle.hare_const.proofs.TextLemmas.{text_at}
use Rattle.hare_const.proofs.texts.+texts.Goals as goal

pub text_of_kid-text_of-requires : goal.text_of_kid-text_of-requires
text_of_kid-text_of-requires t c =
    let h : size_of c.in-Some.kid.now < sizes_of (typed_nodes c.args.kids.now) =
    kid_size c.args.kids.now c.args.i c.in-Some.kid.now c.in-Some.ensures.found in
    (omega arith, tt)

pub text_of_kid-returns : goal.text_of_kid-returns
text_of_kid-returns t c =
    subst (λ x. IfOk c.text_of.result (λ o. IfSome o (λ v. x ≡ Some v.items)))
    (sym (text_at c.args.s.now c.args.kids.now c.args.i c.in-Some.kid.now c.in-Some.ensures.found)) c.text_of.ensures
