use Rattle.std.proofs.Common.{◌<◌, ◌∙◌, ap, arith, subst, sym}
use Rattle.std.specs.Prelude.{◌↔◌, IsTrue, IsSome, is_some}
use Rattle.hare_typed.specs.Typed.{typed_nodes, size_of, sizes_of}
use Rattle.hare_typed.proofs.KidLemmas.{kid_size}
use Rattle.hare_const.proofs.TextLemmas.{text_at, text_past}
use Rattle.hare_const.proofs.texts.+told.Goals as goal

pub is_text_kid-is_text-requires : goal.is_text_kid-is_text-requires
is_text_kid-is_text-requires t c =
    let h : size_of c.in-Some.kid.now < sizes_of (typed_nodes c.args.kids.now) =
    kid_size c.args.kids.now c.args.i c.in-Some.kid.now c.in-Some.ensures.found in
    (omega arith, tt)

pub is_text_kid-returns-in-Some : goal.is_text_kid-returns-in-Some
is_text_kid-returns-in-Some t c =
    subst (λ o. IsTrue c.is_text.result ↔ IsSome o)
    (sym (text_at c.args.s.now c.args.kids.now c.args.i c.in-Some.kid.now c.in-Some.ensures.found)) c.is_text.ensures

pub is_text_kid-returns-in-None : goal.is_text_kid-returns-in-None
is_text_kid-returns-in-None t c = (
  λ e. absurd cc,
  λ h.
      let none = text_past c.args.s.now c.args.kids.now c.args.i c.in-None.ensures.none in
      let both = sym (ap is_some none) ∙ h in
      absurd cc,
)
