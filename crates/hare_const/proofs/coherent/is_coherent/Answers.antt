use Rattle.std.proofs.Common.{◌≡◌, ◌∙◌, sym, Bool, true, Result, Ok, Err}
use Rattle.std.specs.Prelude.{◌↔◌, IsTrue, IfOk}
use Rattle.hare_typed.specs.Coherent.{compares_texts, statics_in}
use Rattle.hare_typed.specs.Texts.{AreCoherent}
use Rattle.hare_const.proofs.coherent.is_coherent.Goals as goal

-- where it is asked for
where_asked : {E : Type 0} (r : Result Bool E) (b : Bool) (A : Type 0) → b ≡ true → IfOk r (λ x. IsTrue x ↔ A) →
    IfOk r (λ x. IsTrue x ↔ (b ≡ true → A))
where_asked (Ok x) b A e h = (λ f g. h.0 f, λ g. h.1 (g e))
where_asked (Err y) b A e h = tt

pub returns : goal.returns
returns c =
    let s = c.args.s.now in
    let t = c.args.t.now in
    where_asked c.are_coherent.result (compares_texts s t) (AreCoherent (statics_in c.args.own t))
    (sym c.compares_texts.ensures ∙ c.if-not-compares_texts.false) c.are_coherent.ensures
