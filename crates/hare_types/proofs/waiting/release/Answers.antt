use Rattle.std.proofs.Common.{◌≡◌, ◌<◌, length, ap, ap₂, sym, ◌∙◌, subst, arith}
use Rattle.hare_types.specs.Waiting.{nowhere, kept_at, with_ends, with_next, KeepsFound, KeepsSeen, AreLinked, released}
use Rattle.hare_types.proofs.LinkLemmas.{last-within, release-found, release-seen, release-none, release-lists}
use Rattle.hare_types.proofs.waiting.release.Goals as goal
use Rattle.std.proofs.lemmas.List.{length-set}

pub returns-then-of-clause-lists : goal.returns-then-of-clause-lists
returns-then-of-clause-lists c = λ lists l.
    let ks = c.args.kept.now.items in
    let of : c.kept_at-of.result ≡ kept_at ks c.args.t = c.kept_at-of.ensures ∙ ap (λ l. kept_at l c.args.t) c.deref.ensures.value in
    release-none ks c.requires.few c.args.t c.args.pile c.requires.within lists l (sym (ap (λ k. k.first) of) ∙ c.if-of.true)

pub set_next-requires : goal.set_next-requires
set_next-requires c =
    let ks = c.args.kept.now.items in
    let of : c.kept_at-of.result ≡ kept_at ks c.args.t = c.kept_at-of.ensures ∙ ap (λ l. kept_at l c.args.t) c.deref.ensures.value in
    let last = last-within ks c.requires.few c.args.t c.args.pile c.requires.within c.requires.linked.0 c.requires.linked.1
    (λ e. c.if-of.false (ap (λ k. k.first) of ∙ e)) in
    let len : length c.set_ends.new.kept.items ≡ length ks = ap length c.set_ends.ensures ∙ length-set ks c.args.t _ in
    subst (λ n. n < length c.set_ends.new.kept.items) (sym (ap (λ k. k.last) of)) (omega (arith, last, len))

pub returns : goal.returns
returns c =
    let ks = c.args.kept.now.items in
    let of : c.kept_at-of.result ≡ kept_at ks c.args.t = c.kept_at-of.ensures ∙ ap (λ l. kept_at l c.args.t) c.deref.ensures.value in
    let z = (kept_at ks c.args.t).last in
    let done : c.set_next.new.kept.items ≡ with_next (with_ends ks c.args.t nowhere nowhere) z c.args.pile =
    c.set_next.ensures ∙ ap₂ (λ l n. with_next l n c.args.pile) c.set_ends.ensures (ap (λ k. k.last) of) in
    record {
      lists = λ lists l.
          subst (λ h. AreLinked c.set_next.new.kept.items h (released lists c.args.t)) (sym (ap (λ k. k.first) of))
          (subst (λ l. AreLinked l (kept_at ks c.args.t).first (released lists c.args.t)) (sym done)
          (release-lists ks c.requires.few c.args.t c.args.pile c.requires.within lists l (λ e. c.if-of.false (ap (λ k. k.first) of ∙ e))));
      found = subst (KeepsFound ks) (sym done) (release-found ks c.requires.few c.args.t c.args.pile c.requires.within z);
      seen = subst (KeepsSeen ks) (sym done) (release-seen ks c.requires.few c.args.t c.args.pile c.requires.within z);
    }
