use Rattle.std.proofs.Common.{◌≡◌, ap, ap₂, sym, ◌∙◌, subst, refl, inl, inr}
use Rattle.hare_types.specs.Waiting.{kept_at, with_ends, with_next, KeepsFound, KeepsSeen, AreLinked, linked}
use Rattle.hare_types.proofs.LinkLemmas.{link-found, link-seen, link-lists}
use Rattle.hare_types.proofs.waiting.link.Goals as goal

pub returns-then-on : goal.returns-then-on
returns-then-on c =
    let ks = c.args.kept.now.items in
    let on : c.kept_at-on.result ≡ kept_at ks c.args.t = c.kept_at-on.ensures ∙ ap (λ l. kept_at l c.args.t) c.deref.ensures.value in
    let done : c.set_ends.new.kept.items ≡ with_ends (with_next ks c.args.i (kept_at ks c.args.t).first) c.args.t c.args.i c.args.i =
    c.set_ends.ensures ∙ ap (λ l. with_ends l c.args.t c.args.i c.args.i)
    (c.set_next.ensures ∙ ap (λ k. with_next ks c.args.i k.first) on) in
    record {
      lists = λ pile lists l out.
          subst (λ x. AreLinked x pile (linked lists c.args.t c.args.i)) (sym done)
          (link-lists ks c.requires.few c.args.t c.args.i c.requires.waited c.requires.waits c.args.i
          (inl (sym (ap (λ k. k.first) on) ∙ c.if-on.true, refl)) pile lists l out);
      found = subst (KeepsFound ks) (sym done) (link-found ks c.requires.few c.args.t c.args.i c.requires.waited c.requires.waits c.args.i);
      seen = subst (KeepsSeen ks) (sym done) (link-seen ks c.requires.few c.args.t c.args.i c.requires.waited c.requires.waits c.args.i);
    }

pub returns-else-on : goal.returns-else-on
returns-else-on c =
    let ks = c.args.kept.now.items in
    let on : c.kept_at-on.result ≡ kept_at ks c.args.t = c.kept_at-on.ensures ∙ ap (λ l. kept_at l c.args.t) c.deref.ensures.value in
    let last = (kept_at ks c.args.t).last in
    let done : c.set_ends-else-on.new.kept.items ≡ with_ends (with_next ks c.args.i (kept_at ks c.args.t).first) c.args.t c.args.i last =
    c.set_ends-else-on.ensures ∙ ap₂ (λ l n. with_ends l c.args.t c.args.i n)
    (c.set_next.ensures ∙ ap (λ k. with_next ks c.args.i k.first) on) (ap (λ k. k.last) on) in
    record {
      lists = λ pile lists l out.
          subst (λ x. AreLinked x pile (linked lists c.args.t c.args.i)) (sym done)
          (link-lists ks c.requires.few c.args.t c.args.i c.requires.waited c.requires.waits last
          (inr ((λ e. c.if-on.false (ap (λ k. k.first) on ∙ e)), refl)) pile lists l out);
      found = subst (KeepsFound ks) (sym done) (link-found ks c.requires.few c.args.t c.args.i c.requires.waited c.requires.waits last);
      seen = subst (KeepsSeen ks) (sym done) (link-seen ks c.requires.few c.args.t c.args.i c.requires.waited c.requires.waits last);
    }
