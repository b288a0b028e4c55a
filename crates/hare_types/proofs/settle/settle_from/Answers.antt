use Rattle.std.proofs.Common.{◌≡◌, ap, sym, ◌∙◌, subst, arith, inl, refl}
use Rattle.std.proofs.lemmas.List.{get_or_default}
use Rattle.hare_types.specs.Waiting.{blank, kept_at, Among, AreSettlingBut, with_list}
use Rattle.hare_types.proofs.SettledLemmas.{first-taken, settle-smaller}
use Rattle.hare_types.proofs.WaitLemmas.{pop-settling}
use Rattle.hare_types.proofs.settle.settle_from.Goals as goal

pub index-requires : goal.index-requires
index-requires c =
    let ks = c.loop-pile.kept.items in
    let lists = c.loop-pile.invariant.lists.0 in
    let h = c.loop-pile.invariant.lists.1 in
    let first = first-taken c.args.rows.now c.args.declared.now.entries ks c.loop-pile.pile lists h c.loop-pile-test.true in
    omega (arith, first.2)

pub step-pile-requires-in-loop-pile-clause-within : goal.step-pile-requires-in-loop-pile-clause-within
step-pile-requires-in-loop-pile-clause-within c =
    let ks = c.loop-pile.kept.items in
    let lists = c.loop-pile.invariant.lists.0 in
    let h = c.loop-pile.invariant.lists.1 in
    let first = first-taken c.args.rows.now c.args.declared.now.entries ks c.loop-pile.pile lists h c.loop-pile-test.true in
    omega (arith, first.2, c.loop-pile.invariant.as_many)

pub step-pile-requires-in-loop-pile-clause-unknown : goal.step-pile-requires-in-loop-pile-clause-unknown
step-pile-requires-in-loop-pile-clause-unknown c =
    let ks = c.loop-pile.kept.items in
    let lists = c.loop-pile.invariant.lists.0 in
    let h = c.loop-pile.invariant.lists.1 in
    let first = first-taken c.args.rows.now c.args.declared.now.entries ks c.loop-pile.pile lists h c.loop-pile-test.true in
    h.waiting.unknown 0 c.loop-pile.pile (subst (λ xs. Among xs c.loop-pile.pile) (sym first.1) (inl refl))

pub step-pile-requires-in-loop-pile-clause-lists : goal.step-pile-requires-in-loop-pile-clause-lists
step-pile-requires-in-loop-pile-clause-lists c =
    let ks = c.loop-pile.kept.items in
    let lists = c.loop-pile.invariant.lists.0 in
    let h = c.loop-pile.invariant.lists.1 in
    let first = first-taken c.args.rows.now c.args.declared.now.entries ks c.loop-pile.pile lists h c.loop-pile-test.true in
    let next : (kept_at ks c.loop-pile.pile).next ≡ c.index.result.now.next =
    ap (λ k. k.next) (sym (c.index.ensures ∙ get_or_default ks c.loop-pile.pile c.index.result.now blank first.2)) in
    let popped : AreSettlingBut c.loop-pile.pile c.args.rows.now c.args.declared.now.entries ks c.index.result.now.next
    (with_list lists 0 first.0) =
    subst (λ n. AreSettlingBut c.loop-pile.pile c.args.rows.now c.args.declared.now.entries ks n (with_list lists 0 first.0)) next
    (pop-settling c.args.rows.now c.args.declared.now.entries ks c.loop-pile.pile lists first.0 h first.1) in
    (with_list lists 0 first.0, popped)

pub loop-pile-smaller : goal.loop-pile-smaller
loop-pile-smaller c =
    let ks = c.loop-pile.kept.items in
    let lists = c.loop-pile.invariant.lists.0 in
    let h = c.loop-pile.invariant.lists.1 in
    let first = first-taken c.args.rows.now c.args.declared.now.entries ks c.loop-pile.pile lists h c.loop-pile-test.true in
    let next : (kept_at ks c.loop-pile.pile).next ≡ c.index.result.now.next =
    ap (λ k. k.next) (sym (c.index.ensures ∙ get_or_default ks c.loop-pile.pile c.index.result.now blank first.2)) in
    let popped : AreSettlingBut c.loop-pile.pile c.args.rows.now c.args.declared.now.entries ks c.index.result.now.next
    (with_list lists 0 first.0) =
    subst (λ n. AreSettlingBut c.loop-pile.pile c.args.rows.now c.args.declared.now.entries ks n (with_list lists 0 first.0)) next
    (pop-settling c.args.rows.now c.args.declared.now.entries ks c.loop-pile.pile lists first.0 h first.1) in
    let w = c.step-pile-in-loop-pile.ensures.settled (with_list lists 0 first.0) popped in
    settle-smaller c.args.rows.now c.args.declared.now.entries ks c.step-pile-in-loop-pile.new.kept.items c.loop-pile.pile
    c.step-pile-in-loop-pile.result lists w.0 first.0 _ c.loop-pile.invariant.as_many c.step-pile-in-loop-pile.ensures.as_many
    c.requires.few h first.1 w.1 w.2

pub loop-pile-preserved : goal.loop-pile-preserved
loop-pile-preserved c =
    let ks = c.loop-pile.kept.items in
    let lists = c.loop-pile.invariant.lists.0 in
    let h = c.loop-pile.invariant.lists.1 in
    let first = first-taken c.args.rows.now c.args.declared.now.entries ks c.loop-pile.pile lists h c.loop-pile-test.true in
    let next : (kept_at ks c.loop-pile.pile).next ≡ c.index.result.now.next =
    ap (λ k. k.next) (sym (c.index.ensures ∙ get_or_default ks c.loop-pile.pile c.index.result.now blank first.2)) in
    let popped : AreSettlingBut c.loop-pile.pile c.args.rows.now c.args.declared.now.entries ks c.index.result.now.next
    (with_list lists 0 first.0) =
    subst (λ n. AreSettlingBut c.loop-pile.pile c.args.rows.now c.args.declared.now.entries ks n (with_list lists 0 first.0)) next
    (pop-settling c.args.rows.now c.args.declared.now.entries ks c.loop-pile.pile lists first.0 h first.1) in
    let w = c.step-pile-in-loop-pile.ensures.settled (with_list lists 0 first.0) popped in
    record {
      as_many = c.step-pile-in-loop-pile.ensures.as_many;
      bounded = c.step-pile-in-loop-pile.ensures.bounded;
      rooted = c.step-pile-in-loop-pile.ensures.rooted;
      seen = c.step-pile-in-loop-pile.ensures.seen;
      extents = λ s e g v k. c.step-pile-in-loop-pile.ensures.extents s e g v (c.loop-pile.invariant.extents s e g v k);
      roots = λ s e g v k. c.step-pile-in-loop-pile.ensures.roots s e g v (c.loop-pile.invariant.roots s e g v k);
      lists = (w.0, w.1);
    }
