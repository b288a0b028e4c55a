use Rattle.std.proofs.Common.{◌≡◌, ◌<◌, ℕ, suc, ◌⊎◌, length, Some, None, IsSome, ap, sym, ◌∙◌, subst, arith, refl, inl}
use Rattle.std.specs.Prelude.{slice_get}
use Rattle.std.proofs.lemmas.Option.{slice_get-get_or}
use Rattle.std.proofs.lemmas.List.{get_or_default, length-set}
use Rattle.hare_types.specs.Kept.{parts_of, known, defined, IsInert}
use Rattle.hare_types.specs.Waiting.{extents, extent_at, HasRoot, Among, needed_at, NeedsRow, linked}
use Rattle.hare_types.proofs.ChainLemmas.{KeepsFound-trans}
use Rattle.hare_types.proofs.WaitLemmas.{seen-found, seen-links, seen-more, AreSeen-kept, stay-settling, wait-settling, linked-pile}
use Rattle.hare_types.proofs.NeedLemmas.{needed-needs, needed-unknown, needed-none}
use Rattle.hare_types.proofs.settle.enlist.Goals as goal

pub link-requires-clause-waited : goal.link-requires-clause-waited
link-requires-clause-waited c =
    let ks = c.args.kept.now.items in
    let r = c.index-rows-i.result in
    let here : slice_get c.args.rows.now c.args.i ≡ Some r =
    slice_get-get_or c.args.rows.now c.args.i r c.requires.within ∙ ap Some (sym c.index-rows-i.is) in
    let within : c.args.i < length ks = omega (arith, c.requires.within, c.requires.as_many) in
    let again : c.index-rows-i-2.result ≡ r =
    c.index-rows-i-2.is ∙ get_or_default c.args.rows.now c.args.i c.index-rows-i-2.result r c.requires.within ∙ sym c.index-rows-i.is in
    let next = c.needed.ensures ∙ ap (λ q. needed_at (defined c.args.declared.now.entries) q c.seen_of-seen.result) again in
    let needs : NeedsRow c.args.declared.now.entries r c.in-Some.t =
    needed-needs c.args.declared.now.entries r c.seen_of-seen.result c.in-Some.t (sym next ∙ c.in-Some.is) in
    let below = c.requires.needs c.args.i c.in-Some.t r here needs in
    let len : length c.set_seen.new.kept.items ≡ length ks = ap length c.set_seen.ensures ∙ length-set ks c.args.i _ in
    omega (arith, below, len, c.index.ensures, c.requires.as_many)

pub returns-in-Some : goal.returns-in-Some
returns-in-Some c =
    let ks = c.args.kept.now.items in
    let r = c.index-rows-i.result in
    let here : slice_get c.args.rows.now c.args.i ≡ Some r =
    slice_get-get_or c.args.rows.now c.args.i r c.requires.within ∙ ap Some (sym c.index-rows-i.is) in
    let within : c.args.i < length ks = omega (arith, c.requires.within, c.requires.as_many) in
    let again : c.index-rows-i-2.result ≡ r =
    c.index-rows-i-2.is ∙ get_or_default c.args.rows.now c.args.i c.index-rows-i-2.result r c.requires.within ∙ sym c.index-rows-i.is in
    let next = c.needed.ensures ∙ ap (λ q. needed_at (defined c.args.declared.now.entries) q c.seen_of-seen.result) again in
    let follows = c.requires.none r here in
    let at : (p : ℕ) → slice_get (parts_of r) c.seen_of-seen.result ≡ Some p → extent_at ks p ≡ None =
    λ p e. subst (λ l. known (extents l) p ≡ None) c.deref.ensures.value (c.seen_of-seen.ensures.at p e) in
    let all : (k p : ℕ) → k < c.seen_of-seen.result → slice_get (parts_of r) k ≡ Some p → IsSome (extent_at ks p) =
    λ k p l e. subst (λ x. IsSome (known (extents x) p)) c.deref.ensures.value (c.seen_of-seen.ensures.before k p l e) in
    let before : (k p : ℕ) → k < c.min.result → slice_get (parts_of r) k ≡ Some p → IsSome (extent_at ks p) =
    λ k p l e. all k p (omega (arith, l, c.min.ensures)) e in
    let found = seen-found c.args.rows.now ks c.set_seen.new.kept.items c.args.i c.min.result r here within c.set_seen.ensures before in
    let p = c.index.result in
    let is : needed_at (defined c.args.declared.now.entries) r c.seen_of-seen.result ≡ Some p =
    sym next ∙ c.in-Some.is ∙ ap Some (sym c.index.ensures) in
    let needs : NeedsRow c.args.declared.now.entries r p = needed-needs c.args.declared.now.entries r c.seen_of-seen.result p is in
    let free = needed-unknown c.args.declared.now.entries (known (extents ks)) r c.seen_of-seen.result p follows.0 at is in
    let both = KeepsFound-trans ks c.set_seen.new.kept.items c.link.new.kept.items found c.link.ensures.found in
    record {
      found = both;
      seen =
          AreSeen-kept c.args.rows.now c.set_seen.new.kept.items c.link.new.kept.items c.link.ensures.found c.link.ensures.seen
          (seen-more c.args.rows.now ks c.set_seen.new.kept.items c.args.i c.min.result r here within c.set_seen.ensures before
          c.requires.seen);
      settled = λ pile lists h. (
        linked lists p c.args.i,
        wait-settling c.args.rows.now c.args.declared.now.entries ks c.link.new.kept.items pile c.args.i lists h both p r here
            (c.link.ensures.lists pile lists
            (seen-links c.args.rows.now ks c.set_seen.new.kept.items c.args.i c.min.result r here within c.set_seen.ensures before pile
            lists h.waiting.links) h.out) c.requires.unknown needs free follows.1,
        linked-pile c.args.rows.now c.args.declared.now.entries ks c.link.new.kept.items pile c.args.i lists h both p,
      );
    }

pub returns-in-None : goal.returns-in-None
returns-in-None c =
    let ks = c.args.kept.now.items in
    let r = c.index-rows-i.result in
    let here : slice_get c.args.rows.now c.args.i ≡ Some r =
    slice_get-get_or c.args.rows.now c.args.i r c.requires.within ∙ ap Some (sym c.index-rows-i.is) in
    let within : c.args.i < length ks = omega (arith, c.requires.within, c.requires.as_many) in
    let again : c.index-rows-i-2.result ≡ r =
    c.index-rows-i-2.is ∙ get_or_default c.args.rows.now c.args.i c.index-rows-i-2.result r c.requires.within ∙ sym c.index-rows-i.is in
    let next = c.needed.ensures ∙ ap (λ q. needed_at (defined c.args.declared.now.entries) q c.seen_of-seen.result) again in
    let follows = c.requires.none r here in
    let at : (p : ℕ) → slice_get (parts_of r) c.seen_of-seen.result ≡ Some p → extent_at ks p ≡ None =
    λ p e. subst (λ l. known (extents l) p ≡ None) c.deref.ensures.value (c.seen_of-seen.ensures.at p e) in
    let all : (k p : ℕ) → k < c.seen_of-seen.result → slice_get (parts_of r) k ≡ Some p → IsSome (extent_at ks p) =
    λ k p l e. subst (λ x. IsSome (known (extents x) p)) c.deref.ensures.value (c.seen_of-seen.ensures.before k p l e) in
    let before : (k p : ℕ) → k < c.min.result → slice_get (parts_of r) k ≡ Some p → IsSome (extent_at ks p) =
    λ k p l e. all k p (omega (arith, l, c.min.ensures)) e in
    let found = seen-found c.args.rows.now ks c.set_seen.new.kept.items c.args.i c.min.result r here within c.set_seen.ensures before in
    let inert = needed-none c.args.declared.now.entries (known (extents ks)) r c.seen_of-seen.result follows.0 all
    (sym next ∙ c.in-None.is) in
    record {
      found = found;
      seen = seen-more c.args.rows.now ks c.set_seen.new.kept.items c.args.i c.min.result r here within c.set_seen.ensures before
          c.requires.seen;
      settled = λ pile lists h. (
        lists,
        stay-settling c.args.rows.now c.args.declared.now.entries ks c.set_seen.new.kept.items pile c.args.i lists h found
            (seen-links c.args.rows.now ks c.set_seen.new.kept.items c.args.i c.min.result r here within c.set_seen.ensures before pile
            lists h.waiting.links)
            (λ q g u. let same : Some r ≡ Some q = sym here ∙ g in let row : r ≡ q =
            cc in subst (λ x. HasRoot c.args.declared.now.entries ks c.args.i x ×
            (IsInert c.args.declared.now.entries x ⊎ ((p : ℕ) × Among (lists (suc p)) c.args.i × (extent_at ks p ≡ None)))) row
            (follows.1, inl inert)),
        refl,
      );
    }
