-- What is found of a row, and what the rows that wait for it come to.
use Rattle.std.proofs.Common.{◌≡◌, ◌≢◌, ℕ, suc, ◌<◌, true, false, List, [], ◌++◌, length, map, set, Option, Some, None, IfSome, IsSome, refl, ap, sym, ◌∙◌, subst, arith, ◌⊎◌, inl, inr, length-set, get_or-set_other, get_or-set_same}
use Rattle.std.specs.Prelude.{slice_get, slice_index_or}
use Rattle.std.proofs.lemmas.List.{map-set, length-map}
use Rattle.std.proofs.Math.Seq.{map-set_same}
use Rattle.std.proofs.Math.ListN.{get_or-map}
use Rattle.hare_types.specs.declared.declared.Declared.{Declared}
use Rattle.hare_types.specs.declared.extent.Extent.{Extent}
use Rattle.hare_types.specs.declared.kept.Kept.{Kept}
use Rattle.hare_types.specs.declared.root.Root.{Root}
use Rattle.hare_types.specs.declared.row.Row.{Row}
use Rattle.hare_types.specs.Store.{Store}
use Rattle.hare_types.specs.Sound.{IsStore}
use Rattle.hare_types.specs.Kept.{known, defined, extent_over, IsBounded, AreBounded, KeepsExtents, IsInert, unknown}
use Rattle.hare_types.specs.Packed.{base_in}
use Rattle.hare_types.specs.Roots.{known_root, root_over, KeepsRoots, TellsMore}
use Rattle.hare_types.specs.Waiting.{blank, kept_at, extents, roots, bases, extent_at, root_at, Among, AreLinked, HasRoot, IsAtRest, HaveRoots, AreSeen, AreSettlingBut, KeepsFound, with_found, with_list, released, IsFound, NoneFollows, unknowns}
use Rattle.hare_types.proofs.KeptLemmas.{KeepsExtents-set, unknown-set, unknown-least, unknown-filled, unknown-more}
use Rattle.hare_types.proofs.RootLemmas.{KeepsRoots-set, TellsAll-same}
use Rattle.hare_types.proofs.ChainLemmas.{kept-same, equal_or_not, with_list-here, with_list-there, with_list-from, Among-append, Among-left, Among-right}
use Rattle.hare_types.proofs.LinkLemmas.{AreLinked-same}
use Rattle.hare_types.proofs.NeedLemmas.{root_over-near, root_over-inert, base-kept}

-- ---- what is found of one row

pub extent_field : (ks : List Kept) (j : ℕ) → extent_at ks j ≡ (kept_at ks j).extent
extent_field ks j = get_or-map (λ k. k.extent) ks j blank

root_field : (ks : List Kept) (j : ℕ) → root_at ks j ≡ (kept_at ks j).root
root_field ks j = get_or-map (λ k. k.root) ks j blank

pub extents-found : (ks : List Kept) (i : ℕ) (e : Option Extent) (b : Option Root) → extents (with_found ks i e b) ≡ set (extents ks) i e
extents-found ks i e b = map-set (λ k. k.extent) ks i (record (kept_at ks i) { extent = e; root = b })

pub roots-found : (ks : List Kept) (i : ℕ) (e : Option Extent) (b : Option Root) → roots (with_found ks i e b) ≡ set (roots ks) i b
roots-found ks i e b = map-set (λ k. k.root) ks i (record (kept_at ks i) { extent = e; root = b })

-- where no extent is found, the extents stay
pub extents-none : (ks : List Kept) (i : ℕ) (b : Option Root) → extent_at ks i ≡ None → extents (with_found ks i None b) ≡ extents ks
extents-none ks i b h =
    map-set_same (λ k. k.extent) ks i (record (kept_at ks i) { extent = None; root = b }) blank (sym h ∙ extent_field ks i)

extent-there : (ks : List Kept) (i : ℕ) (e : Option Extent) (b : Option Root) (j : ℕ) → j ≢ i →
    extent_at (with_found ks i e b) j ≡ extent_at ks j
extent-there ks i e b j other = ap (λ l. known l j) (extents-found ks i e b) ∙ get_or-set_other (extents ks) i j e None other

root-there : (ks : List Kept) (i : ℕ) (e : Option Extent) (b : Option Root) (j : ℕ) → j ≢ i → root_at (with_found ks i e b) j ≡ root_at ks j
root-there ks i e b j other = ap (λ l. known_root l j) (roots-found ks i e b) ∙ get_or-set_other (roots ks) i j b None other

pub root-here : (ks : List Kept) (i : ℕ) (e : Option Extent) (b : Option Root) → i < length ks → root_at (with_found ks i e b) i ≡ b
root-here ks i e b l =
    ap (λ l. known_root l i) (roots-found ks i e b) ∙ get_or-set_same (roots ks) i b None (omega (arith, l, length-map ks (λ k. k.root)))

pub extent-here : (ks : List Kept) (i : ℕ) (e : Option Extent) (b : Option Root) → i < length ks → extent_at (with_found ks i e b) i ≡ e
extent-here ks i e b l =
    ap (λ l. known l i) (extents-found ks i e b) ∙ get_or-set_same (extents ks) i e None (omega (arith, l, length-map ks (λ k. k.extent)))

-- ---- the lists, once those that wait for a row are released

released-from : (lists : ℕ → List ℕ) (t n j : ℕ) → Among (released lists t n) j → (m : ℕ) × Among (lists m) j
released-from lists t n j a = by (with_list-from (with_list lists (suc t) []) 0 (lists (suc t) ++ lists 0) n j a)
  where
    front : Among (lists (suc t)) j ⊎ Among (lists 0) j → (m : ℕ) × Among (lists m) j
    front (inl b) = (suc t, b)
    front (inr b) = (0, b)

    rest : ((suc t ≡ n) × Among [] j) ⊎ (¬ (suc t ≡ n) × Among (lists n) j) → (m : ℕ) × Among (lists m) j
    rest (inl b) = absurd b.1
    rest (inr b) = (n, b.1)

    by : ((0 ≡ n) × Among (lists (suc t) ++ lists 0) j) ⊎ (¬ (0 ≡ n) × Among (with_list lists (suc t) [] n) j) → (m : ℕ) × Among (lists m) j
    by (inl b) = front (Among-append (lists (suc t)) (lists 0) j b.1)
    by (inr b) = rest (with_list-from lists (suc t) [] n j b.1)

released-suc : (lists : ℕ → List ℕ) (t p j : ℕ) → Among (released lists t (suc p)) j → Among (lists (suc p)) j
released-suc lists t p j a = by (with_list-from (with_list lists (suc t) []) 0 (lists (suc t) ++ lists 0) (suc p) j a)
  where
    rest : ((suc t ≡ suc p) × Among [] j) ⊎ (¬ (suc t ≡ suc p) × Among (lists (suc p)) j) → Among (lists (suc p)) j
    rest (inl b) = absurd b.1
    rest (inr b) = b.1

    by : ((0 ≡ suc p) × Among (lists (suc t) ++ lists 0) j) ⊎ (¬ (0 ≡ suc p) × Among (with_list lists (suc t) [] (suc p)) j) →
        Among (lists (suc p)) j
    by (inl b) = absurd (omega (arith, b.0))
    by (inr b) = rest (with_list-from lists (suc t) [] (suc p) j b.1)

released-to : (lists : ℕ → List ℕ) (t p j : ℕ) → ¬ (p ≡ t) → Among (lists (suc p)) j → Among (released lists t (suc p)) j
released-to lists t p j other a =
    subst (λ xs. Among xs j)
    (sym (with_list-there (with_list lists (suc t) []) 0 (lists (suc t) ++ lists 0) (suc p) (λ e. absurd (omega arith)) ∙ with_list-there
    lists (suc t) [] (suc p) (λ e. other (omega arith)))) a

released-pile : (lists : ℕ → List ℕ) (t j : ℕ) → Among (lists (suc t)) j ⊎ Among (lists 0) j → Among (released lists t 0) j
released-pile lists t j h = subst (λ xs. Among xs j) (sym (with_list-here (with_list lists (suc t) []) 0 (lists (suc t) ++ lists 0))) (by h)
  where
    by : Among (lists (suc t)) j ⊎ Among (lists 0) j → Among (lists (suc t) ++ lists 0) j
    by (inl a) = Among-left (lists (suc t)) (lists 0) j a
    by (inr a) = Among-right (lists (suc t)) (lists 0) j a

-- ---- what is found of a row

module _ (rows : List Row) (es : List (ℕ × Declared)) (old mid : List Kept) (i : ℕ) (r : Row) (f : IsFound es old mid i r)
    (within : i < length old) (none : extent_at old i ≡ None) where
  e_mid : (j : ℕ) → j ≢ i → extent_at mid j ≡ extent_at old j
  e_mid j other = ap (λ l. extent_at l j) f.new_is ∙ extent-there old i f.extent f.root j other

  b_mid : (j : ℕ) → j ≢ i → root_at mid j ≡ root_at old j
  b_mid j other = ap (λ l. root_at l j) f.new_is ∙ root-there old i f.extent f.root j other

  pub found-rooted : HaveRoots old → HaveRoots mid
  found-rooted h j s = by (equal_or_not j i)
    where
      by : (j ≡ i) ⊎ (¬ (j ≡ i)) → IsSome (base_in (root_at mid j))
      by (inl e) =
          let extent : IsSome f.extent =
          subst IsSome (ap (extent_at mid) e ∙ ap (λ l. extent_at l i) f.new_is ∙ extent-here old i f.extent f.root within) s in
          let root : root_at mid j ≡ f.root =
          ap (root_at mid) e ∙ ap (λ l. root_at l i) f.new_is ∙ root-here old i f.extent f.root within in
          subst IsSome (sym (ap base_in root)) (f.based extent)
      by (inr other) = subst IsSome (sym (ap base_in (b_mid j other))) (h j (subst IsSome (e_mid j other) s))

  pub found-seen : AreSeen rows old → AreSeen rows mid
  found-seen h j k p q g l e = by (equal_or_not p i)
    where
      seen : (kept_at mid j).seen ≡ (kept_at old j).seen
      seen = ap (λ l. (kept_at l j).seen) f.new_is ∙ kept-same (λ k. k.seen) old i
          (record (kept_at old i) { extent = f.extent; root = f.root }) refl j

      before : IsSome (extent_at old p)
      before = h j k p q g (omega (arith, l, seen)) e

      by : (p ≡ i) ⊎ (¬ (p ≡ i)) → IsSome (extent_at mid p)
      by (inl same) =
          let nothing : false ≡ true = subst IsSome (ap (extent_at old) same ∙ none) before in
          absurd cc
      by (inr other) = subst IsSome (sym (e_mid p other)) before

  pub found-bounded : AreBounded (extents old) → AreBounded (extents mid)
  found-bounded h j x e = by (equal_or_not j i)
    where
      by : (j ≡ i) ⊎ (¬ (j ≡ i)) → IsBounded x
      by (inl same) = subst (λ o. IfSome o (λ y. IsBounded y))
          (sym (ap (λ l. extent_at l i) f.new_is ∙ extent-here old i f.extent f.root within) ∙ ap (extent_at mid) (sym same) ∙ e) f.bounded
      by (inr other) = h j x (sym (e_mid j other) ∙ e)

  pub found-fewer : unknowns mid < unknowns old
  found-fewer = subst (λ l. unknowns l < unknowns old) (sym f.new_is) (by f.extent refl f.more)
    where
      roots_within : i < length (roots old)
      roots_within = omega (arith, within, length-map old (λ k. k.root))

      bases_within : i < length (bases old)
      bases_within = omega (arith, roots_within, length-map (roots old) base_in)

      roots_now : unknown (roots (with_found old i f.extent f.root)) ≡ unknown (set (roots old) i f.root)
      roots_now = ap unknown (roots-found old i f.extent f.root)

      bases_now : unknown (bases (with_found old i f.extent f.root)) ≡ unknown (set (bases old) i (base_in f.root))
      bases_now = ap unknown (ap (map base_in) (roots-found old i f.extent f.root) ∙ map-set base_in (roots old) i f.root)

      no_base : base_in (root_at old i) ≡ None → slice_index_or (bases old) i None ≡ None
      no_base h = get_or-map base_in (roots old) i None ∙ h

      as_before : f.extent ≡ None → unknown (extents (with_found old i f.extent f.root)) ≡ unknown (extents old)
      as_before e = ap unknown (ap (λ o. extents (with_found old i o f.root)) e ∙ extents-none old i f.root none)

      more : f.extent ≡ None → (root_at old i ≡ None) ⊎ ((base_in (root_at old i) ≡ None) × IsSome (base_in f.root)) →
          unknowns (with_found old i f.extent f.root) < unknowns old
      more e (inl h) =
          let less = unknown-filled (roots old) i f.root roots_within h f.rooted in
          let rest = unknown-least (bases old) i (base_in f.root) (no_base (ap base_in h)) in
          omega (arith, as_before e, roots_now, bases_now, less, rest)
      more e (inr h) =
          let less = unknown-filled (bases old) i (base_in f.root) bases_within (no_base h.0) h.1 in
          let rest = unknown-more (roots old) i f.root f.rooted in
          omega (arith, as_before e, roots_now, bases_now, less, rest)

      by : (o : Option Extent) → f.extent ≡ o → IsSome f.extent ⊎ TellsMore (root_at old i) f.root →
          unknowns (with_found old i f.extent f.root) < unknowns old
      by (Some x) e h =
          let less = unknown-set (extents old) i x (omega (arith, within, length-map old (λ k. k.extent))) none in
          let first : unknown (extents (with_found old i f.extent f.root)) ≡ unknown (set (extents old) i (Some x)) =
          ap unknown (extents-found old i f.extent f.root ∙ ap (set (extents old) i) e) in
          let second = unknown-more (roots old) i f.root f.rooted in
          let third = unknown-more (bases old) i (base_in f.root) (f.based (subst IsSome (sym e) refl)) in
          omega (arith, less, first, second, third, roots_now, bases_now)
      by None e (inl s) =
          let nothing : false ≡ true = subst IsSome e s in
          absurd cc
      by None e (inr h) = more e h.1

  pub found-length : length mid ≡ length old
  found-length = ap length f.new_is ∙ length-set old i (record (kept_at old i) { extent = f.extent; root = f.root })

  pub found-links : (pile : ℕ) (lists : ℕ → List ℕ) → AreLinked old pile lists → AreLinked mid pile lists
  found-links pile lists l =
      subst (λ x. AreLinked x pile lists) (sym f.new_is)
      (AreLinked-same old (with_found old i f.extent f.root) pile lists
      (length-set old i (record (kept_at old i) { extent = f.extent; root = f.root }))
      (kept-same (λ k. k.next) old i (record (kept_at old i) { extent = f.extent; root = f.root }) refl)
      (kept-same (λ k. k.first) old i (record (kept_at old i) { extent = f.extent; root = f.root }) refl)
      (kept-same (λ k. k.last) old i (record (kept_at old i) { extent = f.extent; root = f.root }) refl) l)

  pub found-extents : (s : Store) → IsStore s → s.rows ≡ rows → s.declared ≡ es → slice_get rows i ≡ Some r → KeepsExtents s (extents old) →
      KeepsExtents s (extents mid)
  found-extents s v e g here k = subst (λ l. KeepsExtents s (extents l)) (sym f.new_is) (by f.extent refl)
    where
      by : (o : Option Extent) → f.extent ≡ o → KeepsExtents s (extents (with_found old i f.extent f.root))
      by None h = subst (KeepsExtents s) (sym (ap (λ o. extents (with_found old i o f.root)) h ∙ extents-none old i f.root none)) k
      by (Some x) h =
          subst (KeepsExtents s) (sym (extents-found old i f.extent f.root ∙ ap (set (extents old) i) h))
          (KeepsExtents-set s v (extents old) i r x (ap (λ l. slice_get l i) e ∙ here)
          (sym h ∙ f.extent_is ∙ ap (λ l. extent_over (defined l) (known (extents old)) r) (sym g))
          (subst (λ o. IfSome o (λ y. IsBounded y)) h f.bounded) k)

  pub found-roots : (s : Store) → IsStore s → s.rows ≡ rows → s.declared ≡ es → slice_get rows i ≡ Some r → KeepsRoots s (roots old) →
      KeepsRoots s (roots mid)
  found-roots s v e g here k =
      subst (KeepsRoots s) (sym (ap roots f.new_is ∙ roots-found old i f.extent f.root))
      (KeepsRoots-set s (roots old) i r f.root (ap (λ l. slice_get l i) e ∙ here)
      (f.root_is ∙ ap (λ l. root_over (defined l) (root_at old) i r) (sym g)) k)

  -- where no extent was found, none follows over what is kept then
  pub found-none : (new : List Kept) → KeepsFound mid new → slice_get rows i ≡ Some r → extent_at new i ≡ None → (q : Row) →
      slice_get rows i ≡ Some q → NoneFollows es new i q
  found-none new k here u q g =
      let both : Some r ≡ Some q = sym here ∙ g in
      let same : r ≡ q = cc in
      subst (NoneFollows es new i) same (extent, root)
    where
      unfound : f.extent ≡ None
      unfound = sym (ap (λ l. extent_at l i) f.new_is ∙ extent-here old i f.extent f.root within) ∙ sym (ap (λ l. known l i) k.extents) ∙ u

      extents_stay : extents new ≡ extents old
      extents_stay =
          k.extents ∙ ap extents f.new_is ∙ ap (λ o. extents (with_found old i o f.root)) unfound ∙ extents-none old i f.root none

      extent : extent_over (defined es) (known (extents new)) r ≡ None
      extent = ap (λ l. extent_over (defined es) (known l) r) extents_stay ∙ sym f.extent_is ∙ unfound

      root_now : root_at new i ≡ f.root
      root_now = ap (λ l. known_root l i) k.roots ∙ ap (λ l. root_at l i) f.new_is ∙ root-here old i f.extent f.root within

      root : HasRoot es new i r
      root = record {
        root = λ n. let nothing : false ≡ true = subst IsSome (sym root_now ∙ n) f.rooted in absurd cc;
        base = base-kept es (root_at old) (root_at new) i r (root_now ∙ f.root_is)
            (λ j other. ap (λ l. known_root l j) k.roots ∙ b_mid j other);
      }

  -- once those that wait for it are released, each other row is at rest or looked at later
  module _ (new : List Kept) (keeps : KeepsFound mid new) (pile pile' : ℕ) (lists : ℕ → List ℕ)
      (links : AreLinked new pile' (released lists i)) (h : AreSettlingBut i rows es old pile lists) where
    e_new : (j : ℕ) → j ≢ i → extent_at new j ≡ extent_at old j
    e_new j other = ap (λ l. known l j) keeps.extents ∙ e_mid j other

    b_new : (j : ℕ) → j ≢ i → root_at new j ≡ root_at old j
    b_new j other = ap (λ l. known_root l j) keeps.roots ∙ b_mid j other

    not_i : (m j : ℕ) → Among (lists m) j → j ≢ i
    not_i m j a e = h.out m (subst (Among (lists m)) e a)

    pub release-settling : AreSettlingBut i rows es new pile' (released lists i)
    release-settling = record {
      waiting = record {
        links = links;
        unknown = λ n j a. let b = released-from lists i n j a in e_new j (not_i b.0 j b.1) ∙ h.waiting.unknown b.0 j b.1;
        needs = λ p j a. h.waiting.needs p j (released-suc lists i p j a);
      };
      out = λ n a. let b = released-from lists i n i a in h.out b.0 b.1;
      rest = λ j. by j (equal_or_not i j) (h.rest j);
    }
      where
        -- what is said of one row
        said : (j : ℕ) (q : Row) → slice_get rows j ≡ Some q
            → (HasRoot es new j q × (IsInert es q ⊎ ((p : ℕ) × Among (released lists i (suc p)) j × (extent_at new p ≡ None)))) →
            IsAtRest rows es new (released lists i) j
        said j q g s q' g' u =
            let both : Some q ≡ Some q' = sym g ∙ g' in
            let same : q ≡ q' = cc in
            subst (λ x. HasRoot es new j x × (IsInert es x ⊎ ((p : ℕ) × Among (released lists i (suc p)) j × (extent_at new p ≡ None))))
            same s

        at_rest : (j : ℕ) → j ≢ i → (q : Row) → slice_get rows j ≡ Some q → HasRoot es old j q
            → IsInert es q ⊎ ((p : ℕ) × Among (lists (suc p)) j × (extent_at old p ≡ None)) →
            IsAtRest rows es new (released lists i) j ⊎ Among (released lists i 0) j
        at_rest j other q g root (inl inert) =
            inl (said j q g (
              TellsAll-same _ _ _ _ (b_new j other) (root_over-inert es (root_at old) (root_at new) j q inert) root,
              inl
                  inert,
            ))
        at_rest j other q g root (inr w) = on (equal_or_not w.0 i)
          where
            on : (w.0 ≡ i) ⊎ (¬ (w.0 ≡ i)) → IsAtRest rows es new (released lists i) j ⊎ Among (released lists i 0) j
            on (inl e) = inr (released-pile lists i j (inl (subst (λ p. Among (lists (suc p)) j) e w.1)))
            on (inr away) =
                inl (said j q g (
                  TellsAll-same _ _ _ _ (b_new j other)
                      (root_over-near es (root_at old) (root_at new) j q w.0 (h.waiting.needs w.0 j w.1 q g) (b_new w.0 away)) root,
                  inr (w.0, released-to lists i w.0 j away w.1, e_new w.0 away ∙ w.2),
                ))

        known_or_not : (j : ℕ) → j ≢ i → IsAtRest rows es old lists j → (o : Option Row) → slice_get rows j ≡ o → (x : Option Extent) →
            extent_at old j ≡ x → IsAtRest rows es new (released lists i) j ⊎ Among (released lists i 0) j
        known_or_not j other a None g x e = inl (λ q g' u. let both : None ≡ Some q = sym g ∙ g' in absurd cc)
        known_or_not j other a (Some q) g (Some x) e =
            inl (λ q' g' u. let both : Some x ≡ None = sym e ∙ sym (e_new j other) ∙ u in absurd cc)
        known_or_not j other a (Some q) g None e = let s = a q g e in at_rest j other q g s.0 s.1

        by : (j : ℕ) → (i ≡ j) ⊎ (¬ (i ≡ j)) → (i ≡ j) ⊎ (IsAtRest rows es old lists j ⊎ Among (lists 0) j) →
            (i ≡ j) ⊎ (IsAtRest rows es new (released lists i) j ⊎ Among (released lists i 0) j)
        by j (inl e) s = inl e
        by j (inr other) (inl e) = inl e
        by j (inr other) (inr (inl a)) = inr (known_or_not j (λ e. other (sym e)) a (slice_get rows j) refl (extent_at old j) refl)
        by j (inr other) (inr (inr a)) = inr (inr (released-pile lists i j (inr a)))
