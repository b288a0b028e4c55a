-- What is kept beside rows, as rows are taken in and names are declared and defined.
use Rattle.std.proofs.Common.{◌≡◌, ℕ, zero, suc, ◌+◌, ◌<◌, ◌≤◌, true, false, List, [], ◌∷◌, ◌++◌, length, get_or, Option, Some, None, IfSome, IsSome, refl, ap, ap₂, sym, ◌∙◌, subst, arith, ◌⊎◌, inl, inr, length-append}
use Rattle.std.specs.Prelude.{slice_get, option_and_then}
use Rattle.std.proofs.lemmas.Option.{slice_get-get_or, slice_get_within}
use Rattle.std.proofs.lemmas.List.{map-append, length-map}
use Rattle.std.proofs.Math.Seq.{get_or-append_seam}
use Rattle.std.proofs.Math.ListN.{get_or-append}
use Rattle.hare_types.specs.declared.declared.Declared.{Declared}
use Rattle.hare_types.specs.declared.extent.Extent.{Extent}
use Rattle.hare_types.specs.declared.kept.Kept.{Kept}
use Rattle.hare_types.specs.declared.root.Root.{Root}
use Rattle.hare_types.specs.declared.row.Row.{Row}
use Rattle.hare_types.specs.declared.row.Row.TheVariants as row
use Rattle.hare_types.specs.Numbering.{most, IsNumbered, IsOnce}
use Rattle.hare_types.specs.Rows.{IsWithin, IsReduced, AreRows, NamesBelow}
use Rattle.hare_types.specs.ByIds.{fields_in}
use Rattle.hare_types.specs.Store.{Store}
use Rattle.hare_types.specs.Sound.{IsStore}
use Rattle.hare_types.specs.Kept.{known, defined, extent_over, IsBounded, KeepsExtents, IsInert}
use Rattle.hare_types.specs.Packed.{base_in}
use Rattle.hare_types.specs.Roots.{known_root, with_mark, root_over, KeepsRoots}
use Rattle.hare_types.specs.Waiting.{nowhere, blank, kept_at, extents, roots, extent_at, root_at, Among, EndsWith, Chain, first_of, HasRoot, IsAtRest, HaveRoots, AreSeen, AreSettling, AreSettlingBut, AreKept, IsTakenIn, KeepsFound, NoneFollows, NeedsAreWithin}
use Rattle.hare_types.proofs.ListLemmas.{slice_get_end, slice_get_push}
use Rattle.hare_types.proofs.TreeLemmas.{IsWithin-le}
use Rattle.hare_types.proofs.SoundLemmas.{IsStore-rows, names_new}
use Rattle.hare_types.proofs.InternLemmas.{AreRows-new, kept_new, Continues-grows}
use Rattle.hare_types.proofs.KeptLemmas.{KeepsExtents-push, extent_over-front, known-front}
use Rattle.hare_types.proofs.RootLemmas.{KeepsRoots-push, TellsAll-of, TellsAll-same}
use Rattle.hare_types.proofs.ChainLemmas.{equal_or_not, Chain-below}
use Rattle.hare_types.proofs.NeedLemmas.{extent-rooted}
use Rattle.hare_types.proofs.WaitLemmas.{HaveRoots-kept}
use Rattle.hare_types.proofs.MeaningLemmas.{needs-within, parts_below}

-- ---- nothing

pub AreSettling-empty : (rows : List Row) (es : List (ℕ × Declared)) (ks : List Kept) → rows ≡ [] → ks ≡ [] →
    AreSettling rows es ks nowhere (λ n. [])
AreSettling-empty rows es ks e f = record {
  waiting = record {
    links = record { chains = chain; ends = λ t. tt; distinct = λ n. tt; once = λ m n i a b. absurd a };
    unknown = λ n i a. absurd a;
    needs = λ p i a. absurd a;
  };
  rest = λ i. inl (λ r g u. let none : None ≡ Some r = sym (ap (λ l. slice_get l i) e) ∙ g in absurd cc);
}
  where
    chain : (n : ℕ) → Chain ks (first_of ks nowhere n) []
    chain zero = refl
    chain (suc t) = ap (λ l. (kept_at l t).first) f

pub HaveRoots-empty : (ks : List Kept) → ks ≡ [] → HaveRoots ks
HaveRoots-empty ks e i s =
    let nothing : false ≡ true = subst IsSome (ap (λ l. extent_at l i) e) s in
    absurd cc

pub AreSeen-empty : (rows : List Row) (ks : List Kept) → rows ≡ [] → AreSeen rows ks
AreSeen-empty rows ks e i k p r g l h =
    let none : None ≡ Some r = sym (ap (λ l. slice_get l i) e) ∙ g in
    absurd cc

-- ---- with one more row

field-push : {A : Type 0} (f : Kept → A) (ks : List Kept) (k : Kept) → f k ≡ f blank → (j : ℕ) →
    f (kept_at (ks ++ k ∷ []) j) ≡ f (kept_at ks j)
field-push f [] k e zero = e
field-push f [] k e (suc j) = refl
field-push f (x ∷ ks) k e zero = refl
field-push f (x ∷ ks) k e (suc j) = field-push f ks k e j

Chain-longer : (ks new : List Kept) → length ks ≤ length new → ((i : ℕ) → (kept_at new i).next ≡ (kept_at ks i).next) →
    (xs : List ℕ) (h : ℕ) → Chain ks h xs → Chain new h xs
Chain-longer ks new len same [] h c = c
Chain-longer ks new len same (x ∷ xs) h c =
    (c.0, omega (arith, c.1, len), Chain-longer ks new len same xs (kept_at new x).next (subst (λ n. Chain ks n xs) (sym (same x)) c.2))

root_front : (definition : ℕ → Option ℕ) (bs : List (Option Root)) (o : Option Root) (i : ℕ) (r : Row) → IsWithin (length bs) r →
    ((d t : ℕ) → definition d ≡ Some t → t < length bs)
    → root_over definition (known_root (bs ++ o ∷ [])) i r ≡ root_over definition (known_root bs) i r
root_front definition bs o i (row.Error j) h ids = ap (λ x. Some (with_mark x)) (get_or-append bs (o ∷ []) None j h)
root_front definition bs o i (row.Named d) h ids = by (definition d) (λ t. ids d t)
  where
    by : (q : Option ℕ) → ((t : ℕ) → q ≡ Some t → t < length bs) → option_and_then (known_root (bs ++ o ∷ [])) q ≡ option_and_then
        (known_root bs) q
    by None g = refl
    by (Some t) g = get_or-append bs (o ∷ []) None t (g t refl)
root_front definition bs o i (row.Scalar k) h ids = refl
root_front definition bs o i (row.Pointer j) h ids = refl
root_front definition bs o i (row.Nullable j) h ids = refl
root_front definition bs o i (row.Slice j) h ids = refl
root_front definition bs o i (row.Array n j) h ids = refl
root_front definition bs o i (row.Struct fs) h ids = refl
root_front definition bs o i (row.Tuple js) h ids = refl
root_front definition bs o i (row.Union js) h ids = refl

module _ (s : Store) (ks : List Kept) (v : AreKept s ks) (r : Row) (w : IsWithin (length s.rows) r) (k : Kept)
    (blank_is : k ≡ record blank { extent = k.extent; root = k.root })
    (extent_is : k.extent ≡ extent_over (defined s.declared) (known (extents ks)) r)
    (root_is : k.root ≡ root_over (defined s.declared) (root_at ks) (length s.rows) r)
    (bounded : IfSome k.extent (λ x. IsBounded x)) (sound : IsStore (record s { rows = s.rows ++ r ∷ [] })) where
  abbrev pushed : List Kept
  pushed = ks ++ k ∷ []

  as_many : length ks ≡ length s.rows
  as_many = sym (length-map ks (λ x. x.extent)) ∙ v.extents.as_many

  extents_pushed : extents pushed ≡ extents ks ++ k.extent ∷ []
  extents_pushed = map-append (λ x. x.extent) ks (k ∷ [])

  roots_pushed : roots pushed ≡ roots ks ++ k.root ∷ []
  roots_pushed = map-append (λ x. x.root) ks (k ∷ [])

  extent_old : (j : ℕ) → j < length s.rows → extent_at pushed j ≡ extent_at ks j
  extent_old j l = ap (λ x. known x j) extents_pushed ∙ known-front (extents ks) (k.extent ∷ []) j (omega (arith, l, v.extents.as_many))

  root_old : (j : ℕ) → j < length s.rows → root_at pushed j ≡ root_at ks j
  root_old j l = ap (λ x. known_root x j) roots_pushed ∙ get_or-append (roots ks) (k.root ∷ []) None j (omega (arith, l, v.roots.as_many))

  extent_last : extent_at pushed (length s.rows) ≡ k.extent
  extent_last = ap (λ x. known x (length s.rows)) extents_pushed ∙ ap (known (extents ks ++ k.extent ∷ [])) (sym v.extents.as_many) ∙
      get_or-append_seam (extents ks) k.extent [] None

  root_last : root_at pushed (length s.rows) ≡ k.root
  root_last = ap (λ x. known_root x (length s.rows)) roots_pushed ∙ ap (known_root (roots ks ++ k.root ∷ [])) (sym v.roots.as_many) ∙
      get_or-append_seam (roots ks) k.root [] None

  over_front : (q : Row) → IsWithin (length s.rows) q → extent_over (defined s.declared) (known (extents pushed)) q ≡ extent_over
      (defined s.declared) (known (extents ks)) q
  over_front q h =
      ap (λ x. extent_over (defined s.declared) (known x) q) extents_pushed
      ∙ extent_over-front (defined s.declared) (extents ks) (k.extent ∷ []) q (subst (λ n. IsWithin n q) (sym v.extents.as_many) h)
      (λ d t e. omega (arith, v.store.defined_within d t e, v.extents.as_many))

  roots_front : (i : ℕ) (q : Row) → IsWithin (length s.rows) q → root_over (defined s.declared) (root_at pushed) i q ≡ root_over
      (defined s.declared) (root_at ks) i q
  roots_front i q h =
      ap (λ x. root_over (defined s.declared) (known_root x) i q) roots_pushed
      ∙ root_front (defined s.declared) (roots ks) k.root i q (subst (λ n. IsWithin n q) (sym v.roots.as_many) h)
      (λ d t e. omega (arith, v.store.defined_within d t e, v.roots.as_many))

  pub push-extents : KeepsExtents (record s { rows = s.rows ++ r ∷ [] }) (extents pushed)
  push-extents = subst (KeepsExtents (record s { rows = s.rows ++ r ∷ [] })) (sym extents_pushed)
      (KeepsExtents-push s r (extents ks) k.extent extent_is bounded v.extents sound v.store.defined_within)

  pub push-roots : KeepsRoots (record s { rows = s.rows ++ r ∷ [] }) (roots pushed)
  push-roots = subst (KeepsRoots (record s { rows = s.rows ++ r ∷ [] })) (sym roots_pushed)
      (KeepsRoots-push s r (roots ks) k.root root_is v.roots)

  -- no extent is kept of what is not in the store
  kept_within : (i : ℕ) → IsSome (extent_at pushed i) → (i < length s.rows) ⊎ (i ≡ length s.rows)
  kept_within i h =
      let long : length (extents pushed) ≡ length s.rows + 1 = push-extents.as_many ∙ length-append s.rows (r ∷ []) in
      let within : i < length (extents pushed) = known_in (extents pushed) i h in
      below i (length s.rows) (omega (arith, long, within))
    where
      known_in : (xs : List (Option Extent)) (j : ℕ) → IsSome (known xs j) → j < length xs
      known_in [] j g =
          let nothing : false ≡ true = g in
          absurd cc
      known_in (x ∷ xs) zero g = omega arith
      known_in (x ∷ xs) (suc j) g = let l = known_in xs j g in omega arith

      below : (j n : ℕ) → j < n + 1 → (j < n) ⊎ (j ≡ n)
      below j n l = grind arith

  pub push-rooted : HaveRoots pushed
  push-rooted i h = by (kept_within i h)
    where
      by : (i < length s.rows) ⊎ (i ≡ length s.rows) → IsSome (base_in (root_at pushed i))
      by (inl l) = subst IsSome (sym (ap base_in (root_old i l))) (v.rooted i (subst IsSome (extent_old i l) h))
      by (inr e) =
          let here : IsSome k.extent = subst IsSome (ap (extent_at pushed) e ∙ extent_last) h in
          subst IsSome (sym (ap base_in (ap (root_at pushed) e ∙ root_last ∙ root_is)))
          (extent-rooted s.declared ks v.rooted (length s.rows) r (subst IsSome extent_is here))

  pub push-seen : AreSeen (s.rows ++ r ∷ []) pushed
  push-seen i n p q g l e = by (slice_get_push s.rows r i q g)
    where
      seen : (kept_at pushed i).seen ≡ (kept_at ks i).seen
      seen = field-push (λ x. x.seen) ks k (ap (λ x. x.seen) blank_is) i

      none : i ≡ length s.rows → (kept_at ks i).seen ≡ 0
      none f = ap (λ x. x.seen) (past ks i (omega (arith, f, as_many)))
        where
          past : (xs : List Kept) (j : ℕ) → length xs ≤ j → kept_at xs j ≡ blank
          past [] j m = refl
          past (x ∷ xs) zero m = absurd (omega arith)
          past (x ∷ xs) (suc j) m = past xs j (omega arith)

      by : (slice_get s.rows i ≡ Some q) ⊎ ((i ≡ length s.rows) × (q ≡ r)) → IsSome (extent_at pushed p)
      by (inl h) =
          let below = slice_get_within s.rows i q h in
          let part = parts_below i q n p (v.store.rows_sound.within i q h) e in
          subst IsSome (sym (extent_old p (omega arith))) (v.seen i n p q h (omega (arith, l, seen)) e)
      by (inr h) = absurd (omega (arith, l, seen, none h.0))

  pub push-none : extent_at pushed (length s.rows) ≡ None → (q : Row) → slice_get (s.rows ++ r ∷ []) (length s.rows) ≡ Some q →
      NoneFollows s.declared pushed (length s.rows) q
  push-none u q g = by (slice_get_push s.rows r (length s.rows) q g)
    where
      by : (slice_get s.rows (length s.rows) ≡ Some q) ⊎ ((length s.rows ≡ length s.rows) × (q ≡ r)) →
          NoneFollows s.declared pushed (length s.rows) q
      by (inl h) =
          let below = slice_get_within s.rows (length s.rows) q h in
          absurd (omega arith)
      by (inr h) =
          subst (NoneFollows s.declared pushed (length s.rows)) (sym h.1) (
            over_front r w ∙ sym extent_is ∙ sym extent_last ∙ u,
            TellsAll-of _ _
                (root_last ∙ root_is ∙ sym (roots_front (length s.rows) r w)),
          )

  in_old : (n i : ℕ) → Among (v.lists n) i → i < length s.rows
  in_old n i a = omega (arith, as_many, Chain-below ks (v.lists n) (first_of ks nowhere n) (v.settled.waiting.links.chains n) i a)

  pub push-settling : AreSettlingBut (length s.rows) (s.rows ++ r ∷ []) s.declared pushed nowhere v.lists
  push-settling = record {
    waiting = record {
      links = record {
        chains = λ n. chain n (v.settled.waiting.links.chains n);
        ends = λ t. subst (λ z. EndsWith (v.lists (suc t)) z) (sym (field-push (λ x. x.last) ks k (ap (λ x. x.last) blank_is) t))
            (v.settled.waiting.links.ends t);
        distinct = v.settled.waiting.links.distinct;
        once = v.settled.waiting.links.once;
      };
      unknown = λ n i a. extent_old i (in_old n i a) ∙ v.settled.waiting.unknown n i a;
      needs = λ p i a q g. v.settled.waiting.needs p i a q (old_row i q (in_old (suc p) i a) g);
    };
    out = λ n a. let l = in_old n (length s.rows) a in absurd (omega arith);
    rest = λ i. by i (equal_or_not (length s.rows) i) (v.settled.rest i);
  }
    where
      longer : length ks ≤ length pushed
      longer = omega (arith, length-append ks (k ∷ []))

      nexts : (i : ℕ) → (kept_at pushed i).next ≡ (kept_at ks i).next
      nexts = field-push (λ x. x.next) ks k (ap (λ x. x.next) blank_is)

      chain : (n : ℕ) → Chain ks (first_of ks nowhere n) (v.lists n) → Chain pushed (first_of pushed nowhere n) (v.lists n)
      chain zero c = Chain-longer ks pushed longer nexts (v.lists zero) nowhere c
      chain (suc t) c =
          subst (λ h. Chain pushed h (v.lists (suc t))) (sym (field-push (λ x. x.first) ks k (ap (λ x. x.first) blank_is) t))
          (Chain-longer ks pushed longer nexts (v.lists (suc t)) (kept_at ks t).first c)

      old_row : (i : ℕ) (q : Row) → i < length s.rows → slice_get (s.rows ++ r ∷ []) i ≡ Some q → slice_get s.rows i ≡ Some q
      old_row i q l g = on (slice_get_push s.rows r i q g)
        where
          on : (slice_get s.rows i ≡ Some q) ⊎ ((i ≡ length s.rows) × (q ≡ r)) → slice_get s.rows i ≡ Some q
          on (inl h) = h
          on (inr h) = absurd (omega (arith, l, h.0))

      at_rest : (i : ℕ) → ¬ (length s.rows ≡ i) → IsAtRest s.rows s.declared ks v.lists i →
          IsAtRest (s.rows ++ r ∷ []) s.declared pushed v.lists i
      at_rest i other a q g u = on (slice_get_push s.rows r i q g)
        where
          kept : slice_get s.rows i ≡ Some q → IsInert s.declared q ⊎ ((p : ℕ) × Among (v.lists (suc p)) i × (extent_at ks p ≡ None)) →
              IsInert s.declared q ⊎ ((p : ℕ) × Among (v.lists (suc p)) i × (extent_at pushed p ≡ None))
          kept h (inl x) = inl x
          kept h (inr x) =
              let below = needs-within s v.store i x.0 q h (v.settled.waiting.needs x.0 i x.1 q h) in
              inr (x.0, x.1, extent_old x.0 below ∙ x.2)

          on : (slice_get s.rows i ≡ Some q) ⊎ ((i ≡ length s.rows) × (q ≡ r))
              → HasRoot s.declared pushed i q × (IsInert s.declared q ⊎ ((p : ℕ) × Among (v.lists (suc p)) i × (extent_at pushed p ≡ None)))
          on (inr h) = absurd (other (sym h.0))
          on (inl h) =
              let l = slice_get_within s.rows i q h in
              let x = a q h (sym (extent_old i l) ∙ u) in (
                TellsAll-same _ _ _ _ (root_old i l)
                    (roots_front i q (IsWithin-le i (length s.rows) q (omega arith) (v.store.rows_sound.within i q h))) x.0,
                kept h x.1,
              )

      by : (i : ℕ) → (length s.rows ≡ i) ⊎ (¬ (length s.rows ≡ i)) → IsAtRest s.rows s.declared ks v.lists i ⊎ Among (v.lists 0) i
          → (length s.rows ≡ i) ⊎ (IsAtRest (s.rows ++ r ∷ []) s.declared pushed v.lists i ⊎ Among (v.lists 0) i)
      by i (inl e) h = inl e
      by i (inr other) (inl a) = inr (inl (at_rest i other a))
      by i (inr other) (inr a) = inr (inr a)

-- ---- with the rows that taking one in leaves

-- what is asked of rows, and of what is kept beside them, once row `here` was taken in
pub record IsEntered (s : Store) (es : List (ℕ × Declared)) (rows : List Row) (here : ℕ) (mid : List Kept) : Type 0 where
  pub as_many : length mid ≡ length rows
  pub needs : NeedsAreWithin rows es
  pub seen : AreSeen rows mid
  pub none : extent_at mid here ≡ None → (q : Row) → slice_get rows here ≡ Some q → NoneFollows es mid here q
  pub kept : (final : List Kept) → KeepsFound mid final → AreSeen rows final
      → ((pile : ℕ) (lists : ℕ → List ℕ) → AreSettlingBut here rows es mid pile lists → (new : ℕ → List ℕ) ×
      AreSettling rows es final pile new × (new 0 ≡ lists 0))
      → AreKept (record s { rows = rows }) final

entered-new : (s : Store) (ks : List Kept) → AreKept s ks → (r : Row) → IsWithin (length s.rows) r → (k : Kept) →
    k ≡ record blank { extent = k.extent; root = k.root }
    → k.extent ≡ extent_over (defined s.declared) (known (extents ks)) r → k.root ≡ root_over (defined s.declared) (root_at ks)
    (length s.rows) r → IfSome k.extent (λ x. IsBounded x)
    → IsStore (record s { rows = s.rows ++ r ∷ [] }) → IsEntered s s.declared (s.rows ++ r ∷ []) (length s.rows) (ks ++ k ∷ [])
entered-new s ks v r w k blank_is extent_is root_is bounded sound =
    let extents_new = push-extents s ks v r w k blank_is extent_is root_is bounded sound in
    let roots_new = push-roots s ks v r w k blank_is extent_is root_is bounded sound in
    record {
      as_many = sym (length-map (ks ++ k ∷ []) (λ x. x.extent)) ∙ extents_new.as_many;
      needs = needs-within (record s { rows = s.rows ++ r ∷ [] }) sound;
      seen = push-seen s ks v r w k blank_is extent_is root_is bounded sound;
      none = push-none s ks v r w k blank_is extent_is root_is bounded sound;
      kept = λ final keeps seen settled.
          let x = settled nowhere v.lists (push-settling s ks v r w k blank_is extent_is root_is bounded sound) in
          record {
            store = sound;
            extents = subst (KeepsExtents (record s { rows = s.rows ++ r ∷ [] })) (sym keeps.extents) extents_new;
            roots = subst (KeepsRoots (record s { rows = s.rows ++ r ∷ [] })) (sym keeps.roots) roots_new;
            rooted = HaveRoots-kept (ks ++ k ∷ []) final keeps (push-rooted s ks v r w k blank_is extent_is root_is bounded sound);
            seen = seen;
            lists = x.0;
            settled = x.1;
          };
    }

module _ (s : Store) (ks : List Kept) (r : Row) (rows : List Row) (es : List (ℕ × Declared)) (here : ℕ) (d : s.declared ≡ es)
    (h : here ≡ length s.rows) (t : IsTakenIn s ks r rows) where
  -- where none was taken in
  pub entered-old : length rows ≤ here → AreKept (record s { rows = rows }) ks
  entered-old l = by t.grows
    where
      by : (rows ≡ s.rows) ⊎ (rows ≡ s.rows ++ r ∷ []) → AreKept (record s { rows = rows }) ks
      by (inl e) = subst (λ x. AreKept (record s { rows = x }) ks) (sym e) t.kept
      by (inr e) = absurd (omega (arith, l, h, ap length e, length-append s.rows (r ∷ [])))

  -- where k is what is kept of the row that was taken in, and mid is what is kept with it
  pub entered : (old mid : List Kept) (q : Row) (k : Kept) → here < length rows → old ≡ ks → q ≡ get_or rows here q → mid ≡ ks ++ k ∷ [] →
      k ≡ record blank { extent = k.extent; root = k.root }
      → k.extent ≡ extent_over (defined es) (known (extents old)) q → k.root ≡ root_over (defined es) (root_at old) here q →
      IfSome k.extent (λ x. IsBounded x)
      → IsEntered s es rows here mid
  entered old mid q k l same at pushed blank_is extent_is root_is bounded = by t.grows
    where
      by : (rows ≡ s.rows) ⊎ (rows ≡ s.rows ++ r ∷ []) → IsEntered s es rows here mid
      by (inl e) = absurd (omega (arith, l, h, ap length e))
      by (inr e) =
          let last : Some q ≡ Some r = ap Some at ∙ sym (slice_get-get_or rows here q l) ∙ ap₂ slice_get e h ∙ slice_get_end s.rows r [] in
          let q_is : q ≡ r = cc in
          let extent_new : k.extent ≡ extent_over (defined s.declared) (known (extents ks)) r =
          extent_is ∙ ap (λ x. extent_over (defined es) (known (extents x)) q) same ∙ ap₂
          (λ x y. extent_over (defined x) (known (extents ks)) y) (sym d) q_is in
          let root_new : k.root ≡ root_over (defined s.declared) (root_at ks) (length s.rows) r =
          root_is ∙ ap (λ x. root_over (defined es) (root_at x) here q) same ∙ ap₂ (λ x y. root_over (defined x) (root_at ks) here y)
          (sym d) q_is
          ∙ ap (λ n. root_over (defined s.declared) (root_at ks) n r) h in
          let sound = subst (λ x. IsStore (record s { rows = x })) e t.sound in
          let new = entered-new s ks t.kept r t.within k blank_is extent_new root_new bounded sound in
          let there = subst (λ n. IsEntered s s.declared rows n (ks ++ k ∷ [])) (sym h)
          (subst (λ x. IsEntered s s.declared x (length s.rows) (ks ++ k ∷ [])) (sym e) new) in
          subst (λ x. IsEntered s x rows here mid) d (subst (IsEntered s s.declared rows here) (sym pushed) there)

-- ---- a row that was numbered

pub taken_in : (s : Store) (ks old : List Kept) (r : Row) (new : List Row) (n : ℕ) → AreKept s ks → old ≡ ks → IsWithin (length s.rows) r →
    IsReduced s.rows r
    → NamesBelow (length s.names) (fields_in r) → IsNumbered s.rows new r n → IsOnce new → length new ≤ most → IsTakenIn s old r new
taken_in s ks old r new n v same within reduced names numbered once few =
    let sound : AreRows new = AreRows-new s.rows r v.store.rows_sound within reduced new n numbered once in
    let more = Continues-grows s.rows new r numbered.grows in
    let longer : length s.rows ≤ length new = omega (arith, ap length more.1, length-append s.rows more.0) in
    record {
      kept = subst (AreKept s) (sym same) v;
      within = within;
      grows = numbered.grows;
      sound = IsStore-rows s new v.store sound few longer (names_new s v.store r new numbered.grows names)
          (kept_new s.rows r v.store.rows_sound within reduced new n numbered once);
    }
