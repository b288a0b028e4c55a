-- What a row waits for, and what is left once it is taken.
use Rattle.std.proofs.Common.{◌≡◌, ◌≢◌, ℕ, suc, ◌<◌, false, List, ◌∷◌, length, get_or, Option, Some, None, IsSome, refl, ap, sym, ◌∙◌, subst, arith, ◌⊎◌, inl, inr, length-set}
use Rattle.std.specs.Prelude.{is_some, slice_get}
use Rattle.std.proofs.lemmas.List.{get_or_default}
use Rattle.hare_types.specs.declared.declared.Declared.{Declared}
use Rattle.hare_types.specs.declared.extent.Extent.{Extent}
use Rattle.hare_types.specs.declared.kept.Kept.{Kept}
use Rattle.hare_types.specs.declared.row.Row.{Row}
use Rattle.hare_types.specs.declared.row.Row.TheVariants as row
use Rattle.hare_types.specs.Numbering.{IsOnce}
use Rattle.hare_types.specs.Kept.{parts_of, known, defined, IsInert, unknown}
use Rattle.hare_types.specs.Packed.{base_in}
use Rattle.hare_types.specs.Roots.{known_root, root_over}
use Rattle.hare_types.specs.Waiting.{nowhere, blank, kept_at, extent_at, Among, AreDistinct, AreLinked, NeedsRow, Needs, HasRoot, IsAtRest, HaveRoots, AreSeen, AreSettling, AreSettlingBut, KeepsFound, KeepsSeen, with_seen, with_list, linked, AreSettlingButName}
use Rattle.hare_types.proofs.ChainLemmas.{KeepsFound-set, kept-same, kept-here, kept-there, equal_or_not, with_list-here, with_list-there, with_list-from}
use Rattle.hare_types.proofs.LinkLemmas.{AreLinked-same, AreLinked-pop}
use Rattle.hare_types.proofs.FoundLemmas.{extent_field}
use Rattle.hare_types.proofs.RootLemmas.{TellsAll-same}

-- ---- a row waits, or does not

pub rest-kept : (rows : List Row) (es : List (ℕ × Declared)) (old new : List Kept) (lists after : ℕ → List ℕ) (j : ℕ) → KeepsFound old new →
    ((p : ℕ) → Among (lists (suc p)) j → Among (after (suc p)) j)
    → IsAtRest rows es old lists j → IsAtRest rows es new after j
rest-kept rows es old new lists after j k more h r g u =
    let q = h r g (sym (ap (λ l. known l j) k.extents) ∙ u) in
    (TellsAll-same _ _ _ _ (ap (λ l. known_root l j) k.roots) (ap (λ bs. root_over (defined es) (known_root bs) j r) k.roots) q.0, by q.1)
  where
    by : IsInert es r ⊎ ((p : ℕ) × Among (lists (suc p)) j × (extent_at old p ≡ None)) →
        IsInert es r ⊎ ((p : ℕ) × Among (after (suc p)) j × (extent_at new p ≡ None))
    by (inl x) = inl x
    by (inr w) = inr (w.0, more w.0 w.1, ap (λ l. known l w.0) k.extents ∙ w.2)

module _ (rows : List Row) (es : List (ℕ × Declared)) (old new : List Kept) (pile i : ℕ) (lists : ℕ → List ℕ)
    (h : AreSettlingBut i rows es old pile lists) (keeps : KeepsFound old new) where
  -- it does not
  pub stay-settling : AreLinked new pile lists → IsAtRest rows es old lists i → AreSettling rows es new pile lists
  stay-settling links at_rest = record {
    waiting = record {
      links = links;
      unknown = λ n j a. ap (λ l. known l j) keeps.extents ∙ h.waiting.unknown n j a;
      needs =
          h.waiting.needs;
    };
    rest = λ j. by j (h.rest j);
  }
    where
      by : (j : ℕ) → (i ≡ j) ⊎ (IsAtRest rows es old lists j ⊎ Among (lists 0) j) → IsAtRest rows es new lists j ⊎ Among (lists 0) j
      by j (inl e) = inl (subst (IsAtRest rows es new lists) e (rest-kept rows es old new lists lists i keeps (λ p a. a) at_rest))
      by j (inr (inl a)) = inl (rest-kept rows es old new lists lists j keeps (λ p b. b) a)
      by j (inr (inr a)) = inr a

  -- it does
  pub wait-settling : (t : ℕ) (r : Row) → slice_get rows i ≡ Some r → AreLinked new pile (linked lists t i) → extent_at old i ≡ None →
      NeedsRow es r t → extent_at old t ≡ None
      → HasRoot es old i r → AreSettling rows es new pile (linked lists t i)
  wait-settling t r g links unknown needs free root = record {
    waiting = record { links = links; unknown = unknown_at; needs = needs_at };
    rest = λ j. by j (h.rest j);
  }
    where
      same_row : (q : Row) → slice_get rows i ≡ Some q → r ≡ q
      same_row q e =
          let both : Some r ≡ Some q = sym g ∙ e in
          cc

      e_new : (j : ℕ) → extent_at new j ≡ extent_at old j
      e_new j = ap (λ l. known l j) keeps.extents

      unknown_in : (n j : ℕ) → ((suc t ≡ n) × Among (i ∷ lists (suc t)) j) ⊎ (¬ (suc t ≡ n) × Among (lists n) j) → extent_at new j ≡ None
      unknown_in n j (inr a) = e_new j ∙ h.waiting.unknown n j a.1
      unknown_in n j (inl (e, inl f)) = e_new j ∙ subst (λ k. extent_at old k ≡ None) f unknown
      unknown_in n j (inl (e, inr a)) = e_new j ∙ h.waiting.unknown (suc t) j a

      unknown_at : (n j : ℕ) → Among (linked lists t i n) j → extent_at new j ≡ None
      unknown_at n j a = unknown_in n j (with_list-from lists (suc t) (i ∷ lists (suc t)) n j a)

      needs_in : (p j : ℕ) → ((suc t ≡ suc p) × Among (i ∷ lists (suc t)) j) ⊎ (¬ (suc t ≡ suc p) × Among (lists (suc p)) j) →
          Needs rows es j p
      needs_in p j (inr a) = h.waiting.needs p j a.1
      needs_in p j (inl (e, inl f)) =
          let same : t ≡ p = omega arith in
          λ q k. subst (λ n. NeedsRow es q n) same (subst (λ x. NeedsRow es x t) (same_row q (ap (slice_get rows) f ∙ k)) needs)
      needs_in p j (inl (e, inr a)) =
          let same : t ≡ p = omega arith in
          subst (Needs rows es j) same (h.waiting.needs t j a)

      needs_at : (p j : ℕ) → Among (linked lists t i (suc p)) j → Needs rows es j p
      needs_at p j a = needs_in p j (with_list-from lists (suc t) (i ∷ lists (suc t)) (suc p) j a)

      wider : (p j : ℕ) → Among (lists (suc p)) j → Among (linked lists t i (suc p)) j
      wider p j a = on (equal_or_not (suc t) (suc p))
        where
          on : (suc t ≡ suc p) ⊎ (¬ (suc t ≡ suc p)) → Among (linked lists t i (suc p)) j
          on (inl e) =
              subst (λ xs. Among xs j) (sym (subst (λ n. with_list lists (suc t) (i ∷ lists (suc t)) n ≡ i ∷ lists n) e
              (with_list-here lists (suc t) (i ∷ lists (suc t))))) (inr a)
          on (inr other) = subst (λ xs. Among xs j) (sym (with_list-there lists (suc t) (i ∷ lists (suc t)) (suc p) other)) a

      pile_same : linked lists t i 0 ≡ lists 0
      pile_same = with_list-there lists (suc t) (i ∷ lists (suc t)) 0 (λ e. absurd (omega arith))

      here : IsAtRest rows es new (linked lists t i) i
      here q k u =
          subst (λ x. HasRoot es new i x × (IsInert es x ⊎ ((p : ℕ) × Among (linked lists t i (suc p)) i × (extent_at new p ≡ None))))
          (same_row q k) (
            TellsAll-same _ _ _ _ (ap (λ l. known_root l i) keeps.roots) (ap (λ bs. root_over (defined es) (known_root bs) i r) keeps.roots)
                root,
            inr (t, subst (λ xs. Among xs i) (sym (with_list-here lists (suc t) (i ∷ lists (suc t)))) (inl refl), e_new t ∙ free),
          )

      by : (j : ℕ) → (i ≡ j) ⊎ (IsAtRest rows es old lists j ⊎ Among (lists 0) j) →
          IsAtRest rows es new (linked lists t i) j ⊎ Among (linked lists t i 0) j
      by j (inl e) = inl (subst (IsAtRest rows es new (linked lists t i)) e here)
      by j (inr (inl a)) = inl (rest-kept rows es old new lists (linked lists t i) j keeps (λ p b. wider p j b) a)
      by j (inr (inr a)) = inr (subst (λ xs. Among xs j) (sym pile_same) a)

  pub linked-pile : (t : ℕ) → linked lists t i 0 ≡ lists 0
  linked-pile t = with_list-there lists (suc t) (i ∷ lists (suc t)) 0 (λ e. absurd (omega arith))

-- ---- what is seen of a row

-- no extent is kept
pub unknown-read : (ks : List Kept) (i : ℕ) (k : Kept) → i < length ks → k ≡ get_or ks i k → is_some k.extent ≡ false →
    extent_at ks i ≡ None
unknown-read ks i k l e f = extent_field ks i ∙ ap (λ x. x.extent) (sym (e ∙ get_or_default ks i k blank l)) ∙ none k.extent f
  where
    none : (o : Option Extent) → is_some o ≡ false → o ≡ None
    none None g = refl
    none (Some x) g = absurd cc

module _ (rows : List Row) (ks mid : List Kept) (i n : ℕ) (r : Row) (here : slice_get rows i ≡ Some r) (within : i < length ks)
    (is : mid ≡ with_seen ks i n)
    (before : (k p : ℕ) → k < n → slice_get (parts_of r) k ≡ Some p → IsSome (extent_at ks p)) where
  pub seen-found : KeepsFound ks mid
  seen-found = subst (KeepsFound ks) (sym is) (KeepsFound-set ks i (record (kept_at ks i) { seen = n }) refl refl)

  pub seen-links : (pile : ℕ) (lists : ℕ → List ℕ) → AreLinked ks pile lists → AreLinked mid pile lists
  seen-links pile lists l =
      subst (λ x. AreLinked x pile lists) (sym is)
      (AreLinked-same ks (with_seen ks i n) pile lists (length-set ks i (record (kept_at ks i) { seen = n }))
      (kept-same (λ k. k.next) ks i (record (kept_at ks i) { seen = n }) refl)
      (kept-same (λ k. k.first) ks i (record (kept_at ks i) { seen = n }) refl)
      (kept-same (λ k. k.last) ks i (record (kept_at ks i) { seen = n }) refl) l)

  pub seen-more : AreSeen rows ks → AreSeen rows mid
  seen-more h j k p q g l e = subst IsSome (sym (ap (λ x. known x p) seen-found.extents)) (by (equal_or_not j i))
    where
      by : (j ≡ i) ⊎ (¬ (j ≡ i)) → IsSome (extent_at ks p)
      by (inl f) =
          let both : Some r ≡ Some q = sym here ∙ ap (slice_get rows) (sym f) ∙ g in
          let same : r ≡ q = cc in
          let seen : (kept_at mid j).seen ≡ n = ap (λ x. (kept_at mid x).seen) f ∙ ap (λ x. (kept_at x i).seen) is ∙ ap (λ x. x.seen)
          (kept-here ks i (record (kept_at ks i) { seen = n }) within) in
          before k p (omega (arith, l, seen)) (subst (λ x. slice_get (parts_of x) k ≡ Some p) (sym same) e)
      by (inr other) =
          let seen : (kept_at mid j).seen ≡ (kept_at ks j).seen =
          ap (λ x. (kept_at x j).seen) is ∙ ap (λ x. x.seen) (kept-there ks i (record (kept_at ks i) { seen = n }) j other) in
          h j k p q g (omega (arith, l, seen)) e

-- more that is kept of others leaves what was seen
pub AreSeen-kept : (rows : List Row) (old new : List Kept) → KeepsFound old new → KeepsSeen old new → AreSeen rows old → AreSeen rows new
AreSeen-kept rows old new k s h i j p r g l e = subst IsSome (sym (ap (λ x. known x p) k.extents)) (h i j p r g (omega (arith, l, s i)) e)

pub HaveRoots-kept : (old new : List Kept) → KeepsFound old new → HaveRoots old → HaveRoots new
HaveRoots-kept old new k h i s =
    subst IsSome (sym (ap (λ l. base_in (known_root l i)) k.roots)) (h i (subst IsSome (ap (λ l. known l i) k.extents) s))

-- ---- a row is taken

pub pop-settling : (rows : List Row) (es : List (ℕ × Declared)) (ks : List Kept) (pile : ℕ) (lists : ℕ → List ℕ) (xs : List ℕ) →
    AreSettling rows es ks pile lists → lists 0 ≡ pile ∷ xs
    → AreSettlingBut pile rows es ks (kept_at ks pile).next (with_list lists 0 xs)
pop-settling rows es ks pile lists xs h e = record {
  waiting = record {
    links = AreLinked-pop ks pile lists xs h.waiting.links e;
    unknown = λ n j a. unknown_in n j (with_list-from lists 0 xs n j a);
    needs = λ p j a. needs_in p j (with_list-from lists 0 xs (suc p) j a);
  };
  out = λ n a. out_in n (with_list-from lists 0 xs n pile a);
  rest = λ j. by j (h.rest j);
}
  where
    distinct : AreDistinct (pile ∷ xs)
    distinct = subst AreDistinct e (h.waiting.links.distinct 0)

    in_pile : (j : ℕ) → Among (pile ∷ xs) j → Among (lists 0) j
    in_pile j a = subst (λ l. Among l j) (sym e) a

    unknown_in : (n j : ℕ) → ((0 ≡ n) × Among xs j) ⊎ (¬ (0 ≡ n) × Among (lists n) j) → extent_at ks j ≡ None
    unknown_in n j (inl a) = h.waiting.unknown 0 j (in_pile j (inr a.1))
    unknown_in n j (inr a) = h.waiting.unknown n j a.1

    needs_in : (p j : ℕ) → ((0 ≡ suc p) × Among xs j) ⊎ (¬ (0 ≡ suc p) × Among (lists (suc p)) j) → Needs rows es j p
    needs_in p j (inl a) = absurd (omega (arith, a.0))
    needs_in p j (inr a) = h.waiting.needs p j a.1

    out_in : (n : ℕ) → ((0 ≡ n) × Among xs pile) ⊎ (¬ (0 ≡ n) × Among (lists n) pile) → ⊥
    out_in n (inl a) = distinct.0 a.1
    out_in n (inr a) = a.0 (h.waiting.links.once 0 n pile (in_pile pile (inl refl)) a.1)

    wider : (p j : ℕ) → Among (lists (suc p)) j → Among (with_list lists 0 xs (suc p)) j
    wider p j a = subst (λ l. Among l j) (sym (with_list-there lists 0 xs (suc p) (λ f. absurd (omega arith)))) a

    taken : (j : ℕ) → Among (pile ∷ xs) j → (pile ≡ j) ⊎ (IsAtRest rows es ks (with_list lists 0 xs) j ⊎ Among (with_list lists 0 xs 0) j)
    taken j (inl f) = inl f
    taken j (inr a) = inr (inr (subst (λ l. Among l j) (sym (with_list-here lists 0 xs)) a))

    by : (j : ℕ) → IsAtRest rows es ks lists j ⊎ Among (lists 0) j →
        (pile ≡ j) ⊎ (IsAtRest rows es ks (with_list lists 0 xs) j ⊎ Among (with_list lists 0 xs 0) j)
    by j (inl a) = inr (inl (rest-kept rows es ks ks lists (with_list lists 0 xs) j
        (record { extents = refl; roots = refl; as_many = refl }) (λ p b. wider p j b) a))
    by j (inr a) = taken j (subst (λ l. Among l j) e a)

-- ---- a name is defined

-- its row is looked at
pub name-settling : (d : ℕ) (rows : List Row) (once : IsOnce rows) (es : List (ℕ × Declared)) (ks : List Kept) (lists : ℕ → List ℕ)
    (place : ℕ) → slice_get rows place ≡ Some (row.Named d)
    → AreSettlingButName d rows es ks lists → AreSettlingBut place rows es ks nowhere lists
name-settling d rows once es ks lists place here h = record { waiting = h.waiting; out = (h.out place here).1; rest = λ i. by i (h.rest i) }
  where
    by : (i : ℕ) → (slice_get rows i ≡ Some (row.Named d)) ⊎ (IsAtRest rows es ks lists i ⊎ Among (lists 0) i) →
        (place ≡ i) ⊎ (IsAtRest rows es ks lists i ⊎ Among (lists 0) i)
    by i (inl e) = inl (once.once place i (row.Named d) here e)
    by i (inr a) = inr a

-- it has none
pub nameless-settling : (d : ℕ) (rows : List Row) (es : List (ℕ × Declared)) (ks : List Kept) (lists : ℕ → List ℕ) →
    ((i : ℕ) → slice_get rows i ≢ Some (row.Named d)) → AreSettlingButName d rows es ks lists
    → AreSettling rows es ks nowhere lists
nameless-settling d rows es ks lists none h = record { waiting = h.waiting; rest = λ i. by i (h.rest i) }
  where
    by : (i : ℕ) → (slice_get rows i ≡ Some (row.Named d)) ⊎ (IsAtRest rows es ks lists i ⊎ Among (lists 0) i) →
        IsAtRest rows es ks lists i ⊎ Among (lists 0) i
    by i (inl e) = absurd (none i e)
    by i (inr a) = a
