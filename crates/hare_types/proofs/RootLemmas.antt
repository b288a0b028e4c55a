-- What is kept of roots is what types come to.
use Rattle.std.proofs.Common.{◌≡◌, ◌≢◌, ℕ, zero, suc, ◌<◌, Bool, true, false, nat_eq, true≢false, List, [], ◌∷◌, ◌++◌, length, set, Option, Some, None, refl, ap, sym, ◌∙◌, subst, arith, ◌⊎◌, inl, inr, length-append, length-set, get_or-set_other, get_or-set_same}
use Rattle.std.specs.Prelude.{slice_get, option_map, option_and_then}
use Rattle.std.specs.Cmp.{unsigned_Decides}
use Rattle.std.proofs.lemmas.Option.{slice_get_within}
use Rattle.hare_types.specs.declared.declared.Declared.{Declared}
use Rattle.hare_types.specs.declared.root.Root.{Root}
use Rattle.hare_types.specs.declared.row.Row.{Row}
use Rattle.hare_types.specs.declared.row.Row.TheVariants as row
use Rattle.hare_types.specs.Numbering.{Continues}
use Rattle.hare_types.specs.Store.{Store, definition_of}
use Rattle.hare_types.specs.Kept.{defined}
use Rattle.hare_types.specs.Bases.{base_over}
use Rattle.hare_types.specs.ByIds.{row_at, found_within, base_at, error_over, marked_at}
use Rattle.hare_types.specs.Roots.{known_root, own_root, with_mark, root_over, IsRootOf, KeepsRoots, TellsAll}
use Rattle.hare_types.specs.Packed.{base_in}
use Rattle.hare_types.proofs.ListLemmas.{slice_get_end}
use Rattle.hare_types.proofs.GrowthLemmas.{Knows}
use Rattle.hare_types.proofs.FollowLemmas.{Continues-same, found-more}
use Rattle.hare_types.proofs.IdLemmas.{base_over-grows, error_over-grows, base-row, marked-row}

-- ---- growth

-- with more rows and more definitions
pub IsRootOf-more : (old new : Store) → Continues old.rows new.rows → Knows (definition_of old) (definition_of new) → (t : ℕ) (r : Root)
    → IsRootOf old t r → IsRootOf new t r
IsRootOf-more old new rows more t r h = record {
  base = λ b e.
      found-more old new rows (base_over (definition_of old)) (base_over (definition_of new))
      (base_over-grows (definition_of old) (definition_of new) more) t b (h.base b e);
  marked = found-more old new rows (error_over (definition_of old)) (error_over (definition_of new))
      (error_over-grows (definition_of old) (definition_of new) more) t r.is_error h.marked;
}

-- ---- one row

module _ (s : Store) (ks : ℕ → Option Root) (sound : (i : ℕ) (r : Root) → ks i ≡ Some r → IsRootOf s i r) where
  itself : (t : ℕ) (q : Row) → row_at s t ≡ Some q → base_over (definition_of s) (base_at s) t q ≡ Some t
      → error_over (definition_of s) (marked_at s) t q ≡ Some false
      → (r : Root) → Some (own_root t) ≡ Some r → IsRootOf s t r
  itself t q here b m r e =
      let mark : Some false ≡ Some r.is_error = ap (option_map (λ x. x.is_error)) e in
      record {
        base = λ c f. let own : Some t ≡ Some c = ap base_in e ∙ f in base-row s t q here ∙ b ∙ own;
        marked = marked-row s t q here ∙ m ∙ mark;
      }

  base_told : (j : ℕ) (o : Option Root) → ks j ≡ o → (b : ℕ) → base_in o ≡ Some b → base_at s j ≡ Some b
  base_told j None f b e = absurd cc
  base_told j (Some x) f b e = (sound j x f).base b e

  by_mark : (t j : ℕ) → row_at s t ≡ Some (row.Error j) → (r : Root) → Some (with_mark (ks j)) ≡ Some r → IsRootOf s t r
  by_mark t j here r e =
      let mark : Some true ≡ Some r.is_error = ap (option_map (λ y. y.is_error)) e in
      record {
        base = λ b f. base-row s t (row.Error j) here ∙ base_told j (ks j) refl b (ap base_in e ∙ f);
        marked = marked-row s t (row.Error j) here ∙ mark;
      }

  by_name : (t d : ℕ) → row_at s t ≡ Some (row.Named d) → (o : Option ℕ) → definition_of s d ≡ o → (r : Root)
      → option_and_then ks o ≡ Some r → IsRootOf s t r
  by_name t d here None f r e = absurd cc
  by_name t d here (Some q) f r e =
      record {
        base = λ b g. base-row s t (row.Named d) here ∙ ap (option_and_then (base_at s)) f ∙ (sound q r e).base b g;
        marked = marked-row s t (row.Named d) here ∙ ap (option_and_then (marked_at s)) f ∙ (sound q r e).marked;
      }

  -- what follows for a row is its root
  pub root-step : (t : ℕ) (q : Row) → row_at s t ≡ Some q → (r : Root) → root_over (definition_of s) ks t q ≡ Some r → IsRootOf s t r
  root-step t (row.Scalar k) h r e = itself t (row.Scalar k) h refl refl r e
  root-step t (row.Pointer j) h r e = itself t (row.Pointer j) h refl refl r e
  root-step t (row.Nullable j) h r e = itself t (row.Nullable j) h refl refl r e
  root-step t (row.Slice j) h r e = itself t (row.Slice j) h refl refl r e
  root-step t (row.Array n j) h r e = itself t (row.Array n j) h refl refl r e
  root-step t (row.Struct fs) h r e = itself t (row.Struct fs) h refl refl r e
  root-step t (row.Tuple js) h r e = itself t (row.Tuple js) h refl refl r e
  root-step t (row.Union js) h r e = itself t (row.Union js) h refl refl r e
  root-step t (row.Error j) h r e = by_mark t j h r e
  root-step t (row.Named d) h r e = by_name t d h (definition_of s d) refl r e

-- ---- a store that grows

pub KeepsRoots-empty : (s : Store) (ks : List (Option Root)) → s.rows ≡ [] → ks ≡ [] → KeepsRoots s ks
KeepsRoots-empty s ks rows e = record {
  as_many = ap length e ∙ sym (ap length rows);
  sound = λ i r h. let none : None ≡ Some r = sym (ap (λ l. known_root l i) e) ∙ h in absurd cc;
}

-- with other names, or other types listed
pub KeepsRoots-same : (old new : Store) (ks : List (Option Root)) → old.rows ≡ new.rows → old.declared ≡ new.declared → KeepsRoots old ks
    → KeepsRoots new ks
KeepsRoots-same old new ks rows declared v = record {
  as_many = v.as_many ∙ ap length rows;
  sound = λ i r e.
      IsRootOf-more old new (subst (Continues old.rows) rows (Continues-same old.rows)) (λ d t h. ap (λ l. defined l d) (sym declared) ∙ h)
      i r (v.sound i r e);
}

-- with more definitions
pub KeepsRoots-defined : (s : Store) (new : List (ℕ × Declared)) (ks : List (Option Root))
    → ((d t : ℕ) → defined s.declared d ≡ Some t → defined new d ≡ Some t)
    → KeepsRoots s ks → KeepsRoots (record s { declared = new }) ks
KeepsRoots-defined s new ks still v = record {
  as_many = v.as_many;
  sound = λ i r e. IsRootOf-more s (record s { declared = new }) (Continues-same s.rows) still i r (v.sound i r e);
}

known_root-push : (ks : List (Option Root)) (o : Option Root) (i : ℕ) (r : Root) → known_root (ks ++ o ∷ []) i ≡ Some r
    → (known_root ks i ≡ Some r) ⊎ ((i ≡ length ks) × (o ≡ Some r))
known_root-push [] o zero r e = inr (refl, e)
known_root-push [] o (suc i) r e = absurd cc
known_root-push (k ∷ ks) o zero r e = inl e
known_root-push (k ∷ ks) o (suc i) r e = next (known_root-push ks o i r e)
  where
    next : (known_root ks i ≡ Some r) ⊎ ((i ≡ length ks) × (o ≡ Some r))
        → (known_root ks i ≡ Some r) ⊎ ((suc i ≡ length (k ∷ ks)) × (o ≡ Some r))
    next (inl h) = inl h
    next (inr h) = inr (ap suc h.0, h.1)

-- with one more row
pub KeepsRoots-push : (s : Store) (q : Row) (ks : List (Option Root)) (o : Option Root)
    → o ≡ root_over (defined s.declared) (known_root ks) (length s.rows) q → KeepsRoots s ks
    → KeepsRoots (record s { rows = s.rows ++ q ∷ [] }) (ks ++ o ∷ [])
KeepsRoots-push s q ks o value v = record {
  as_many = omega (arith, length-append ks (o ∷ []), length-append s.rows (q ∷ []), v.as_many);
  sound = λ i r e. sound_at i r (known_root-push ks o i r e);
}
  where
    old_sound : (i : ℕ) (r : Root) → known_root ks i ≡ Some r → IsRootOf (record s { rows = s.rows ++ q ∷ [] }) i r
    old_sound i r e = IsRootOf-more s (record s { rows = s.rows ++ q ∷ [] }) (q ∷ [], refl) (λ d t h. h) i r (v.sound i r e)

    sound_at : (i : ℕ) (r : Root) → (known_root ks i ≡ Some r) ⊎ ((i ≡ length ks) × (o ≡ Some r)) →
        IsRootOf (record s { rows = s.rows ++ q ∷ [] }) i r
    sound_at i r (inl h) = old_sound i r h
    sound_at i r (inr h) =
        let place : length s.rows ≡ i = sym v.as_many ∙ sym h.0 in
        let here : slice_get (s.rows ++ q ∷ []) i ≡ Some q =
        subst (λ j. slice_get (s.rows ++ q ∷ []) j ≡ Some q) place (slice_get_end s.rows q []) in
        root-step (record s { rows = s.rows ++ q ∷ [] }) (known_root ks) old_sound i q here r
        (sym (ap (λ n. root_over (defined s.declared) (known_root ks) n q) place) ∙ sym value ∙ h.1)

-- with one more root
pub KeepsRoots-set : (s : Store) (ks : List (Option Root)) (i : ℕ) (q : Row) (o : Option Root) → slice_get s.rows i ≡ Some q
    → o ≡ root_over (defined s.declared) (known_root ks) i q → KeepsRoots s ks
    → KeepsRoots s (set ks i o)
KeepsRoots-set s ks i q o here value k = record {
  as_many = length-set ks i o ∙ k.as_many;
  sound = λ j r e. by j r e (nat_eq i j) refl;
}
  where
    within : i < length ks
    within = omega (arith, slice_get_within s.rows i q here, k.as_many)

    by : (j : ℕ) (r : Root) → known_root (set ks i o) j ≡ Some r → (x : Bool) → nat_eq i j ≡ x → IsRootOf s j r
    by j r e true g =
        let same : i ≡ j = (unsigned_Decides i j).0 g in
        let set_here : known_root (set ks i o) i ≡ o = get_or-set_same ks i o None within in
        let is : o ≡ Some r = sym set_here ∙ ap (known_root (set ks i o)) same ∙ e in
        subst (λ n. IsRootOf s n r) same (root-step s (known_root ks) k.sound i q here r (sym value ∙ is))
    by j r e false g =
        let other : j ≢ i = λ h. true≢false (sym ((unsigned_Decides i j).1 (sym h)) ∙ g) in
        let there : known_root (set ks i o) j ≡ known_root ks j = get_or-set_other ks i j o None other in
        k.sound j r (sym there ∙ e)

-- ---- what is kept, and what follows

pub TellsAll-of : (kept follows : Option Root) → kept ≡ follows → TellsAll kept follows
TellsAll-of kept follows e = record { root = λ n. sym e ∙ n; base = λ n. sym (ap base_in e) ∙ n }

pub TellsAll-same : (kept now follows next : Option Root) → now ≡ kept → next ≡ follows → TellsAll kept follows → TellsAll now next
TellsAll-same kept now follows next e f h = record {
  root = λ n. f ∙ h.root (sym e ∙ n);
  base = λ n. ap base_in f ∙ h.base (sym (ap base_in e) ∙ n);
}

-- ---- where nothing is kept, there is no base, and no error mark

module _ (s : Store) (ks : ℕ → Option Root)
    (settled : (i : ℕ) (q : Row) → slice_get s.rows i ≡ Some q → TellsAll (ks i) (root_over (definition_of s) ks i q)) where
  abbrev Based : ℕ → Type 0
  Based i = (b : ℕ) × (base_in (ks i) ≡ Some b)

  abbrev Met : ℕ → Type 0
  Met i = (r : Root) × (ks i ≡ Some r)

  base_kept : (i : ℕ) (q : Row) → slice_get s.rows i ≡ Some q → (b : ℕ) → base_in (root_over (definition_of s) ks i q) ≡ Some b → Based i
  base_kept i q here b e = by (base_in (ks i)) refl
    where
      by : (o : Option ℕ) → base_in (ks i) ≡ o → Based i
      by None f =
          let none = (settled i q here).base f in
          absurd cc
      by (Some z) f = (z, f)

  root_kept : (i : ℕ) (q : Row) → slice_get s.rows i ≡ Some q → (r : Root) → root_over (definition_of s) ks i q ≡ Some r → Met i
  root_kept i q here r e = by (ks i) refl
    where
      by : (o : Option Root) → ks i ≡ o → Met i
      by None f =
          let none = (settled i q here).root f in
          absurd cc
      by (Some z) f = (z, f)

  based_row : (n : ℕ) → ((j b : ℕ) → found_within s (base_over (definition_of s)) n j ≡ Some b → Based j) → (t b : ℕ) (q : Row)
      → slice_get s.rows t ≡ Some q
      → base_over (definition_of s) (found_within s (base_over (definition_of s)) n) t q ≡ Some b → Based t
  based_row n ih t b (row.Error j) here e =
      let inner = ih j b e in
      base_kept t (row.Error j) here inner.0 inner.1
  based_row n ih t b (row.Named d) here e = by (definition_of s d) refl e
    where
      by : (o : Option ℕ) → definition_of s d ≡ o → option_and_then (found_within s (base_over (definition_of s)) n) o ≡ Some b → Based t
      by None f g = absurd cc
      by (Some p) f g =
          let inner = ih p b g in
          base_kept t (row.Named d) here inner.0 (ap (λ o. base_in (option_and_then ks o)) f ∙ inner.1)
  based_row n ih t b (row.Scalar k) here e = base_kept t (row.Scalar k) here t refl
  based_row n ih t b (row.Pointer j) here e = base_kept t (row.Pointer j) here t refl
  based_row n ih t b (row.Nullable j) here e = base_kept t (row.Nullable j) here t refl
  based_row n ih t b (row.Slice j) here e = base_kept t (row.Slice j) here t refl
  based_row n ih t b (row.Array m j) here e = base_kept t (row.Array m j) here t refl
  based_row n ih t b (row.Struct fs) here e = base_kept t (row.Struct fs) here t refl
  based_row n ih t b (row.Tuple js) here e = base_kept t (row.Tuple js) here t refl
  based_row n ih t b (row.Union js) here e = base_kept t (row.Union js) here t refl

  marked_row : (n : ℕ) → ((j : ℕ) (b : Bool) → found_within s (error_over (definition_of s)) n j ≡ Some b → Met j) →
      (t : ℕ) (b : Bool) (q : Row)
      → slice_get s.rows t ≡ Some q
      → error_over (definition_of s) (found_within s (error_over (definition_of s)) n) t q ≡ Some b → Met t
  marked_row n ih t b (row.Named d) here e = by (definition_of s d) refl e
    where
      by : (o : Option ℕ) → definition_of s d ≡ o → option_and_then (found_within s (error_over (definition_of s)) n) o ≡ Some b → Met t
      by None f g = absurd cc
      by (Some p) f g =
          let inner = ih p b g in
          root_kept t (row.Named d) here inner.0 (ap (option_and_then ks) f ∙ inner.1)
  marked_row n ih t b (row.Error j) here e = root_kept t (row.Error j) here _ refl
  marked_row n ih t b (row.Scalar k) here e = root_kept t (row.Scalar k) here _ refl
  marked_row n ih t b (row.Pointer j) here e = root_kept t (row.Pointer j) here _ refl
  marked_row n ih t b (row.Nullable j) here e = root_kept t (row.Nullable j) here _ refl
  marked_row n ih t b (row.Slice j) here e = root_kept t (row.Slice j) here _ refl
  marked_row n ih t b (row.Array m j) here e = root_kept t (row.Array m j) here _ refl
  marked_row n ih t b (row.Struct fs) here e = root_kept t (row.Struct fs) here _ refl
  marked_row n ih t b (row.Tuple js) here e = root_kept t (row.Tuple js) here _ refl
  marked_row n ih t b (row.Union js) here e = root_kept t (row.Union js) here _ refl

  all_based : (n t b : ℕ) → found_within s (base_over (definition_of s)) n t ≡ Some b → Based t
  all_based zero t b e = absurd cc
  all_based (suc n) t b e = by (all_based n) (row_at s t) refl e
    where
      by : ((j c : ℕ) → found_within s (base_over (definition_of s)) n j ≡ Some c → Based j) → (o : Option Row) → row_at s t ≡ o
          → option_and_then (base_over (definition_of s) (found_within s (base_over (definition_of s)) n) t) o ≡ Some b → Based t
      by ih None g k = absurd cc
      by ih (Some q) g k = based_row n ih t b q g k

  all_marked : (n t : ℕ) (b : Bool) → found_within s (error_over (definition_of s)) n t ≡ Some b → Met t
  all_marked zero t b e = absurd cc
  all_marked (suc n) t b e = by (all_marked n) (row_at s t) refl e
    where
      by : ((j : ℕ) (c : Bool) → found_within s (error_over (definition_of s)) n j ≡ Some c → Met j) → (o : Option Row) → row_at s t ≡ o
          → option_and_then (error_over (definition_of s) (found_within s (error_over (definition_of s)) n) t) o ≡ Some b → Met t
      by ih None g k = absurd cc
      by ih (Some q) g k = marked_row n ih t b q g k

  pub none_based : (t : ℕ) → base_in (ks t) ≡ None → base_at s t ≡ None
  none_based t e = by (base_at s t) refl
    where
      by : (o : Option ℕ) → base_at s t ≡ o → base_at s t ≡ None
      by None g = g
      by (Some b) g =
          let found = all_based (length s.rows) t b g in
          let both : None ≡ Some found.0 = sym e ∙ found.1 in
          absurd cc

  pub none_marked : (t : ℕ) → ks t ≡ None → marked_at s t ≡ None
  none_marked t e = by (marked_at s t) refl
    where
      by : (o : Option Bool) → marked_at s t ≡ o → marked_at s t ≡ None
      by None g = g
      by (Some b) g =
          let found = all_marked (length s.rows) t b g in
          let both : None ≡ Some found.0 = sym e ∙ found.1 in
          absurd cc
