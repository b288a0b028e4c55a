-- Lists of rows that are linked through what is kept.
use Rattle.std.proofs.Common.{◌≡◌, ℕ, zero, suc, ◌<◌, ◌≤◌, List, [], ◌∷◌, ◌++◌, length, refl, ap, sym, ◌∙◌, subst, arith, ◌⊎◌, inl, inr, length-set}
use Rattle.hare_types.specs.declared.kept.Kept.{Kept}
use Rattle.hare_types.specs.Numbering.{most}
use Rattle.hare_types.specs.Waiting.{nowhere, kept_at, Among, AreDistinct, EndsWith, Chain, first_of, AreLinked, KeepsFound, KeepsSeen, with_next, with_ends, with_list, linked, released}
use Rattle.hare_types.proofs.ChainLemmas.{kept-same, kept-here, kept-there, equal_or_not, KeepsFound-set, KeepsFound-trans, with_list-here, with_list-there, with_list-from, Chain-same, Chain-below, Chain-nowhere, Chain-somewhere, ends-among, Chain-append, Among-append, AreDistinct-append}

-- ---- one list is replaced

module _ (ks new : List Kept) (pile pile' : ℕ) (lists : ℕ → List ℕ) (n : ℕ) (ys : List ℕ) (l : AreLinked ks pile lists)
    (len : length new ≡ length ks) where
  abbrev IsOut : ℕ → Type 0
  IsOut i = (m : ℕ) → ¬ Among (lists m) i

  pub relink : ((i : ℕ) → ((kept_at new i).next ≡ (kept_at ks i).next) ⊎ IsOut i) →
      ((m : ℕ) → ¬ (n ≡ m) → first_of new pile' m ≡ first_of ks pile m)
      → ((t : ℕ) → ¬ (n ≡ suc t) → (kept_at new t).last ≡ (kept_at ks t).last) → Chain new (first_of new pile' n) ys →
      ((t : ℕ) → n ≡ suc t → EndsWith ys (kept_at new t).last) → AreDistinct ys
      → ((i : ℕ) → Among ys i → Among (lists n) i ⊎ IsOut i) → AreLinked new pile' (with_list lists n ys)
  relink nexts firsts lasts chain ends distinct from = record {
    chains = λ m. chain_at m (equal_or_not n m);
    ends = λ t. end_at t (equal_or_not n (suc t));
    distinct = λ m. distinct_at m (equal_or_not n m);
    once = λ m k i a b. once_at m k i (with_list-from lists n ys m i a) (with_list-from lists n ys k i b);
  }
    where
      next_in : (m i : ℕ) → Among (lists m) i → (kept_at new i).next ≡ (kept_at ks i).next
      next_in m i a = by (nexts i)
        where
          by : ((kept_at new i).next ≡ (kept_at ks i).next) ⊎ IsOut i → (kept_at new i).next ≡ (kept_at ks i).next
          by (inl e) = e
          by (inr out) = absurd (out m a)

      here : (m : ℕ) → n ≡ m → ys ≡ with_list lists n ys m
      here m e = sym (subst (λ k. with_list lists n ys k ≡ ys) e (with_list-here lists n ys))

      chain_at : (m : ℕ) → (n ≡ m) ⊎ (¬ (n ≡ m)) → Chain new (first_of new pile' m) (with_list lists n ys m)
      chain_at m (inl e) = subst (Chain new (first_of new pile' m)) (here m e) (subst (λ k. Chain new (first_of new pile' k) ys) e chain)
      chain_at m (inr other) =
          subst (Chain new (first_of new pile' m)) (sym (with_list-there lists n ys m other))
          (subst (λ h. Chain new h (lists m)) (sym (firsts m other))
          (Chain-same ks new len (lists m) (first_of ks pile m) (next_in m) (l.chains m)))

      end_at : (t : ℕ) → (n ≡ suc t) ⊎ (¬ (n ≡ suc t)) → EndsWith (with_list lists n ys (suc t)) (kept_at new t).last
      end_at t (inl e) = subst (λ xs. EndsWith xs (kept_at new t).last) (here (suc t) e) (ends t e)
      end_at t (inr other) =
          subst (λ xs. EndsWith xs (kept_at new t).last) (sym (with_list-there lists n ys (suc t) other))
          (subst (EndsWith (lists (suc t))) (sym (lasts t other)) (l.ends t))

      distinct_at : (m : ℕ) → (n ≡ m) ⊎ (¬ (n ≡ m)) → AreDistinct (with_list lists n ys m)
      distinct_at m (inl e) = subst AreDistinct (here m e) distinct
      distinct_at m (inr other) = subst AreDistinct (sym (with_list-there lists n ys m other)) (l.distinct m)

      both : (k i : ℕ) → ¬ (n ≡ k) → Among (lists n) i ⊎ IsOut i → Among (lists k) i → ⊥
      both k i other (inl a) b = other (l.once n k i a b)
      both k i other (inr out) b = out k b

      once_at : (m k i : ℕ) → ((n ≡ m) × Among ys i) ⊎ (¬ (n ≡ m) × Among (lists m) i) →
          ((n ≡ k) × Among ys i) ⊎ (¬ (n ≡ k) × Among (lists k) i) → m ≡ k
      once_at m k i (inl a) (inl b) = sym a.0 ∙ b.0
      once_at m k i (inl a) (inr b) = absurd (both k i b.0 (from i a.1) b.1)
      once_at m k i (inr a) (inl b) = absurd (both m i a.0 (from i b.1) a.1)
      once_at m k i (inr a) (inr b) = l.once m k i a.1 b.1

-- other fields are replaced
pub AreLinked-same : (ks new : List Kept) (pile : ℕ) (lists : ℕ → List ℕ) → length new ≡ length ks →
    ((i : ℕ) → (kept_at new i).next ≡ (kept_at ks i).next) → ((i : ℕ) → (kept_at new i).first ≡ (kept_at ks i).first)
    → ((i : ℕ) → (kept_at new i).last ≡ (kept_at ks i).last) → AreLinked ks pile lists → AreLinked new pile lists
AreLinked-same ks new pile lists len nexts firsts lasts l = record {
  chains = λ n. chain n (l.chains n);
  ends = λ t. subst (EndsWith (lists (suc t))) (sym (lasts t)) (l.ends t);
  distinct = l.distinct;
  once = l.once;
}
  where
    chain : (n : ℕ) → Chain ks (first_of ks pile n) (lists n) → Chain new (first_of new pile n) (lists n)
    chain zero c = Chain-same ks new len (lists zero) pile (λ i m. nexts i) c
    chain (suc t) c = subst (λ h. Chain new h (lists (suc t))) (sym (firsts t))
        (Chain-same ks new len (lists (suc t)) (kept_at ks t).first (λ i m. nexts i) c)

-- the first of those that are to be looked at is taken
pub AreLinked-pop : (ks : List Kept) (pile : ℕ) (lists : ℕ → List ℕ) (xs : List ℕ) → AreLinked ks pile lists → lists 0 ≡ pile ∷ xs →
    AreLinked ks (kept_at ks pile).next (with_list lists 0 xs)
AreLinked-pop ks pile lists xs l e =
    relink ks ks pile (kept_at ks pile).next lists 0 xs l refl (λ i. inl refl) firsts (λ t other. refl)
    (subst (Chain ks pile) e (l.chains 0)).2 (λ t h. absurd (omega arith)) (subst AreDistinct e (l.distinct 0)).1
    (λ i m. inl (subst (λ ys. Among ys i) (sym e) (inr m)))
  where
    firsts : (m : ℕ) → ¬ (0 ≡ m) → first_of ks (kept_at ks pile).next m ≡ first_of ks pile m
    firsts zero other = absurd (other refl)
    firsts (suc t) other = refl

-- ---- a row is put before those that wait for another

module _ (ks : List Kept) (few : length ks ≤ most) (t i : ℕ) (waited : t < length ks) (waits : i < length ks) where
  abbrev after : List Kept
  after = with_next ks i (kept_at ks t).first

  abbrev done : ℕ → List Kept
  done last = with_ends after t i last

  len_after : length after ≡ length ks
  len_after = length-set ks i (record (kept_at ks i) { next = (kept_at ks t).first })

  len_done : (last : ℕ) → length (done last) ≡ length ks
  len_done last = length-set after t (record (kept_at after t) { first = i; last = last }) ∙ len_after

  pub link-found : (last : ℕ) → KeepsFound ks (done last)
  link-found last =
      KeepsFound-trans ks after (done last) (KeepsFound-set ks i (record (kept_at ks i) { next = (kept_at ks t).first }) refl refl)
      (KeepsFound-set after t (record (kept_at after t) { first = i; last = last }) refl refl)

  pub link-seen : (last : ℕ) → KeepsSeen ks (done last)
  link-seen last j =
      kept-same (λ k. k.seen) after t (record (kept_at after t) { first = i; last = last }) refl j ∙ kept-same (λ k. k.seen) ks i
      (record (kept_at ks i) { next = (kept_at ks t).first }) refl j

  next_done : (last j : ℕ) → (kept_at (done last) j).next ≡ (kept_at after j).next
  next_done last j = kept-same (λ k. k.next) after t (record (kept_at after t) { first = i; last = last }) refl j

  pub link-lists : (last : ℕ) → (((kept_at ks t).first ≡ nowhere) × (last ≡ i)) ⊎
      (¬ ((kept_at ks t).first ≡ nowhere) × (last ≡ (kept_at ks t).last)) → (pile : ℕ) (lists : ℕ → List ℕ) → AreLinked ks pile lists
      → ((n : ℕ) → ¬ Among (lists n) i) → AreLinked (done last) pile (linked lists t i)
  link-lists last choice pile lists l out =
      relink ks (done last) pile pile lists (suc t) (i ∷ lists (suc t)) l (len_done last) nexts firsts lasts chain ends
      (out (suc t), l.distinct (suc t)) from
    where
      nexts : (j : ℕ) → ((kept_at (done last) j).next ≡ (kept_at ks j).next) ⊎ ((m : ℕ) → ¬ Among (lists m) j)
      nexts j = by (equal_or_not j i)
        where
          by : (j ≡ i) ⊎ (¬ (j ≡ i)) → ((kept_at (done last) j).next ≡ (kept_at ks j).next) ⊎ ((m : ℕ) → ¬ Among (lists m) j)
          by (inl e) = inr (λ m a. out m (subst (Among (lists m)) e a))
          by (inr other) =
              inl (next_done last j ∙ ap (λ k. k.next) (kept-there ks i (record (kept_at ks i) { next = (kept_at ks t).first }) j other))

      firsts : (m : ℕ) → ¬ (suc t ≡ m) → first_of (done last) pile m ≡ first_of ks pile m
      firsts zero other = refl
      firsts (suc q) other =
          ap (λ k. k.first) (kept-there after t (record (kept_at after t) { first = i; last = last }) q (λ e. other (ap suc (sym e))))
          ∙ kept-same (λ k. k.first) ks i (record (kept_at ks i) { next = (kept_at ks t).first }) refl q

      lasts : (q : ℕ) → ¬ (suc t ≡ suc q) → (kept_at (done last) q).last ≡ (kept_at ks q).last
      lasts q other =
          ap (λ k. k.last) (kept-there after t (record (kept_at after t) { first = i; last = last }) q (λ e. other (ap suc (sym e))))
          ∙ kept-same (λ k. k.last) ks i (record (kept_at ks i) { next = (kept_at ks t).first }) refl q

      here : kept_at (done last) t ≡ record (kept_at after t) { first = i; last = last }
      here = kept-here after t (record (kept_at after t) { first = i; last = last }) (omega (arith, len_after, waited))

      next : (kept_at (done last) i).next ≡ (kept_at ks t).first
      next = next_done last i ∙ ap (λ k. k.next) (kept-here ks i (record (kept_at ks i) { next = (kept_at ks t).first }) waits)

      same : (j : ℕ) → Among (lists (suc t)) j → (kept_at (done last) j).next ≡ (kept_at ks j).next
      same j a = by (nexts j)
        where
          by : ((kept_at (done last) j).next ≡ (kept_at ks j).next) ⊎ ((m : ℕ) → ¬ Among (lists m) j) →
              (kept_at (done last) j).next ≡ (kept_at ks j).next
          by (inl e) = e
          by (inr away) = absurd (away (suc t) a)

      chain : Chain (done last) (kept_at (done last) t).first (i ∷ lists (suc t))
      chain = (
        ap (λ k. k.first) here,
        omega (arith, len_done last, waits),
        subst (λ h. Chain (done last) h (lists (suc t))) (sym next)
            (Chain-same ks (done last) (len_done last) (lists (suc t)) (kept_at ks t).first same (l.chains (suc t))),
      )

      end_here : (xs : List ℕ) → Chain ks (kept_at ks t).first xs → EndsWith xs (kept_at ks t).last
          → (((kept_at ks t).first ≡ nowhere) × (last ≡ i)) ⊎ (¬ ((kept_at ks t).first ≡ nowhere) × (last ≡ (kept_at ks t).last)) →
          EndsWith (i ∷ xs) last
      end_here [] c e (inl h) = sym h.1
      end_here [] c e (inr h) = absurd (h.0 c)
      end_here (x ∷ xs) c e (inl h) = absurd (omega (arith, h.0, c.0, c.1, few))
      end_here (x ∷ xs) c e (inr h) = subst (EndsWith (x ∷ xs)) (sym h.1) e

      ends : (q : ℕ) → suc t ≡ suc q → EndsWith (i ∷ lists (suc t)) (kept_at (done last) q).last
      ends q e =
          let same : t ≡ q = omega arith in
          subst (λ k. EndsWith (i ∷ lists (suc t)) (kept_at (done last) k).last) same
          (subst (EndsWith (i ∷ lists (suc t))) (sym (ap (λ k. k.last) here))
          (end_here (lists (suc t)) (l.chains (suc t)) (l.ends t) choice))

      from : (j : ℕ) → Among (i ∷ lists (suc t)) j → Among (lists (suc t)) j ⊎ ((m : ℕ) → ¬ Among (lists m) j)
      from j (inl e) = inr (λ m a. out m (subst (Among (lists m)) (sym e) a))
      from j (inr a) = inl a

-- ---- those that wait for a row are put before those that are to be looked at

module _ (ks : List Kept) (few : length ks ≤ most) (t pile : ℕ) (within : t < length ks) where
  abbrev cut : List Kept
  cut = with_ends ks t nowhere nowhere

  abbrev joined : ℕ → List Kept
  joined z = with_next cut z pile

  len_cut : length cut ≡ length ks
  len_cut = length-set ks t (record (kept_at ks t) { first = nowhere; last = nowhere })

  pub len-joined : (z : ℕ) → length (joined z) ≡ length ks
  len-joined z = length-set cut z (record (kept_at cut z) { next = pile }) ∙ len_cut

  pub release-found : (z : ℕ) → KeepsFound ks (joined z)
  release-found z =
      KeepsFound-trans ks cut (joined z) (KeepsFound-set ks t (record (kept_at ks t) { first = nowhere; last = nowhere }) refl refl)
      (KeepsFound-set cut z (record (kept_at cut z) { next = pile }) refl refl)

  pub release-seen : (z : ℕ) → KeepsSeen ks (joined z)
  release-seen z j = kept-same (λ k. k.seen) cut z (record (kept_at cut z) { next = pile }) refl j ∙ kept-same (λ k. k.seen) ks t
      (record (kept_at ks t) { first = nowhere; last = nowhere }) refl j

  next_cut : (j : ℕ) → (kept_at cut j).next ≡ (kept_at ks j).next
  next_cut j = kept-same (λ k. k.next) ks t (record (kept_at ks t) { first = nowhere; last = nowhere }) refl j

  here : kept_at cut t ≡ record (kept_at ks t) { first = nowhere; last = nowhere }
  here = kept-here ks t (record (kept_at ks t) { first = nowhere; last = nowhere }) within

  -- the list is taken away
  cut-lists : (lists : ℕ → List ℕ) → AreLinked ks pile lists → AreLinked cut pile (with_list lists (suc t) [])
  cut-lists lists l = relink ks cut pile pile lists (suc t) [] l len_cut (λ i. inl (next_cut i)) firsts lasts (ap (λ k. k.first) here)
      (λ q e. tt) tt (λ i a. absurd a)
    where
      firsts : (m : ℕ) → ¬ (suc t ≡ m) → first_of cut pile m ≡ first_of ks pile m
      firsts zero other = refl
      firsts (suc q) other =
          ap (λ k. k.first) (kept-there ks t (record (kept_at ks t) { first = nowhere; last = nowhere }) q (λ e. other (ap suc (sym e))))

      lasts : (q : ℕ) → ¬ (suc t ≡ suc q) → (kept_at cut q).last ≡ (kept_at ks q).last
      lasts q other =
          ap (λ k. k.last) (kept-there ks t (record (kept_at ks t) { first = nowhere; last = nowhere }) q (λ e. other (ap suc (sym e))))

  -- what stood in it stands in none
  out : (lists : ℕ → List ℕ) → AreLinked ks pile lists → (i : ℕ) → Among (lists (suc t)) i → (m : ℕ) →
      ¬ Among (with_list lists (suc t) [] m) i
  out lists l i a m b = by (with_list-from lists (suc t) [] m i b)
    where
      by : ((suc t ≡ m) × Among [] i) ⊎ (¬ (suc t ≡ m) × Among (lists m) i) → ⊥
      by (inl h) = h.1
      by (inr h) = h.0 (l.once (suc t) m i a h.1)

  -- where nothing waits
  pub release-none : (lists : ℕ → List ℕ) → AreLinked ks pile lists → (kept_at ks t).first ≡ nowhere → AreLinked ks pile (released lists t)
  release-none lists l e =
      let none = Chain-nowhere ks few (lists (suc t)) (kept_at ks t).first e (l.chains (suc t)) in
      record {
        chains = λ m. subst (Chain ks (first_of ks pile m)) (sym (same none m)) (l.chains m);
        ends = λ q. subst (λ xs. EndsWith xs (kept_at ks q).last) (sym (same none (suc q))) (l.ends q);
        distinct = λ m. subst AreDistinct (sym (same none m)) (l.distinct m);
        once = λ m k i a b. l.once m k i (subst (λ xs. Among xs i) (same none m) a) (subst (λ xs. Among xs i) (same none k) b);
      }
    where
      same : lists (suc t) ≡ [] → (m : ℕ) → released lists t m ≡ lists m
      same none m = by (equal_or_not 0 m) (equal_or_not (suc t) m)
        where
          by : (0 ≡ m) ⊎ (¬ (0 ≡ m)) → (suc t ≡ m) ⊎ (¬ (suc t ≡ m)) → released lists t m ≡ lists m
          by (inl e) h =
              subst (λ k. released lists t k ≡ lists k) e
              (with_list-here (with_list lists (suc t) []) 0 (lists (suc t) ++ lists 0) ∙ ap (λ xs. xs ++ lists 0) none)
          by (inr other) (inl h) =
              with_list-there (with_list lists (suc t) []) 0 (lists (suc t) ++ lists 0) m other ∙ subst
              (λ k. with_list lists (suc t) [] k ≡ lists k) h (with_list-here lists (suc t) [] ∙ sym none)
          by (inr other) (inr h) =
              with_list-there (with_list lists (suc t) []) 0 (lists (suc t) ++ lists 0) m other ∙ with_list-there lists (suc t) [] m h

  -- the last of those that wait
  pub last-within : (lists : ℕ → List ℕ) → AreLinked ks pile lists → ¬ ((kept_at ks t).first ≡ nowhere) → (kept_at ks t).last < length ks
  last-within lists l other =
      let c = Chain-somewhere ks (lists (suc t)) (kept_at ks t).first other (l.chains (suc t)) in
      Chain-below ks (lists (suc t)) (kept_at ks t).first (l.chains (suc t)) (kept_at ks t).last
      (subst (λ xs. Among xs (kept_at ks t).last) (sym c.1)
      (ends-among (kept_at ks t).first c.0 (kept_at ks t).last (subst (λ xs. EndsWith xs (kept_at ks t).last) c.1 (l.ends t))))

  pub release-lists : (lists : ℕ → List ℕ) → AreLinked ks pile lists → ¬ ((kept_at ks t).first ≡ nowhere) →
      AreLinked (joined (kept_at ks t).last) (kept_at ks t).first (released lists t)
  release-lists lists l other =
      relink cut (joined z) pile h (with_list lists (suc t) []) 0 (lists (suc t) ++ lists 0) lc
      (length-set cut z (record (kept_at cut z) { next = pile })) nexts firsts
      (λ q no. kept-same (λ k. k.last) cut z (record (kept_at cut z) { next = pile }) refl q)
      (subst (λ xs. Chain (joined z) h (xs ++ lists 0)) (sym c.1) chain) (λ q e. absurd (omega arith))
      (AreDistinct-append (lists (suc t)) (lists 0) (l.distinct (suc t)) (l.distinct 0) apart) from
    where
      z : ℕ
      z = (kept_at ks t).last

      h : ℕ
      h = (kept_at ks t).first

      lc : AreLinked cut pile (with_list lists (suc t) [])
      lc = cut-lists lists l

      c : (ys : List ℕ) × (lists (suc t) ≡ h ∷ ys) × (h < length ks) × Chain ks (kept_at ks h).next ys
      c = Chain-somewhere ks (lists (suc t)) h other (l.chains (suc t))

      last_among : Among (lists (suc t)) z
      last_among = subst (λ xs. Among xs z) (sym c.1) (ends-among h c.0 z (subst (λ xs. EndsWith xs z) c.1 (l.ends t)))

      z_out : (m : ℕ) → ¬ Among (with_list lists (suc t) [] m) z
      z_out = out lists l z last_among

      next_there : (i : ℕ) → ¬ (i ≡ z) → (kept_at (joined z) i).next ≡ (kept_at cut i).next
      next_there i away = ap (λ k. k.next) (kept-there cut z (record (kept_at cut z) { next = pile }) i away)

      nexts : (i : ℕ) → ((kept_at (joined z) i).next ≡ (kept_at cut i).next) ⊎ ((m : ℕ) → ¬ Among (with_list lists (suc t) [] m) i)
      nexts i = by (equal_or_not i z)
        where
          by : (i ≡ z) ⊎ (¬ (i ≡ z)) → ((kept_at (joined z) i).next ≡ (kept_at cut i).next) ⊎
              ((m : ℕ) → ¬ Among (with_list lists (suc t) [] m) i)
          by (inl e) = inr (λ m a. z_out m (subst (Among (with_list lists (suc t) [] m)) e a))
          by (inr other) = inl (next_there i other)

      firsts : (m : ℕ) → ¬ (0 ≡ m) → first_of (joined z) h m ≡ first_of cut pile m
      firsts zero away = absurd (away refl)
      firsts (suc q) away = kept-same (λ k. k.first) cut z (record (kept_at cut z) { next = pile }) refl q

      next_z : (kept_at (joined z) z).next ≡ pile
      next_z = ap (λ k. k.next) (kept-here cut z (record (kept_at cut z) { next = pile })
          (omega (arith, len_cut, last-within lists l other)))

      apart : (i : ℕ) → Among (lists (suc t)) i → ¬ Among (lists 0) i
      apart i a b = let e = l.once (suc t) 0 i a b in absurd (omega arith)

      pile_chain : Chain (joined z) pile (lists 0)
      pile_chain = Chain-same ks (joined z) (len-joined z) (lists 0) pile
          (λ i a. next_there i (λ e. apart z last_among (subst (Among (lists 0)) e a)) ∙ next_cut i) (l.chains 0)

      chain : Chain (joined z) h ((h ∷ c.0) ++ lists 0)
      chain =
          Chain-append ks (joined z) (len-joined z) h c.0 h z pile (lists 0) (subst (λ xs. EndsWith xs z) c.1 (l.ends t))
          (subst AreDistinct c.1 (l.distinct (suc t))) (λ i no. next_there i no ∙ next_cut i) next_z pile_chain
          (subst (Chain ks h) c.1 (l.chains (suc t)))

      from : (i : ℕ) → Among (lists (suc t) ++ lists 0) i → Among (with_list lists (suc t) [] 0) i ⊎
          ((m : ℕ) → ¬ Among (with_list lists (suc t) [] m) i)
      from i a = by (Among-append (lists (suc t)) (lists 0) i a)
        where
          by : Among (lists (suc t)) i ⊎ Among (lists 0) i → Among (with_list lists (suc t) [] 0) i ⊎
              ((m : ℕ) → ¬ Among (with_list lists (suc t) [] m) i)
          by (inl b) = inr (out lists l i b)
          by (inr b) = inl (subst (λ xs. Among xs i) (sym (with_list-there lists (suc t) [] 0 (λ e. absurd (omega arith)))) b)
