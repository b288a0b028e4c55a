-- Lists that are linked through what is kept of rows.
use Rattle.std.proofs.Common.{◌≡◌, ◌≢◌, ℕ, zero, suc, ◌<◌, ◌≤◌, Bool, true, false, cond, nat_eq, true≢false, List, [], ◌∷◌, ◌++◌, length, set, get_or, refl, ap, sym, ◌∙◌, subst, arith, ◌⊎◌, inl, inr, length-set, get_or-set_other, get_or-set_same}
use Rattle.std.specs.Cmp.{unsigned_Decides}
use Rattle.std.proofs.Math.Seq.{map-set_same}
use Rattle.std.proofs.Math.ListN.{get_or-map}
use Rattle.hare_types.specs.declared.kept.Kept.{Kept}
use Rattle.hare_types.specs.Numbering.{most}
use Rattle.hare_types.specs.Waiting.{nowhere, blank, kept_at, Among, AreDistinct, EndsWith, Chain, first_of, AreLinked, KeepsFound, with_list, steps}

-- ---- one row's entry is replaced

pub kept-same : {A : Type 0} (f : Kept → A) (ks : List Kept) (i : ℕ) (k : Kept) → f k ≡ f (kept_at ks i) → (j : ℕ) →
    f (kept_at (set ks i k) j) ≡ f (kept_at ks j)
kept-same f ks i k e j =
    sym (get_or-map f (set ks i k) j blank) ∙ ap (λ l. get_or l j (f blank)) (map-set_same f ks i k blank e) ∙ get_or-map f ks j blank

pub kept-here : (ks : List Kept) (i : ℕ) (k : Kept) → i < length ks → kept_at (set ks i k) i ≡ k
kept-here ks i k l = get_or-set_same ks i k blank l

pub kept-there : (ks : List Kept) (i : ℕ) (k : Kept) (j : ℕ) → j ≢ i → kept_at (set ks i k) j ≡ kept_at ks j
kept-there ks i k j other = get_or-set_other ks i j k blank other

pub equal_or_not : (i j : ℕ) → (i ≡ j) ⊎ (¬ (i ≡ j))
equal_or_not i j = by (nat_eq i j) refl
  where
    by : (b : Bool) → nat_eq i j ≡ b → (i ≡ j) ⊎ (¬ (i ≡ j))
    by true e = inl ((unsigned_Decides i j).0 e)
    by false e = inr (λ h. true≢false (sym ((unsigned_Decides i j).1 h) ∙ e))

pub KeepsFound-set : (ks : List Kept) (i : ℕ) (k : Kept) → k.extent ≡ (kept_at ks i).extent → k.root ≡ (kept_at ks i).root →
    KeepsFound ks (set ks i k)
KeepsFound-set ks i k e f = record {
  extents = map-set_same (λ k. k.extent) ks i k blank e;
  roots = map-set_same (λ k. k.root) ks i k blank f;
  as_many = length-set ks i k;
}

pub KeepsFound-refl : (ks : List Kept) → KeepsFound ks ks
KeepsFound-refl ks = record { extents = refl; roots = refl; as_many = refl }

pub KeepsFound-trans : (a b c : List Kept) → KeepsFound a b → KeepsFound b c → KeepsFound a c
KeepsFound-trans a b c h k = record { extents = k.extents ∙ h.extents; roots = k.roots ∙ h.roots; as_many = k.as_many ∙ h.as_many }

-- ---- lists in place of others

pub with_list-here : (lists : ℕ → List ℕ) (n : ℕ) (xs : List ℕ) → with_list lists n xs n ≡ xs
with_list-here lists n xs = ap (λ b. cond b xs (lists n)) ((unsigned_Decides n n).1 refl)

pub with_list-there : (lists : ℕ → List ℕ) (n : ℕ) (xs : List ℕ) (m : ℕ) → ¬ (n ≡ m) → with_list lists n xs m ≡ lists m
with_list-there lists n xs m other = by (nat_eq n m) refl
  where
    by : (b : Bool) → nat_eq n m ≡ b → with_list lists n xs m ≡ lists m
    by true e = absurd (other ((unsigned_Decides n m).0 e))
    by false e = ap (λ b. cond b xs (lists m)) e

-- what stands in a list stood there, or is new
pub with_list-from : (lists : ℕ → List ℕ) (n : ℕ) (xs : List ℕ) (m i : ℕ) → Among (with_list lists n xs m) i →
    ((n ≡ m) × Among xs i) ⊎ (¬ (n ≡ m) × Among (lists m) i)
with_list-from lists n xs m i h = by (equal_or_not n m)
  where
    by : (n ≡ m) ⊎ (¬ (n ≡ m)) → ((n ≡ m) × Among xs i) ⊎ (¬ (n ≡ m) × Among (lists m) i)
    by (inl e) = inl (e, subst (λ l. Among l i) (subst (λ k. with_list lists n xs k ≡ xs) e (with_list-here lists n xs)) h)
    by (inr other) = inr (other, subst (λ l. Among l i) (with_list-there lists n xs m other) h)

-- ---- chains

pub Chain-same : (ks new : List Kept) → length new ≡ length ks → (xs : List ℕ) (h : ℕ) →
    ((i : ℕ) → Among xs i → (kept_at new i).next ≡ (kept_at ks i).next) → Chain ks h xs → Chain new h xs
Chain-same ks new len [] h same c = c
Chain-same ks new len (x ∷ xs) h same c = (
  c.0,
  omega (arith, c.1, len),
  Chain-same ks new len xs (kept_at new x).next (λ i m. same i (inr m))
      (subst (λ n. Chain ks n xs) (sym (same x (inl refl))) c.2),
)

pub Chain-below : (ks : List Kept) (xs : List ℕ) (h : ℕ) → Chain ks h xs → (i : ℕ) → Among xs i → i < length ks
Chain-below ks [] h c i m = absurd m
Chain-below ks (x ∷ xs) h c i (inl e) = subst (λ n. n < length ks) e c.1
Chain-below ks (x ∷ xs) h c i (inr m) = Chain-below ks xs (kept_at ks x).next c.2 i m

-- a list that begins nowhere has nothing
pub Chain-nowhere : (ks : List Kept) → length ks ≤ most → (xs : List ℕ) (h : ℕ) → h ≡ nowhere → Chain ks h xs → xs ≡ []
Chain-nowhere ks few [] h e c = refl
Chain-nowhere ks few (x ∷ xs) h e c = absurd (omega (arith, e, c.0, c.1, few))

-- one that begins somewhere has something
pub Chain-somewhere : (ks : List Kept) (xs : List ℕ) (h : ℕ) → ¬ (h ≡ nowhere) → Chain ks h xs → (ys : List ℕ) × (xs ≡ h ∷ ys) ×
    (h < length ks) × Chain ks (kept_at ks h).next ys
Chain-somewhere ks [] h other c = absurd (other c)
Chain-somewhere ks (x ∷ xs) h other c =
    (xs, ap (λ n. n ∷ xs) (sym c.0), subst (λ n. n < length ks) (sym c.0) c.1, subst (λ n. Chain ks (kept_at ks n).next xs) (sym c.0) c.2)

-- the last of a list is one of it
pub ends-among : (x : ℕ) (xs : List ℕ) (z : ℕ) → EndsWith (x ∷ xs) z → Among (x ∷ xs) z
ends-among x [] z e = inl e
ends-among x (y ∷ xs) z e = inr (ends-among y xs z e)

-- two lists one behind another, once the last of the first is linked to the other
pub Chain-append : (ks new : List Kept) → length new ≡ length ks → (x : ℕ) (xs : List ℕ) (h z p : ℕ) (ys : List ℕ) → EndsWith (x ∷ xs) z →
    AreDistinct (x ∷ xs) → ((i : ℕ) → ¬ (i ≡ z) → (kept_at new i).next ≡ (kept_at ks i).next)
    → (kept_at new z).next ≡ p → Chain new p ys → Chain ks h (x ∷ xs) → Chain new h ((x ∷ xs) ++ ys)
Chain-append ks new len x [] h z p ys e d same link rest c =
    (c.0, omega (arith, c.1, len), subst (λ n. Chain new n ys) (sym (ap (λ n. (kept_at new n).next) e ∙ link)) rest)
Chain-append ks new len x (y ∷ xs) h z p ys e d same link rest c = (
  c.0,
  omega (arith, c.1, len),
  Chain-append ks new len y xs (kept_at new x).next z p ys e d.1 same link rest
      (subst (λ n. Chain ks n (y ∷ xs)) (sym (same x other)) c.2),
)
  where
    other : ¬ (x ≡ z)
    other f = d.0 (subst (Among (y ∷ xs)) (sym f) (ends-among y xs z e))

pub Among-append : (xs ys : List ℕ) (i : ℕ) → Among (xs ++ ys) i → Among xs i ⊎ Among ys i
Among-append [] ys i m = inr m
Among-append (x ∷ xs) ys i (inl e) = inl (inl e)
Among-append (x ∷ xs) ys i (inr m) = by (Among-append xs ys i m)
  where
    by : Among xs i ⊎ Among ys i → Among (x ∷ xs) i ⊎ Among ys i
    by (inl h) = inl (inr h)
    by (inr h) = inr h

pub Among-left : (xs ys : List ℕ) (i : ℕ) → Among xs i → Among (xs ++ ys) i
Among-left [] ys i m = absurd m
Among-left (x ∷ xs) ys i (inl e) = inl e
Among-left (x ∷ xs) ys i (inr m) = inr (Among-left xs ys i m)

pub Among-right : (xs ys : List ℕ) (i : ℕ) → Among ys i → Among (xs ++ ys) i
Among-right [] ys i m = m
Among-right (x ∷ xs) ys i m = inr (Among-right xs ys i m)

pub AreDistinct-append : (xs ys : List ℕ) → AreDistinct xs → AreDistinct ys → ((i : ℕ) → Among xs i → ¬ Among ys i) → AreDistinct (xs ++ ys)
AreDistinct-append [] ys d e apart = e
AreDistinct-append (x ∷ xs) ys d e apart = (here, AreDistinct-append xs ys d.1 e (λ i m. apart i (inr m)))
  where
    here : ¬ Among (xs ++ ys) x
    here m = by (Among-append xs ys x m)
      where
        by : Among xs x ⊎ Among ys x → ⊥
        by (inl h) = d.0 h
        by (inr h) = apart x (inl refl) h

-- ---- how long lists are

-- the list without its first n
abbrev without : ℕ → List ℕ → List ℕ
without n [] = []
without n (x ∷ xs) = cond (nat_eq x n) xs (x ∷ without n xs)

without-from : (n : ℕ) (xs : List ℕ) (i : ℕ) → Among (without n xs) i → Among xs i
without-from n [] i m = m
without-from n (x ∷ xs) i m = by (without-from n xs i) (nat_eq x n) refl
  where
    next : (Among (without n xs) i → Among xs i) → Among (x ∷ without n xs) i → Among (x ∷ xs) i
    next ih (inl e) = inl e
    next ih (inr h) = inr (ih h)

    by : (Among (without n xs) i → Among xs i) → (b : Bool) → nat_eq x n ≡ b → Among (x ∷ xs) i
    by ih true e = inr (subst (λ b. Among (cond b xs (x ∷ without n xs)) i) e m)
    by ih false e = next ih (subst (λ b. Among (cond b xs (x ∷ without n xs)) i) e m)

without-distinct : (n : ℕ) (xs : List ℕ) → AreDistinct xs → AreDistinct (without n xs)
without-distinct n [] d = tt
without-distinct n (x ∷ xs) d = by (without-distinct n xs d.1) (nat_eq x n) refl
  where
    by : AreDistinct (without n xs) → (b : Bool) → nat_eq x n ≡ b → AreDistinct (without n (x ∷ xs))
    by ih true e = subst (λ b. AreDistinct (cond b xs (x ∷ without n xs))) (sym e) d.1
    by ih false e = subst (λ b. AreDistinct (cond b xs (x ∷ without n xs))) (sym e) ((λ m. d.0 (without-from n xs x m)), ih)

without-gone : (n : ℕ) (xs : List ℕ) → AreDistinct xs → ¬ Among (without n xs) n
without-gone n [] d m = m
without-gone n (x ∷ xs) d m = by (without-gone n xs d.1) (nat_eq x n) refl
  where
    next : ¬ Among (without n xs) n → ¬ (x ≡ n) → Among (x ∷ without n xs) n → ⊥
    next ih other (inl e) = other e
    next ih other (inr h) = ih h

    by : ¬ Among (without n xs) n → (b : Bool) → nat_eq x n ≡ b → ⊥
    by ih true e = d.0 (subst (Among xs) (sym ((unsigned_Decides x n).0 e)) (subst (λ b. Among (cond b xs (x ∷ without n xs)) n) e m))
    by ih false e =
        next ih (λ h. true≢false (sym ((unsigned_Decides x n).1 h) ∙ e)) (subst (λ b. Among (cond b xs (x ∷ without n xs)) n) e m)

length-without : (n : ℕ) (xs : List ℕ) → length xs ≤ suc (length (without n xs))
length-without n [] = omega arith
length-without n (x ∷ xs) = by (length-without n xs) (nat_eq x n) refl
  where
    by : length xs ≤ suc (length (without n xs)) → (b : Bool) → nat_eq x n ≡ b → length (x ∷ xs) ≤ suc (length (without n (x ∷ xs)))
    by ih true e = subst (λ b. length (x ∷ xs) ≤ suc (length (cond b xs (x ∷ without n xs)))) (sym e) (omega arith)
    by ih false e = subst (λ b. length (x ∷ xs) ≤ suc (length (cond b xs (x ∷ without n xs)))) (sym e) (omega (arith, ih))

-- distinct numbers below n are at most n
pub length-distinct : (n : ℕ) (xs : List ℕ) → AreDistinct xs → ((i : ℕ) → Among xs i → i < n) → length xs ≤ n
length-distinct zero [] d below = omega arith
length-distinct zero (x ∷ xs) d below = absurd (omega (arith, below x (inl refl)))
length-distinct (suc n) xs d below =
    omega (arith, length-without n xs, length-distinct n (without n xs) (without-distinct n xs d) less)
  where
    less : (i : ℕ) → Among (without n xs) i → i < n
    less i m =
        let other : ¬ (i ≡ n) = λ e. without-gone n xs d (subst (Among (without n xs)) e m) in
        omega (arith, below i (without-from n xs i m), other)

-- a list is as long as there are steps
pub steps-Chain : (ks : List Kept) → length ks ≤ most → (n : ℕ) (xs : List ℕ) (h : ℕ) → length xs ≤ n → Chain ks h xs →
    steps ks n h ≡ length xs
steps-Chain ks few zero [] h l c = refl
steps-Chain ks few zero (x ∷ xs) h l c = absurd (omega arith)
steps-Chain ks few (suc n) [] h l c = ap (λ b. cond b 0 (suc (steps ks n (kept_at ks h).next))) ((unsigned_Decides h nowhere).1 c)
steps-Chain ks few (suc n) (x ∷ xs) h l c =
    by (steps-Chain ks few n xs (kept_at ks h).next (omega arith) (subst (λ k. Chain ks (kept_at ks k).next xs) (sym c.0) c.2))
    (nat_eq h nowhere) refl
  where
    by : steps ks n (kept_at ks h).next ≡ length xs → (b : Bool) → nat_eq h nowhere ≡ b → steps ks (suc n) h ≡ length (x ∷ xs)
    by ih true e = absurd (omega (arith, (unsigned_Decides h nowhere).0 e, c.0, c.1, few))
    by ih false e = ap (λ b. cond b 0 (suc (steps ks n (kept_at ks h).next))) e ∙ ap suc ih

pub length-list : (ks : List Kept) (pile : ℕ) (lists : ℕ → List ℕ) → AreLinked ks pile lists → (n : ℕ) → length (lists n) ≤ length ks
length-list ks pile lists l n =
    length-distinct (length ks) (lists n) (l.distinct n) (Chain-below ks (lists n) (first_of ks pile n) (l.chains n))
