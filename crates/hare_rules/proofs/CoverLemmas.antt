-- That values are counted and that each value of a range is listed are one thing, where the values all differ.
use Rattle.std.proofs.Common.{◌≡◌, ◌∙◌, sym, ap, refl, arith, true≢false, ◌≢◌, ◌↔◌, ℕ, zero, suc, ◌+◌, ◌<◌, ◌≤◌, leb, ℤ, pos, negsuc, ◌≤ℤ◌, T, Bool, true, false, cond, ◌&&◌, ◌||◌, int_le, int_eq, List, [], ◌∷◌, length, filter, Some, Contains}
use Rattle.std.specs.List.{IsDistinct, AllByRecursion}
use Rattle.std.specs.Set.{is_member}
use Rattle.std.specs.Cmp.{signed_Decides}
use Rattle.std.specs.Int.Signed.{le_z_yes}
use Rattle.std.proofs.lemmas.Cmp.{int_eq_equiv}
use Rattle.std.proofs.lemmas.Bool.{le-leb, leb-true}
use Rattle.std.proofs.lemmas.Map.Keys.{IsDistinct-head, IsDistinct-tail, IsDistinct-cons, IsDistinct-from_apart}
use Rattle.std.proofs.lemmas.Map.Made.{length-le_from_is_member, length-from_same_keys, is_member-filter, is_member-Decides}
use Rattle.hare_types.specs.declared.row.Row.TheVariants as row
use Rattle.hare_types.specs.declared.row.Scalar.TheVariants as word
use Rattle.hare_typed.specs.Cover.{Range}
use Rattle.hare_rules.specs.Constants.{is_within}
use Rattle.hare_rules.specs.CoverLaw.{CountsCover}

-- ---- lists and members

same_number : (x y : ℤ) → int_eq x y ≡ true → x ≡ y
same_number x y e = (signed_Decides x y).0 e

other_number : (x y : ℤ) → int_eq x y ≡ false → x ≢ y
other_number x y e q = true≢false (sym ((signed_Decides x y).1 q) ∙ e)

apart_if : (b : Bool) → (b ≡ true → ⊥) → b ≡ false
apart_if true n = absurd (n refl)
apart_if false n = refl

-- what is no member differs from each
away : (q : ℤ) (xs : List ℤ) → is_member int_eq xs q ≡ false → AllByRecursion (λ y. int_eq q y ≡ false) xs
away q [] e = tt
away q (x ∷ xs) e = step (int_eq q x) e (away q xs)
  where
    step :
        (b : Bool) → (b || is_member int_eq xs q) ≡ false → (is_member int_eq xs q ≡ false
        → AllByRecursion (λ y. int_eq q y ≡ false) xs) → (b ≡ false) × AllByRecursion (λ y. int_eq q y ≡ false) xs
    step true h go = absurd (true≢false h)
    step false h go = (refl, go h)

pub IsDistinct-none : IsDistinct int_eq []
IsDistinct-none = IsDistinct-from_apart int_eq [] (λ i j d l m. absurd (omega (arith, m)))

kept_away :
    (q : ℤ) (p : ℤ → Bool) (xs : List ℤ) → AllByRecursion (λ y. int_eq q y ≡ false) xs
    → AllByRecursion (λ y. int_eq q y ≡ false) (filter p xs)
kept_away q p [] a = tt
kept_away q p (x ∷ xs) a = step (p x) (kept_away q p xs a.1)
  where
    step :
        (b : Bool) → AllByRecursion (λ y. int_eq q y ≡ false) (filter p xs)
        → AllByRecursion (λ y. int_eq q y ≡ false) (cond b (x ∷ filter p xs) (filter p xs))
    step true r = (a.0, r)
    step false r = r

kept_distinct : (p : ℤ → Bool) (xs : List ℤ) → IsDistinct int_eq xs → IsDistinct int_eq (filter p xs)
kept_distinct p [] d = IsDistinct-none
kept_distinct p (x ∷ xs) d =
    step (p x) (kept_away x p xs (IsDistinct-head int_eq x xs d)) (kept_distinct p xs (IsDistinct-tail int_eq x xs d))
  where
    step :
        (b : Bool) → AllByRecursion (λ y. int_eq x y ≡ false) (filter p xs) → IsDistinct int_eq (filter p xs)
        → IsDistinct int_eq (cond b (x ∷ filter p xs) (filter p xs))
    step true a r = IsDistinct-cons int_eq x (filter p xs) a r
    step false a r = r

-- ---- the numbers of a range, as a list

abbrev below_zero : ℕ → List ℤ
below_zero zero = []
below_zero (suc m) = negsuc m ∷ below_zero m

-- from -m to p - 1
abbrev listed : (m p : ℕ) → List ℤ
listed m zero = below_zero m
listed m (suc p) = pos p ∷ listed m p

length-below_zero : (m : ℕ) → length (below_zero m) ≡ m
length-below_zero zero = refl
length-below_zero (suc m) = ap suc (length-below_zero m)

length-listed : (m p : ℕ) → length (listed m p) ≡ p + m
length-listed m zero = omega (arith, length-below_zero m)
length-listed m (suc p) = omega (arith, length-listed m p)

member_below_zero : (m k : ℕ) → k < m → is_member int_eq (below_zero m) (negsuc k) ≡ true
member_below_zero zero k l = absurd (omega (arith, l))
member_below_zero (suc m) k l = step (int_eq (negsuc k) (negsuc m)) refl (member_below_zero m k)
  where
    step :
        (b : Bool) → int_eq (negsuc k) (negsuc m) ≡ b → (k < m → is_member int_eq (below_zero m) (negsuc k) ≡ true)
        → (b || is_member int_eq (below_zero m) (negsuc k)) ≡ true
    step true e go = refl
    step false e go =
        let n : k ≢ m = λ q. other_number (negsuc k) (negsuc m) e (ap negsuc q) in
        go (omega (arith, l, n))

abbrev size_below : ℤ → ℕ
size_below (pos n) = n
size_below (negsuc n) = n

below_zero_member : (m k : ℕ) → is_member int_eq (below_zero m) (negsuc k) ≡ true → k < m
below_zero_member zero k h = absurd (true≢false (sym h))
below_zero_member (suc m) k h = step (int_eq (negsuc k) (negsuc m)) refl h (below_zero_member m k)
  where
    step :
        (b : Bool) → int_eq (negsuc k) (negsuc m) ≡ b → (b || is_member int_eq (below_zero m) (negsuc k)) ≡ true
        → (is_member int_eq (below_zero m) (negsuc k) ≡ true → k < m) → k < suc m
    step true e g go = let q : k ≡ m = ap size_below (same_number (negsuc k) (negsuc m) e) in omega (arith, q)
    step false e g go = omega (arith, go g)

natural_below_zero : (m k : ℕ) → is_member int_eq (below_zero m) (pos k) ≡ false
natural_below_zero zero k = refl
natural_below_zero (suc m) k = natural_below_zero m k

member_listed : (m p k : ℕ) → k < p → is_member int_eq (listed m p) (pos k) ≡ true
member_listed m zero k l = absurd (omega (arith, l))
member_listed m (suc p) k l = step (int_eq (pos k) (pos p)) refl (member_listed m p k)
  where
    step :
        (b : Bool) → int_eq (pos k) (pos p) ≡ b → (k < p → is_member int_eq (listed m p) (pos k) ≡ true)
        → (b || is_member int_eq (listed m p) (pos k)) ≡ true
    step true e go = refl
    step false e go =
        let n : k ≢ p = λ q. other_number (pos k) (pos p) e (ap pos q) in
        go (omega (arith, l, n))

listed_member : (m p k : ℕ) → is_member int_eq (listed m p) (pos k) ≡ true → k < p
listed_member m zero k h = absurd (true≢false (sym h ∙ natural_below_zero m k))
listed_member m (suc p) k h = step (int_eq (pos k) (pos p)) refl h (listed_member m p k)
  where
    step :
        (b : Bool) → int_eq (pos k) (pos p) ≡ b → (b || is_member int_eq (listed m p) (pos k)) ≡ true
        → (is_member int_eq (listed m p) (pos k) ≡ true → k < p) → k < suc p
    step true e g go = let q : k ≡ p = ap size_below (same_number (pos k) (pos p) e) in omega (arith, q)
    step false e g go = omega (arith, go g)

negative_listed : (m p k : ℕ) → is_member int_eq (listed m p) (negsuc k) ≡ is_member int_eq (below_zero m) (negsuc k)
negative_listed m zero k = refl
negative_listed m (suc p) k = negative_listed m p k

IsDistinct-below_zero : (m : ℕ) → IsDistinct int_eq (below_zero m)
IsDistinct-below_zero zero = IsDistinct-none
IsDistinct-below_zero (suc m) =
    IsDistinct-cons int_eq (negsuc m) (below_zero m)
    (away (negsuc m) (below_zero m) (apart_if (is_member int_eq (below_zero m) (negsuc m)) (λ h. omega (arith, below_zero_member m m h))))
    (IsDistinct-below_zero m)

IsDistinct-listed : (m p : ℕ) → IsDistinct int_eq (listed m p)
IsDistinct-listed m zero = IsDistinct-below_zero m
IsDistinct-listed m (suc p) =
    IsDistinct-cons int_eq (pos p) (listed m p)
    (away (pos p) (listed m p) (apart_if (is_member int_eq (listed m p) (pos p)) (λ h. omega (arith, listed_member m p p h))))
    (IsDistinct-listed m p)

-- ---- the test of a range

abbrev low : ℕ → ℤ
low zero = pos 0
low (suc m) = negsuc m

-- from -m to p
abbrev span : (m p : ℕ) → Range
span m p = record { least = low m; greatest = pos p }

low_natural : (m k : ℕ) → int_le (low m) (pos k) ≡ true
low_natural zero k = le-leb 0 k (omega arith)
low_natural (suc m) k = refl

and_right : (a b : Bool) → (a && b) ≡ true → b ≡ true
and_right true b e = e
and_right false b e = absurd (true≢false (sym e))

and_left : (a b : Bool) → (a && b) ≡ true → a ≡ true
and_left true b e = refl
and_left false b e = absurd (true≢false (sym e))

within_listed : (m p : ℕ) (q : ℤ) → is_within (span m p) q ≡ true → is_member int_eq (listed m (suc p)) q ≡ true
within_listed m p (pos k) h =
    let l : k ≤ p = leb-true k p (and_right (int_le (low m) (pos k)) (leb k p) h) in member_listed m (suc p) k (omega (arith, l))
within_listed zero p (negsuc k) h = absurd (true≢false (sym h))
within_listed (suc m) p (negsuc k) h =
    let l : k ≤ m = leb-true k m (and_left (leb k m) true h) in
    negative_listed (suc m) (suc p) k ∙ member_below_zero (suc m) k (omega (arith, l))

both : (a b : Bool) → a ≡ true → b ≡ true → (a && b) ≡ true
both a b e f = rw (e, f) refl

listed_within : (m p : ℕ) (q : ℤ) → is_member int_eq (listed m (suc p)) q ≡ true → is_within (span m p) q ≡ true
listed_within m p (pos k) h =
    let l : k < suc p = listed_member m (suc p) k h in
    both (int_le (low m) (pos k)) (leb k p) (low_natural m k) (le-leb k p (omega (arith, l)))
listed_within zero p (negsuc k) h =
    let l : k < 0 = below_zero_member zero k (sym (negative_listed zero (suc p) k) ∙ h) in absurd (omega (arith, l))
listed_within (suc m) p (negsuc k) h =
    let l : k < suc m = below_zero_member (suc m) k (sym (negative_listed (suc m) (suc p) k) ∙ h) in
    both (leb k m) true (le-leb k m (omega (arith, l))) refl

-- ---- counting

module _ (m p : ℕ) (vs : List ℤ) (d : IsDistinct int_eq vs) where
  abbrev kept : List ℤ
  kept = filter (is_within (span m p)) vs

  kept_member : (q : ℤ) → is_member int_eq kept q ≡ (is_member int_eq vs q && is_within (span m p) q)
  kept_member q = is_member-filter int_eq_equiv (is_within (span m p)) q (λ x e. ap (is_within (span m p)) (same_number q x e)) vs

  distinct : IsDistinct int_eq kept
  distinct = kept_distinct (is_within (span m p)) vs d

  kept_listed : (q : ℤ) → is_member int_eq kept q ≡ true → is_member int_eq (listed m (suc p)) q ≡ true
  kept_listed q e = within_listed m p q (and_right (is_member int_eq vs q) (is_within (span m p) q) (sym (kept_member q) ∙ e))

  -- one more value would be one more than there are
  no_other : length kept ≡ suc p + m → (v : ℤ) → is_within (span m p) v ≡ true → is_member int_eq vs v ≡ false → ⊥
  no_other n v w e =
      let a : is_member int_eq kept v ≡ false = kept_member v ∙ ap (λ b. b && is_within (span m p) v) e in
      let far = IsDistinct-cons int_eq v kept (away v kept a) distinct in
      let le : suc (length kept) ≤ length (listed m (suc p)) =
      length-le_from_is_member int_eq_equiv (v ∷ kept) (listed m (suc p)) far among in
      omega (arith, le, n, length-listed m (suc p))
    where
      among : (q : ℤ) → is_member int_eq (v ∷ kept) q ≡ true → is_member int_eq (listed m (suc p)) q ≡ true
      among q h = step (int_eq q v) refl h
        where
          step : (b : Bool) → int_eq q v ≡ b → (b || is_member int_eq kept q) ≡ true → is_member int_eq (listed m (suc p)) q ≡ true
          step true e h = ap (λ x. is_member int_eq (listed m (suc p)) x) (same_number q v e) ∙ within_listed m p v w
          step false e h = kept_listed q h

  counted_listed : length kept ≡ suc p + m → (v : ℤ) → is_within (span m p) v ≡ true → Contains vs v
  counted_listed n v w = step (is_member int_eq vs v) refl
    where
      step : (b : Bool) → is_member int_eq vs v ≡ b → Contains vs v
      step true e = (is_member-Decides signed_Decides vs v).0 e
      step false e = absurd (no_other n v w e)

  listed_counted : ((v : ℤ) → is_within (span m p) v ≡ true → Contains vs v) → length kept ≡ suc p + m
  listed_counted all =
      length-from_same_keys int_eq_equiv kept (listed m (suc p)) distinct (IsDistinct-listed m (suc p)) alike ∙ length-listed m (suc p)
    where
      alike : (q : ℤ) → is_member int_eq kept q ≡ is_member int_eq (listed m (suc p)) q
      alike q = step (is_member int_eq (listed m (suc p)) q) refl
        where
          step : (b : Bool) → is_member int_eq (listed m (suc p)) q ≡ b → is_member int_eq kept q ≡ b
          step true e =
              let w = listed_within m p q e in
              kept_member q ∙ both (is_member int_eq vs q) (is_within (span m p) q) ((is_member-Decides signed_Decides vs q).1 (all q w)) w
          step false e = apart_if (is_member int_eq kept q) (λ h. true≢false (sym (kept_listed q h) ∙ e))

  within_from : (v : ℤ) → low m ≤ℤ v → v ≤ℤ pos p → is_within (span m p) v ≡ true
  within_from v a b = both (int_le (low m) v) (int_le v (pos p)) (true_from (int_le (low m) v) a.le) (true_from (int_le v (pos p)) b.le)
    where
      true_from : (b : Bool) → T b → b ≡ true
      true_from true t = refl
      true_from false t = absurd t

  covers :
      (int_eq (pos (length kept)) (pos (suc p + m)) ≡ true) ↔ ((v : ℤ) → low m ≤ℤ v → v ≤ℤ pos p → Contains vs v)
  covers = (
    λ e v a b. counted_listed (ap size_below (same_number (pos (length kept)) (pos (suc p + m)) e)) v (within_from v a b),
    λ all. (signed_Decides (pos (length kept)) (pos (suc p + m))).1 (ap pos (listed_counted (λ v w. all v (least v w) (greatest v w)))),
  )
    where
      least : (v : ℤ) → is_within (span m p) v ≡ true → low m ≤ℤ v
      least v w = le_z_yes (from_true (int_le (low m) v) (and_left (int_le (low m) v) (int_le v (pos p)) w))
        where
          from_true : (b : Bool) → b ≡ true → T b
          from_true true e = tt
          from_true false e = absurd (true≢false (sym e))

      greatest : (v : ℤ) → is_within (span m p) v ≡ true → v ≤ℤ pos p
      greatest v w = le_z_yes (from_true (int_le v (pos p)) (and_right (int_le (low m) v) (int_le v (pos p)) w))
        where
          from_true : (b : Bool) → b ≡ true → T b
          from_true true e = tt
          from_true false e = absurd (true≢false (sym e))

-- ---- by the words of types

none_covers : (false ≡ true) ↔ ⊥
none_covers = (λ e. true≢false (sym e), λ b. absurd b)

pub counts_cover : CountsCover
counts_cover (Some (row.Scalar word.Bool)) vs d = covers 0 1 vs d
counts_cover (Some (row.Scalar word.Rune)) vs d = covers 0 4294967295 vs d
counts_cover (Some (row.Scalar word.I8)) vs d = covers 128 127 vs d
counts_cover (Some (row.Scalar word.I16)) vs d = covers 32768 32767 vs d
counts_cover (Some (row.Scalar word.I32)) vs d = covers 2147483648 2147483647 vs d
counts_cover (Some (row.Scalar word.I64)) vs d = covers 9223372036854775808 9223372036854775807 vs d
counts_cover (Some (row.Scalar word.U8)) vs d = covers 0 255 vs d
counts_cover (Some (row.Scalar word.U16)) vs d = covers 0 65535 vs d
counts_cover (Some (row.Scalar word.U32)) vs d = covers 0 4294967295 vs d
counts_cover (Some (row.Scalar word.U64)) vs d = covers 0 18446744073709551615 vs d
counts_cover (Some (row.Scalar word.Int)) vs d = covers 2147483648 2147483647 vs d
counts_cover (Some (row.Scalar word.Uint)) vs d = covers 0 4294967295 vs d
counts_cover (Some (row.Scalar word.Size)) vs d = covers 0 18446744073709551615 vs d
counts_cover _ vs d = none_covers
