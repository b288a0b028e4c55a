-- Names that stand once, and temporaries of one class: told from what stands in front, and from the whole.
use Rattle.std.proofs.Common.{◌≡◌, ℕ, ◌+◌, ◌<◌, List, [], ◌∷◌, ◌++◌, Option, None, Some, Bool, true, false, cond, ◌&&◌, ◌||◌, not, ◌==◌, bytes_eq, refl, sym, ap, ◌∙◌, subst, arith, tests, append_assoc}
use Rattle.std.specs.Prelude.{find, is_some}
use Rattle.std.specs.List.{list_all, list_any}
use Rattle.std.proofs.lemmas.Bool.{and_parts, false≢true}
use Rattle.std.proofs.lemmas.Bool.Decides.{nat_tests}
use Rattle.std.proofs.lemmas.List.Sums.{sum_by-cons}
use Rattle.std.proofs.lemmas.Slice.Eq.{bytes_eq-Decides}
use Rattle.hx_base.specs.declared.Class.{Class}
use Rattle.hx_base.specs.declared.Class.TheVariants.{W, L}
use Rattle.il_code.specs.declared.types.IlParam.{IlParam}
use Rattle.il_code.specs.Rules.{how_many, are_distinct, has_named, same_class, other_class, sets}
use Rattle.il_code.specs.Marks.{is_first_class}
use Rattle.il_code.proofs.MarkLists.{same_when, not-or, list_all-same, list_all-and, list_all-not, list_any-append, all_behind}

pub same_names : (a b : List ℕ) → bytes_eq a b ≡ true → a ≡ b
same_names a b h = (bytes_eq-Decides a b).0 h

name_turned : (a b : List ℕ) → bytes_eq a b ≡ true → bytes_eq b a ≡ true
name_turned a b h = (bytes_eq-Decides b a).1 (sym (same_names a b h))

bytes_eq-turned : (a b : List ℕ) → bytes_eq a b ≡ bytes_eq b a
bytes_eq-turned a b = same_when _ _ (name_turned a b) (name_turned b a)

pub bytes_eq-self : (a : List ℕ) → bytes_eq a a ≡ true
bytes_eq-self a = (bytes_eq-Decides a a).1 refl

one_more : (m : ℕ) → 0 < m → (1 + m == 1) ≡ false
one_more m h = grind (arith, nat_tests)

nothing_more : (m : ℕ) → 0 + m ≡ m
nothing_more m = omega arith

shuffle : (a b c d : Bool) → (a && ((b && c) && d)) ≡ ((a && b) && (c && d))
shuffle a b c d = same_when _ _ (λ h. grind (arith, tests)) (λ h. grind (arith, tests))

-- ---- names that stand once

module _ {A : Type 0} (name : A → List ℕ) where
  abbrev once : List A → Bool
  once [] = true
  once (x ∷ xs) = not (has_named name (name x) xs) && once xs

  list_all-true : (xs : List A) → list_all (λ x. true) xs ≡ true
  list_all-true [] = refl
  list_all-true (x ∷ xs) = list_all-true xs

  not_here : (x : A) (xs : List A) → list_all (λ y. not (bytes_eq (name x) (name y))) xs ≡ not (has_named name (name x) xs)
  not_here x xs = list_all-same (λ y. not (bytes_eq (name x) (name y))) (λ y. not (bytes_eq (name y) (name x)))
      (λ y. ap not (bytes_eq-turned (name x) (name y))) xs ∙ list_all-not (λ y. bytes_eq (name y) (name x)) xs

  or-false : (a : Bool) → (a || false) ≡ a
  or-false true = refl
  or-false false = refl

  has_pushed : (x y : A) (before : List A) →
      not (has_named name (name y) (before ++ x ∷ [])) ≡ (not (has_named name (name y) before) && not (bytes_eq (name x) (name y)))
  has_pushed x y before = ap not (list_any-append (λ z. bytes_eq (name z) (name y)) before (x ∷ [])) ∙ not-or
      (has_named name (name y) before) (bytes_eq (name x) (name y) || false) ∙ ap (λ b. not (has_named name (name y) before) && not b)
      (or-false (bytes_eq (name x) (name y)))

  seen_pushed : (x : A) (before xs : List A) →
      list_all (λ y. not (has_named name (name y) (before ++ x ∷ []))) xs ≡
      (list_all (λ y. not (has_named name (name y) before)) xs && not (has_named name (name x) xs))
  seen_pushed x before xs =
      list_all-same _ (λ y. not (has_named name (name y) before) && not (bytes_eq (name x) (name y))) (λ y. has_pushed x y before) xs
      ∙ list_all-and (λ y. not (has_named name (name y) before)) (λ y. not (bytes_eq (name x) (name y))) xs
      ∙ ap (λ b. list_all (λ y. not (has_named name (name y) before)) xs && b) (not_here x xs)

  seen_before : (before xs : List A) → all_behind (λ b x. not (has_named name (name x) b)) before xs ≡
      (list_all (λ x. not (has_named name (name x) before)) xs && once xs)
  seen_before before [] = refl
  seen_before before (x ∷ xs) =
      ap (λ b. not (has_named name (name x) before) && b)
      (seen_before (before ++ x ∷ []) xs ∙ ap (λ b. b && once xs) (seen_pushed x before xs))
      ∙ shuffle (not (has_named name (name x) before)) (list_all (λ y. not (has_named name (name y) before)) xs)
      (not (has_named name (name x) xs)) (once xs)

  how_many-cons : (n : List ℕ) (x : A) (xs : List A) → how_many name n (x ∷ xs) ≡ cond (bytes_eq (name x) n) 1 0 + how_many name n xs
  how_many-cons n x xs = sum_by-cons (λ y. cond (bytes_eq (name y) n) 1 0) x xs

  how_many-none : (n : List ℕ) (xs : List A) → has_named name n xs ≡ false → how_many name n xs ≡ 0
  how_many-none n [] h = refl
  how_many-none n (x ∷ xs) h = how_many-cons n x xs ∙ by (bytes_eq (name x) n) h (λ k. how_many-none n xs k)
    where
      by : (b : Bool) → (b || has_named name n xs) ≡ false → (has_named name n xs ≡ false → how_many name n xs ≡ 0) →
          cond b 1 0 + how_many name n xs ≡ 0
      by true k f = absurd (false≢true (sym k))
      by false k f = let e = f k in omega arith

  how_many-some : (n : List ℕ) (xs : List A) → has_named name n xs ≡ true → 0 < how_many name n xs
  how_many-some n [] h = absurd (false≢true h)
  how_many-some n (x ∷ xs) h = subst (λ k. 0 < k) (sym (how_many-cons n x xs)) (by (bytes_eq (name x) n) h (λ k. how_many-some n xs k))
    where
      by : (b : Bool) → (b || has_named name n xs) ≡ true → (has_named name n xs ≡ true → 0 < how_many name n xs) →
          0 < cond b 1 0 + how_many name n xs
      by true k f = omega arith
      by false k f = let e = f k in omega arith

  or_false_parts : (a b : Bool) → (a || b) ≡ false → (a ≡ false) × (b ≡ false)
  or_false_parts true b h = absurd (false≢true (sym h))
  or_false_parts false b h = (refl, h)

  -- an element of another name counts for nothing
  others : (x : A) (xs zs : List A) → has_named name (name x) zs ≡ false →
      list_all (λ y. how_many name (name y) (x ∷ xs) == 1) zs ≡ list_all (λ y. how_many name (name y) xs == 1) zs
  others x xs [] h = refl
  others x xs (z ∷ zs) h =
      let k = or_false_parts _ _ h in
      let e : bytes_eq (name x) (name z) ≡ false = bytes_eq-turned (name x) (name z) ∙ k.0 in
      let n : how_many name (name z) (x ∷ xs) ≡ how_many name (name z) xs =
      how_many-cons (name z) x xs ∙ ap (λ b. cond b 1 0 + how_many name (name z) xs) e ∙ nothing_more (how_many name (name z) xs) in
      rw (n, others x xs zs k.1) refl

  are_distinct-cons : (x : A) (xs : List A) (h : Bool) → has_named name (name x) xs ≡ h →
      are_distinct name (x ∷ xs) ≡ (not h && are_distinct name xs)
  are_distinct-cons x xs true h =
      let n : how_many name (name x) (x ∷ xs) ≡ 1 + how_many name (name x) xs =
      how_many-cons (name x) x xs ∙ ap (λ b. cond b 1 0 + how_many name (name x) xs) (bytes_eq-self (name x)) in
      let k = one_more (how_many name (name x) xs) (how_many-some (name x) xs h) in
      ap (λ b. b && list_all (λ y. how_many name (name y) (x ∷ xs) == 1) xs) (ap (λ m. m == 1) n ∙ k)
  are_distinct-cons x xs false h =
      let n : how_many name (name x) (x ∷ xs) ≡ 1 + how_many name (name x) xs =
      how_many-cons (name x) x xs ∙ ap (λ b. cond b 1 0 + how_many name (name x) xs) (bytes_eq-self (name x)) in
      let k : how_many name (name x) (x ∷ xs) ≡ 1 = n ∙ ap (λ m. 1 + m) (how_many-none (name x) xs h) in
      ap (λ b. b && list_all (λ y. how_many name (name y) (x ∷ xs) == 1) xs) (ap (λ m. m == 1) k) ∙ others x xs xs h

  are_distinct-once : (xs : List A) → are_distinct name xs ≡ once xs
  are_distinct-once [] = refl
  are_distinct-once (x ∷ xs) = are_distinct-cons x xs (has_named name (name x) xs) refl ∙ ap (λ b. not (has_named name (name x) xs) && b)
      (are_distinct-once xs)

  -- no element has a name that stands in front of it, exactly where the names differ
  pub distinct_before : (xs : List A) → all_behind (λ b x. not (has_named name (name x) b)) [] xs ≡ are_distinct name xs
  distinct_before xs = seen_before [] xs ∙ ap (λ b. b && once xs) (list_all-true xs) ∙ sym (are_distinct-once xs)

-- ---- temporaries of one class

-- the element is one that sets the name at the other class
abbrev pub differs : IlParam → IlParam → Bool
differs p q = sets p.name (other_class p.class) q.name q.class

abbrev pub first_of : List IlParam → List ℕ → Option IlParam
first_of all name = find (λ q. bytes_eq q.name name) all

abbrev pub is_as_first : List IlParam → IlParam → Bool
is_as_first all p = is_first_class p.class (first_of all p.name)

module _ {A : Type 0} (t : A → Bool) where
  found_passes : (xs : List A) (r : A) → find t xs ≡ Some r → (t r ≡ true) × ((g : A → Bool) → list_any g xs ≡ false → g r ≡ false)
  found_passes [] r h = absurd cc
  found_passes (x ∷ xs) r h = by (t x) refl h (λ k. found_passes xs r k)
    where
      or_false_left : (a b : Bool) → (a || b) ≡ false → a ≡ false
      or_false_left true b k = k
      or_false_left false b k = refl

      or_false_right : (a b : Bool) → (a || b) ≡ false → b ≡ false
      or_false_right true b k = absurd (false≢true (sym k))
      or_false_right false b k = k

      by : (b : Bool) → t x ≡ b → cond b (Some x) (find t xs) ≡ Some r →
          (find t xs ≡ Some r → (t r ≡ true) × ((g : A → Bool) → list_any g xs ≡ false → g r ≡ false)) → (t r ≡ true) ×
          ((g : A → Bool) → list_any g (x ∷ xs) ≡ false → g r ≡ false)
      by true e k f =
          let same : x ≡ r = cc in (
            subst (λ y. t y ≡ true) same e,
            λ g n. subst (λ y. g y ≡ false) same
                (or_false_left (g x) (list_any g xs) n),
          )
      by false e k f = let m = f k in (m.0, λ g n. m.1 g (or_false_right (g x) (list_any g xs) n))

  found_some : (before : List A) (x : A) (xs : List A) → t x ≡ true → is_some (find t (before ++ x ∷ xs)) ≡ true
  found_some [] x xs h = ap (λ b. is_some (cond b (Some x) (find t xs))) h
  found_some (y ∷ before) x xs h = by (t y) (found_some before x xs h)
    where
      by : (b : Bool) → is_some (find t (before ++ x ∷ xs)) ≡ true → is_some (cond b (Some y) (find t (before ++ x ∷ xs))) ≡ true
      by true k = refl
      by false k = k

  none_where_all : (g : A → Bool) → ((x : A) → t x ≡ true → g x ≡ false) → (xs : List A) → list_all t xs ≡ true → list_any g xs ≡ false
  none_where_all g k [] h = refl
  none_where_all g k (x ∷ xs) h = let p = and_parts (t x) (list_all t xs) h in rw (k x p.0, none_where_all g k xs p.1) refl

  list_all-weaker : (g : A → Bool) → ((x : A) → t x ≡ true → g x ≡ true) → (xs : List A) → list_all t xs ≡ true → list_all g xs ≡ true
  list_all-weaker g k [] h = refl
  list_all-weaker g k (x ∷ xs) h = let p = and_parts (t x) (list_all t xs) h in rw (k x p.0, list_all-weaker g k xs p.1) refl

-- two classes are not both the first
two_firsts : (c d e : Class) → same_class e c ≡ true → same_class e d ≡ true → same_class d (other_class c) ≡ true → ⊥
two_firsts W W e h k m = false≢true m
two_firsts W L W h k m = false≢true k
two_firsts W L L h k m = false≢true h
two_firsts L W W h k m = false≢true h
two_firsts L W L h k m = false≢true k
two_firsts L L e h k m = false≢true m

both_first : (c d : Class) (o : Option IlParam) → is_some o ≡ true → is_first_class c o ≡ true → is_first_class d o ≡ true →
    same_class d (other_class c) ≡ true → ⊥
both_first c d None s h k m = false≢true s
both_first c d (Some r) s h k m = two_firsts c d r.class h k m

false_unless : (b : Bool) → (b ≡ true → ⊥) → b ≡ false
false_unless true h = absurd (h refl)
false_unless false h = refl

no_clash : (all : List IlParam) (p q : IlParam) → is_some (first_of all p.name) ≡ true → is_as_first all p ≡ true →
    is_as_first all q ≡ true → differs p q ≡ false
no_clash all p q s h k = false_unless (differs p q) λ m.
    let parts = and_parts (bytes_eq q.name p.name) (same_class q.class (other_class p.class)) m in
    let e : first_of all q.name ≡ first_of all p.name = ap (first_of all) (same_names q.name p.name parts.0) in
    both_first p.class q.class (first_of all p.name) s h (subst (λ o. is_first_class q.class o ≡ true) e k) parts.1

alone_from : (all before zs : List IlParam) → all ≡ before ++ zs → list_all (is_as_first all) all ≡ true →
    list_all (is_as_first all) zs ≡ true → list_all (λ p. not (list_any (differs p) all)) zs ≡ true
alone_from all before [] e whole h = refl
alone_from all before (p ∷ zs) e whole h =
    let parts = and_parts (is_as_first all p) (list_all (is_as_first all) zs) h in
    let s : is_some (first_of all p.name) ≡ true =
    subst (λ x. is_some (first_of x p.name) ≡ true) (sym e)
    (found_some (λ q. bytes_eq q.name p.name) before p zs (bytes_eq-self p.name)) in
    let n = none_where_all (is_as_first all) (differs p) (λ q k. no_clash all p q s parts.0 k) all whole in
    let r = alone_from all (before ++ p ∷ []) zs (e ∙ sym (append_assoc before (p ∷ []) zs)) whole parts.1 in
    rw (n, r) refl

other_or_same : (e c : Class) → same_class e (other_class c) ≡ false → same_class e c ≡ true
other_or_same W W h = refl
other_or_same W L h = absurd (false≢true (sym h))
other_or_same L W h = absurd (false≢true (sym h))
other_or_same L L h = refl

first_from : (all : List IlParam) (p : IlParam) (o : Option IlParam) → first_of all p.name ≡ o → list_any (differs p) all ≡ false →
    is_first_class p.class o ≡ true
first_from all p None e h = refl
first_from all p (Some r) e h =
    let k = found_passes (λ q. bytes_eq q.name p.name) all r e in
    other_or_same r.class p.class (right (bytes_eq r.name p.name) (same_class r.class (other_class p.class)) k.0 (k.1 (differs p) h))
  where
    right : (a b : Bool) → a ≡ true → (a && b) ≡ false → b ≡ false
    right true b ha hb = hb
    right false b ha hb = absurd (false≢true ha)

false_from_not : (b : Bool) → not b ≡ true → b ≡ false
false_from_not true h = absurd (false≢true h)
false_from_not false h = refl

-- each is set as the first time, exactly where none is set at the other class
pub one_class : (all : List IlParam) → list_all (is_as_first all) all ≡ list_all (λ p. not (list_any (differs p) all)) all
one_class all = same_when _ _
    (λ h. alone_from all [] all refl h h)
    (λ h. list_all-weaker (λ p. not (list_any (differs p) all)) (is_as_first all)
    (λ p k. first_from all p (first_of all p.name) refl (false_from_not _ k)) all h)
