-- Which fields the values of a struct literal fill.
use Rattle.std.proofs.Common.{◌≡◌, ◌≢◌, ℕ, zero, suc, ◌+◌, ◌-◌, ◌<◌, ◌≤◌, ◌&&◌, Bool, true, false, not, cond, List, [], ◌∷◌, length, map, drop, filter, Option, Some, None, is_some, nat_eq, refl, ap, ap₂, sym, ◌∙◌, subst, arith, add-one, length-drop}
use Rattle.std.specs.Prelude.{◌==◌, ◌↔◌, slice_get, Contains, option_and_then, if◌then◌else◌}
use Rattle.std.specs.List.{list_all}
use Rattle.std.specs.Cmp.{unsigned_Decides}
use Rattle.hare_types.specs.declared.lists.Field.{Field}
use Rattle.hare_types.specs.Store.{Store}
use Rattle.hare_types.specs.Sound.{IsStore}
use Rattle.hare_types.specs.Later.{IsLater}
use Rattle.hare_typed.specs.Typed.{TypedNode}
use Rattle.hare_rules.specs.Context.{text_of}
use Rattle.hare_rules.specs.Aggregates.{name_number, is_named_by, but_last, each_once, fill}
use Rattle.hare_types.specs.Rows.{NamesBelow}
use Rattle.rule_mem.specs.Filled.{spells, values_of, times_named}
use Rattle.rule_mem.proofs.SpellingLemmas.{name_tells, name_stays, name_new}

-- ---- the list without its last

pub length-but_last : {A : Type 0} (xs : List A) → length (but_last xs) ≡ length xs - 1
length-but_last [] = refl
length-but_last (x ∷ []) = refl
length-but_last (x ∷ y ∷ ys) = let h = length-but_last (y ∷ ys) in omega arith

but_last-drop-suc : {A : Type 0} (xs : List A) (i : ℕ) (x : A) → slice_get xs i ≡ Some x → suc i < length xs →
    but_last (drop i xs) ≡ x ∷ but_last (drop (suc i) xs)
but_last-drop-suc [] i x e h = absurd (omega arith)
but_last-drop-suc (y ∷ []) zero x e h = absurd (omega arith)
but_last-drop-suc (y ∷ z ∷ zs) zero x e h = let same : y ≡ x = cc in ap (λ w. w ∷ but_last (z ∷ zs)) same
but_last-drop-suc (y ∷ ys) (suc i) x e h = but_last-drop-suc ys i x e (omega arith)

-- the first of those that are left, where it is not the last
pub but_last-drop : {A : Type 0} (xs : List A) (i : ℕ) (x : A) → slice_get xs i ≡ Some x → i < length xs - 1 →
    but_last (drop i xs) ≡ x ∷ but_last (drop (i + 1) xs)
but_last-drop xs i x e h = rw add-one (but_last-drop-suc xs i x e (omega arith))

few-but_last : {A : Type 0} (xs : List A) → length xs ≤ 1 → but_last xs ≡ []
few-but_last [] h = refl
few-but_last (x ∷ []) h = refl
few-but_last (x ∷ y ∷ ys) h = absurd (omega arith)

length-drop_few : {A : Type 0} (xs : List A) (i : ℕ) → length xs ≤ suc i → length (drop i xs) ≤ 1
length-drop_few xs i h = omega (arith, length-drop i xs)

-- of the last nothing is left
pub but_last-end : {A : Type 0} (xs : List A) (i : ℕ) → length xs - 1 ≤ i → but_last (drop i xs) ≡ []
but_last-end xs i h = few-but_last (drop i xs) (length-drop_few xs i (omega arith))

-- ---- counting

pub times_named-first : (s : Store) (n : ℕ) (x : TypedNode) (xs : List TypedNode) →
    times_named s n (x ∷ xs) ≡ (if spells s n (text_of x) then 1 else 0) + times_named s n xs
times_named-first s n x xs = by (spells s n (text_of x))
  where
    by : (b : Bool) → length (cond b (x ∷ filter (is_named_by s n) xs) (filter (is_named_by s n) xs)) ≡
        (if b then 1 else 0) + times_named s n xs
    by true = omega arith
    by false = omega arith

-- a name spells itself, and no other
pub spells-some : (s : Store) (v : IsStore s) (text : List ℕ) (m n : ℕ) → slice_get s.names m ≡ Some text → spells s n text ≡ nat_eq m n
spells-some s v text m n e = ap (λ o. is_some (option_and_then (λ k. cond (nat_eq k n) (Some k) None) o)) ((name_tells s v text m).1 e) ∙ by
    (nat_eq m n)
  where
    by : (b : Bool) → is_some (cond b (Some m) None) ≡ b
    by true = refl
    by false = refl

name_number-none : (s : Store) (v : IsStore s) (text : List ℕ) → ((n : ℕ) → slice_get s.names n ≢ Some text) → name_number s text ≡ None
name_number-none s v text h = by (name_number s text) refl
  where
    by : (o : Option ℕ) → name_number s text ≡ o → name_number s text ≡ None
    by None e = e
    by (Some m) e = absurd (h m ((name_tells s v text m).0 e))

pub spells-none : (s : Store) (v : IsStore s) (text : List ℕ) (n : ℕ) → ((m : ℕ) → slice_get s.names m ≢ Some text) →
    spells s n text ≡ false
spells-none s v text n h = ap (λ o. is_some (option_and_then (λ k. cond (nat_eq k n) (Some k) None) o)) (name_number-none s v text h)

-- one value more is counted
pub counted-more : (s : Store) (kids : List TypedNode) (i n : ℕ) (x : TypedNode) (old new all : ℕ) (text : List ℕ) →
    slice_get kids i ≡ Some x → i < length kids - 1
    → text ≡ text_of x
    → new ≡ old + (if spells s n text then 1 else 0)
    → old + times_named s n (but_last (drop i kids)) ≡ all
    → new + times_named s n (but_last (drop (i + 1) kids)) ≡ all
counted-more s kids i n x old new all text e h k m g =
    let step = ap (times_named s n) (but_last-drop kids i x e h) ∙ times_named-first s n x (but_last (drop (i + 1) kids)) in
    let word = ap {B = ℕ} (λ t. if spells s n t then 1 else 0) k in
    omega (arith, step, word)

-- at most one is counted
pub counted-few : (b : Bool) (old new i : ℕ) → new ≡ old + (if b then 1 else 0) → old < i → new < i + 1
counted-few true old new i e h = omega arith
counted-few false old new i e h = omega arith

-- all are counted
pub counted-all : (s : Store) (kids : List TypedNode) (i n : ℕ) (new all : ℕ) → length kids - 1 ≤ i
    → new + times_named s n (but_last (drop i kids)) ≡ all → new ≡ all
counted-all s kids i n new all h g =
    let none = ap (times_named s n) (but_last-end kids i h) in
    omega (arith, none)

-- ---- later stores

module _ (now later : Store) (v : IsStore now) (l : IsLater now later) where
  -- a name of the store is spelled by the same texts
  pub spells-stays : (n : ℕ) (text : List ℕ) → n < length now.names → spells later n text ≡ spells now n text
  spells-stays n text h = by (name_number now text) refl (name_number later text) refl
    where
      found : Option ℕ → Bool
      found o = is_some (option_and_then (λ k. cond (nat_eq k n) (Some k) None) o)

      behind : (m : ℕ) → length now.names ≤ m → (b : Bool) → nat_eq m n ≡ b → is_some (cond b (Some m) None) ≡ false
      behind m k true e = let same : m ≡ n = (unsigned_Decides m n).0 e in absurd (omega arith)
      behind m k false e = refl

      by : (o : Option ℕ) → name_number now text ≡ o → (p : Option ℕ) → name_number later text ≡ p → spells later n text ≡ spells now n text
      by (Some m) e p g =
          let there = name_stays now later l text m ((name_tells now v text m).0 e) in
          ap (λ o. is_some (option_and_then (λ k. cond (nat_eq k n) (Some k) None) o)) (there ∙ sym e)
      by None e None g = ap (λ o. is_some (option_and_then (λ k. cond (nat_eq k n) (Some k) None) o)) (g ∙ sym e)
      by None e (Some m) g =
          let absent : (j : ℕ) → slice_get now.names j ≢ Some text =
          λ j c. (let both : None ≡ Some j = sym e ∙ (name_tells now v text j).1 c in absurd cc) in
          ap (λ o. is_some (option_and_then (λ k. cond (nat_eq k n) (Some k) None) o)) g
          ∙ behind m (name_new now later l text absent m g) (nat_eq m n) refl
          ∙ sym (ap (λ o. is_some (option_and_then (λ k. cond (nat_eq k n) (Some k) None) o)) e)

  times_named-stays : (n : ℕ) (xs : List TypedNode) → n < length now.names → times_named later n xs ≡ times_named now n xs
  times_named-stays n [] h = refl
  times_named-stays n (x ∷ xs) h =
      let both = times_named-first later n x xs in
      let first = times_named-first now n x xs in
      let word = ap {B = ℕ} (λ b. if b then 1 else 0) (spells-stays n (text_of x) h) in
      let rest = times_named-stays n xs h in
      omega (arith, both, first, word, rest)

  -- each field is named once by what is counted
  pub each_once-counted : (counts : ℕ → ℕ) (xs : List TypedNode) (fs : List Field) → ((n : ℕ) → counts n ≡ times_named now n xs) →
      NamesBelow (length now.names) fs
      → list_all (λ f. counts f.name == 1) fs ≡ each_once later fs xs
  each_once-counted counts xs [] h k = refl
  each_once-counted counts xs (f ∷ fs) h k =
      ap₂ (λ n b. (n == 1) && b) (h f.name ∙ sym (times_named-stays f.name xs (k f (0, omega arith, refl))))
      (each_once-counted counts xs fs h (λ g c. k g (suc c.0, omega (arith, c.1), c.2)))

-- ---- all fields

values-length : (kids : List TypedNode) → length (values_of kids) ≡ length kids - 2
values-length [] = refl
values-length (x ∷ xs) = length-but_last xs ∙ omega arith

pub filled-not : (f : Store) (fs : List Field) (kids : List TypedNode) → length kids - 2 ≢ length fs →
    false ≡ fill f (Some fs) (values_of kids)
filled-not f fs kids h = by (length (values_of kids) == length fs) refl
  where
    by : (b : Bool) → (length (values_of kids) == length fs) ≡ b → false ≡ (b && each_once f fs (values_of kids))
    by true e = absurd (h (sym (values-length kids) ∙ (unsigned_Decides (length (values_of kids)) (length fs)).0 e))
    by false e = refl

pub filled-once : (f : Store) (fs : List Field) (kids : List TypedNode) (b : Bool) → length kids - 2 ≡ length fs →
    b ≡ each_once f fs (values_of kids)
    → b ≡ fill f (Some fs) (values_of kids)
filled-once f fs kids b h e = e ∙ ap (λ c. c && each_once f fs (values_of kids))
    (sym ((unsigned_Decides (length (values_of kids)) (length fs)).1 (values-length kids ∙ h)))
