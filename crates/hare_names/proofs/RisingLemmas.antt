-- Meanings in the order of their places.
use Rattle.std.proofs.Common.{◌≡◌, ◌⊎◌, inl, inr, ℕ, zero, suc, ◌+◌, ◌<◌, ◌≤◌, List, [], ◌∷◌, ◌++◌, Bool, true, false, cond, ◌&&◌, ◌||◌, ◌==◌, nat_lt, map, length, get_or, Option, Some, None, is_some, refl, sym, ap, ◌∙◌, true≢false, append-nil, append_assoc, arith}
use Rattle.std.proofs.lemmas.Bool.{and_parts, eqb-true, eq-eqb, ltb-true, ltb-false, lt-ltb, cases_lt}
use Rattle.std.proofs.lemmas.List.{get_or_default}
use Rattle.std.proofs.lemmas.List.Quantifiers.{all_pairs_push}
use Rattle.std.specs.Option.{option_or}
use Rattle.hare_tree.specs.declared.place.Place.{Place}
use Rattle.hare_tree.specs.declared.token.Meaning.{Meaning}
use Rattle.hare_lex.specs.Order.{is_before}
use Rattle.hare_modules.specs.Order.{same_place}
use Rattle.hare_names.specs.declared.rising.Met.{Met}
use Rattle.hare_names.specs.Keys.{met_of, rising_at, IsRising, AreBefore}
use Rattle.hare_names.specs.Tables.{meaning_at, put}
use Rattle.hare_names.proofs.ListedLemmas.{same-is, meaning-append}

-- ---- places

-- one place stands before another, part by part
abbrev Before : Place → Place → Type 0
Before p q = (p.file < q.file) ⊎ ((p.file ≡ q.file) × ((p.line < q.line) ⊎ ((p.line ≡ q.line) × (p.column < q.column))))

or-cases : (a b : Bool) → (a || b) ≡ true → (a ≡ true) ⊎ (b ≡ true)
or-cases true b h = inl refl
or-cases false b h = inr h

or-left : (a b : Bool) → a ≡ true → (a || b) ≡ true
or-left true b e = refl
or-left false b e = absurd cc

or-right : (a b : Bool) → b ≡ true → (a || b) ≡ true
or-right true b e = refl
or-right false b e = e

and-both : (a b : Bool) → a ≡ true → b ≡ true → (a && b) ≡ true
and-both true b e f = f
and-both false b e f = absurd cc

before-parts : (p q : Place) → is_before p q ≡ true → Before p q
before-parts p q h = by-file (or-cases (nat_lt p.file q.file) _ h)
  where
    by-line : p.file ≡ q.file → (nat_lt p.line q.line ≡ true) ⊎ ((p.line == q.line && nat_lt p.column q.column) ≡ true) → Before p q
    by-line e (inl k) = inr (e, inl (ltb-true p.line q.line k))
    by-line e (inr k) =
        let g = and_parts (p.line == q.line) (nat_lt p.column q.column) k in
        inr (e, inr (eqb-true p.line q.line g.0, ltb-true p.column q.column g.1))

    by-file : (nat_lt p.file q.file ≡ true) ⊎ ((p.file == q.file &&
        (nat_lt p.line q.line || (p.line == q.line && nat_lt p.column q.column))) ≡ true) →
        Before p q
    by-file (inl k) = inl (ltb-true p.file q.file k)
    by-file (inr k) =
        let g = and_parts (p.file == q.file) _ k in
        by-line (eqb-true p.file q.file g.0) (or-cases (nat_lt p.line q.line) _ g.1)

before-made : (p q : Place) → Before p q → is_before p q ≡ true
before-made p q (inl l) = or-left (nat_lt p.file q.file) _ (lt-ltb p.file q.file l)
before-made p q (inr (e, inl l)) =
    or-right (nat_lt p.file q.file) _ (and-both (p.file == q.file) _ (eq-eqb p.file q.file e)
    (or-left (nat_lt p.line q.line) _ (lt-ltb p.line q.line l)))
before-made p q (inr (e, inr (f, l))) =
    or-right (nat_lt p.file q.file) _ (and-both (p.file == q.file) _ (eq-eqb p.file q.file e)
    (or-right (nat_lt p.line q.line) _ (and-both (p.line == q.line) _ (eq-eqb p.line q.line f) (lt-ltb p.column q.column l))))

chain : (p q r : Place) → Before p q → Before q r → Before p r
chain p q r (inl a) (inl b) = inl (omega arith)
chain p q r (inl a) (inr (f, b)) = inl (omega arith)
chain p q r (inr (e, a)) (inl b) = inl (omega arith)
chain p q r (inr (e, inl a)) (inr (f, inl b)) = inr (e ∙ f, inl (omega arith))
chain p q r (inr (e, inl a)) (inr (f, inr (g, b))) = inr (e ∙ f, inl (omega arith))
chain p q r (inr (e, inr (g, a))) (inr (f, inl b)) = inr (e ∙ f, inl (omega arith))
chain p q r (inr (e, inr (g, a))) (inr (f, inr (h, b))) = inr (e ∙ f, inr (g ∙ h, omega arith))

before-chain : (p q r : Place) → is_before p q ≡ true → is_before q r ≡ true → is_before p r ≡ true
before-chain p q r h k = before-made p r (chain p q r (before-parts p q h) (before-parts q r k))

apart : (p q : Place) → Before p q → p ≡ q → ⊥
apart p q (inl l) e = let f : p.file ≡ q.file = ap (λ r. r.file) e in omega arith
apart p q (inr (g, inl l)) e = let f : p.line ≡ q.line = ap (λ r. r.line) e in omega arith
apart p q (inr (g, inr (h, l))) e = let f : p.column ≡ q.column = ap (λ r. r.column) e in omega arith

differs : (p q : Place) → (p ≡ q → ⊥) → same_place p q ≡ false
differs p q n = by (same_place p q) refl
  where
    by : (b : Bool) → same_place p q ≡ b → b ≡ false
    by false h = refl
    by true h = absurd (n (same-is p q h))

pub behind-differs : (p q : Place) → is_before q p ≡ true → same_place p q ≡ false
behind-differs p q h = differs p q (λ e. apart q p (before-parts q p h) (sym e))

pub before-differs : (p q : Place) → is_before p q ≡ true → same_place p q ≡ false
before-differs p q h = differs p q (apart p q (before-parts p q h))

at-least : (a b : ℕ) → (a < b → ⊥) → b ≤ a
at-least a b h = by (nat_lt a b) refl
  where
    by : (c : Bool) → nat_lt a b ≡ c → b ≤ a
    by true e = absurd (h (ltb-true a b e))
    by false e = ltb-false a b e

equal : (a b : ℕ) → (a < b → ⊥) → (b < a → ⊥) → a ≡ b
equal a b h k = let l = at-least a b h in let m = at-least b a k in omega arith

pub neither-same : (p q : Place) → is_before q p ≡ false → is_before p q ≡ false → same_place p q ≡ true
neither-same p q h k =
    and-both (p.file == q.file && p.line == q.line) (p.column == q.column)
    (and-both (p.file == q.file) (p.line == q.line) (eq-eqb p.file q.file file) (eq-eqb p.line q.line line))
    (eq-eqb p.column q.column column)
  where
    no : Before p q → ⊥
    no b = true≢false (sym (before-made p q b) ∙ k)

    nor : Before q p → ⊥
    nor b = true≢false (sym (before-made q p b) ∙ h)

    file : p.file ≡ q.file
    file = equal p.file q.file (λ l. no (inl l)) (λ l. nor (inl l))

    line : p.line ≡ q.line
    line = equal p.line q.line (λ l. no (inr (file, inl l))) (λ l. nor (inr (sym file, inl l)))

    column : p.column ≡ q.column
    column = equal p.column q.column (λ l. no (inr (file, inr (line, l)))) (λ l. nor (inr (sym file, inr (sym line, l))))

-- ---- looking a place up

pub absent : (p : Place) (ms : List Met) → ((k : ℕ) (d : Met) → k < length ms → same_place p (get_or ms k d).place ≡ false) →
    rising_at p ms ≡ None
absent p [] h = refl
absent p (m ∷ ms) h =
    ap (λ b. cond b (Some m.meaning) (rising_at p ms)) (h 0 m (omega arith)) ∙ absent p ms (λ k d l. h (suc k) d (omega arith))

pub present : (p : Place) (ms : List Met) (i : ℕ) (m : Met) → i < length ms → get_or ms i m ≡ m → same_place p m.place ≡ true →
    ((k : ℕ) → k < i → same_place p (get_or ms k m).place ≡ false) → rising_at p ms ≡ Some m.meaning
present p [] i m l e s h = absurd (omega arith)
present p (n ∷ ms) zero m l e s h =
    ap (λ x. cond (same_place p x.place) (Some x.meaning) (rising_at p ms)) e ∙ ap (λ b. cond b (Some m.meaning) (rising_at p ms)) s
present p (n ∷ ms) (suc i) m l e s h =
    ap (λ b. cond b (Some n.meaning) (rising_at p ms)) (h 0 (omega arith))
    ∙ present p ms i m (omega arith) e s (λ k b. h (suc k) (omega arith))

-- what is left of a search: those in front stand before the place, and those behind it behind
pub record Searching (p : Place) (ms : List Met) (low high : ℕ) : Type 0 where
  pub within : high ≤ length ms
  pub front : (k : ℕ) (d : Met) → k < low → is_before (get_or ms k d).place p ≡ true
  pub behind : (k : ℕ) (d : Met) → high ≤ k → k < length ms → is_before p (get_or ms k d).place ≡ true

pub searching-start : (p : Place) (ms : List Met) (high : ℕ) → high ≡ length ms → Searching p ms 0 high
searching-start p ms high e = record {
  within = omega (arith, e);
  front = λ k d l. absurd (omega (arith, l));
  behind = λ k d l b. absurd (omega (arith, e, l, b));
}

-- what stands before a place that is before another
all-before : (p : Place) (ms : List Met) (i : ℕ) (e : Met) → IsRising ms → i < length ms → is_before (get_or ms i e).place p ≡ true →
    (k : ℕ) (d : Met) → k < i + 1 → is_before (get_or ms k d).place p ≡ true
all-before p ms i e r l b k d m = by (cases_lt k i)
  where
    here : is_before (get_or ms i d).place p ≡ true
    here = ap (λ x. is_before x.place p) (get_or_default ms i d e l) ∙ b

    by : (k < i) ⊎ (i ≤ k) → is_before (get_or ms k d).place p ≡ true
    by (inl n) = before-chain (get_or ms k d).place (get_or ms i d).place p (r k i d n l) here
    by (inr n) = let same : k ≡ i = omega arith in ap (λ x. is_before (get_or ms x d).place p) same ∙ here

pub are-before : (p : Place) (ms : List Met) (i : ℕ) (e : Met) → IsRising ms → i < length ms → length ms ≤ i + 1 →
    is_before (get_or ms i e).place p ≡ true → AreBefore ms p
are-before p ms i e r l n b = λ k d m. all-before p ms i e r l b k d (omega arith)

pub searching-up : (p : Place) (ms : List Met) (low high i : ℕ) (e : Met) → IsRising ms → i < high →
    is_before (get_or ms i e).place p ≡ true → Searching p ms low high → Searching p ms (i + 1) high
searching-up p ms low high i e r l b w = record {
  within = w.within;
  front = all-before p ms i e r (let n = w.within in omega arith) b;
  behind = w.behind;
}

pub searching-down : (p : Place) (ms : List Met) (low high i : ℕ) (e : Met) → IsRising ms → i < high →
    is_before p (get_or ms i e).place ≡ true → Searching p ms low high → Searching p ms low i
searching-down p ms low high i e r l b w = record { within = let n = w.within in omega arith; front = w.front; behind = behind }
  where
    within : i < length ms
    within = let n = w.within in omega arith

    here : (d : Met) → is_before p (get_or ms i d).place ≡ true
    here d = ap (λ x. is_before p x.place) (get_or_default ms i d e within) ∙ b

    behind : (k : ℕ) (d : Met) → i ≤ k → k < length ms → is_before p (get_or ms k d).place ≡ true
    behind k d m o = by (cases_lt i k)
      where
        by : (i < k) ⊎ (k ≤ i) → is_before p (get_or ms k d).place ≡ true
        by (inl n) = before-chain p (get_or ms i d).place (get_or ms k d).place (here d) (r i k d n o)
        by (inr n) = let same : k ≡ i = omega arith in ap (λ x. is_before p (get_or ms x d).place) same ∙ here d

pub searching-none : (p : Place) (ms : List Met) (low high : ℕ) → high ≤ low → Searching p ms low high → rising_at p ms ≡ None
searching-none p ms low high l w = absent p ms out
  where
    out : (k : ℕ) (d : Met) → k < length ms → same_place p (get_or ms k d).place ≡ false
    out k d b = by (cases_lt k low)
      where
        by : (k < low) ⊎ (low ≤ k) → same_place p (get_or ms k d).place ≡ false
        by (inl e) = behind-differs p (get_or ms k d).place (w.front k d e)
        by (inr e) = before-differs p (get_or ms k d).place (w.behind k d (omega arith) b)

pub searching-there : (p : Place) (ms : List Met) (low high i : ℕ) (e : Met) → IsRising ms → i < high →
    is_before (get_or ms i e).place p ≡ false → is_before p (get_or ms i e).place ≡ false → Searching p ms low high →
    rising_at p ms ≡ Some (get_or ms i e).meaning
searching-there p ms low high i e r l f g w = present p ms i m within at same front
  where
    m : Met
    m = get_or ms i e

    within : i < length ms
    within = let n = w.within in omega arith

    at : get_or ms i m ≡ m
    at = get_or_default ms i m e within

    same : same_place p m.place ≡ true
    same = neither-same p m.place f g

    front : (k : ℕ) → k < i → same_place p (get_or ms k m).place ≡ false
    front k b = behind-differs p (get_or ms k m).place
        (ap (is_before (get_or ms k m).place) (same-is p m.place same ∙ sym (ap (λ x. x.place) at)) ∙ r k i m b within)

-- ---- putting

-- a place behind all is pushed
pub pushed : (p : Place) (m : Meaning) (ms ns : List Met) (n : Met) (os os' now : List (Place × Meaning)) → map met_of ms ++ os ≡ now →
    os ≡ [] → os' ≡ os → met_of n ≡ (p, m) → ns ≡ ms ++ n ∷ [] → AreBefore ms p → map met_of ns ++ os' ≡ put now p m
pushed p m ms ns n os os' now v e k w g b =
    ap (λ xs. map met_of xs ++ os') g ∙ ap (λ xs. map met_of (ms ++ n ∷ []) ++ xs) (k ∙ e)
    ∙ append-nil (map met_of (ms ++ n ∷ [])) ∙ one ms ∙ ap (λ x. map met_of ms ++ x ∷ []) w
    ∙ sym (ap (λ o. cond (is_some o) (map met_of ms) (map met_of ms ++ (p, m) ∷ [])) nowhere)
    ∙ ap (λ es. put es p m) (sym (append-nil (map met_of ms)) ∙ ap (λ xs. map met_of ms ++ xs) (sym e) ∙ v)
  where
    nowhere : rising_at p ms ≡ None
    nowhere = absent p ms (λ k d l. behind-differs p (get_or ms k d).place (b k d l))

    one : (xs : List Met) → map met_of (xs ++ n ∷ []) ≡ map met_of xs ++ met_of n ∷ []
    one [] = refl
    one (x ∷ xs) = ap (λ ys. met_of x ∷ ys) (one xs)

pub rising-push : (ms : List Met) (n : Met) → IsRising ms → AreBefore ms n.place → IsRising (ms ++ n ∷ [])
rising-push ms n r b = all_pairs_push (λ x y. is_before x.place y.place ≡ true) ms n r b

-- a place that has a meaning in the list keeps it
pub kept : (p : Place) (m : Meaning) (ms : List Met) (os now : List (Place × Meaning)) → map met_of ms ++ os ≡ now →
    is_some (rising_at p ms) ≡ true → map met_of ms ++ os ≡ put now p m
kept p m ms os now v h =
    v ∙ sym (ap (λ b. cond b now (now ++ (p, m) ∷ []))
    (ap (λ es. is_some (meaning_at p es)) (sym v) ∙ ap is_some (meaning-append p (map met_of ms) os) ∙ by (rising_at p ms) h))
  where
    by : (o : Option Meaning) → is_some o ≡ true → is_some (option_or o (meaning_at p os)) ≡ true
    by (Some x) e = refl
    by None e = absurd cc

-- else it is put into the table
pub put-behind : (p : Place) (m : Meaning) (ms : List Met) (os os' now : List (Place × Meaning)) → map met_of ms ++ os ≡ now →
    is_some (rising_at p ms) ≡ false → os' ≡ put os p m → map met_of ms ++ os' ≡ put now p m
put-behind p m ms os os' now v h k =
    ap (λ xs. map met_of ms ++ xs) k ∙ by (is_some (meaning_at p os))
    ∙ sym (ap (λ b. cond b (map met_of ms ++ os) ((map met_of ms ++ os) ++ (p, m) ∷ [])) same) ∙ ap (λ es. put es p m) v
  where
    at : (o : Option Meaning) → is_some o ≡ false → is_some (option_or o (meaning_at p os)) ≡ is_some (meaning_at p os)
    at None e = refl
    at (Some x) e = absurd cc

    same : is_some (meaning_at p (map met_of ms ++ os)) ≡ is_some (meaning_at p os)
    same = ap is_some (meaning-append p (map met_of ms) os) ∙ at (rising_at p ms) h

    by : (b : Bool) → map met_of ms ++ cond b os (os ++ (p, m) ∷ []) ≡ cond b (map met_of ms ++ os) ((map met_of ms ++ os) ++ (p, m) ∷ [])
    by true = refl
    by false = sym (append_assoc (map met_of ms) os ((p, m) ∷ []))

-- ---- what is found

pub found-there : (p : Place) (ms : List Met) (os now : List (Place × Meaning)) (m : Meaning) → map met_of ms ++ os ≡ now →
    rising_at p ms ≡ Some m → Some m ≡ meaning_at p now
found-there p ms os now m v h =
    sym (ap (λ o. option_or o (meaning_at p os)) h) ∙ sym (meaning-append p (map met_of ms) os) ∙ ap (meaning_at p) v

pub found-behind : (p : Place) (ms : List Met) (os now : List (Place × Meaning)) → map met_of ms ++ os ≡ now → rising_at p ms ≡ None →
    meaning_at p os ≡ meaning_at p now
found-behind p ms os now v h =
    sym (ap (λ o. option_or o (meaning_at p os)) h) ∙ sym (meaning-append p (map met_of ms) os) ∙ ap (meaning_at p) v
