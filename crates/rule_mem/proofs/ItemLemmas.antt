-- What tuples and arrays ask of their items, and where these go.
use Rattle.std.proofs.Common.{◌≡◌, ℕ, zero, suc, ◌+◌, ◌-◌, ◌<◌, ◌≤◌, Bool, true, false, not, ◌&&◌, cond, nat_lt, ◌≢◌, List, [], ◌∷◌, length, take, drop, Option, Some, None, is_some, nat_eq, refl, ap, ap₂, sym, ◌∙◌, arith, length-take, length-drop}
use Rattle.std.specs.Prelude.{◌==◌, slice_get, is_none, find, option_and_then}
use Rattle.std.specs.Cmp.{unsigned_Decides}
use Rattle.std.proofs.lemmas.Bool.{lt-ltb, le-ltb}
use Rattle.hare_types.specs.declared.coercion.Ty.{Ty}
use Rattle.hare_types.specs.declared.coercion.Ty.TheVariants as ty
use Rattle.hare_types.specs.declared.row.Row.TheVariants as row
use Rattle.hare_types.specs.Store.{Store}
use Rattle.hare_types.specs.Unions.{id_of}
use Rattle.hare_typed.specs.Typed.{TypedNode, typed_nodes}
use Rattle.hare_typed.specs.Erased.{erase_each}
use Rattle.hare_typed.specs.Order.{tree_from_front}
use Rattle.hare_rules.specs.declared.hint.Hint.{Hint}
use Rattle.hare_rules.specs.Above.{hint_to, count_of, component_at, component_hint, item_hint_by}
use Rattle.hare_rules.specs.Aggregates.{but_last, as_many, hinted_components, lacks_default, unless_default}
use Rattle.hare_rules.specs.Context.{Setting, own_type}
use Rattle.hare_rules.specs.Judged.{is_type_hint}
use Rattle.hare_rules.specs.Settles.{only_where}
use Rattle.hare_rules.specs.Words.{has_default, default_in, typed_as}
use Rattle.rule_mem.proofs.FillLemmas.{length-but_last}
use Rattle.rule_mem.proofs.HintedLemmas.{hint_to-asks}
use Rattle.rule_mem.proofs.ListLemmas.{find-passed, find-here, find-end}
use Rattle.rule_mem.proofs.TupleLemmas.{slice_get-front}

-- ---- items of a tuple that have no default

-- the first of those that are left
pub lacking-here : (xs : List TypedNode) (i : ℕ) (a : Ty) (b : Bool) (all : Option TypedNode) → i < length xs - 1 →
    a ≡ own_type (tree_from_front i xs)
    → b ≡ has_default a → b ≡ false → find lacks_default (but_last (drop i xs)) ≡ all → b ≡ is_none all
lacking-here xs i a b all h e k m g =
    m
    ∙ ap is_none
    (find-here lacks_default xs i (tree_from_front i xs) all (slice_get-front xs i (omega arith)) h
    (ap not (ap has_default (sym e) ∙ sym k ∙ m)) g)

-- it has one
pub lacking-passed : (xs : List TypedNode) (i : ℕ) (a : Ty) (b : Bool) (all : Option TypedNode) → i < length xs - 1 →
    a ≡ own_type (tree_from_front i xs)
    → b ≡ has_default a → b ≡ true → find lacks_default (but_last (drop i xs)) ≡ all → find lacks_default (but_last (drop (i + 1) xs)) ≡ all
lacking-passed xs i a b all h e k m g =
    find-passed lacks_default xs i (tree_from_front i xs) all (slice_get-front xs i (omega arith)) h
    (ap not (ap has_default (sym e) ∙ sym k ∙ m)) g

-- all have one
pub lacking-end : (xs : List TypedNode) (i : ℕ) (all : Option TypedNode) → length xs - 1 ≤ i →
    find lacks_default (but_last (drop i xs)) ≡ all → true ≡ is_none all
lacking-end xs i all h g = ap is_none (find-end lacks_default xs i all h g)

-- a hint gives all types
pub met-hinted : (f : Store) (h : Hint) (n m : ℕ) (ts : List ℕ) (o : Option TypedNode) → Some ts ≡ hinted_components f h n → n ≡ m
    → true ≡ is_none (cond (is_some (hinted_components f h m)) None o)
met-hinted f h n m ts o e k = ap (λ p. is_none (cond (is_some p) None o)) (e ∙ ap (hinted_components f h) k)

-- the items give them
pub met-own : (f : Store) (h : Hint) (n m : ℕ) (b : Bool) (o : Option TypedNode) → None ≡ hinted_components f h n → n ≡ m → b ≡ is_none o
    → b ≡ is_none (cond (is_some (hinted_components f h m)) None o)
met-own f h n m b o e k g = g ∙ ap (λ p. is_none (cond (is_some p) None o)) (e ∙ ap (hinted_components f h) k)

pub tuple_typed : (f : Store) (o : Option (List ℕ)) (ts : List ℕ) (u : ℕ) → o ≡ Some ts → id_of f (row.Tuple ts) ≡ Some u
    → typed_as (option_and_then (λ us. id_of f (row.Tuple us)) o) ≡ typed_as (Some u)
tuple_typed f o ts u e k = ap (λ p. typed_as (option_and_then (λ us. id_of f (row.Tuple us)) p)) e ∙ ap typed_as k

-- ---- what a tuple asks

count_of-erase_each : (xs : List TypedNode) → count_of (erase_each (typed_nodes xs)) ≡ length xs
count_of-erase_each [] = refl
count_of-erase_each (x ∷ xs) = ap suc (count_of-erase_each xs)

length-behind : (xs : List TypedNode) (i : ℕ) → count_of (erase_each (typed_nodes (drop (suc i) xs))) ≡ length xs - suc i
length-behind xs i = count_of-erase_each (drop (suc i) xs) ∙ length-drop (suc i) xs

within : (ts : List ℕ) (i : ℕ) → i < length ts → is_some (slice_get ts i) ≡ true
within [] i h = absurd (omega arith)
within (t ∷ ts) zero h = refl
within (t ∷ ts) (suc i) h = within ts i (omega arith)

past : (ts : List ℕ) (i : ℕ) → length ts ≤ i → is_some (slice_get ts i) ≡ false
past [] i h = refl
past (t ∷ ts) zero h = absurd (omega arith)
past (t ∷ ts) (suc i) h = past ts i (omega arith)

component_there : (o : Option (List ℕ)) (n i : ℕ) → i < n → is_some (component_at (as_many n o) i) ≡ is_some (as_many n o)
component_there None n i h = refl
component_there (Some ts) n i h = by (length ts == n) refl
  where
    by : (b : Bool) → (length ts == n) ≡ b → is_some (component_at (cond b (Some ts) None) i) ≡ is_some (cond b (Some ts) None)
    by true e = within ts i (omega (arith, (unsigned_Decides (length ts) n).0 e))
    by false e = refl

component_past : (o : Option (List ℕ)) (n i : ℕ) → n ≤ i → is_some (component_at (as_many n o) i) ≡ false
component_past None n i h = refl
component_past (Some ts) n i h = by (length ts == n) refl
  where
    by : (b : Bool) → (length ts == n) ≡ b → is_some (component_at (cond b (Some ts) None) i) ≡ false
    by true e = past ts i (omega (arith, (unsigned_Decides (length ts) n).0 e))
    by false e = refl

-- an item is asked where a hint gives the components
pub component_asked : (w : Setting) (own : Hint) (xs : List TypedNode) (i : ℕ) → i < length (but_last xs)
    → is_some (hinted_components w.store own (length (but_last xs)))
    ≡ is_type_hint (component_hint w own (length (take i xs) + suc (count_of (erase_each (typed_nodes (drop (suc i) xs)))))
    (length (take i xs)))
component_asked w own xs i h =
    let all = length-but_last xs in
    let before = length-take i xs in
    let behind = length-behind xs i in
    let place : i ≡ length (take i xs) = omega arith in
    let count : length (but_last xs) ≡ (length (take i xs) + suc (count_of (erase_each (typed_nodes (drop (suc i) xs))))) - 1 =
    omega arith in
    sym (component_there _ (length (but_last xs)) i h)
    ∙ ap₂ (λ (n j : ℕ). is_some (component_at (hinted_components w.store own n) j)) count place ∙ sym (hint_to-asks _)

-- nothing is asked of what stands behind the items
pub component_unasked : (w : Setting) (own : Hint) (xs : List TypedNode) (i : ℕ) → length (but_last xs) ≤ i
    → false ≡ is_type_hint (component_hint w own (length (take i xs) + suc (count_of (erase_each (typed_nodes (drop (suc i) xs)))))
    (length (take i xs)))
component_unasked w own xs i h =
    let all = length-but_last xs in
    let before = length-take i xs in
    let behind = length-behind xs i in
    let few : (length (take i xs) + suc (count_of (erase_each (typed_nodes (drop (suc i) xs))))) - 1 ≤ length (take i xs) = omega arith in
    sym (component_past _ _ (length (take i xs)) few) ∙ sym (hint_to-asks _)

-- ---- what an array asks

pub element_asked : (w : Setting) (o : Option ℕ) (xs : List TypedNode) → is_some o ≡ true → true ≡ is_type_hint (item_hint_by w o xs)
element_asked w None xs e = absurd cc
element_asked w (Some t) xs e = refl

-- nothing is asked of the first item where no hint gives the element
pub first_unasked : (w : Setting) (o : Option ℕ) (xs : List TypedNode) → is_some o ≡ false → length xs ≡ 0 →
    false ≡ is_type_hint (item_hint_by w o xs)
first_unasked w (Some t) xs e h = cc
first_unasked w None [] e h = refl
first_unasked w None (x ∷ xs) e h = absurd (omega (arith, h))

-- each later one is asked for the default of the first
pub later_item_asked : (w : Setting) (o : Option ℕ) (xs : List TypedNode) (i : ℕ) → is_some o ≡ false → (length (take i xs) ≡ 0 → ⊥)
    → is_some (default_in w.store (own_type (tree_from_front 0 xs))) ≡ is_type_hint (item_hint_by w o (take i xs))
later_item_asked w (Some t) xs i e k = cc
later_item_asked w None [] zero e k = absurd (k refl)
later_item_asked w None [] (suc i) e k = absurd (k refl)
later_item_asked w None (x ∷ xs) zero e k = absurd (k refl)
later_item_asked w None (x ∷ xs) (suc i) e k = sym (hint_to-asks (default_in w.store (own_type x)))

-- ---- where they go

-- the items of a tuple stay where a hint gives the components
pub component_stays : (h : Bool) (i n : ℕ) (o : Option ℕ) → h ≡ true → None ≡ only_where (not h && nat_lt i n) o
component_stays h i n o e = ap (λ b. only_where (not b && nat_lt i n) o) (sym e)

-- so does what stands behind them
pub behind_stays : (h : Bool) (i n : ℕ) (o : Option ℕ) → n ≤ i → None ≡ only_where (not h && nat_lt i n) o
behind_stays true i n o e = refl
behind_stays false i n o e = ap (λ b. only_where b o) (sym (le-ltb i n e))

-- else an item goes to its default
pub component_goes : (h : Bool) (i n : ℕ) (o d : Option ℕ) → h ≡ false → i < n → d ≡ o → d ≡ only_where (not h && nat_lt i n) o
component_goes h i n o d e l k = k ∙ ap₂ (λ (a b : Bool). only_where (not a && b) o) (sym e) (sym (lt-ltb i n l))

-- of an array only the first item goes
pub later_stays : (i n : ℕ) (o : Option ℕ) (d : Option ℕ) → i ≢ 0 → None ≡ only_where ((nat_eq i 0 && nat_lt 0 n) && is_none o) d
later_stays zero n o d h = absurd (h refl)
later_stays (suc i) n o d h = by (nat_eq (suc i) 0) refl
  where
    by : (b : Bool) → nat_eq (suc i) 0 ≡ b → None ≡ only_where ((b && nat_lt 0 n) && is_none o) d
    by true e = absurd (h ((unsigned_Decides (suc i) 0).0 e))
    by false e = refl

-- and only where there is one
pub none_stays : (i n : ℕ) (o : Option ℕ) (d : Option ℕ) → n ≡ 0 → None ≡ only_where ((nat_eq i 0 && nat_lt 0 n) && is_none o) d
none_stays i n o d e = by (nat_eq i 0) ∙ ap (λ m. only_where ((nat_eq i 0 && nat_lt 0 m) && is_none o) d) (sym e)
  where
    by : (b : Bool) → None ≡ only_where ((b && nat_lt 0 0) && is_none o) d
    by true = refl
    by false = refl

-- and no hint gives the element
pub element_stays : (b c : Bool) (o : Option ℕ) (d : Option ℕ) → is_some o ≡ true → None ≡ only_where ((b && c) && is_none o) d
element_stays true true None d e = cc
element_stays true true (Some t) d e = refl
element_stays false c o d e = refl
element_stays true false o d e = refl

-- it goes to its default
pub first_goes : (i n : ℕ) (o : Option ℕ) (d g : Option ℕ) → i ≡ 0 → 0 < n → is_some o ≡ false → g ≡ d →
    g ≡ only_where ((nat_eq i 0 && nat_lt 0 n) && is_none o) d
first_goes i n (Some t) d g e l h k = cc
first_goes i n None d g e l h k = k ∙ ap₂ (λ (a b : Bool). only_where ((a && b) && true) d) (sym ((unsigned_Decides i 0).1 e))
    (sym (lt-ltb 0 n l))

-- ---- the element of an array

some_length : (n : ℕ) → 0 < n → (n == 0) ≡ false
some_length n h = by (n == 0) refl
  where
    by : (b : Bool) → (n == 0) ≡ b → b ≡ false
    by true e = let none : n ≡ 0 = (unsigned_Decides n 0).0 e in absurd (omega arith)
    by false e = refl

-- it is the default of the first item
pub element_own : (h : Option ℕ) (n : ℕ) (b d : Bool) → None ≡ h → 0 < n → d ≡ b → d ≡ (not (is_none h && (n == 0)) && b)
element_own h n b d e k g = g ∙ ap₂ (λ (p : Option ℕ) (z : Bool). not (is_none p && z) && b) e (sym (some_length n k))

pub array_typed : (f : Store) (b : Bool) (o : Option ℕ) (n m t u : ℕ) → b ≡ false → n ≡ m → o ≡ Some t → id_of f (row.Array n t) ≡ Some u
    → cond b (Some ty.Empty) (typed_as (option_and_then (λ e. id_of f (row.Array m e)) o)) ≡ Some (ty.Of u)
array_typed f b o n m t u h e k g =
    ap (λ c. cond c (Some ty.Empty) (typed_as (option_and_then (λ x. id_of f (row.Array m x)) o))) h
    ∙ ap₂ (λ (l : ℕ) (p : Option ℕ). typed_as (option_and_then (λ x. id_of f (row.Array l x)) p)) (sym e) k ∙ ap typed_as g

pub empty_typed : (b : Bool) (o : Option Ty) → b ≡ true → cond b (Some ty.Empty) o ≡ Some ty.Empty
empty_typed b o e = ap (λ c. cond c (Some ty.Empty) o) e
