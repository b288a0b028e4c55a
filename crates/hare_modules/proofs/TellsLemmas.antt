-- What tables tell of the names that were taken, name by name.
use Rattle.std.proofs.Common.{◌≡◌, ◌≢◌, ◌⊎◌, inl, inr, ℕ, ◌<◌, List, [], ◌∷◌, ◌++◌, Bool, true, false, cond, not, ◌&&◌, ◌||◌, ◌==◌, nat_lt, length, map, find, fold, set, bytes_eq, Option, Some, None, is_some, refl, sym, ap, ◌∙◌, subst, suc, zero, append_assoc, append-nil, true≢false, arith}
use Rattle.std.specs.Prelude.{Contains, option_and_then}
use Rattle.std.specs.List.{list_any, cons_option}
use Rattle.std.proofs.lemmas.Bool.{lt-ltb, eqb-true, eq-eqb}
use Rattle.std.proofs.Math.Dec.{eqb-zero-suc}
use Rattle.std.proofs.lemmas.List.{length-replicate, length-set, get_or-set_same, get_or-set_other}
use Rattle.std.proofs.lemmas.Slice.Eq.{bytes_eq-Decides}
use Rattle.std.proofs.lemmas.List.Elements.{Contains-push_cases}
use Rattle.hare_tree.specs.declared.place.Place.{Place}
use Rattle.hare_modules.specs.declared.imports.Imported.{Imported}
use Rattle.hare_modules.specs.declared.items.Entry.{Entry}
use Rattle.hare_modules.specs.declared.claims.Taker.{Taker}
use Rattle.hare_modules.specs.declared.claims.Taker.TheVariants as ta
use Rattle.hare_modules.specs.Order.{fault}
use Rattle.hare_modules.specs.Repeated.{repeated_behind}
use Rattle.hare_modules.specs.Entries.{built_in}
use Rattle.hare_modules.specs.Tables.{value_of, has, put}
use Rattle.hare_modules.specs.Takings.{Taking, is_import, clashes}
use Rattle.hare_modules.specs.Taken.{table_at, declared, imported, declares, imports_in, imports_at, declared_among, is_imported_among, imported_among, Tells, put_at, items_with, imported_with, imports_with, Tables, tables_with, is_taken, repeated_faults, empty_tables, first_tables, built_in_taking, built_in_takings}
use Rattle.hare_graph.proofs.Elements.{Contains-none, Contains-cases, Contains-here, Contains-behind, Other, other}

-- ---- one or else the other

abbrev pub or_else : {A : Type 0} → Option A → Option A → Option A
or_else None o = o
or_else (Some a) o = Some a

or_else-none : {A : Type 0} (o : Option A) → or_else o None ≡ o
or_else-none None = refl
or_else-none (Some a) = refl

is_some-or_else : {A : Type 0} (o p : Option A) → is_some (or_else o p) ≡ (is_some o || is_some p)
is_some-or_else None p = refl
is_some-or_else (Some a) p = refl

-- ---- tables

lookup-push : {T : Type 0} (x y : List ℕ) (v : T) (es : List (List ℕ × T)) →
    value_of x (es ++ (y, v) ∷ []) ≡ or_else (value_of x es) (cond (bytes_eq x y) (Some v) None)
lookup-push x y v [] = refl
lookup-push x y v (e ∷ es) = by (bytes_eq x e.0) (lookup-push x y v es)
  where
    by : (b : Bool) → value_of x (es ++ (y, v) ∷ []) ≡ or_else (value_of x es) (cond (bytes_eq x y) (Some v) None) →
        cond b (Some e.1) (value_of x (es ++ (y, v) ∷ [])) ≡ or_else (cond b (Some e.1) (value_of x es)) (cond (bytes_eq x y) (Some v) None)
    by true h = refl
    by false h = h

kept-value : {T : Type 0} (x y : List ℕ) (v : T) (es : List (List ℕ × T)) → has y es ≡ true →
    value_of x es ≡ or_else (value_of x es) (cond (bytes_eq x y) (Some v) None)
kept-value x y v es h = by (bytes_eq x y) refl (value_of x es) refl
  where
    by : (b : Bool) → bytes_eq x y ≡ b → (o : Option _) → value_of x es ≡ o → o ≡ or_else o (cond b (Some v) None)
    by false e o p = sym (or_else-none o)
    by true e (Some w) p = refl
    by true e None p =
        let same : x ≡ y = (bytes_eq-Decides x y).0 e in
        let none : has y es ≡ false = ap (λ z. has z es) (sym same) ∙ ap is_some p in
        absurd (true≢false (sym h ∙ none))

value-put : {T : Type 0} (x y : List ℕ) (v : T) (es : List (List ℕ × T)) →
    value_of x (put es y v) ≡ or_else (value_of x es) (cond (bytes_eq x y) (Some v) None)
value-put x y v es = by (has y es) refl
  where
    by : (b : Bool) → has y es ≡ b → value_of x (cond b es (es ++ (y, v) ∷ [])) ≡
        or_else (value_of x es) (cond (bytes_eq x y) (Some v) None)
    by true e = kept-value x y v es e
    by false e = lookup-push x y v es

-- what a table tells once a value was put into one
value-put_at : {T : Type 0} (ts : List (List (List ℕ × T))) (n m : ℕ) (x y : List ℕ) (v : T) → n < length ts →
    value_of x (table_at (put_at ts n y v) m) ≡ or_else (value_of x (table_at ts m)) (cond (n == m && bytes_eq x y) (Some v) None)
value-put_at {T} ts n m x y v l = ap (λ us. value_of x (table_at us m)) inside ∙ by (other m n)
  where
    new : List (List ℕ × T)
    new = put (table_at ts n) y v

    inside : put_at ts n y v ≡ set ts n new
    inside = ap (λ b. cond b (set ts n new) ts) (lt-ltb n (length ts) l)

    apart : m ≢ n → (n == m) ≡ false
    apart h = by-test (n == m) refl
      where
        by-test : (b : Bool) → (n == m) ≡ b → b ≡ false
        by-test false e = refl
        by-test true e = absurd (h (sym (eqb-true n m e)))

    by : Other m n → value_of x (table_at (set ts n new) m) ≡
        or_else (value_of x (table_at ts m)) (cond (n == m && bytes_eq x y) (Some v) None)
    by (inr h) = ap (value_of x) (get_or-set_other ts n m new [] h) ∙ sym (or_else-none (value_of x (table_at ts m))) ∙ ap
        (λ b. or_else (value_of x (table_at ts m)) (cond (b && bytes_eq x y) (Some v) None)) (sym (apart h))
    by (inl h) =
        subst (λ i. value_of x (table_at (set ts n new) i) ≡
        or_else (value_of x (table_at ts i)) (cond (n == i && bytes_eq x y) (Some v) None)) (sym h)
        (ap (value_of x) (get_or-set_same ts n new [] l) ∙ value-put x y v (table_at ts n) ∙ ap
        (λ b. or_else (value_of x (table_at ts n)) (cond (b && bytes_eq x y) (Some v) None)) (sym (eq-eqb n n refl)))

-- ---- what was taken

the-declared : (t : Taker) → not (is_import t) ≡ true → (e : Entry) × (declared t ≡ Some e)
the-declared (ta.Import i) h = absurd cc
the-declared (ta.Declaration e) h = (e, refl)

the-imported : (t : Taker) → is_import t ≡ true → (i : Imported) × (imported t ≡ Some i)
the-imported (ta.Import i) h = (i, refl)
the-imported (ta.Declaration e) h = absurd cc

-- what the first that passes gives, of which each that passes gives something
module _ {B : Type 0} (p : Taking → Bool) (f : Taking → Option B) (gives : (k : Taking) → p k ≡ true → (b : B) × (f k ≡ Some b)) where
  abbrev found : List Taking → Option B
  found ks = option_and_then f (find p ks)

  found-push : (ks : List Taking) (k : Taking) → found (ks ++ k ∷ []) ≡ or_else (found ks) (cond (p k) (f k) None)
  found-push [] k = by (p k)
    where
      by : (b : Bool) → option_and_then f (cond b (Some k) None) ≡ cond b (f k) None
      by true = refl
      by false = refl
  found-push (a ∷ ks) k = by (p a) refl (found-push ks k)
    where
      by : (b : Bool) → p a ≡ b → found (ks ++ k ∷ []) ≡ or_else (found ks) (cond (p k) (f k) None) →
          option_and_then f (cond b (Some a) (find p (ks ++ k ∷ []))) ≡
          or_else (option_and_then f (cond b (Some a) (find p ks))) (cond (p k) (f k) None)
      by false e h = h
      by true e h = let g = gives a e in g.1 ∙ ap (λ o. or_else o (cond (p k) (f k) None)) (sym g.1)

  some-found : (ks : List Taking) → is_some (found ks) ≡ list_any p ks
  some-found [] = refl
  some-found (a ∷ ks) = by (p a) refl (some-found ks)
    where
      by : (b : Bool) → p a ≡ b → is_some (found ks) ≡ list_any p ks →
          is_some (option_and_then f (cond b (Some a) (find p ks))) ≡ (b || list_any p ks)
      by false e h = h
      by true e h = let g = gives a e in ap is_some g.1

list_any-push : {A : Type 0} (p : A → Bool) (xs : List A) (x : A) → list_any p (xs ++ x ∷ []) ≡ (list_any p xs || p x)
list_any-push p [] x = by (p x)
  where
    by : (b : Bool) → (b || false) ≡ b
    by true = refl
    by false = refl
list_any-push p (y ∷ ys) x = by (p y) (list_any-push p ys x)
  where
    by : (b : Bool) → list_any p (ys ++ x ∷ []) ≡ (list_any p ys || p x) → (b || list_any p (ys ++ x ∷ [])) ≡ ((b || list_any p ys) || p x)
    by true h = refl
    by false h = h

and-left : (a b c : Bool) → (a && b && c) ≡ true → a ≡ true
and-left true b c e = refl
and-left false b c e = e

declares-gives : (m : ℕ) (x : List ℕ) (k : Taking) → declares m x k ≡ true → (e : Entry) × (declared k.taker ≡ Some e)
declares-gives m x k h = the-declared k.taker (and-left (not (is_import k.taker)) (k.home == m) (bytes_eq x k.name) h)

imports-gives : (f : ℕ) (x : List ℕ) (k : Taking) → imports_at f x k ≡ true → (i : Imported) × (imported k.taker ≡ Some i)
imports-gives f x k h = the-imported k.taker (and-left (is_import k.taker) (k.file == f) (bytes_eq x k.name) h)

-- the tables with a name more
module _ (ks : List Taking) (t : Tables) (h : Tells ks t.items t.imported t.imports) (home file : ℕ) (name : List ℕ) (place : Place)
    (lh : home < length t.items) (lm : home < length t.imported) (lf : file < length t.imports) where
  abbrev with_taker : Taker → Taking
  with_taker r = record { home = home; file = file; name = name; place = place; taker = r }

  items-on : (r : Taker) (m : ℕ) (x : List ℕ) →
      value_of x (table_at (items_with t.items (with_taker r)) m) ≡ declared_among (ks ++ with_taker r ∷ []) m x
  items-on (ta.Import i) m x = h.items_told m x ∙ sym (or_else-none (declared_among ks m x)) ∙ sym
      (found-push (declares m x) (λ k. declared k.taker) (declares-gives m x) ks (with_taker (ta.Import i)))
  items-on (ta.Declaration e) m x =
      value-put_at t.items home m x name e lh ∙ ap (λ o. or_else o (cond (home == m && bytes_eq x name) (Some e) None)) (h.items_told m x)
      ∙ sym (found-push (declares m x) (λ k. declared k.taker) (declares-gives m x) ks (with_taker (ta.Declaration e)))

  imports-on : (r : Taker) (f : ℕ) (x : List ℕ) →
      value_of x (table_at (imports_with t.imports (with_taker r)) f) ≡ imported_among (ks ++ with_taker r ∷ []) f x
  imports-on (ta.Declaration e) f x = h.imports_told f x ∙ sym (or_else-none (imported_among ks f x)) ∙ sym
      (found-push (imports_at f x) (λ k. imported k.taker) (imports-gives f x) ks (with_taker (ta.Declaration e)))
  imports-on (ta.Import i) f x =
      value-put_at t.imports file f x name i lf ∙ ap (λ o. or_else o (cond (file == f && bytes_eq x name) (Some i) None))
      (h.imports_told f x)
      ∙ sym (found-push (imports_at f x) (λ k. imported k.taker) (imports-gives f x) ks (with_taker (ta.Import i)))

  some-if : (b : Bool) → is_some (cond b (Some (tt {0})) None) ≡ b
  some-if true = refl
  some-if false = refl

  or-false : (b : Bool) → b ≡ (b || false)
  or-false true = refl
  or-false false = refl

  imported-on : (r : Taker) (m : ℕ) (x : List ℕ) →
      has x (table_at (imported_with t.imported (with_taker r)) m) ≡ is_imported_among (ks ++ with_taker r ∷ []) m x
  imported-on (ta.Declaration e) m x = h.imported_told m x ∙ or-false (is_imported_among ks m x) ∙ sym
      (list_any-push (imports_in m x) ks (with_taker (ta.Declaration e)))
  imported-on (ta.Import i) m x =
      ap is_some (value-put_at t.imported home m x name tt lm)
      ∙ is_some-or_else (value_of x (table_at t.imported m)) (cond (home == m && bytes_eq x name) (Some tt) None)
      ∙ ap (λ b. has x (table_at t.imported m) || b) (some-if (home == m && bytes_eq x name))
      ∙ ap (λ b. b || (home == m && bytes_eq x name)) (h.imported_told m x)
      ∙ sym (list_any-push (imports_in m x) ks (with_taker (ta.Import i)))

  tells-with : (r : Taker) → Tells (ks ++ with_taker r ∷ []) (items_with t.items (with_taker r)) (imported_with t.imported (with_taker r))
      (imports_with t.imports (with_taker r))
  tells-with r = record { items_told = items-on r; imported_told = imported-on r; imports_told = imports-on r }

-- the tables tell of one name more
pub tells-on : (ks : List Taking) (t : Tables) (k : Taking) → Tells ks t.items t.imported t.imports → k.home < length t.items →
    k.home < length t.imported → k.file < length t.imports →
    Tells (ks ++ k ∷ []) (tables_with t k).items (tables_with t k).imported (tables_with t k).imports
tells-on ks t k h lh lm lf = tells-with ks t h k.home k.file k.name k.place lh lm lf k.taker

-- ---- equal names

-- imports of one file are of one module
abbrev pub AreFiled : (ℕ → ℕ) → List Taking → Type 0
AreFiled at ks = (k : Taking) → Contains ks k → is_import k.taker ≡ true → k.home ≡ at k.file

clash-is : (i j h f b : Bool) → (i ≡ true → j ≡ true → f ≡ true → h ≡ true) →
    ((not i && h && b) || cond j (i && f && b) (i && h && b)) ≡ (h && b && (not (i && j) || f))
clash-is false j h f b p = by (h && b) j
  where
    by : (c j : Bool) → (c || cond j false false) ≡ (c && true)
    by true j = refl
    by false true = refl
    by false false = refl
clash-is true false h f b p = by (h && b)
  where
    by : (c : Bool) → c ≡ (c && true)
    by true = refl
    by false = refl
clash-is true true h false b p = by (h && b)
  where
    by : (c : Bool) → false ≡ (c && false)
    by true = refl
    by false = refl
clash-is true true true true true p = refl
clash-is true true true true false p = refl
clash-is true true false true b p = absurd (true≢false (sym (p refl refl refl)))

names-symmetric : (x y : List ℕ) → bytes_eq x y ≡ bytes_eq y x
names-symmetric x y = by (bytes_eq x y) refl (bytes_eq y x) refl
  where
    by : (a : Bool) → bytes_eq x y ≡ a → (b : Bool) → bytes_eq y x ≡ b → a ≡ b
    by true e true f = refl
    by false e false f = refl
    by true e false f =
        let s : bytes_eq y x ≡ true = (bytes_eq-Decides y x).1 (sym ((bytes_eq-Decides x y).0 e)) in absurd (true≢false (sym s ∙ f))
    by false e true f =
        let s : bytes_eq x y ≡ true = (bytes_eq-Decides x y).1 (sym ((bytes_eq-Decides y x).0 f)) in absurd (true≢false (sym s ∙ e))

list_any-or : {A : Type 0} (p q : A → Bool) (xs : List A) → (list_any p xs || list_any q xs) ≡ list_any (λ x. p x || q x) xs
list_any-or p q [] = refl
list_any-or p q (x ∷ xs) = by (p x) (q x) (list_any p xs) (list_any q xs) (list_any-or p q xs)
  where
    or-true : (b : Bool) → (b || true) ≡ true
    or-true true = refl
    or-true false = refl

    by : (a b c d : Bool) → (c || d) ≡ list_any (λ y. p y || q y) xs → ((a || c) || (b || d)) ≡ ((a || b) || list_any (λ y. p y || q y) xs)
    by true b c d h = refl
    by false false c d h = h
    by false true c d h = or-true c

list_any-same : {A : Type 0} (p q : A → Bool) (xs : List A) → ((x : A) → Contains xs x → p x ≡ q x) → list_any p xs ≡ list_any q xs
list_any-same p q [] h = refl
list_any-same p q (x ∷ xs) h =
    ap (λ b. b || list_any p xs) (h x (Contains-here x xs)) ∙ ap (λ b. q x || b)
    (list_any-same p q xs (λ y c. h y (Contains-behind x y xs c)))

cond-any : {A : Type 0} (b : Bool) (p q : A → Bool) (xs : List A) →
    cond b (list_any p xs) (list_any q xs) ≡ list_any (λ x. cond b (p x) (q x)) xs
cond-any true p q xs = refl
cond-any false p q xs = refl

module _ (at : ℕ → ℕ) (ks : List Taking) (t : Tables) (h : Tells ks t.items t.imported t.imports) (filed : AreFiled at ks) (k : Taking)
    (own : is_import k.taker ≡ true → k.home ≡ at k.file) where
  abbrev earlier_one : Taking → Bool
  earlier_one a = declares k.home k.name a || cond (is_import k.taker) (imports_at k.file k.name a) (imports_in k.home k.name a)

  one-clash : (a : Taking) → Contains ks a → earlier_one a ≡ clashes a k
  one-clash a c =
      ap (λ b. (not (is_import a.taker) && a.home == k.home && b) || cond (is_import k.taker) (is_import a.taker && a.file == k.file && b)
      (is_import a.taker && a.home == k.home && b)) (names-symmetric k.name a.name)
      ∙ clash-is (is_import a.taker) (is_import k.taker) (a.home == k.home) (a.file == k.file) (bytes_eq a.name k.name)
      (λ i j f. let same : a.file ≡ k.file = eqb-true a.file k.file f in eq-eqb a.home k.home (filed a c i ∙ ap at same ∙ sym (own j)))

  pub taken-is : is_taken t k ≡ list_any (λ a. clashes a k) ks
  taken-is =
      ap (λ b. b || cond (is_import k.taker) (has k.name (table_at t.imports k.file)) (has k.name (table_at t.imported k.home)))
      (ap is_some (h.items_told k.home k.name) ∙ some-found (declares k.home k.name) (λ a. declared a.taker) (declares-gives k.home k.name)
      ks)
      ∙ ap (λ b. list_any (declares k.home k.name) ks || cond (is_import k.taker) b (has k.name (table_at t.imported k.home)))
      (ap is_some (h.imports_told k.file k.name) ∙ some-found (imports_at k.file k.name) (λ a. imported a.taker)
      (imports-gives k.file k.name) ks)
      ∙ ap (λ b. list_any (declares k.home k.name) ks || cond (is_import k.taker) (list_any (imports_at k.file k.name) ks) b)
      (h.imported_told k.home k.name)
      ∙ ap (λ b. list_any (declares k.home k.name) ks || b)
      (cond-any (is_import k.taker) (imports_at k.file k.name) (imports_in k.home k.name) ks)
      ∙ list_any-or (declares k.home k.name) (λ a. cond (is_import k.taker) (imports_at k.file k.name a) (imports_in k.home k.name a)) ks
      ∙ list_any-same earlier_one (λ a. clashes a k) ks one-clash

-- tables for so many modules and files
pub record AreSized (modules files : ℕ) (t : Tables) : Type 0 where
  pub items_sized : length t.items ≡ modules
  pub imported_sized : length t.imported ≡ modules
  pub imports_sized : length t.imports ≡ files

length-put_at : {T : Type 0} (ts : List (List (List ℕ × T))) (n : ℕ) (x : List ℕ) (v : T) → length (put_at ts n x v) ≡ length ts
length-put_at {T} ts n x v = by (nat_lt n (length ts))
  where
    by : (b : Bool) → length (cond b (set ts n (put (table_at ts n) x v)) ts) ≡ length ts
    by true = length-set ts n (put (table_at ts n) x v)
    by false = refl

sized-with : (modules files : ℕ) (t : Tables) (home file : ℕ) (name : List ℕ) (place : Place) (r : Taker) → AreSized modules files t →
    AreSized modules files (tables_with t (record { home = home; file = file; name = name; place = place; taker = r }))
sized-with modules files t home file name place (ta.Declaration e) s = record {
  items_sized = length-put_at t.items home name e ∙ s.items_sized;
  imported_sized = s.imported_sized;
  imports_sized = s.imports_sized;
}
sized-with modules files t home file name place (ta.Import i) s = record {
  items_sized = s.items_sized;
  imported_sized = length-put_at t.imported home name tt ∙ s.imported_sized;
  imports_sized = length-put_at t.imports file name i ∙ s.imports_sized;
}

sized-on : (modules files : ℕ) (t : Tables) (k : Taking) → AreSized modules files t → AreSized modules files (tables_with t k)
sized-on modules files t k s = sized-with modules files t k.home k.file k.name k.place k.taker s

-- the names are in modules and files among so many, and imports of one file are of one module
pub record IsPlaced (at : ℕ → ℕ) (modules files : ℕ) (k : Taking) : Type 0 where
  pub home_within : k.home < modules
  pub file_within : k.file < files
  pub filed : is_import k.taker ≡ true → k.home ≡ at k.file

abbrev pub ArePlaced : (ℕ → ℕ) → ℕ → ℕ → List Taking → Type 0
ArePlaced at modules files ks = (k : Taking) → Contains ks k → IsPlaced at modules files k

tells-next : (modules files : ℕ) (ks : List Taking) (t : Tables) (k : Taking) (at : ℕ → ℕ) → AreSized modules files t →
    IsPlaced at modules files k → Tells ks t.items t.imported t.imports →
    Tells (ks ++ k ∷ []) (tables_with t k).items (tables_with t k).imported (tables_with t k).imports
tells-next modules files ks t k at s p h =
    tells-on ks t k h (subst (λ n. k.home < n) (sym s.items_sized) p.home_within)
    (subst (λ n. k.home < n) (sym s.imported_sized) p.home_within) (subst (λ n. k.file < n) (sym s.imports_sized) p.file_within)

filed-on : (at : ℕ → ℕ) (modules files : ℕ) (ks : List Taking) (k : Taking) → AreFiled at ks → IsPlaced at modules files k →
    AreFiled at (ks ++ k ∷ [])
filed-on at modules files ks k f p a c = by (Contains-push_cases ks k a c)
  where
    by : Contains ks a ⊎ (k ≡ a) → is_import a.taker ≡ true → a.home ≡ at a.file
    by (inl d) = f a d
    by (inr e) = subst (λ b. is_import b.taker ≡ true → b.home ≡ at b.file) e p.filed

-- the faults at names that are taken are those at the later of two equal names
pub repeated-is : (at : ℕ → ℕ) (modules files : ℕ) (ks before : List Taking) (t : Tables) → AreSized modules files t →
    ArePlaced at modules files ks → AreFiled at before → Tells before t.items t.imported t.imports →
    repeated_faults t ks ≡ map (λ k. fault 12 k.place) (repeated_behind clashes before ks)
repeated-is at modules files [] before t s p f h = refl
repeated-is at modules files (k ∷ ks) before t s p f h =
    by (is_taken t k) (list_any (λ a. clashes a k) before) (taken-is at before t h f k own.filed)
    (repeated-is at modules files ks (before ++ k ∷ []) (tables_with t k) (sized-on modules files t k s)
    (λ a c. p a (Contains-behind k a ks c)) (filed-on at modules files before k f own) (tells-next modules files before t k at s own h))
  where
    own : IsPlaced at modules files k
    own = p k (Contains-here k ks)

    by : (b c : Bool) → b ≡ c → repeated_faults (tables_with t k) ks ≡
        map (λ a. fault 12 a.place) (repeated_behind clashes (before ++ k ∷ []) ks) →
        cons_option (cond b (Some (fault 12 k.place)) None) (repeated_faults (tables_with t k) ks) ≡
        map (λ a. fault 12 a.place) (cond c (k ∷ []) [] ++ repeated_behind clashes (before ++ k ∷ []) ks)
    by true true e r = ap (λ fs. fault 12 k.place ∷ fs) r
    by false false e r = r
    by true false e r = absurd (true≢false e)
    by false true e r = absurd (true≢false (sym e))

-- the tables tell of all names in the end
pub tells-all : (at : ℕ → ℕ) (modules files : ℕ) (ks before : List Taking) (t : Tables) → AreSized modules files t →
    ArePlaced at modules files ks → Tells before t.items t.imported t.imports →
    Tells (before ++ ks) (fold tables_with t ks).items (fold tables_with t ks).imported (fold tables_with t ks).imports
tells-all at modules files [] before t s p h = subst (λ bs. Tells bs t.items t.imported t.imports) (sym (append-nil before)) h
tells-all at modules files (k ∷ ks) before t s p h =
    subst (λ bs. Tells bs (fold tables_with (tables_with t k) ks).items (fold tables_with (tables_with t k) ks).imported
    (fold tables_with (tables_with t k) ks).imports) (append_assoc before (k ∷ []) ks)
    (tells-all at modules files ks (before ++ k ∷ []) (tables_with t k) (sized-on modules files t k s)
    (λ a c. p a (Contains-behind k a ks c)) (tells-next modules files before t k at s (p k (Contains-here k ks)) h))

-- ---- what is built in

built-value : (es : List (List ℕ × Entry)) (x : List ℕ) → value_of x es ≡ declared_among (map built_in_taking es) 0 x
built-value [] x = refl
built-value (e ∷ es) x = by (bytes_eq x e.0) (built-value es x)
  where
    by : (b : Bool) → value_of x es ≡ declared_among (map built_in_taking es) 0 x →
        cond b (Some e.1) (value_of x es) ≡ option_and_then (λ k. declared k.taker)
        (cond b (Some (built_in_taking e)) (find (declares 0 x) (map built_in_taking es)))
    by true h = refl
    by false h = h

built-elsewhere : (es : List (List ℕ × Entry)) (m : ℕ) (x : List ℕ) → declared_among (map built_in_taking es) (suc m) x ≡ None
built-elsewhere [] m x = refl
built-elsewhere (e ∷ es) m x = by (0 == suc m) (eqb-zero-suc m) (built-elsewhere es m x)
  where
    by : (b : Bool) → b ≡ false → declared_among (map built_in_taking es) (suc m) x ≡ None →
        option_and_then (λ k. declared k.taker)
        (cond (b && bytes_eq x e.0) (Some (built_in_taking e)) (find (declares (suc m) x) (map built_in_taking es))) ≡ None
    by true e h = absurd (true≢false e)
    by false e h = h

built-imports-in : (es : List (List ℕ × Entry)) (m : ℕ) (x : List ℕ) → is_imported_among (map built_in_taking es) m x ≡ false
built-imports-in [] m x = refl
built-imports-in (e ∷ es) m x = built-imports-in es m x

built-imports-at : (es : List (List ℕ × Entry)) (f : ℕ) (x : List ℕ) → imported_among (map built_in_taking es) f x ≡ None
built-imports-at [] f x = refl
built-imports-at (e ∷ es) f x = built-imports-at es f x

empty-at : {T : Type 0} (n m : ℕ) → table_at {T = T} (empty_tables n) m ≡ []
empty-at zero m = refl
empty-at (suc n) zero = refl
empty-at (suc n) (suc m) = empty-at n m

first-items : (modules : ℕ) → 0 < modules → (m : ℕ) (x : List ℕ) →
    value_of x (table_at (set (empty_tables modules) 0 built_in) m) ≡ declared_among built_in_takings m x
first-items zero l m x = absurd (omega arith)
first-items (suc n) l zero x = built-value built_in x
first-items (suc n) l (suc m) x = ap (value_of x) (empty-at n m) ∙ sym (built-elsewhere built_in m x)

-- at the start the tables tell of what is built in
pub tells-first : (modules files : ℕ) → 0 < modules →
    Tells built_in_takings (first_tables modules files).items (first_tables modules files).imported (first_tables modules files).imports
tells-first modules files l = record {
  items_told = λ m x. first-items modules l m x;
  imported_told = λ m x. ap (has x) (empty-at modules m) ∙ sym (built-imports-in built_in m x);
  imports_told = λ f x. ap (value_of x) (empty-at files f) ∙ sym (built-imports-at built_in f x);
}

pub sized-first : (modules files : ℕ) → AreSized modules files (first_tables modules files)
sized-first modules files = record {
  items_sized = length-set (empty_tables modules) 0 built_in ∙ length-replicate modules [];
  imported_sized = length-replicate modules [];
  imports_sized = length-replicate files [];
}

-- what is built in is imported by no file
pub filed-first : (at : ℕ → ℕ) → AreFiled at built_in_takings
filed-first at = none built_in
  where
    none : (es : List (List ℕ × Entry)) → AreFiled at (map built_in_taking es)
    none [] k c = absurd (Contains-none k c)
    none (e ∷ es) k c = by (none es k) (Contains-cases (built_in_taking e) k (map built_in_taking es) c)
      where
        by : (Contains (map built_in_taking es) k → is_import k.taker ≡ true → k.home ≡ at k.file) →
            (built_in_taking e ≡ k) ⊎ Contains (map built_in_taking es) k → is_import k.taker ≡ true → k.home ≡ at k.file
        by more (inr d) = more d
        by more (inl q) = subst (λ j. is_import j.taker ≡ true → j.home ≡ at j.file) q (λ i. absurd (true≢false (sym i)))
