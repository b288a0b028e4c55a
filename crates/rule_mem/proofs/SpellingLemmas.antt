-- Names and fields, in a store and in later ones.
use Rattle.std.proofs.Common.{◌≡◌, ◌≢◌, ℕ, zero, suc, ◌<◌, ◌≤◌, Bool, true, false, cond, List, [], ◌∷◌, ◌++◌, length, Option, Some, None, nat_eq, refl, ap, sym, ◌∙◌, subst, arith, ◌⊎◌, inl, inr}
use Rattle.std.specs.Prelude.{◌↔◌, slice_get, Contains, find, position, nat_lt, bytes_eq, option_map, option_and_then}
use Rattle.std.specs.List.{position_or_len}
use Rattle.std.specs.Cmp.{unsigned_Decides}
use Rattle.std.proofs.lemmas.Bool.{cases_lt, lt-ltb, ltb-true}
use Rattle.std.proofs.lemmas.List.{map-id}
use Rattle.std.proofs.lemmas.List.Folds.{find_at}
use Rattle.std.proofs.lemmas.Option.{slice_get_within}
use Rattle.std.proofs.lemmas.Slice.Eq.{bytes_eq-Decides}
use Rattle.hare_types.specs.declared.lists.Field.{Field}
use Rattle.hare_types.specs.declared.row.Row.TheVariants as row
use Rattle.hare_types.specs.Store.{Store}
use Rattle.hare_types.specs.Sound.{IsStore}
use Rattle.hare_types.specs.ByIds.{row_at, field_in, field_at}
use Rattle.hare_types.specs.Later.{IsLater}
use Rattle.hare_types.proofs.ListLemmas.{slice_get_front, slice_get_past}
use Rattle.hare_types.proofs.NumberingLemmas.{position_found, position_absent}
use Rattle.hare_rules.specs.Aggregates.{name_number, field_named, field_type}
use Rattle.hare_types.specs.Rows.{NamesBelow}

-- ---- names

-- the number of a name is where it stands
pub name_tells : (s : Store) → IsStore s → (text : List ℕ) (n : ℕ) → (name_number s text ≡ Some n) ↔ (slice_get s.names n ≡ Some text)
name_tells s v text n = (λ e. sound n e, λ e. whole e (name_number s text) refl)
  where
    sound : (i : ℕ) → name_number s text ≡ Some i → slice_get s.names i ≡ Some text
    sound i e = simp map-id at (position_found (λ q. q) text (bytes_eq text) (bytes_eq-Decides text) s.names i (sym e))

    whole : slice_get s.names n ≡ Some text → (o : Option ℕ) → name_number s text ≡ o → name_number s text ≡ Some n
    whole h None e =
        let nowhere = position_absent (λ q. q) text (bytes_eq text) (bytes_eq-Decides text) s.names (sym e) n in
        absurd (nowhere (ap (λ l. slice_get l n) (map-id s.names) ∙ h))
    whole h (Some i) e = e ∙ ap Some (v.names_once.once i n text (sound i e) h)

module _ (now later : Store) (l : IsLater now later) where
  name_kept : (n : ℕ) → n < length now.names → slice_get later.names n ≡ slice_get now.names n
  name_kept n h = ap (λ xs. slice_get xs n) l.grows.names.1 ∙ slice_get_front now.names l.grows.names.0 n h

  -- a name keeps its number
  pub name_stays : (text : List ℕ) (n : ℕ) → slice_get now.names n ≡ Some text → name_number later text ≡ Some n
  name_stays text n e = (name_tells later l.sound text n).1 (name_kept n (slice_get_within now.names n text e) ∙ e)

  -- a name that comes later has a number behind those that were
  pub name_new : (text : List ℕ) → ((n : ℕ) → slice_get now.names n ≢ Some text) → (m : ℕ) → name_number later text ≡ Some m →
      length now.names ≤ m
  name_new text h m e = by (cases_lt m (length now.names))
    where
      by : (m < length now.names) ⊎ (length now.names ≤ m) → length now.names ≤ m
      by (inr k) = k
      by (inl k) = absurd (h m (sym (name_kept m k) ∙ (name_tells later l.sound text m).0 e))

-- ---- fields

-- what is found stands at the place that is found
pub find-position : {A : Type 0} (p : A → Bool) (xs : List A) → find p xs ≡ option_and_then (slice_get xs) (position p xs)
find-position p xs = by (nat_lt (position_or_len p xs) (length xs)) refl
  where
    by : (b : Bool) → nat_lt (position_or_len p xs) (length xs) ≡ b →
        find p xs ≡ option_and_then (slice_get xs) (cond b (Some (position_or_len p xs)) None)
    by true e = find_at p xs
    by false e = find_at p xs ∙ slice_get_past xs (position_or_len p xs) (past (cases_lt (position_or_len p xs) (length xs)))
      where
        past : (position_or_len p xs < length xs) ⊎ (length xs ≤ position_or_len p xs) → length xs ≤ position_or_len p xs
        past (inr h) = h
        past (inl h) = let both : true ≡ false = sym (lt-ltb (position_or_len p xs) (length xs) h) ∙ e in absurd cc

-- no field has a name whose number is behind those of all names
pub field_named-absent : (fs : List Field) (n m : ℕ) → ((f : Field) → Contains fs f → f.name < n) → n ≤ m → field_named fs m ≡ None
field_named-absent [] n m h k = refl
field_named-absent (f ∷ fs) n m h k = by (field_named-absent fs n m (λ g c. h g (suc c.0, omega (arith, c.1), c.2)) k) (nat_eq f.name m)
    refl
  where
    here : f.name < n
    here = h f (0, omega arith, refl)

    by : field_named fs m ≡ None → (b : Bool) → nat_eq f.name m ≡ b →
        option_map (λ g. g.ty) (cond b (Some f) (find (λ g. nat_eq g.name m) fs)) ≡ None
    by rest true e = let same : f.name ≡ m = (unsigned_Decides f.name m).0 e in absurd (omega (arith, here))
    by rest false e = rest

module _ (now later : Store) (l : IsLater now later) (fs : List Field) (names : NamesBelow (length now.names) fs) (text : List ℕ) where
  -- a name that is none yet names no field
  pub field_type-new : ((n : ℕ) → slice_get now.names n ≢ Some text) → field_type later (Some (row.Struct fs)) text ≡ None
  field_type-new h = by (name_number later text) refl
    where
      by : (o : Option ℕ) → name_number later text ≡ o → option_and_then (field_named fs) (name_number later text) ≡ None
      by None e = ap (option_and_then (field_named fs)) e
      by (Some m) e = ap (option_and_then (field_named fs)) e ∙ field_named-absent fs (length now.names) m names
          (name_new now later l text h m e)

  -- the field that stands where the name is found
  pub field_type-name : (n : ℕ) → slice_get now.names n ≡ Some text
      → field_type later (Some (row.Struct fs)) text ≡
      option_map (λ f. f.ty) (option_and_then (slice_get fs) (position (λ f. nat_eq f.name n) fs))
  field_type-name n e =
      ap (option_and_then (field_named fs)) (name_stays now later l text n e) ∙ ap (option_map (λ f. f.ty))
      (find-position (λ f. nat_eq f.name n) fs)

  -- the same by the place that the store tells
  pub field_type-at : (t n : ℕ) (p : Option ℕ) → row_at now t ≡ Some (row.Struct fs) → slice_get now.names n ≡ Some text →
      p ≡ field_at now t n
      → field_type later (Some (row.Struct fs)) text ≡ option_map (λ f. f.ty) (option_and_then (slice_get fs) p)
  field_type-at t n p here e k =
      field_type-name n e ∙ ap (λ q. option_map (λ f. f.ty) (option_and_then (slice_get fs) q))
      (sym (k ∙ ap (option_and_then (field_in n)) here))
