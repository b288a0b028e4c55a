-- The types of which a row is made, and lists that go on by some of them.
use Rattle.std.proofs.Common.{◌≡◌, ℕ, zero, suc, ◌<◌, ◌+◌, List, [], ◌∷◌, ◌++◌, length, map, take, Option, Some, None, refl, ap, sym, ◌∙◌, subst, arith, ◌⊎◌, inl, inr, append_assoc, append-nil}
use Rattle.std.specs.Prelude.{Contains, slice_get}
use Rattle.std.specs.List.{cons_option}
use Rattle.std.proofs.lemmas.List.Elements.{Contains-append_left, Contains-push_cases}
use Rattle.std.proofs.lemmas.Option.{slice_get_within, get_or_from_slice_get}
use Rattle.std.proofs.Math.Seq.{take-append_seam}
use Rattle.hare_types.specs.declared.lists.Field.{Field}
use Rattle.hare_types.specs.declared.row.Row.{Row}
use Rattle.hare_types.specs.declared.row.Row.TheVariants as row
use Rattle.hare_types.specs.Numbering.{Continues}
use Rattle.hare_types.specs.Rows.{IsWithin, AllBelow, FieldsBelow}
use Rattle.hare_types.specs.Store.{Store, definition_of}
use Rattle.hare_types.specs.Sound.{IsStore}
use Rattle.hare_types.specs.ByIds.{row_at}
use Rattle.hare_typed.proofs.KidLemmas.{take-get}
use Rattle.rule_judge.specs.Defined.{made_of}
use Rattle.hare_defined.specs.Search.{HoldsAll, TakesIn}

-- ---- what a row is made of is in the store

below_among : (n : ℕ) (is : List ℕ) (i : ℕ) → AllBelow n is → Contains is i → i < n
below_among n [] i h c = absurd (omega (arith, c.1))
below_among n (j ∷ is) i h (zero, l, e) = subst (λ k. k < n) e h.0
below_among n (j ∷ is) i h (suc k, l, e) = below_among n is i h.1 (k, omega (arith, l), e)

fields_below : (n : ℕ) (fs : List Field) → FieldsBelow n fs → AllBelow n (map (λ f. f.ty) fs)
fields_below n [] h = tt
fields_below n (f ∷ fs) h = (h.0, fields_below n fs h.1)

one_below : (n j i : ℕ) → j < n → Contains (j ∷ []) i → i < n
one_below n j i h c = below_among n (j ∷ []) i (h, tt) c

named_below : (n : ℕ) (o : Option ℕ) (i : ℕ) → ((j : ℕ) → o ≡ Some j → j < n) → Contains (cons_option o []) i → i < n
named_below n None i h c = absurd (omega (arith, c.1))
named_below n (Some j) i h c = one_below n j i (h j refl) c

parts_below : (s : Store) → IsStore s → (t : ℕ) (r : Row) → IsWithin t r → t < length s.rows → (i : ℕ) → Contains (made_of s r) i →
    i < length s.rows
parts_below s v t (row.Scalar k) w h i c = absurd (omega (arith, c.1))
parts_below s v t (row.Pointer j) w h i c = one_below (length s.rows) j i (omega arith) c
parts_below s v t (row.Nullable j) w h i c = one_below (length s.rows) j i (omega arith) c
parts_below s v t (row.Slice j) w h i c = one_below (length s.rows) j i (omega arith) c
parts_below s v t (row.Array n j) w h i c = one_below (length s.rows) j i (omega arith) c
parts_below s v t (row.Struct fs) w h i c = let k = below_among t (map (λ f. f.ty) fs) i (fields_below t fs w) c in omega (arith, k, h)
parts_below s v t (row.Tuple is) w h i c = let k = below_among t is i w c in omega (arith, k, h)
parts_below s v t (row.Union is) w h i c = let k = below_among t is i w c in omega (arith, k, h)
parts_below s v t (row.Error j) w h i c = one_below (length s.rows) j i (omega arith) c
parts_below s v t (row.Named d) w h i c = named_below (length s.rows) (definition_of s d) i (v.defined_within d) c

pub made_within : (s : Store) → IsStore s → (t : ℕ) (r : Row) → row_at s t ≡ Some r → t < length s.rows → (i : ℕ) →
    Contains (made_of s r) i → i < length s.rows
made_within s v t r e h = parts_below s v t r (v.rows_sound.within t r e) h

-- ---- lists that go on

pub TakesIn-none : (ks ts : List ℕ) → TakesIn ks ks ts
TakesIn-none ks ts = record { grows = ([], sym (append-nil ks)); only = λ t c. inl c }

pub TakesIn-same : (old new ts : List ℕ) → new ≡ old → TakesIn old new ts
TakesIn-same old new ts e = subst (λ ks. TakesIn old ks ts) (sym e) (TakesIn-none old ts)

pub Continues-Continues : (a b c : List ℕ) → Continues a b → Continues b c → Continues a c
Continues-Continues a b c g h = (g.0 ++ h.0, h.1 ∙ ap (λ l. l ++ h.0) g.1 ∙ append_assoc a g.0 h.0)

pub Contains-Continues : (old new : List ℕ) (t : ℕ) → Continues old new → Contains old t → Contains new t
Contains-Continues old new t g c = subst (λ l. Contains l t) (sym g.1) (Contains-append_left old g.0 t c)

pub take-Continues : (old new : List ℕ) → Continues old new → take (length old) new ≡ old
take-Continues old new g = ap (take (length old)) g.1 ∙ take-append_seam old g.0

-- more may be said to have been taken in
pub TakesIn-wider : (old new xs ys : List ℕ) → HoldsAll ys xs → TakesIn old new xs → TakesIn old new ys
TakesIn-wider old new xs ys w h = record { grows = h.grows; only = λ t c. by t (h.only t c) }
  where
    by : (t : ℕ) → Contains old t ⊎ Contains xs t → Contains old t ⊎ Contains ys t
    by t (inl c) = inl c
    by t (inr c) = inr (w t c)

pub TakesIn-TakesIn : (a b c ts : List ℕ) → TakesIn a b ts → TakesIn b c ts → TakesIn a c ts
TakesIn-TakesIn a b c ts g h = record { grows = Continues-Continues a b c g.grows h.grows; only = λ t k. by t (h.only t k) }
  where
    by : (t : ℕ) → Contains b t ⊎ Contains ts t → Contains a t ⊎ Contains ts t
    by t (inl k) = g.only t k
    by t (inr k) = inr k

-- ---- one after another

module _ (a b c ts : List ℕ) (i t : ℕ) (e : slice_get ts i ≡ Some t) (g : TakesIn b c (t ∷ [])) where
  among : HoldsAll ts (t ∷ [])
  among u (zero, l, same) = subst (Contains ts) same (i, slice_get_within ts i t e, get_or_from_slice_get ts i t t e)
  among u (suc k, l, same) = absurd (omega (arith, l))

  pub TakesIn-next : TakesIn a b ts → TakesIn a c ts
  TakesIn-next h = TakesIn-TakesIn a b c ts h (TakesIn-wider b c (t ∷ []) ts among g)

  pub HoldsAll-next : Contains c t → HoldsAll b (take i ts) → HoldsAll c (take (i + 1) ts)
  HoldsAll-next k h u m = by u (Contains-push_cases (take i ts) t u (subst (λ l. Contains l u) (take-get ts i t e) m))
    where
      by : (u : ℕ) → Contains (take i ts) u ⊎ (t ≡ u) → Contains c u
      by u (inl m) = Contains-Continues b c u g.grows (h u m)
      by u (inr m) = subst (Contains c) m k
