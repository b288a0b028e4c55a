-- A later store changes no weight.
use Rattle.std.proofs.Common.{◌≡◌, ℕ, zero, suc, ◌+◌, ◌<◌, length, Option, Some, None, IsSome, refl, ap, sym, ◌∙◌, arith, if◌then◌else◌}
use Rattle.std.specs.Prelude.{option_and_then, ◌==◌}
use Rattle.std.proofs.lemmas.Bool.{false≢true}
use Rattle.std.proofs.lemmas.Option.{slice_get_within}
use Rattle.hare_tree.specs.declared.kind.Kind.{Kind}
use Rattle.hare_tree.specs.declared.kind.Kind.TheVariants as kind
use Rattle.hare_types.specs.declared.coercion.Ty.{Ty}
use Rattle.hare_types.specs.declared.coercion.Ty.TheVariants as ty
use Rattle.hare_types.specs.declared.coercion.Coercion.{Coercion}
use Rattle.hare_types.specs.declared.row.Row.{Row}
use Rattle.hare_types.specs.declared.row.Row.TheVariants as row
use Rattle.hare_types.specs.Assign.{IsIn}
use Rattle.hare_types.specs.Store.{Store}
use Rattle.hare_types.specs.Sound.{IsStore}
use Rattle.hare_types.specs.Later.{IsLater, KeepsTypes}
use Rattle.hare_types.specs.ByIds.{row_at, base_at, members_of}
use Rattle.hare_types.proofs.MeaningsLemmas.{ids_mean_trees}
use Rattle.hare_types.proofs.LaterLemmas.{types_stay}
use Rattle.hare_typed.specs.Typed.{TypedNode, TypedNodes, marked, typed_none, typed_more}
use Rattle.hare_typed.specs.Given.{TypesIn, TypesInEach, first_given, base_row, is_str_row, count_of, members_in, pointee, pointee_in, one_more, followed_within}
use Rattle.hare_typed.specs.Weight.{weight_of, begins_with, coerced, handled, items_of, passed}
use Rattle.hare_typed.specs.CostLaws.{HasBases, WeightsStay}

-- the base that a type has, with its row
record Based (s : Store) (t : ℕ) : Type 0 where
  base : ℕ
  row_of : Row
  is_base : base_at s t ≡ Some base
  is_row : row_at s base ≡ Some row_of

-- a pointer's row says to what it points
pointer-row : (r : Row) (i : ℕ) → pointee_in (Some r) ≡ Some i → r ≡ row.Pointer i
pointer-row (row.Pointer j) i e = cc
pointer-row (row.Scalar k) i e = absurd cc
pointer-row (row.Nullable j) i e = absurd cc
pointer-row (row.Slice j) i e = absurd cc
pointer-row (row.Array n j) i e = absurd cc
pointer-row (row.Struct fs) i e = absurd cc
pointer-row (row.Tuple js) i e = absurd cc
pointer-row (row.Union js) i e = absurd cc
pointer-row (row.Error j) i e = absurd cc
pointer-row (row.Named d) i e = absurd cc

module _ (now later : Store) (v : IsStore now) (l : IsLater now later) (bases : HasBases now) where
  keeps : KeepsTypes now later
  keeps = types_stay now later v l

  based : (t : ℕ) → t < length now.rows → Based now t
  based t h = from (base_at now t) refl (bases t h)
    where
      from : (o : Option ℕ) → base_at now t ≡ o → IsSome o → Based now t
      from None e some = absurd (false≢true some)
      from (Some b) e some =
          let is = ((ids_mean_trees now v).base t b).0 e in
          let there = (ids_mean_trees now v).there b is.1 is.3 in
          record { base = b; row_of = there.0; is_base = e; is_row = there.1 }

  -- ---- bases

  row-stays : (t : Ty) → IsIn now t → base_row later t ≡ base_row now t
  row-stays (ty.Of t) h =
      let b = based t h in
      ap (option_and_then (row_at later)) (keeps.base t b.base b.is_base) ∙ keeps.row b.base b.row_of b.is_row
      ∙ sym (ap (option_and_then (row_at now)) b.is_base ∙ b.is_row)
  row-stays (ty.Iconst n) h = refl
  row-stays ty.Null h = refl
  row-stays ty.Empty h = refl

  members-stay : (t : Ty) → IsIn now t → members_in later t ≡ members_in now t
  members-stay (ty.Of t) h =
      let b = based t h in
      ap (λ o. count_of (option_and_then (λ c. option_and_then members_of (row_at later c)) o)) (keeps.base t b.base b.is_base)
      ∙ ap (λ o. count_of (option_and_then members_of o)) (keeps.row b.base b.row_of b.is_row)
      ∙ sym (ap (λ o. count_of (option_and_then (λ c. option_and_then members_of (row_at now c)) o)) b.is_base ∙ ap
      (λ o. count_of (option_and_then members_of o)) b.is_row)
  members-stay (ty.Iconst n) h = refl
  members-stay ty.Null h = refl
  members-stay ty.Empty h = refl

  -- ---- pointers

  pointee-in : (t : Ty) (i : ℕ) → IsIn now t → pointee now t ≡ Some i → i < length now.rows
  pointee-in (ty.Of t) i h e =
      let b = based t h in
      let r : b.row_of ≡ row.Pointer i = pointer-row b.row_of i
      (sym (ap pointee_in (ap (option_and_then (row_at now)) b.is_base ∙ b.is_row)) ∙ e) in
      let at : row_at now b.base ≡ Some (row.Pointer i) = b.is_row ∙ ap Some r in
      let below : i < b.base = v.rows_sound.within b.base (row.Pointer i) at in
      let within : b.base < length now.rows = slice_get_within now.rows b.base (row.Pointer i) at in
      omega arith
  pointee-in (ty.Iconst n) i h e = cc
  pointee-in ty.Null i h e = cc
  pointee-in ty.Empty i h e = cc

  followed-stays : (n : ℕ) (t : Ty) → IsIn now t → followed_within n later t ≡ followed_within n now t
  followed-stays zero t h = refl
  followed-stays (suc n) t h = ap (one_more (followed_within n later)) (ap pointee_in (row-stays t h)) ∙ more (pointee now t) refl
      (λ i e. followed-stays n (ty.Of i) (pointee-in t i h e))
    where
      more : (o : Option ℕ) → pointee now t ≡ o →
          ((i : ℕ) → pointee now t ≡ Some i → followed_within n later (ty.Of i) ≡ followed_within n now (ty.Of i)) →
          one_more (followed_within n later) o ≡ one_more (followed_within n now) o
      more None e f = refl
      more (Some i) e f = ap suc (f i e)

  -- ---- weights

  given-in : (ts : TypedNodes) → TypesInEach now ts → IsIn now (first_given ts)
  given-in typed_none h = tt
  given-in (typed_more (marked h m us) ts) w = w.0.1

  begins-stay : (k : Kind) (ts : TypedNodes) → IsIn now (first_given ts) → begins_with later k ts ≡ begins_with now k ts
  begins-stay kind.Equal ts h = ap (λ o. if is_str_row o then 4 else 1) (row-stays (first_given ts) h)
  begins-stay kind.Slice ts h = refl
  begins-stay kind.ForEach ts h = refl
  begins-stay kind.Alloc ts h = refl
  begins-stay kind.Free ts h = refl
  begins-stay kind.Append ts h = refl
  begins-stay kind.Delete ts h = refl
  begins-stay _ ts h = refl

  coerced-stays : (c : Coercion) → IsIn now c.to → coerced later c ≡ coerced now c
  coerced-stays c h = ap (λ n. if c.row == 9 then n else 0) (members-stay c.to h)

  handled-stays : (k : Kind) (ts : TypedNodes) → IsIn now (first_given ts) → handled later k ts ≡ handled now k ts
  handled-stays kind.As ts h = members-stay (first_given ts) h
  handled-stays kind.Is ts h = members-stay (first_given ts) h
  handled-stays kind.Match ts h = members-stay (first_given ts) h
  handled-stays kind.Try ts h = members-stay (first_given ts) h
  handled-stays kind.Force ts h = members-stay (first_given ts) h
  handled-stays _ ts h = refl

  passed-stays : (k : Kind) (ts : TypedNodes) → IsIn now (first_given ts) → passed later k ts ≡ passed now k ts
  passed-stays kind.Field ts h = followed-stays 16 (first_given ts) h
  passed-stays kind.Index ts h = followed-stays 16 (first_given ts) h
  passed-stays kind.Slice ts h = followed-stays 16 (first_given ts) h
  passed-stays _ ts h = refl

  weight-stays : (t : TypedNode) → TypesIn now t → weight_of later t ≡ weight_of now t
  weight-stays (marked h m ts) w =
      let from = given-in ts w.2 in
      let a = begins-stay h.kind ts from in
      let b = coerced-stays m.coerce w.1 in
      let c = handled-stays h.kind ts from in
      let d = passed-stays h.kind ts from in
      sums a b c (items_of h.kind ts) d
    where
      sums : {a1 a2 b1 b2 c1 c2 : ℕ} → a1 ≡ a2 → b1 ≡ b2 → c1 ≡ c2 → (i : ℕ) → {d1 d2 : ℕ} → d1 ≡ d2 →
          a1 + b1 + c1 + i + d1 ≡ a2 + b2 + c2 + i + d2
      sums a b c i d = omega arith

pub weights_stay : WeightsStay
weights_stay now later v l bases t w = weight-stays now later v l bases t w
