-- What goes to a union goes to one of which all is known, and of its members too.
use Rattle.std.proofs.Common.{◌≡◌, ◌∙◌, sym, ap, subst, refl, ℕ, zero, suc, ◌+◌, ◌-◌, ◌≤◌, length, arith, Bool, true, false, inl, inr, List, [], ◌∷◌, Option, Some, None, cond}
use Rattle.std.specs.Prelude.{slice_get, option_map, option_and_then, unwrap_or, IsSome}
use Rattle.std.specs.Option.{option_or}
use Rattle.hare_types.specs.declared.extent.Extent.{Extent}
use Rattle.hare_types.specs.declared.row.Row.{Row}
use Rattle.hare_types.specs.declared.row.Row.TheVariants as row
use Rattle.hare_types.specs.declared.coercion.Coercion.{Coercion}
use Rattle.hare_types.specs.declared.coercion.Ty.{Ty}
use Rattle.hare_types.specs.declared.coercion.Ty.TheVariants as ty
use Rattle.hare_types.specs.Trees.{Tree, Trees, Scalar, Pointer, Nullable, Slice, Array, Struct, Tuple, Union, Error, Named}
use Rattle.hare_types.specs.Assign.{Value, type_at, value_at, base, holds_of, members_among, is_part, is_same, is_const, is_lone, is_union, joins, table, first_row, only_one}
use Rattle.hare_types.specs.Bases.{base_over}
use Rattle.hare_types.specs.Store.{Store, definition_of}
use Rattle.hare_types.specs.Sound.{IsStore}
use Rattle.hare_types.specs.ByIds.{row_at, found_within, bytes_over, base_at, extent_at, members_of, members_at}
use Rattle.hare_types.proofs.AscendingLemmas.{In, In-to}
use Rattle.hare_types.proofs.IdLemmas.{base-row}
use Rattle.hare_typed.specs.Given.{base_row}
use Rattle.hare_typed.specs.Coercions.{chosen_member}
use Rattle.hare_layout.specs.Whole.{PayloadLiesIn}
use Rattle.hare_layout.proofs.PlacesLemmas.{payload_lies_in, then}
use Rattle.hare_assign.specs.Shapes.{types_at}
use Rattle.hare_assign.specs.Chosen.{is_its_default, first_of, only_of, member_for, first_member}
use Rattle.hare_assign.specs.First.{IsFirst}
use Rattle.hare_assign.proofs.FirstLemmas.{first_from-first}
use Rattle.hare_assign.proofs.ChosenLemmas.{base_union, keeps_own}
use Rattle.hare_typed.specs.Sizes.{Fits}
use Rattle.hare_typed.specs.Joined.{AreTold, IsToldUnion, HasToldUnion, IsJoined, Joins}
use Rattle.hare_const.proofs.JoinedLemmas.{chosen_first}
use Rattle.hare_rules.specs.Settles.{same, to_type}
use Rattle.hare_constancy.specs.Measured.{IsKnown}
use Rattle.hare_constancy.specs.Met.{GoesTo}
use Rattle.hare_constancy.proofs.Types.{base_in, built_fits}

-- ---- members

-- what has an extent has a base
based-within : (s : Store) (n t : ℕ) (x : Extent) → found_within s (bytes_over (definition_of s)) n t ≡ Some x → IsSome (base_at s t)
based-within s zero t x e = absurd cc
based-within s (suc n) t x e = by (based-within s n) (row_at s t) refl e
  where
    itself : (r : Row) → row_at s t ≡ Some r → base_over (definition_of s) (base_at s) t r ≡ Some t → IsSome (base_at s t)
    itself r f g = subst IsSome (sym (base-row s t r f ∙ g)) refl

    by : ((u : ℕ) (y : Extent) → found_within s (bytes_over (definition_of s)) n u ≡ Some y → IsSome (base_at s u)) → (o : Option Row) →
        row_at s t ≡ o
        → option_and_then (bytes_over (definition_of s) (found_within s (bytes_over (definition_of s)) n) t) o ≡ Some x →
        IsSome (base_at s t)
    by ih None f g = absurd cc
    by ih (Some (row.Scalar k)) f g = itself (row.Scalar k) f refl
    by ih (Some (row.Pointer i)) f g = itself (row.Pointer i) f refl
    by ih (Some (row.Nullable i)) f g = itself (row.Nullable i) f refl
    by ih (Some (row.Slice i)) f g = itself (row.Slice i) f refl
    by ih (Some (row.Array m i)) f g = itself (row.Array m i) f refl
    by ih (Some (row.Struct fs)) f g = itself (row.Struct fs) f refl
    by ih (Some (row.Tuple is)) f g = itself (row.Tuple is) f refl
    by ih (Some (row.Union is)) f g = itself (row.Union is) f refl
    by ih (Some (row.Error i)) f g = subst IsSome (sym (base-row s t (row.Error i) f)) (ih i x g)
    by ih (Some (row.Named d)) f g =
        let meant = then (found_within s (bytes_over (definition_of s)) n) (definition_of s d) x g in
        subst IsSome (sym (base-row s t (row.Named d) f ∙ ap (option_and_then (base_at s)) meant.1)) (ih meant.0 x meant.2)

told_each : (s : Store) (whole : Extent) (start : ℕ) → whole.size ≤ 67108864 → (is : List ℕ)
    → ((i : ℕ) → In i is → (x : Extent) × (extent_at s i ≡ Some x) × (start + x.size ≤ whole.size)) → AreTold s is
told_each s whole start l [] h = tt
told_each s whole start l (i ∷ is) h =
    let here = h i (inl refl) in (
      based-within s (length s.rows) i here.0 here.1,
      record { extent = here.0; at = here.1; few = omega (arith, here.2, l) },
      told_each s whole start l is (λ j k. h j (inr k)),
    )

-- the row of the base of a union
union_row : (s : Store) (u : ℕ) (is : List ℕ) → members_at s u ≡ Some is → base_row s (ty.Of u) ≡ Some (row.Union is)
union_row s u is e =
    let b = then (λ b. option_and_then members_of (row_at s b)) (base_at s u) is e in
    let r = then members_of (row_at s b.0) is b.2 in
    ap (option_and_then (row_at s)) b.1 ∙ r.1 ∙ by r.0 r.2
  where
    by : (r : Row) → members_of r ≡ Some is → Some r ≡ Some (row.Union is)
    by (row.Union js) f = let same : js ≡ is = cc in ap (λ l. Some (row.Union l)) same
    by (row.Scalar k) f = absurd cc
    by (row.Pointer i) f = absurd cc
    by (row.Nullable i) f = absurd cc
    by (row.Slice i) f = absurd cc
    by (row.Array n i) f = absurd cc
    by (row.Struct fs) f = absurd cc
    by (row.Tuple js) f = absurd cc
    by (row.Error i) f = absurd cc
    by (row.Named d) f = absurd cc

-- a union that is known is known with its members
told_union : (s : Store) → IsStore s → (u : ℕ) (is : List ℕ) → IsKnown s (ty.Of u) → members_at s u ≡ Some is → IsToldUnion s u
told_union s v u is k e =
    let fits : Fits s u = built_fits s v u (row.Union is) k (union_row s u is e) refl in
    let lies : PayloadLiesIn s u fits.extent is = payload_lies_in s u fits.extent is fits.at e in
    record {
      fits = fits;
      members = is;
      union = e;
      told = told_each s fits.extent lies.start fits.few is (λ i h. (let m = lies.member i (In-to i is h) in (m.0, m.1, m.2)));
    }

-- ---- a value that becomes none of the members

first_none : {A : Type 0} (a b : Option A) → option_or a b ≡ None → (a ≡ None) × (b ≡ None)
first_none None b e = (refl, e)
first_none (Some a) b e = absurd cc

only_none : (b : Bool) (o : Option ℕ) → o ≡ None → cond b o None ≡ None
only_none true o e = e
only_none false o e = refl

none_for : (s : Store) (f : Value) (is : List ℕ) → first_member s f is ≡ None → member_for s f is ≡ None
none_for s f is e =
    let own = first_none (first_of s (is_same f) is)
    (option_or (first_of s (is_its_default f) is) (option_or (first_of s (is_const s f) is) (first_of s (is_lone s f) is))) e in
    let default = first_none (first_of s (is_its_default f) is)
    (option_or (first_of s (is_const s f) is) (first_of s (is_lone s f) is)) own.1 in
    let held = first_none (first_of s (is_const s f) is) (first_of s (is_lone s f) is) default.1 in
    let const_none = only_none (only_one (is_const s f) (types_at s is)) (first_of s (is_const s f) is) held.0 in
    let lone_none = only_none (only_one (is_lone s f) (types_at s is)) (first_of s (is_lone s f) is) held.1 in
    ap (λ o. option_or o (option_or (first_of s (is_its_default f) is)
    (option_or (only_of s (is_const s f) is) (only_of s (is_lone s f) is))))
    own.0
    ∙ ap (λ o. option_or o (option_or (only_of s (is_const s f) is) (only_of s (is_lone s f) is))) default.0
    ∙ ap (λ o. option_or o (only_of s (is_lone s f) is)) const_none ∙ lone_none

-- it is of a union itself
part_union : (s : Store) → IsStore s → (f : Ty) (ts : Trees) → IsKnown s f → is_part s (value_at s f) ts ≡ true → HasToldUnion s f
part_union s v (ty.Of t) ts k e = by (base s (type_at s t)) refl e
  where
    of_tree : (u : Tree) → base s (type_at s t) ≡ Some u → members_among ts u ≡ true → IsToldUnion s t
    of_tree (Union us) f g =
        let found = base_union s v t (base_in s t k.0) us f in
        told_union s v t found.0 k found.1
    of_tree (Scalar w) f g = absurd cc
    of_tree (Pointer u) f g = absurd cc
    of_tree (Nullable u) f g = absurd cc
    of_tree (Slice u) f g = absurd cc
    of_tree (Array n u) f g = absurd cc
    of_tree (Struct ns us) f g = absurd cc
    of_tree (Tuple us) f g = absurd cc
    of_tree (Error u) f g = absurd cc
    of_tree (Named d) f g = absurd cc

    by : (o : Option Tree) → base s (type_at s t) ≡ o → holds_of (members_among ts) o ≡ true → IsToldUnion s t
    by (Some u) f g = of_tree u f g
    by None f g = absurd cc
part_union s v (ty.Iconst w) ts k e = absurd cc
part_union s v ty.Null ts k e = absurd cc
part_union s v ty.Empty ts k e = absurd cc

-- ---- the row to unions

pub is_joined : (s : Store) → IsStore s → (f : Ty) (u : ℕ) → IsKnown s f → IsKnown s (ty.Of u) →
    is_union s (value_at s f) (type_at s u) ≡ true → IsJoined s f u
is_joined s v f u k m e = by (base s (type_at s u)) refl e
  where
    of_tree : (t : Tree) → base s (type_at s u) ≡ Some t → joins s (value_at s f) t ≡ true → IsJoined s f u
    of_tree (Union ts) g h =
        let found = base_union s v u (base_in s u m.0) ts g in
        let told = told_union s v u found.0 m found.1 in
        record {
          union = told;
          own = λ none.
              (let first : first_member s (value_at s f) found.0 ≡ None =
              sym (chosen_first s f found.0) ∙ sym (ap (λ o. chosen_member s f (unwrap_or o [])) found.1) ∙ none in
              part_union s v f ts k
              (keeps_own s v f u (base_in s u m.0) found.0 found.1 (none_for s (value_at s f) found.0 first) ts g h));
        }
    of_tree (Scalar w) g h = absurd cc
    of_tree (Pointer t) g h = absurd cc
    of_tree (Nullable t) g h = absurd cc
    of_tree (Slice t) g h = absurd cc
    of_tree (Array n t) g h = absurd cc
    of_tree (Struct ns ts) g h = absurd cc
    of_tree (Tuple ts) g h = absurd cc
    of_tree (Error t) g h = absurd cc
    of_tree (Named d) g h = absurd cc

    by : (o : Option Tree) → base s (type_at s u) ≡ o → holds_of (joins s (value_at s f)) o ≡ true → IsJoined s f u
    by (Some t) g h = of_tree t g h
    by None g h = absurd cc

-- the row that admits is the ninth only where the type comes to a union
ninth : (s : Store) (f : Value) (t : Tree) (n : ℕ) → first_row s f t ≡ Some n → n ≡ 9 → is_union s f t ≡ true
ninth s f t n e h =
    let is : IsFirst (table s f t) n = first_from-first (table s f t) n e in
    let place : n - 1 ≡ 8 = omega (arith, h) in
    let there : Some (is_union s f t) ≡ Some true = sym (ap (slice_get (table s f t)) place) ∙ is.admits in
    cc

pub goes_joined : (s : Store) → IsStore s → (f : Ty) (r : Coercion) → IsKnown s f → IsKnown s r.to → GoesTo s f r → Joins s f r.row r.to
goes_joined s v f r k m (o, e) = subst (λ q. Joins s f q.row q.to) (sym e) (by o (subst (λ q. IsKnown s q.to) e m))
  where
    stays : (g : Ty) → Joins s f 1 g
    stays (ty.Of u) = λ h. absurd (omega (arith, h))
    stays (ty.Iconst w) = tt
    stays ty.Null = tt
    stays ty.Empty = tt

    of_row : (u : ℕ) (p : Option ℕ) → first_row s (value_at s f) (type_at s u) ≡ p
        → IsKnown s (unwrap_or (option_map (λ n. record { row = n; to = ty.Of u }) p) (same f)).to
        → Joins s f (unwrap_or (option_map (λ n. record { row = n; to = ty.Of u }) p) (same f)).row
        (unwrap_or (option_map (λ n. record { row = n; to = ty.Of u }) p) (same f)).to
    of_row u None g h = stays f
    of_row u (Some n) g h = λ nine. is_joined s v f u k h (ninth s (value_at s f) (type_at s u) n g nine)

    by : (p : Option ℕ) → IsKnown s (to_type s f p).to → Joins s f (to_type s f p).row (to_type s f p).to
    by None h = stays f
    by (Some u) h = of_row u (first_row s (value_at s f) (type_at s u)) refl h
