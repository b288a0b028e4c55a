-- Which coercions make an array a slice.
use Rattle.std.proofs.Common.{◌≡◌, ℕ, Bool, true, false, nat_eq, List, [], ◌∷◌, Option, Some, None, refl, sym, ap, ◌∙◌, arith, if◌then◌else◌}
use Rattle.std.specs.Prelude.{find, is_some, option_map, option_and_then, unwrap_or}
use Rattle.std.specs.Option.{option_or}
use Rattle.std.specs.Cmp.{unsigned_Decides}
use Rattle.std.proofs.lemmas.Option.{slice_get_within}
use Rattle.hare_types.specs.declared.coercion.Ty.{Ty}
use Rattle.hare_types.specs.declared.coercion.Ty.TheVariants as ty
use Rattle.hare_types.specs.declared.coercion.Coercion.{Coercion}
use Rattle.hare_types.specs.declared.row.Row.{Row}
use Rattle.hare_types.specs.declared.row.Row.TheVariants as row
use Rattle.hare_types.specs.Rows.{tree_of, trees}
use Rattle.hare_types.specs.Trees.{Tree}
use Rattle.hare_types.specs.Sound.{IsStore}
use Rattle.hare_types.specs.Store.{Store}
use Rattle.hare_types.specs.ByIds.{row_at, members_at}
use Rattle.hare_types.specs.Assign.{Value, Of, Empty, type_at, value_at, holds_of, items_fit, is_same, is_never, is_const, is_wider, is_pointer, is_null, is_slice, is_name, is_union, is_lone, only_one, first_from, first_row, coercion, base}
use Rattle.hare_typed.specs.Coercions.{chosen_member, row_to, inner_as, inner_to, element_by, element_of_slice}
use Rattle.hare_typed.specs.Given.{base_row}
use Rattle.hare_typed.specs.Unions.{union_members}
use Rattle.hare_assign.specs.Shapes.{types_at}
use Rattle.hare_assign.specs.Chosen.{is_its_default, first_of, member_for, chosen}
use Rattle.hare_assign.proofs.TypeLemmas.{type_at_row}
use Rattle.hare_bytes.specs.Sliced.{is_array_row, joins_as_slice, IsArray, TellsArray}

-- ---- what is an array

no-items : (ts : List Tree) (r : Row) (u : Tree) → is_array_row r ≡ false → items_fit (Of (tree_of ts r)) u ≡ false
no-items ts (row.Array n i) u e = absurd cc
no-items ts (row.Scalar k) u e = refl
no-items ts (row.Pointer i) u e = refl
no-items ts (row.Nullable i) u e = refl
no-items ts (row.Slice i) u e = refl
no-items ts (row.Struct fs) u e = refl
no-items ts (row.Tuple is) u e = refl
no-items ts (row.Union is) u e = refl
no-items ts (row.Error i) u e = refl
no-items ts (row.Named d) u e = refl

pub tells-array : (s : Store) → IsStore s → (t : ℕ) (r : Row) (b : Bool) → row_at s t ≡ Some r → b ≡ is_array_row r
    → TellsArray s (ty.Of t) b
tells-array s v t r true e f = (slice_get_within s.rows t r e, tt)
tells-array s v t r false e f = λ u. ap (λ w. items_fit (Of w) u) (type_at_row s v t r e) ∙ no-items (trees s.rows) r u (sym f)

-- ---- what goes by another row than that to slices

not-seventh : (a b c d e f g h i : Bool) → g ≡ false → unwrap_or (first_from 1 (a ∷ b ∷ c ∷ d ∷ e ∷ f ∷ g ∷ h ∷ i ∷ [])) 1 ≡ 7 → ⊥
not-seventh true b c d e f g h i n q = omega (arith, q)
not-seventh false true c d e f g h i n q = omega (arith, q)
not-seventh false false true d e f g h i n q = omega (arith, q)
not-seventh false false false true e f g h i n q = omega (arith, q)
not-seventh false false false false true f g h i n q = omega (arith, q)
not-seventh false false false false false true g h i n q = omega (arith, q)
not-seventh false false false false false false true h i n q = cc
not-seventh false false false false false false false true i n q = omega (arith, q)
not-seventh false false false false false false false false true n q = omega (arith, q)
not-seventh false false false false false false false false false n q = omega (arith, q)

none-held : (v : Value) → ((t : Tree) → items_fit v t ≡ false) → (o : Option Tree) → holds_of (items_fit v) o ≡ false
none-held v n None = refl
none-held v n (Some t) = n t

pub not-sliced : (s : Store) (f : Ty) (u : ℕ) → ((t : Tree) → items_fit (value_at s f) t ≡ false) → joins_as_slice s f u ≡ false
not-sliced s f u n = by (chosen_member s f (union_members s u))
  where
    other-row : (m : ℕ) → row_to s f m ≡ 7 → ⊥
    other-row m =
        let v = value_at s f in
        let t = type_at s m in
        not-seventh (is_same v t) (is_never v) (is_const s v t) (is_wider v t) (is_pointer v t) (is_null s v t) (is_slice s v t)
        (is_name s v t) (is_union s v t)
        (none-held v n (base s t))

    told : (m : ℕ) (b : Bool) → nat_eq (row_to s f m) 7 ≡ b → is_some (element_by s (row_to s f m) (ty.Of m)) ≡ false
    told m true e = absurd (other-row m ((unsigned_Decides (row_to s f m) 7).0 e))
    told m false e = ap (λ (b : Bool). is_some {T = ℕ} (if b then element_of_slice (base_row s (ty.Of m)) else None)) e

    by : (o : Option ℕ) → is_some (element_by s (inner_as s f u o).row (inner_as s f u o).to) ≡ false
    by None = refl
    by (Some m) = told m (nat_eq (row_to s f m) 7) refl

-- ---- the member that an array becomes

find-none : (ms : List ℕ) → find (λ m. false) ms ≡ None
find-none [] = refl
find-none (m ∷ ms) = find-none ms

-- what is found as the only one is found as the first
picked : (a d h l : Option ℕ) (b c : Bool) (m : ℕ) → d ≡ None → h ≡ None
    → option_or a (option_or d (option_or (if b then h else None) (if c then l else None))) ≡ Some m
    → option_or a (option_or None (option_or h l)) ≡ Some m
picked (Some x) d h l b c m e g w = w
picked None (Some x) h l b c m e g w = absurd cc
picked None None (Some x) l b c m e g w = absurd cc
picked None None None l true true m e g w = w
picked None None None l true false m e g w = absurd cc
picked None None None l false true m e g w = w
picked None None None l false false m e g w = absurd cc

pick : (s : Store) (v : Value) (ms : List ℕ) (m : ℕ) → first_of s (is_its_default v) ms ≡ None → first_of s (is_const s v) ms ≡ None
    → member_for s v ms ≡ Some m
    → option_or (first_of s (is_same v) ms) (option_or None (option_or (first_of s (is_const s v) ms) (first_of s (is_lone s v) ms)))
    ≡ Some m
pick s v ms m =
    picked (first_of s (is_same v) ms) (first_of s (is_its_default v) ms) (first_of s (is_const s v) ms) (first_of s (is_lone s v) ms)
    (only_one (is_const s v) (types_at s ms)) (only_one (is_lone s v) (types_at s ms)) m

member-chosen : (s : Store) (f : Ty) (ms : List ℕ) (m : ℕ) → IsArray s f → member_for s (value_at s f) ms ≡ Some m
    → chosen_member s f ms ≡ Some m
member-chosen s (ty.Of t) ms m a w = pick s (Of (type_at s t)) ms m (find-none ms) (find-none ms) w
member-chosen s ty.Empty ms m a w = pick s Empty ms m (find-none ms) (find-none ms) w
member-chosen s (ty.Iconst v) ms m a w = absurd a
member-chosen s ty.Null ms m a w = absurd a

pub inner-chosen : (s : Store) (f : Ty) (u : ℕ) (c : Coercion) → IsArray s f → chosen s f u ≡ Some c → c ≡ inner_to s f u
inner-chosen s f u c a = of (members_at s u) refl
  where
    gone : (m : ℕ) (o : Option ℕ) → first_row s (value_at s f) (type_at s m) ≡ o
        → option_map (λ n. record { row = n; to = ty.Of m }) o ≡ Some c
        → c ≡ record { row = row_to s f m; to = ty.Of m }
    gone m None e g = absurd cc
    gone m (Some n) e g =
        let by_row : ℕ → Coercion = λ r. record { row = r; to = ty.Of m } in
        let is : by_row n ≡ c = cc in
        sym is ∙ ap (λ o. by_row (unwrap_or o 1)) (sym e)

    found : (ms : List ℕ) → members_at s u ≡ Some ms → (o : Option ℕ) → member_for s (value_at s f) ms ≡ o
        → option_and_then (coercion s f) o ≡ Some c
        → c ≡ inner_to s f u
    found ms k None e g = absurd cc
    found ms k (Some m) e g =
        gone m (first_row s (value_at s f) (type_at s m)) refl g
        ∙ sym (ap (λ o. inner_as s f u (chosen_member s f (unwrap_or o []))) k ∙ ap (inner_as s f u) (member-chosen s f ms m a e))

    of : (o : Option (List ℕ)) → members_at s u ≡ o
        → option_and_then (coercion s f) (option_and_then (member_for s (value_at s f)) o) ≡ Some c
        → c ≡ inner_to s f u
    of None k g = absurd cc
    of (Some ms) k g = found ms k (member_for s (value_at s f) ms) refl g
