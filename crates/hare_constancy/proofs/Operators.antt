-- What rows ask of operators on numbers is enough.
use Rattle.std.proofs.Common.{◌≡◌, ◌≢◌, ◌∙◌, sym, ap, subst, refl, ℕ, ◌<◌, length, arith, Bool, true, false, not, ◌&&◌, ◌⊎◌, inl, inr, Option, Some, None}
use Rattle.std.specs.Prelude.{ℤ, cond, nat_eq, is_some, option_map, option_and_then, unwrap_or, IsSome, List, ◌∷◌}
use Rattle.hare_tree.specs.declared.kind.Kind.TheVariants as kind
use Rattle.std.specs.Prelude.{ltb}
use Rattle.std.specs.Bool.{beq}
use Rattle.hare_types.specs.declared.coercion.Coercion.{Coercion}
use Rattle.hare_types.specs.declared.coercion.Ty.{Ty}
use Rattle.hare_types.specs.declared.coercion.Ty.TheVariants as ty
use Rattle.hare_types.specs.declared.row.Row.{Row}
use Rattle.hare_types.specs.declared.row.Row.TheVariants as row
use Rattle.hare_types.specs.declared.row.Scalar.{Scalar as Keyword}
use Rattle.hare_types.specs.declared.row.Scalar.TheVariants as keyword
use Rattle.hare_types.specs.Trees.{Tree}
use Rattle.hare_types.specs.Assign.{wider, bits, Iconst, type_at, value_at, holds_of, signed, holds, tree_holds, default_word, is_const, first_from, first_row, coercion}
use Rattle.hare_types.specs.Store.{Store}
use Rattle.hare_types.specs.Sound.{IsStore}
use Rattle.hare_types.specs.ByIds.{row_at, base_at}
use Rattle.hare_types.proofs.IdLemmas.{base-row, base_tells, id_tells}
use Rattle.hare_typed.specs.Typed.{TypedNode}
use Rattle.hare_typed.specs.Order.{kid_from_front}
use Rattle.hare_typed.specs.Given.{given, base_row}
use Rattle.hare_typed.specs.Constants.{own_kind}
use Rattle.hare_typed.specs.Shapes.{shape_of_row, int_of_shape}
use Rattle.hare_typed.specs.ConstantForms.{type_of_kid, is_iconst, int_in}
use Rattle.hare_layout.proofs.PlacesLemmas.{then}
use Rattle.hare_assign.proofs.ChosenLemmas.{base_is}
use Rattle.hare_assign.proofs.TypeLemmas.{type_at_row}
use Rattle.hare_typed.specs.Settled.{IsWidth}
use Rattle.hare_typed.specs.Settled.{HasNumber, HasNumbers}
use Rattle.hare_rules.specs.Words as words
use Rattle.hare_rules.specs.Words.{Common, Typed, Exact, common, common_of_types, common_type, widens, integer_word, integer_word_of, word_of, wider_word, holds_in, has_integer_base, is_integer, default_in, word_id, are_iconsts}
use Rattle.hare_rules.specs.Context.{Context, store_of, kid, own_type}
use Rattle.hare_rules.specs.Exact.{exact_of}
use Rattle.hare_rules.specs.Operators.{first_seen, second_seen, unary, unary_type, operands_common, exact_type, arith_type_by, arith_type, shift_type}
use Rattle.hare_rules.specs.Settles.{same, to_type, target_of, common_target, shift_target, only_where, default_at}
use Rattle.hare_constancy.specs.Met.{asks_nothing, IsJudged}
use Rattle.hare_constancy.proofs.Types.{base_in}
use Rattle.hare_constancy.proofs.Judged.{kid_given, kid_coerced}

-- ---- bits

-- an integer type has some bits, and 64 at most
width_of_word : (k : Keyword) → is_some (signed k) ≡ true →
    IsWidth (unwrap_or (option_map int_of_shape (shape_of_row (row.Scalar k))) (record { bits = 0; signed = false })).bits
width_of_word keyword.I8 e = record { some = omega arith; few = omega arith }
width_of_word keyword.I16 e = record { some = omega arith; few = omega arith }
width_of_word keyword.I32 e = record { some = omega arith; few = omega arith }
width_of_word keyword.I64 e = record { some = omega arith; few = omega arith }
width_of_word keyword.U8 e = record { some = omega arith; few = omega arith }
width_of_word keyword.U16 e = record { some = omega arith; few = omega arith }
width_of_word keyword.U32 e = record { some = omega arith; few = omega arith }
width_of_word keyword.U64 e = record { some = omega arith; few = omega arith }
width_of_word keyword.Int e = record { some = omega arith; few = omega arith }
width_of_word keyword.Uint e = record { some = omega arith; few = omega arith }
width_of_word keyword.Size e = record { some = omega arith; few = omega arith }
width_of_word keyword.Void e = absurd cc
width_of_word keyword.Never e = absurd cc
width_of_word keyword.Opaque e = absurd cc
width_of_word keyword.Bool e = absurd cc
width_of_word keyword.Rune e = absurd cc
width_of_word keyword.Str e = absurd cc

is_word_signed : (k : Keyword) → is_some (integer_word_of (Some k)) ≡ true → is_some (signed k) ≡ true
is_word_signed k e = by (signed k) refl e
  where
    by : (o : Option Bool) → signed k ≡ o → is_some (cond (is_some o) (Some k) None) ≡ true → is_some (signed k) ≡ true
    by (Some b) f g = ap is_some f
    by None f g = absurd cc

pub width_of_row : (o : Option Row) → is_some (integer_word_of (word_of o)) ≡ true →
    IsWidth (unwrap_or (option_map int_of_shape (option_and_then shape_of_row o)) (record { bits = 0; signed = false })).bits
width_of_row (Some (row.Scalar k)) e = width_of_word k (is_word_signed k e)
width_of_row None e = absurd cc
width_of_row (Some (row.Pointer i)) e = absurd cc
width_of_row (Some (row.Nullable i)) e = absurd cc
width_of_row (Some (row.Slice i)) e = absurd cc
width_of_row (Some (row.Array n i)) e = absurd cc
width_of_row (Some (row.Struct fs)) e = absurd cc
width_of_row (Some (row.Tuple is)) e = absurd cc
width_of_row (Some (row.Union is)) e = absurd cc
width_of_row (Some (row.Error i)) e = absurd cc
width_of_row (Some (row.Named d)) e = absurd cc

pub integer_width : (s : Store) (f : Ty) → has_integer_base s f ≡ true → IsWidth (int_in s f).bits
integer_width s (ty.Of t) e = width_of_row (base_row s (ty.Of t)) e
integer_width s (ty.Iconst v) e = absurd cc
integer_width s ty.Null e = absurd cc
integer_width s ty.Empty e = absurd cc

-- ---- one operand

pub unary_asked : (c : Context) (t : TypedNode) → IsJudged c t → own_kind t ≢ kind.Yield → target_of c c.head.kind 0 ≡ None →
    is_integer (store_of c) (first_seen c) ≡ true → unary_type c.head.kind (first_seen c) ≡ Some (own_type t) → HasNumber (store_of c) t
unary_asked c t j y o h e = by (first_seen c) refl h e
  where
    s : Store
    s = store_of c

    by : (f : Ty) → first_seen c ≡ f → is_integer s f ≡ true → unary_type c.head.kind f ≡ Some (own_type t) → HasNumber s t
    by (ty.Of u) g i k n =
        let same : ty.Of u ≡ own_type t = cc in
        (subst (λ a. IsWidth (int_in s a).bits) same (integer_width s (ty.Of u) i), ap is_iconst (kid_given c t j y 0 o ∙ g))
    by (ty.Iconst v) g i k n = no_number (unary c.head.kind v) k n
      where
        no_number : (p : Option ℤ) → option_map ty.Iconst p ≡ Some (own_type t) → HasNumber s t
        no_number (Some w) q n = let same : ty.Iconst w ≡ own_type t = cc in let both = ap is_iconst same ∙ n in absurd cc
        no_number None q n = absurd cc
    by ty.Null g i k n = absurd cc
    by ty.Empty g i k n = absurd cc

-- ---- where whole numbers without a suffix go

third : (b : Bool) (rest : List Bool) → b ≡ true → first_from 3 (b ∷ rest) ≡ Some 3
third true rest e = refl
third false rest e = absurd cc

-- such a number goes to a type that holds it
first-const : (s : Store) (v : ℤ) (u : Tree) → is_const s (Iconst v) u ≡ true → first_row s (Iconst v) u ≡ Some 3
first-const s v u e = third (is_const s (Iconst v) u) _ e

pub const_goes : (s : Store) (v : ℤ) (u : ℕ) → is_const s (Iconst v) (type_at s u) ≡ true → (to_type s (ty.Iconst v) (Some u)).to ≡ ty.Of u
const_goes s v u e = ap (λ (o : Option ℕ). (unwrap_or (option_map (λ n. record { row = n; to = ty.Of u }) o) (same (ty.Iconst v))).to)
    (first-const s v (type_at s u) e)

-- the number is held by the base of the type
word_held : (s : Store) → IsStore s → (u : ℕ) (k : Keyword) → base_row s (ty.Of u) ≡ Some (row.Scalar k) → (v : ℤ) → holds k v ≡ true →
    is_const s (Iconst v) (type_at s u) ≡ true
word_held s w u k e v h =
    let h0 = then (row_at s) (base_at s u) (row.Scalar k) e in
    let found = (base_tells s w u h0.0).0 h0.1 in
    let within : u < length s.rows = base_in s u (subst IsSome (sym h0.1) refl) in
    ap (holds_of (λ q. tree_holds q v)) (base_is s w u within h0.0 found ∙ ap Some (type_at_row s w h0.0 (row.Scalar k) h0.2)) ∙ h

-- the word that an integer type has as its base
word_of_base : (o : Option Row) (k : Keyword) → integer_word_of (word_of o) ≡ Some k → o ≡ Some (row.Scalar k)
word_of_base (Some (row.Scalar j)) k e = by (signed j) refl e
  where
    by : (p : Option Bool) → signed j ≡ p → cond (is_some p) (Some j) None ≡ Some k → Some (row.Scalar j) ≡ Some (row.Scalar k)
    by (Some b) f g = let same : j ≡ k = cc in ap (λ i. Some (row.Scalar i)) same
    by None f g = absurd cc
word_of_base None k e = absurd cc
word_of_base (Some (row.Pointer i)) k e = absurd cc
word_of_base (Some (row.Nullable i)) k e = absurd cc
word_of_base (Some (row.Slice i)) k e = absurd cc
word_of_base (Some (row.Array n i)) k e = absurd cc
word_of_base (Some (row.Struct fs)) k e = absurd cc
word_of_base (Some (row.Tuple is)) k e = absurd cc
word_of_base (Some (row.Union is)) k e = absurd cc
word_of_base (Some (row.Error i)) k e = absurd cc
word_of_base (Some (row.Named d)) k e = absurd cc

held_goes : (s : Store) → IsStore s → (u : ℕ) (v : ℤ) → holds_in (integer_word s (ty.Of u)) v ≡ true →
    (to_type s (ty.Iconst v) (Some u)).to ≡ ty.Of u
held_goes s w u v e = by (integer_word s (ty.Of u)) refl e
  where
    by : (o : Option Keyword) → integer_word s (ty.Of u) ≡ o → holds_in o v ≡ true → (to_type s (ty.Iconst v) (Some u)).to ≡ ty.Of u
    by (Some k) f g = const_goes s v u (word_held s w u k (word_of_base (base_row s (ty.Of u)) k f) v g)
    by None f g = absurd cc

pub held_integer : (s : Store) (u : ℕ) (v : ℤ) → holds_in (integer_word s (ty.Of u)) v ≡ true → has_integer_base s (ty.Of u) ≡ true
held_integer s u v e = by (integer_word s (ty.Of u)) refl e
  where
    by : (o : Option Keyword) → integer_word s (ty.Of u) ≡ o → holds_in o v ≡ true → has_integer_base s (ty.Of u) ≡ true
    by (Some k) f g = ap is_some f
    by None f g = absurd cc

-- what is no such number becomes none
pub stays_typed : (s : Store) (f : Ty) (o : Option ℕ) → is_iconst f ≡ false → is_iconst (to_type s f o).to ≡ false
stays_typed s f None e = e
stays_typed s f (Some u) e = by (coercion s f u) refl
  where
    of_row : (p : Option ℕ) → is_iconst (unwrap_or (option_map (λ n. record { row = n; to = ty.Of u }) p) (same f)).to ≡ false
    of_row (Some n) = refl
    of_row None = e

    by : (p : Option Coercion) → coercion s f u ≡ p → is_iconst (to_type s f (Some u)).to ≡ false
    by p g = of_row (first_row s (value_at s f) (type_at s u))

-- ---- common types

-- a type that is common to two operands is an integer type, and holds each that is a whole number without a suffix
pub record IsCommon (s : Store) (a b : Ty) (u : ℕ) : Type 0 where
  pub integer : has_integer_base s (ty.Of u) ≡ true
  left : (v : ℤ) → a ≡ ty.Iconst v → holds_in (integer_word s (ty.Of u)) v ≡ true
  right : (v : ℤ) → b ≡ ty.Iconst v → holds_in (integer_word s (ty.Of u)) v ≡ true

-- a type that is wider or narrower than another is a word that has a sign or has none
wider_signed : (a b : Keyword) → wider a b ≡ true → is_some (signed b) ≡ true
wider_signed a b e = by (signed a) (signed b) refl e
  where
    by : (o p : Option Bool) → signed b ≡ p → holds_of (λ x. holds_of (λ y. beq x y && ltb (bits a) (bits b)) p) o ≡ true →
        is_some (signed b) ≡ true
    by None p f g = absurd cc
    by (Some x) None f g = absurd cc
    by (Some x) (Some y) f g = ap is_some f

wide_word : (o p : Option Keyword) → wider_word o p ≡ true → (k : Keyword) × (p ≡ Some k) × (is_some (signed k) ≡ true)
wide_word (Some a) (Some b) e = (b, refl, wider_signed a b e)
wide_word (Some a) None e = absurd cc
wide_word None p e = absurd cc

pub row_of_word : (o : Option Row) (k : Keyword) → word_of o ≡ Some k → o ≡ Some (row.Scalar k)
row_of_word (Some (row.Scalar j)) k e = let same : j ≡ k = cc in ap (λ i. Some (row.Scalar i)) same
row_of_word None k e = absurd cc
row_of_word (Some (row.Pointer i)) k e = absurd cc
row_of_word (Some (row.Nullable i)) k e = absurd cc
row_of_word (Some (row.Slice i)) k e = absurd cc
row_of_word (Some (row.Array n i)) k e = absurd cc
row_of_word (Some (row.Struct fs)) k e = absurd cc
row_of_word (Some (row.Tuple is)) k e = absurd cc
row_of_word (Some (row.Union is)) k e = absurd cc
row_of_word (Some (row.Error i)) k e = absurd cc
row_of_word (Some (row.Named d)) k e = absurd cc

pub scalar_base : (s : Store) (u : ℕ) (k : Keyword) → row_at s u ≡ Some (row.Scalar k) → base_row s (ty.Of u) ≡ Some (row.Scalar k)
scalar_base s u k e = ap (option_and_then (row_at s)) (base-row s u (row.Scalar k) e) ∙ e

pub scalar_integer : (s : Store) (u : ℕ) (k : Keyword) → row_at s u ≡ Some (row.Scalar k) → is_some (signed k) ≡ true →
    has_integer_base s (ty.Of u) ≡ true
scalar_integer s u k e h =
    ap (λ o. is_some (integer_word_of (word_of o))) (scalar_base s u k e) ∙ ap (λ b. is_some (cond b (Some k) None)) h

pub widened : (s : Store) (t u : ℕ) → widens s (ty.Of t) (ty.Of u) ≡ true → has_integer_base s (ty.Of u) ≡ true
widened s t u e =
    let w = wide_word (word_of (row_at s t)) (word_of (row_at s u)) e in
    scalar_integer s u w.0 (row_of_word (row_at s u) w.0 w.1) w.2

common_of : (s : Store) (t u n : ℕ) → common_of_types s t u ≡ Some (Typed n) → has_integer_base s (ty.Of n) ≡ true
common_of s t u n e =
    by (nat_eq t u && has_integer_base s (ty.Of t)) refl (widens s (ty.Of t) (ty.Of u)) refl (widens s (ty.Of u) (ty.Of t)) refl e
  where
    and_second : (a b : Bool) → (a && b) ≡ true → b ≡ true
    and_second true b f = f
    and_second false b f = absurd cc

    by : (a : Bool) → (nat_eq t u && has_integer_base s (ty.Of t)) ≡ a → (b : Bool) → widens s (ty.Of t) (ty.Of u) ≡ b → (d : Bool) →
        widens s (ty.Of u) (ty.Of t) ≡ d
        → cond a (Some (Typed t)) (cond b (Some (Typed u)) (cond d (Some (Typed t)) None)) ≡ Some (Typed n) →
        has_integer_base s (ty.Of n) ≡ true
    by true f b g d h k =
        let same : t ≡ n = cc in
        subst (λ i. has_integer_base s (ty.Of i) ≡ true) same (and_second (nat_eq t u) (has_integer_base s (ty.Of t)) f)
    by false f true g d h k = let same : u ≡ n = cc in subst (λ i. has_integer_base s (ty.Of i) ≡ true) same (widened s t u g)
    by false f false g true h k = let same : t ≡ n = cc in subst (λ i. has_integer_base s (ty.Of i) ≡ true) same (widened s u t h)
    by false f false g false h k = absurd cc

pub common_is : (s : Store) (a b : Ty) (u : ℕ) → common s a b ≡ Some (Typed u) → IsCommon s a b u
common_is s (ty.Iconst v) (ty.Of t) u e = by (holds_in (integer_word s (ty.Of t)) v) refl e
  where
    by : (d : Bool) → holds_in (integer_word s (ty.Of t)) v ≡ d → cond d (Some (Typed t)) None ≡ Some (Typed u) →
        IsCommon s (ty.Iconst v) (ty.Of t) u
    by true f g =
        let same : t ≡ u = cc in
        let held = subst (λ i. holds_in (integer_word s (ty.Of i)) v ≡ true) same f in
        record {
          integer = held_integer s u v held;
          left = λ w h. (let number : v ≡ w = cc in subst (λ i. holds_in (integer_word s (ty.Of u)) i ≡ true) number held);
          right = λ w h. absurd cc;
        }
    by false f g = absurd cc
common_is s (ty.Of t) (ty.Iconst v) u e = by (holds_in (integer_word s (ty.Of t)) v) refl e
  where
    by : (d : Bool) → holds_in (integer_word s (ty.Of t)) v ≡ d → cond d (Some (Typed t)) None ≡ Some (Typed u) →
        IsCommon s (ty.Of t) (ty.Iconst v) u
    by true f g =
        let same : t ≡ u = cc in
        let held = subst (λ i. holds_in (integer_word s (ty.Of i)) v ≡ true) same f in
        record {
          integer = held_integer s u v held;
          left = λ w h. absurd cc;
          right = λ w h. (let number : v ≡ w = cc in subst (λ i. holds_in (integer_word s (ty.Of u)) i ≡ true) number held);
        }
    by false f g = absurd cc
common_is s (ty.Of t) (ty.Of r) u e =
    record { integer = common_of s t r u e; left = λ w h. absurd cc; right = λ w h. absurd cc }
common_is s (ty.Iconst v) (ty.Iconst w) u e = absurd cc
common_is s (ty.Iconst v) ty.Null u e = absurd cc
common_is s (ty.Iconst v) ty.Empty u e = absurd cc
common_is s (ty.Of t) ty.Null u e = absurd cc
common_is s (ty.Of t) ty.Empty u e = absurd cc
common_is s ty.Null b u e = absurd cc
common_is s ty.Empty b u e = absurd cc

-- an operand that goes to such a type is no whole number without a suffix any more
operand_typed : (s : Store) → IsStore s → (f : Ty) (u : ℕ) → ((v : ℤ) → f ≡ ty.Iconst v → holds_in (integer_word s (ty.Of u)) v ≡ true) →
    is_iconst (to_type s f (Some u)).to ≡ false
operand_typed s w (ty.Iconst v) u h = ap is_iconst (held_goes s w u v (h v refl))
operand_typed s w (ty.Of t) u h = stays_typed s (ty.Of t) (Some u) refl
operand_typed s w ty.Null u h = stays_typed s ty.Null (Some u) refl
operand_typed s w ty.Empty u h = stays_typed s ty.Empty (Some u) refl

-- the default of such a number holds it
default_of : (s : Store) → IsStore s → (v : ℤ) (u : ℕ) → option_and_then (word_id s) (default_word v) ≡ Some u →
    holds_in (integer_word s (ty.Of u)) v ≡ true
default_of s w v u e =
    let k = then (word_id s) (default_word v) u e in
    let here = (id_tells s w (row.Scalar k.0) u).0 k.2 in
    let held = by_default k.0 k.1 in
    ap (λ o. holds_in (integer_word_of (word_of o)) v) (scalar_base s u k.0 here) ∙ ap (λ b. holds_in (cond b (Some k.0) None) v) held.0 ∙
    held.1
  where
    by_default : (k : Keyword) → default_word v ≡ Some k → (is_some (signed k) ≡ true) × (holds k v ≡ true)
    by_default k f = by (holds keyword.Int v) refl (holds keyword.I64 v) refl f
      where
        by : (a : Bool) → holds keyword.Int v ≡ a → (b : Bool) → holds keyword.I64 v ≡ b →
            cond a (Some keyword.Int) (cond b (Some keyword.I64) None) ≡ Some k → (is_some (signed k) ≡ true) × (holds k v ≡ true)
        by true g b h i =
            let same : keyword.Int ≡ k = cc in
            (ap (λ q. is_some (signed q)) (sym same), subst (λ q. holds q v ≡ true) same g)
        by false g true h i =
            let same : keyword.I64 ≡ k = cc in
            (ap (λ q. is_some (signed q)) (sym same), subst (λ q. holds q v ≡ true) same h)
        by false g false h i = absurd cc

-- ---- two operands

module _ (c : Context) (t : TypedNode) (v : IsStore (store_of c)) (j : IsJudged c t) (y : own_kind t ≢ kind.Yield) where
  kid_typed : (i u : ℕ) → target_of c c.head.kind i ≡ Some u → is_iconst (to_type (store_of c) (own_type (kid c i)) (Some u)).to ≡ false →
      is_iconst (type_of_kid i t) ≡ false
  kid_typed i u e h = by (kid_coerced c t j y i u e)
    where
      by : (given (kid_from_front i t) ≡ (to_type (store_of c) (own_type (kid c i)) (Some u)).to)
          ⊎ (given (kid_from_front i t) ≡ ty.Empty) →
          is_iconst (type_of_kid i t) ≡ false
      by (inl g) = ap is_iconst g ∙ h
      by (inr g) = ap is_iconst g

  exact_none : (o : Option ℤ) → option_map ty.Iconst o ≡ Some (own_type t) → is_iconst (own_type t) ≡ true
  exact_none (Some w) e = let same : ty.Iconst w ≡ own_type t = cc in ap is_iconst (sym same)
  exact_none None e = absurd cc

  no_number : is_iconst (own_type t) ≡ true → HasNumber (store_of c) t
  no_number e n = let both = sym e ∙ n in absurd cc

  pub arith_asked : asks_nothing (own_kind t) ≡ true → ((i : ℕ) → target_of c c.head.kind i ≡ common_target c) →
      arith_type c ≡ Some (own_type t) → HasNumbers (store_of c) t
  arith_asked a g e = by (operands_common c) refl e
    where
      s : Store
      s = store_of c

      by : (o : Option Common) → operands_common c ≡ o → arith_type_by c o ≡ Some (own_type t) → HasNumbers s t
      by (Some (Typed u)) f h =
          let is = common_is s (first_seen c) (second_seen c) u f in
          let same : ty.Of u ≡ own_type t = cc in
          let to : (i : ℕ) → target_of c c.head.kind i ≡ Some u = λ i. g i ∙ ap common_type f in
          let first = kid_typed 0 u (to 0) (operand_typed s v (own_type (kid c 0)) u (λ w k. is.left w (j.unasked 0 a ∙ k))) in
          let second = kid_typed 1 u (to 1) (operand_typed s v (own_type (kid c 1)) u (λ w k. is.right w (j.unasked 1 a ∙ k))) in
          (λ n. (subst (λ q. IsWidth (int_in s q).bits) same (integer_width s (ty.Of u) is.integer), first), λ n. second)
      by (Some Exact) f h =
          let none = exact_none (exact_of c.head.kind c.head.text (first_seen c) (second_seen c)) h in
          (no_number none, λ n. (let both = sym none ∙ n in absurd cc))
      by None f h = absurd cc

  pub shift_asked : asks_nothing (own_kind t) ≡ true → target_of c c.head.kind 0 ≡ shift_target c 0 →
      is_integer (store_of c) (first_seen c) ≡ true →
      shift_type c ≡ Some (own_type t) → HasNumber (store_of c) t
  shift_asked a g i e = by (are_iconsts (first_seen c) (second_seen c)) refl e
    where
      s : Store
      s = store_of c

      made : (o : Option ℕ) → words.typed_as o ≡ Some (own_type t) → (u : ℕ) × (o ≡ Some u) × (ty.Of u ≡ own_type t)
      made None f = absurd cc
      made (Some u) f = (u, refl, cc)

      of_type : (f : Ty) → first_seen c ≡ f → is_integer s f ≡ true → (u : ℕ) → default_in s f ≡ Some u →
          (has_integer_base s (ty.Of u) ≡ true) × (is_iconst (to_type s f (Some u)).to ≡ false)
      of_type (ty.Of r) h n u d =
          let same : r ≡ u = cc in
          (subst (λ q. has_integer_base s (ty.Of q) ≡ true) same n, stays_typed s (ty.Of r) (Some u) refl)
      of_type (ty.Iconst w) h n u d =
          let k = default_of s v w u d in
          (held_integer s u w k, ap is_iconst (held_goes s v u w k))
      of_type ty.Null h n u d = absurd cc
      of_type ty.Empty h n u d = absurd cc

      by : (b : Bool) → are_iconsts (first_seen c) (second_seen c) ≡ b →
          cond b (exact_type c) (words.typed_as (default_in s (first_seen c))) ≡
          Some (own_type t) → HasNumber s t
      by true f h n = no_number (exact_none (exact_of c.head.kind c.head.text (first_seen c) (second_seen c)) h) n
      by false f h n =
          let m = made (default_in s (first_seen c)) h in
          let p = of_type (first_seen c) refl i m.0 m.1 in
          let kept : first_seen c ≡ own_type (kid c 0) = j.unasked 0 a in
          let to : target_of c c.head.kind 0 ≡ Some m.0 =
          g ∙ ap (λ b. only_where (true && not b) (default_at c 0)) f ∙ ap (default_in s) (sym kept) ∙ m.1 in (
            subst (λ q. IsWidth (int_in s q).bits) m.2 (integer_width s (ty.Of m.0) p.0),
            kid_typed 0 m.0 to (subst (λ q. is_iconst (to_type s q (Some m.0)).to ≡ false) kept p.1),
          )
