-- The types of nodes that meet their rows.
use Rattle.std.proofs.Common.{◌≡◌, ℕ, ◌<◌, ◌^◌, Bool, true, false, not, ◌&&◌, ◌||◌, cond, nat_eq, List, [], ◌∷◌, Option, Some, None, IsSome, refl, ap, ap₂, sym, ◌∙◌}
use Rattle.std.specs.Prelude.{ℤ, find, is_some, option_map, nat_lt}
use Rattle.std.proofs.lemmas.Bool.{ltb-true}
use Rattle.hare_tree.specs.declared.kind.Kind.{Kind}
use Rattle.hare_tree.specs.declared.kind.Kind.TheVariants as ki
use Rattle.hare_tree.specs.declared.form.Sort.{Sort}
use Rattle.hare_tree.specs.Node.{Head, Node, Nodes, branch, head}
use Rattle.hare_tree.specs.Forms.{form_of}
use Rattle.hare_tree.specs.Shape.{is_shaped, is_own, own_of}
use Rattle.hare_types.specs.declared.coercion.Ty.{Ty}
use Rattle.hare_types.specs.declared.coercion.Ty.TheVariants as ty
use Rattle.hare_rules.specs.declared.row_id.RowId.{RowId}
use Rattle.hare_rules.specs.declared.row_id.RowId.TheVariants as row
use Rattle.hare_rules.specs.Words.{are_iconsts, has_default, has_integer_base, widens, holds_in, integer_word, typed_as, Common, Typed, common, common_type}
use Rattle.hare_rules.specs.Exact.{exact_of}
use Rattle.hare_rules.specs.Context.{Context, store_of}
use Rattle.hare_rules.specs.Operators.{first_seen, second_seen, operands_common, arith_type_by, arith_type}
use Rattle.hare_rules.specs.Table.{rows_of}
use Rattle.hare_rules.specs.Rows.{holds}
use Rattle.rule_judge.specs.Asked.{own_rows, own_failing}
use Rattle.rule_ops.specs.Typed.{exact_type_of, arith_type_of, has_shift_type}
use Rattle.rule_ops.proofs.OperandLemmas.{common_typed}

-- ---- numbers

and_left : (a b : Bool) → (a && b) ≡ true → a ≡ true
and_left true b e = refl
and_left false b e = absurd cc

and_right : (a b : Bool) → (a && b) ≡ true → b ≡ true
and_right true b e = e
and_right false b e = absurd cc

shaped_own : (s : Sort) (h : Head) (ts : Nodes) → is_shaped s (branch h ts) ≡ true → is_own (own_of (form_of h.kind)) h ≡ true
unfolding is_shaped
shaped_own s h ts e = and_right _ _ (and_left _ _ (and_left _ _ (and_left _ _ e)))

number_own : (h : Head) → h.kind ≡ ki.Number → is_own (own_of (form_of h.kind)) h ≡ true → nat_lt h.number (2 ^ 127) ≡ true
number_own h k e = and_right _ _ (sym (ap (λ x. is_own (own_of (form_of x)) h) k) ∙ e)

-- a number that is written is below 2^127
pub number_small : (s : Sort) (n : Node) → is_shaped s n ≡ true → (head n).kind ≡ ki.Number → (head n).number < 2 ^ 127
number_small s (branch h ts) e k = ltb-true h.number (2 ^ 127) (number_own h k (shaped_own s h ts e))

-- ---- rows that hold

first_holds : (c : Context) (r : RowId) (rs : List RowId) → find (λ q. not (holds q c)) (r ∷ rs) ≡ None → (holds r c ≡ true) ×
    (find (λ q. not (holds q c)) rs ≡ None)
first_holds c r rs e = by (holds r c) e
  where
    by : (b : Bool) → cond (not b) (Some r) (find (λ q. not (holds q c)) rs) ≡ None → (b ≡ true) × (find (λ q. not (holds q c)) rs ≡ None)
    by true g = (refl, g)
    by false g = absurd cc

rows_at : (c : Context) (k : Kind) → c.head.kind ≡ k → own_failing c ≡ None → find (λ q. not (holds q c)) (own_rows (rows_of k)) ≡ None
rows_at c k e h = sym (ap (λ x. find (λ q. not (holds q c)) (own_rows (rows_of x))) e) ∙ h

-- ---- arithmetic

arith_typed : (c : Context) (b : Bool) (t : ℕ) (o : Option Common) → arith_type_by c o ≡ typed_as (common_type o)
    → arith_type_by c (cond b (Some (Typed t)) o) ≡ typed_as (common_type (cond b (Some (Typed t)) o))
arith_typed c true t o e = refl
arith_typed c false t o e = e

module _ (c : Context) where
  arith_by : (a b : Ty) → a ≡ first_seen c → b ≡ second_seen c
      → arith_type_by c (common (store_of c) a b) ≡ arith_type_of (store_of c) c.head.kind c.head.text a b
  arith_by (ty.Iconst v) (ty.Iconst w) e g = sym (ap₂ (exact_type_of c.head.kind c.head.text) e g)
  arith_by (ty.Iconst v) (ty.Of u) e g = arith_typed c (holds_in (integer_word (store_of c) (ty.Of u)) v) u None refl
  arith_by (ty.Iconst v) ty.Null e g = refl
  arith_by (ty.Iconst v) ty.Empty e g = refl
  arith_by (ty.Of t) (ty.Iconst w) e g = arith_typed c (holds_in (integer_word (store_of c) (ty.Of t)) w) t None refl
  arith_by (ty.Of t) (ty.Of u) e g =
      arith_typed c (nat_eq t u && has_integer_base (store_of c) (ty.Of t)) t _
      (arith_typed c (widens (store_of c) (ty.Of t) (ty.Of u)) u _ (arith_typed c (widens (store_of c) (ty.Of u) (ty.Of t)) t None refl))
  arith_by (ty.Of t) ty.Null e g = refl
  arith_by (ty.Of t) ty.Empty e g = refl
  arith_by ty.Null b e g = refl
  arith_by ty.Empty b e g = refl

  -- what is computed of the operands is the type
  pub arith_is : arith_type c ≡ arith_type_of (store_of c) c.head.kind c.head.text (first_seen c) (second_seen c)
  arith_is = arith_by (first_seen c) (second_seen c) refl refl

  some_exact : (o : Option ℤ) → is_some o ≡ true → IsSome (option_map ty.Iconst o)
  some_exact None e = absurd cc
  some_exact (Some v) e = refl

  some_typed : (o : Option ℕ) → is_some o ≡ true → IsSome (typed_as o)
  some_typed None e = absurd cc
  some_typed (Some t) e = refl

  -- where both rows hold there is one
  pub arith_there : c.head.kind ≡ ki.Arith → own_failing c ≡ None →
      IsSome (arith_type_of (store_of c) c.head.kind c.head.text (first_seen c) (second_seen c))
  arith_there e h =
      let one = first_holds c row.ArithCommon (row.ArithRange ∷ []) (rows_at c ki.Arith e h) in
      let two = first_holds c row.ArithRange [] one.1 in
      by (are_iconsts (first_seen c) (second_seen c)) refl one.0 two.0
    where
      by : (b : Bool) → are_iconsts (first_seen c) (second_seen c) ≡ b → is_some (operands_common c) ≡ true
          → cond b (is_some (exact_of c.head.kind c.head.text (first_seen c) (second_seen c))) true ≡ true
          → IsSome (cond b (exact_type_of c.head.kind c.head.text (first_seen c) (second_seen c))
          (typed_as (common_type (operands_common c))))
      by true g x y = some_exact (exact_of c.head.kind c.head.text (first_seen c) (second_seen c)) y
      by false g x y = some_typed (common_type (operands_common c)) (common_typed (store_of c) (first_seen c) (second_seen c) g ∙ x)

  -- ---- shifts

  pub shift_there : c.head.kind ≡ ki.Shift → own_failing c ≡ None →
      has_shift_type c.head.kind c.head.text (first_seen c) (second_seen c) ≡ true
  shift_there e h =
      let one = first_holds c row.ShiftIntegers (row.ShiftRange ∷ row.ShiftLeftDefault ∷ []) (rows_at c ki.Shift e h) in
      let two = first_holds c row.ShiftRange (row.ShiftLeftDefault ∷ []) one.1 in
      let three = first_holds c row.ShiftLeftDefault [] two.1 in
      by (are_iconsts (first_seen c) (second_seen c)) two.0 three.0
    where
      by : (b : Bool) → cond b (is_some (exact_of c.head.kind c.head.text (first_seen c) (second_seen c))) true ≡ true →
          (b || has_default (first_seen c)) ≡ true
          → cond b (is_some (exact_of c.head.kind c.head.text (first_seen c) (second_seen c))) (has_default (first_seen c)) ≡ true
      by true x y = x
      by false x y = y

pub some_of : {A : Type 0} (o : Option A) → is_some o ≡ true → IsSome o
some_of None e = absurd cc
some_of (Some a) e = refl

pub exact_there : (k : Kind) (sign : List ℕ) (a b : Ty) (o : Option Ty) → true ≡ are_iconsts a b → o ≡ exact_type_of k sign a b →
    is_some o ≡ has_shift_type k sign a b
exact_there k sign a b o e g = ap is_some g ∙ mapped (exact_of k sign a b) ∙ ap
    (λ x. cond x (is_some (exact_of k sign a b)) (has_default a)) e
  where
    mapped : (p : Option ℤ) → is_some (option_map ty.Iconst p) ≡ is_some p
    mapped None = refl
    mapped (Some v) = refl
