-- Declarations with a value.
use Rattle.std.proofs.Common.{◌≡◌, ℕ, zero, suc, ◌+◌, ◌<◌, ◌≤◌, Bool, true, false, not, cond, List, [], ◌∷◌, length, take, Option, Some, None, is_some, refl, ap, ap₂, sym, ◌∙◌, arith}
use Rattle.std.specs.Prelude.{find, option_map, slice_get}
use Rattle.hare_tree.specs.declared.kind.Kind.{Kind}
use Rattle.hare_tree.specs.declared.kind.Kind.TheVariants as ki
use Rattle.hare_tree.specs.declared.place.Fault.{Fault}
use Rattle.hare_tree.specs.declared.place.Place.{Place}
use Rattle.hare_types.specs.declared.row.Scalar.TheVariants as keyword
use Rattle.hare_typed.specs.declared.constant.Const.{Const}
use Rattle.hare_typed.specs.Typed.{TypedNode, mark_of}
use Rattle.hare_typed.specs.Folded.{inconstant}
use Rattle.hare_typed.specs.Order.{tree_from_front}
use Rattle.hare_rules.specs.declared.hint.Hint.TheVariants as hint
use Rattle.hare_rules.specs.declared.row_id.RowId.{RowId}
use Rattle.hare_rules.specs.declared.row_id.RowId.TheVariants as row
use Rattle.hare_rules.specs.Above.{hint_to, declared_hint, written_hint}
use Rattle.hare_rules.specs.Constants.{is_absent_value}
use Rattle.hare_rules.specs.Context.{Context, store_of, is_there, own_type, place_of, place_or}
use Rattle.hare_rules.specs.Judged.{is_type_hint, IsRefusal}
use Rattle.hare_rules.specs.Rows.{holds, stands, first_failing, fault_of}
use Rattle.hare_rules.specs.Settles.{target_of, binding_target}
use Rattle.hare_rules.specs.Table.{asked, rows_of, number_of}
use Rattle.hare_rules.specs.Types.{type_by, word}
use Rattle.hare_rules.specs.Values.{declared_value}
use Rattle.hare_rules.specs.Words.{id_in}
use Rattle.rule_judge.specs.Asked.{asks_as}
use Rattle.rule_judge.proofs.KidLemmas.{front_found, front_past}
use Rattle.rule_ctl.specs.Declaring.{declares, place_found}
use Rattle.rule_ctl.proofs.AskLemmas.{hint_to-asks}

-- ---- what is asked

few_asked : (xs : List TypedNode) → length xs < 3 → declared_hint xs ≡ hint.None
few_asked [] h = refl
few_asked (x ∷ []) h = refl
few_asked (x ∷ y ∷ []) h = refl
few_asked (x ∷ y ∷ z ∷ xs) h = absurd (omega (arith, h))

-- nothing is asked of a kid before the value
pub early_asked : (xs : List TypedNode) (i : ℕ) → length (take i xs) < 3 → false ≡ is_type_hint (declared_hint (take i xs))
early_asked xs i h = sym (ap is_type_hint (few_asked (take i xs) h))

third_written : (xs : List TypedNode) (i : ℕ) → 3 ≤ length (take i xs) → declared_hint (take i xs) ≡ written_hint (tree_from_front 2 xs)
third_written [] zero h = absurd (omega (arith, h))
third_written [] (suc i) h = absurd (omega (arith, h))
third_written (x ∷ xs) zero h = absurd (omega (arith, h))
third_written (x ∷ []) (suc zero) h = absurd (omega (arith, h))
third_written (x ∷ []) (suc (suc i)) h = absurd (omega (arith, h))
third_written (x ∷ y ∷ xs) (suc zero) h = absurd (omega (arith, h))
third_written (x ∷ y ∷ []) (suc (suc zero)) h = absurd (omega (arith, h))
third_written (x ∷ y ∷ []) (suc (suc (suc i))) h = absurd (omega (arith, h))
third_written (x ∷ y ∷ z ∷ xs) (suc (suc zero)) h = absurd (omega (arith, h))
third_written (x ∷ y ∷ z ∷ xs) (suc (suc (suc i))) h = refl

pub unwritten_asked : (xs : List TypedNode) (i : ℕ) → 3 ≤ length (take i xs) → is_there (tree_from_front 2 xs) ≡ false →
    false ≡ is_type_hint (declared_hint (take i xs))
unwritten_asked xs i h e =
    sym (ap is_type_hint (third_written xs i h) ∙ ap
    (λ b. is_type_hint (cond b (hint_to (id_in (own_type (tree_from_front 2 xs)))) hint.None)) e)

pub written_asked : (xs : List TypedNode) (i : ℕ) → 3 ≤ length (take i xs) → is_there (tree_from_front 2 xs) ≡ true
    → is_some (id_in (own_type (tree_from_front 2 xs))) ≡ is_type_hint (declared_hint (take i xs))
written_asked xs i h e =
    sym (hint_to-asks (id_in (own_type (tree_from_front 2 xs))))
    ∙ sym (ap is_type_hint (third_written xs i h) ∙ ap
    (λ b. is_type_hint (cond b (hint_to (id_in (own_type (tree_from_front 2 xs)))) hint.None)) e)

pub declared_asked : (c : Context) (i : ℕ) (k : Kind) → declares k ≡ true → asks_as c i ki.Def ≡ asks_as c i k
declared_asked c i ki.Def e = refl
declared_asked c i ki.GlobalLet e = refl
declared_asked c i ki.GlobalConst e = refl
declared_asked c i _ e = absurd cc

-- ---- types and targets

pub declared_void : (c : Context) (k : Kind) → declares k ≡ true → word c keyword.Void ≡ type_by c k
declared_void c ki.Def e = refl
declared_void c ki.GlobalLet e = refl
declared_void c ki.GlobalConst e = refl
declared_void c _ e = absurd cc

pub declared_goes : (c : Context) (i : ℕ) (k : Kind) → declares k ≡ true → binding_target c i ≡ target_of c k i
declared_goes c i ki.Def e = refl
declared_goes c i ki.GlobalLet e = refl
declared_goes c i ki.GlobalConst e = refl
declared_goes c i _ e = absurd cc

-- ---- the first row that fails

module _ (p : RowId → Bool) (r : RowId) (rs : List RowId) where
  found : p r ≡ true → find p (r ∷ rs) ≡ Some r
  found h = ap (λ b. cond b (Some r) (find p rs)) h

  passed : p r ≡ false → find p (r ∷ rs) ≡ find p rs
  passed h = ap (λ b. cond b (Some r) (find p rs)) h

module _ (c : Context) where
  abbrev fails : RowId → Bool
  fails r = not (holds r c)

  by_default : (rest : List RowId) → holds row.BindingDefault c ≡ false →
      find (λ r. not (holds r c)) (row.BindingDefault ∷ rest) ≡ Some row.BindingDefault
  by_default rest h = found fails row.BindingDefault rest (ap not h)

  by_size : (rest : List RowId) → holds row.BindingDefault c ≡ true → holds row.BindingHasSize c ≡ false
      → find (λ r. not (holds r c)) (row.BindingDefault ∷ row.BindingHasSize ∷ rest) ≡ Some row.BindingHasSize
  by_size rest g h = passed fails row.BindingDefault (row.BindingHasSize ∷ rest) (ap not g) ∙ found fails row.BindingHasSize rest (ap not h)

  by_constant : (rest : List RowId) → holds row.BindingDefault c ≡ true → holds row.BindingHasSize c ≡ true →
      holds row.BindingConstant c ≡ false
      → find (λ r. not (holds r c)) (row.BindingDefault ∷ row.BindingHasSize ∷ row.BindingConstant ∷ rest) ≡ Some row.BindingConstant
  by_constant rest g h n =
      passed fails row.BindingDefault (row.BindingHasSize ∷ row.BindingConstant ∷ rest) (ap not g)
      ∙ passed fails row.BindingHasSize (row.BindingConstant ∷ rest) (ap not h) ∙ found fails row.BindingConstant rest (ap not n)

  pub default_fails : (k : Kind) → declares k ≡ true → holds row.BindingDefault c ≡ false →
      find (λ r. not (holds r c)) (rows_of k) ≡ Some row.BindingDefault
  default_fails ki.Def d h = by_default (row.BindingHasSize ∷ row.BindingConstant ∷ row.DefScalar ∷ asked) h
  default_fails ki.GlobalLet d h = by_default (row.BindingHasSize ∷ row.BindingConstant ∷ asked) h
  default_fails ki.GlobalConst d h = by_default (row.BindingHasSize ∷ row.BindingConstant ∷ asked) h
  default_fails _ d h = absurd cc

  pub size_fails : (k : Kind) → declares k ≡ true → holds row.BindingDefault c ≡ true → holds row.BindingHasSize c ≡ false
      → find (λ r. not (holds r c)) (rows_of k) ≡ Some row.BindingHasSize
  size_fails ki.Def d g h = by_size (row.BindingConstant ∷ row.DefScalar ∷ asked) g h
  size_fails ki.GlobalLet d g h = by_size (row.BindingConstant ∷ asked) g h
  size_fails ki.GlobalConst d g h = by_size (row.BindingConstant ∷ asked) g h
  size_fails _ d g h = absurd cc

  pub constant_fails : (k : Kind) → declares k ≡ true → holds row.BindingDefault c ≡ true → holds row.BindingHasSize c ≡ true →
      holds row.BindingConstant c ≡ false
      → find (λ r. not (holds r c)) (rows_of k) ≡ Some row.BindingConstant
  constant_fails ki.Def d g h n = by_constant (row.DefScalar ∷ asked) g h n
  constant_fails ki.GlobalLet d g h n = by_constant asked g h n
  constant_fails ki.GlobalConst d g h n = by_constant asked g h n
  constant_fails _ d g h n = absurd cc

  -- its fault is the node's
  pub refused : (r : RowId) (p : Place) (e : Fault) → first_failing c ≡ Some r → p ≡ stands r c →
      e ≡ record { number = number_of r; place = p } → IsRefusal c e
  refused r p e f s h = record {
    row = r;
    first = f;
    is = sym (h ∙ ap (λ (q : Place). let x : Fault = record { number = number_of r; place = q } in x) s);
  }

  -- where the value is not constant
  pub found_stands : (o : Option Place) (p : Place) → o ≡ place_found c → o ≡ Some p → p ≡ stands row.BindingConstant c
  found_stands o p e h = by (inconstant (store_of c) c.inside.own (declared_value c)) (sym h ∙ e)
    where
      by : (q : Option TypedNode) → Some p ≡ option_map place_of q → p ≡ place_or c.head.place q
      by None k = cc
      by (Some x) k = cc

  pub none_stands : (o : Option Place) → o ≡ place_found c → o ≡ None → c.head.place ≡ stands row.BindingConstant c
  none_stands o e h = by (inconstant (store_of c) c.inside.own (declared_value c)) (sym h ∙ e)
    where
      by : (q : Option TypedNode) → None ≡ option_map place_of q → c.head.place ≡ place_or c.head.place q
      by None k = refl
      by (Some x) k = cc

-- ---- the constant of the value

pub constant_is : (xs : List TypedNode) (n m : ℕ) (x : TypedNode) (v : Const) → n ≡ m → slice_get xs n ≡ Some x → v ≡ (mark_of x).value
    → not (is_absent_value v) ≡ not (is_absent_value (mark_of (tree_from_front m xs)).value)
constant_is xs n m x v e g h = ap (λ w. not (is_absent_value w))
    (h ∙ ap (λ y. (mark_of y).value) (front_found xs n x g ∙ ap (λ k. tree_from_front k xs) e))

pub constant_none : (xs : List TypedNode) (n m : ℕ) → n ≡ m → length xs ≤ n →
    false ≡ not (is_absent_value (mark_of (tree_from_front m xs)).value)
constant_none xs n m e h = ap (λ y. not (is_absent_value (mark_of y).value)) (front_past xs n h ∙ ap (λ k. tree_from_front k xs) e)
