-- Types that nodes write, and rows that they meet or fail.
use Rattle.std.proofs.Common.{◌≡◌, ℕ, Bool, true, false, not, cond, List, [], ◌∷◌, Option, Some, None, refl, ap, sym, ◌∙◌}
use Rattle.std.specs.Prelude.{find, option_and_then}
use Rattle.std.specs.Option.{unwrap_or}
use Rattle.hare_tree.specs.declared.kind.Kind.{Kind}
use Rattle.hare_tree.specs.declared.kind.Kind.TheVariants as ki
use Rattle.hare_tree.specs.declared.place.Place.{Place}
use Rattle.hare_tree.specs.declared.place.Fault.{Fault}
use Rattle.hare_types.specs.declared.coercion.Ty.{Ty}
use Rattle.hare_types.specs.declared.coercion.Ty.TheVariants as ty
use Rattle.hare_types.specs.declared.row.Row.{Row}
use Rattle.hare_types.specs.declared.row.Row.TheVariants as ro
use Rattle.hare_types.specs.Store.{Store, sized_of}
use Rattle.hare_types.specs.ByIds.{row_at, sized_at, sized_over, has_size_at}
use Rattle.hare_types.specs.Later.{IsLater}
use Rattle.hare_types.specs.Unions.{id_of}
use Rattle.hare_types.proofs.IdLemmas.{sized-row}
use Rattle.hare_typed.specs.Order.{tree_from_front}
use Rattle.hare_rules.specs.declared.row_id.RowId.{RowId}
use Rattle.hare_rules.specs.declared.row_id.RowId.TheVariants as row
use Rattle.hare_rules.specs.Context.{Context, own_type}
use Rattle.hare_rules.specs.Words.{id_in, typed_as}
use Rattle.hare_rules.specs.Aggregates.{each_of}
use Rattle.hare_rules.specs.Table.{number_of}
use Rattle.hare_rules.specs.Rows.{holds, stands}
use Rattle.hare_rules.specs.Types.{type_by}
use Rattle.hare_seen.specs.Sizes.{size_row, is_small_at}
use Rattle.rule_types.specs.declared.written.Written.{Written}
use Rattle.rule_types.specs.Contexts.{context_in, own_failing}
use Rattle.rule_types.specs.Known.{IsKnown}
use Rattle.rule_types.specs.Answers.{IsOwnType, IsOwnFault}

-- ---- lists of rows

abbrev pub failing : Context → List RowId → Option RowId
failing c rs = find (λ r. not (holds r c)) rs

pub met : (c : Context) (r : RowId) (rs : List RowId) → holds r c ≡ true → failing c (r ∷ rs) ≡ failing c rs
met c r rs e = ap (λ b. cond (not b) (Some r) (failing c rs)) e

pub failed : (c : Context) (r : RowId) (rs : List RowId) → holds r c ≡ false → failing c (r ∷ rs) ≡ Some r
failed c r rs e = ap (λ b. cond (not b) (Some r) (failing c rs)) e

-- the fault of a row
pub own_fault : (s : Store) (t : Written) (k : Kind) (r : RowId) (p : Place) (e : Fault) → e ≡ record { number = number_of r; place = p }
    → ((f : Store) → IsLater s f → own_failing k (context_in f t) ≡ Some r) → ((f : Store) → IsLater s f → stands r (context_in f t) ≡ p) →
    IsOwnFault s t k e
own_fault s t k r p e h first at = record {
  row = r;
  first = first;
  is = λ f l. ap (λ (q : Place). let x : Fault = record { number = number_of r; place = q } in x) (at f l) ∙ sym h;
}

-- ---- types, by whether a row asks for their bytes

module _ (s : Store) (t : Written) (k : Kind) (u : ℕ) (type : (f : Store) → IsLater s f → type_by (context_in f t) k ≡ Some (ty.Of u))
    (known : IsKnown s u) where
  -- none does
  pub unasked : size_row s k u ≡ None → ((f : Store) → IsLater s f → size_row f k u ≡ None) →
      ((f : Store) → IsLater s f → own_failing k (context_in f t) ≡ None) → IsOwnType s t k u
  unasked here later all = record {
    type = type;
    rows = λ f l g. all f l;
    large = λ f r l e n. let none = later f l in absurd cc;
    fits = λ r e. absurd cc;
    unsized = λ n f l. all f l;
    known = known;
  }

  -- this one does
  pub asked : (q : RowId) → size_row s k u ≡ Some q → ((f : Store) → IsLater s f → size_row f k u ≡ Some q)
      → ((f : Store) → IsLater s f → is_small_at f u ≡ true → own_failing k (context_in f t) ≡ None)
      → ((f : Store) → IsLater s f → is_small_at f u ≡ false → own_failing k (context_in f t) ≡ Some q)
      → (has_size_at s u ≡ false → (f : Store) → IsLater s f → own_failing k (context_in f t) ≡ None) → is_small_at s u ≡ true →
      IsOwnType s t k u
  asked q here later small large unsized fits = record {
    type = type;
    rows = λ f l g. small f l (g q (later f l));
    large = λ f r l e n. large f l n ∙ sym (later f l) ∙ e;
    fits = λ r e. fits;
    unsized = unsized;
    known = known;
  }

abbrev pub fault_at : ℕ → Place → Fault
fault_at n p = record { number = n; place = p }

-- ---- one inner type

inner_is : (f : Store) (a : Ty) (i u : ℕ) (r : ℕ → Row) → a ≡ ty.Of i → id_of f (r i) ≡ Some u →
    typed_as (option_and_then (λ t. id_of f (r t)) (id_in a)) ≡ Some (ty.Of u)
inner_is f a i u r e h = ap (λ b. typed_as (option_and_then (λ t. id_of f (r t)) (id_in b))) e ∙ ap typed_as h

sized_item : (p : ℕ → Bool) (a : Ty) (i : ℕ) (b : Bool) → a ≡ ty.Of i → b ≡ p i → each_of p (id_in a) ≡ b
sized_item p a i b e h = ap (λ x. each_of p (id_in x)) e ∙ sym h

-- what has a row of a sized type has a size
sized_by_row : (s : Store) (u : ℕ) (r : Row) → row_at s u ≡ Some r → sized_over (sized_of s) (sized_at s) u r ≡ Some true →
    has_size_at s u ≡ true
sized_by_row s u r e h = ap (λ o. unwrap_or o false) (sized-row s u r e ∙ h)

pub never_unsized : {A : Type 0} (s : Store) (u : ℕ) (r : Row) → row_at s u ≡ Some r →
    sized_over (sized_of s) (sized_at s) u r ≡ Some true → has_size_at s u ≡ false → A
never_unsized s u r e h n = let both : true ≡ false = sym (sized_by_row s u r e h) ∙ n in absurd cc

module _ (s : Store) (t : Written) (u i : ℕ) (e : own_type (tree_from_front 0 t.kids.now) ≡ ty.Of i) (known : IsKnown s u) where
  pub pointer_is : ((f : Store) → IsLater s f → id_of f (ro.Pointer i) ≡ Some u) → IsOwnType s t ki.TypePointer u
  pointer_is h = unasked s t ki.TypePointer u (λ f l. inner_is f (own_type (tree_from_front 0 t.kids.now)) i u ro.Pointer e (h f l)) known
      refl (λ f l. refl) (λ f l. refl)

  pub nullable_is : ((f : Store) → IsLater s f → id_of f (ro.Nullable i) ≡ Some u) → IsOwnType s t ki.TypeNullable u
  nullable_is h = unasked s t ki.TypeNullable u (λ f l. inner_is f (own_type (tree_from_front 0 t.kids.now)) i u ro.Nullable e (h f l))
      known refl (λ f l. refl) (λ f l. refl)

  pub error_is : ((f : Store) → IsLater s f → id_of f (ro.Error i) ≡ Some u) → IsOwnType s t ki.TypeError u
  error_is h = unasked s t ki.TypeError u (λ f l. inner_is f (own_type (tree_from_front 0 t.kids.now)) i u ro.Error e (h f l)) known refl
      (λ f l. refl) (λ f l. refl)

  pub slice_is : ((f : Store) → IsLater s f → true ≡ has_size_at f i) → ((f : Store) → IsLater s f → id_of f (ro.Slice i) ≡ Some u) →
      IsOwnType s t ki.TypeSlice u
  slice_is z h =
      unasked s t ki.TypeSlice u (λ f l. inner_is f (own_type (tree_from_front 0 t.kids.now)) i u ro.Slice e (h f l)) known refl
      (λ f l. refl)
      (λ f l. met (context_in f t) row.SliceElementSized []
      (sized_item (has_size_at f) (own_type (tree_from_front 0 t.kids.now)) i true e (z f l)))

pub slice_unsized : (s : Store) (t : Written) (i : ℕ) (e : Fault) (p : Place) → own_type (tree_from_front 0 t.kids.now) ≡ ty.Of i →
    ((f : Store) → IsLater s f → false ≡ has_size_at f i)
    → e ≡ record { number = number_of row.SliceElementSized; place = p } →
    ((f : Store) → stands row.SliceElementSized (context_in f t) ≡ p) → IsOwnFault s t ki.TypeSlice e
slice_unsized s t i e p k z h at =
    own_fault s t ki.TypeSlice row.SliceElementSized p e h
    (λ f l. failed (context_in f t) row.SliceElementSized []
    (sized_item (has_size_at f) (own_type (tree_from_front 0 t.kids.now)) i false k (z f l))) (λ f l. at f)
