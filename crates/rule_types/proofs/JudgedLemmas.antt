-- The last row of written types, behind all others.
use Rattle.std.proofs.Common.{◌≡◌, ℕ, Bool, true, false, not, cond, ◌||◌, List, [], ◌∷◌, ◌++◌, Some, None, refl, ap, sym, ◌∙◌}
use Rattle.std.specs.Prelude.{find}
use Rattle.hare_tree.specs.declared.kind.Kind.{Kind}
use Rattle.hare_tree.specs.declared.kind.Kind.TheVariants as ki
use Rattle.hare_tree.specs.declared.place.Place.{Place}
use Rattle.hare_tree.specs.declared.place.Fault.{Fault}
use Rattle.hare_tree.specs.declared.stop.Stop.{Stop}
use Rattle.hare_tree.specs.declared.stop.Stop.TheVariants.{Fault as Refused, Memory}
use Rattle.hare_tree.specs.Levels.{is_type}
use Rattle.hare_types.specs.declared.coercion.Ty.TheVariants as ty
use Rattle.hare_types.specs.Store.{Store}
use Rattle.hare_types.specs.ByIds.{has_size_at}
use Rattle.hare_types.specs.Later.{IsLater}
use Rattle.hare_rules.specs.declared.row_id.RowId.{RowId}
use Rattle.hare_rules.specs.declared.row_id.RowId.TheVariants as row
use Rattle.hare_rules.specs.Context.{Context}
use Rattle.hare_rules.specs.Table.{rows_of, number_of}
use Rattle.hare_rules.specs.Types.{type_by, type_of, type_in_role}
use Rattle.hare_rules.specs.Rows.{holds, stands, first_failing, rows_in_role, type_sized, is_bound}
use Rattle.rule_types.specs.declared.written.Written.{Written}
use Rattle.rule_types.specs.Contexts.{role_of, kind_in, context_in, own_rows, own_failing}
use Rattle.rule_types.specs.Answers.{IsOwnType, IsOwnFault, IsOwnStop, IsWrittenType, IsStoppedType}

-- ---- lists

find-none : {A : Type 0} (p : A → Bool) (xs ys : List A) → find p xs ≡ None → find p (xs ++ ys) ≡ find p ys
find-none p [] ys e = refl
find-none p (x ∷ xs) ys e = by (find-none p xs ys) (p x) e
  where
    by : (find p xs ≡ None → find p (xs ++ ys) ≡ find p ys) → (b : Bool) → cond b (Some x) (find p xs) ≡ None →
        cond b (Some x) (find p (xs ++ ys)) ≡ find p ys
    by ih true e = absurd cc
    by ih false e = ih e

find-some : {A : Type 0} (p : A → Bool) (xs ys : List A) (y : A) → find p xs ≡ Some y → find p (xs ++ ys) ≡ Some y
find-some p [] ys y e = absurd cc
find-some p (x ∷ xs) ys y e = by (find-some p xs ys y) (p x) e
  where
    by : (find p xs ≡ Some y → find p (xs ++ ys) ≡ Some y) → (b : Bool) → cond b (Some x) (find p xs) ≡ Some y →
        cond b (Some x) (find p (xs ++ ys)) ≡ Some y
    by ih true e = e
    by ih false e = ih e

-- ---- the rows of a written type

ends_bound : (k : Kind) → is_type k ≡ true → rows_of k ≡ own_rows k ++ row.Bound ∷ []
ends_bound ki.TypeScalar e = refl
ends_bound ki.TypePath e = refl
ends_bound ki.TypePointer e = refl
ends_bound ki.TypeNullable e = refl
ends_bound ki.TypeError e = refl
ends_bound ki.TypeSlice e = refl
ends_bound ki.TypeArray e = refl
ends_bound ki.TypeStruct e = refl
ends_bound ki.TypeTuple e = refl
ends_bound ki.TypeUnion e = refl
ends_bound _ e = absurd cc

rows_by : (b : Bool) (k : Kind) → rows_in_role (role_of b) k ≡ rows_of k
rows_by true k = refl
rows_by false k = refl

type_by_role : (c : Context) (b : Bool) → type_in_role c (role_of b) ≡ type_by c c.head.kind
type_by_role c true = refl
type_by_role c false = refl

-- where the type of a binding has a size, or is none of a binding
pub sized_in_role : (b x : Bool) → x ≡ true → (not (is_bound (role_of b)) || x) ≡ true
sized_in_role true x e = e
sized_in_role false x e = refl

pub no_binding : (b x : Bool) → b ≡ false → (not (is_bound (role_of b)) || x) ≡ true
no_binding b x e = ap (λ y. not (is_bound (role_of y)) || x) e

module _ (s : Store) (t : Written) (kind : is_type (kind_in t) ≡ true) where
  abbrev k : Kind
  k = kind_in t

  all_rows : (f : Store) → first_failing (context_in f t) ≡ find (λ r. not (holds r (context_in f t))) (own_rows k ++ row.Bound ∷ [])
  all_rows f = ap (find (λ r. not (holds r (context_in f t)))) (rows_by t.bound k ∙ ends_bound k kind)

  first_of_own : (f : Store) (r : RowId) → own_failing k (context_in f t) ≡ Some r → first_failing (context_in f t) ≡ Some r
  first_of_own f r e = all_rows f ∙ find-some (λ r. not (holds r (context_in f t))) (own_rows k) (row.Bound ∷ []) r e

  -- an earlier row fails
  pub refused : (e : Fault) → IsOwnFault s t k e → IsStoppedType s t (Refused e)
  refused e h f l = record {
    row = h.row;
    first = first_of_own f h.row (h.first f l);
    is = h.is f l;
  }

  -- where it is a fault
  pub stopped : (q : Stop Fault) → IsOwnStop s t k q → IsStoppedType s t q
  stopped (Refused e) h = refused e h
  stopped Memory h = tt

  last : (f : Store) (b : Bool) → own_failing k (context_in f t) ≡ None → holds row.Bound (context_in f t) ≡ b →
      first_failing (context_in f t) ≡ cond (not b) (Some row.Bound) None
  last f b e h =
      all_rows f ∙ find-none (λ r. not (holds r (context_in f t))) (own_rows k) (row.Bound ∷ []) e
      ∙ ap (λ x. cond (not x) (Some row.Bound) None) h

  bound_by : (f : Store) (u : ℕ) (b : Bool) → type_of (context_in f t) ≡ Some (ty.Of u) → b ≡ has_size_at f u →
      holds row.Bound (context_in f t) ≡ (not (is_bound (role_of t.bound)) || b)
  bound_by f u b e h = ap (λ o. not (is_bound (role_of t.bound)) || type_sized f o) e ∙ ap (λ x. not (is_bound (role_of t.bound)) || x)
      (sym h)

  module _ (u : ℕ) (own : IsOwnType s t k u) where
    type_is : (f : Store) → IsLater s f → type_of (context_in f t) ≡ Some (ty.Of u)
    type_is f l = type_by_role (context_in f t) t.bound ∙ own.type f l

    -- the last row fails
    pub unsized : t.bound ≡ true → ((f : Store) → IsLater s f → false ≡ has_size_at f u) → false ≡ has_size_at s u → (p : Place) (e : Fault)
        → e ≡ record { number = number_of row.Bound; place = p } → ((f : Store) → stands row.Bound (context_in f t) ≡ p) →
        IsStoppedType s t (Refused e)
    unsized b z here p e h at f l = record {
      row = row.Bound;
      first = last f false (own.unsized (sym here) f l)
          (bound_by f u false (type_is f l) (z f l) ∙ ap (λ x. not (is_bound (role_of x)) || false) b);
      is = ap (λ (q : Place). let x : Fault = record { number = number_of row.Bound; place = q } in x) (at f) ∙ sym h;
    }

    -- it is met
    pub met_all : ((f : Store) → IsLater s f → (not (is_bound (role_of t.bound)) || has_size_at f u) ≡ true) → IsWrittenType s t u
    met_all z = record {
      type = type_is;
      rows = λ f l g. last f true (own.rows f l g) (bound_by f u (has_size_at f u) (type_is f l) refl ∙ z f l);
      large = λ f r l e n. first_of_own f r (own.large f r l e n);
      fits = own.fits;
    }
