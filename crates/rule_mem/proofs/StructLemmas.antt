-- Members of what a type comes to.
use Rattle.std.proofs.Common.{◌≡◌, ℕ, suc, Bool, true, false, cond, List, [], ◌∷◌, length, map, Option, Some, None, nat_eq, refl, ap, sym, ◌∙◌, subst, arith}
use Rattle.std.specs.Prelude.{slice_get, Contains, find, IfSome, option_map, option_and_then}
use Rattle.hare_types.specs.declared.coercion.Ty.{Ty}
use Rattle.hare_types.specs.declared.coercion.Ty.TheVariants as ty
use Rattle.hare_types.specs.declared.lists.Field.{Field}
use Rattle.hare_types.specs.declared.row.Row.{Row}
use Rattle.hare_types.specs.declared.row.Row.TheVariants as row
use Rattle.hare_types.specs.Store.{Store}
use Rattle.hare_types.specs.Rows.{NamesBelow}
use Rattle.hare_types.specs.Sound.{IsStore}
use Rattle.hare_types.specs.ByIds.{row_at, base_at}
use Rattle.hare_typed.specs.Given.{base_row}
use Rattle.hare_rules.specs.Context.{Context, store_of}
use Rattle.hare_rules.specs.Aggregates.{name_number, field_named, field_type, member_type}
use Rattle.rule_mem.specs.Members.{member_of}
use Rattle.rule_judge.specs.Defined.{IsDefined, HoldsDefined}
use Rattle.rule_judge.proofs.HeldLemmas.{first_of, one_of}

-- ---- types of members

if_some : {A : Type 0} (P : A → Type 0) (o : Option A) → ((a : A) → o ≡ Some a → P a) → IfSome o P
if_some P None h = tt
if_some P (Some a) h = h a refl

field_held : (P : ℕ → Type 0) (fs : List Field) (n t : ℕ) → ((i : ℕ) → Contains (map (λ f. f.ty) fs) i → P i) → field_named fs n ≡ Some t →
    P t
field_held P [] n t h e = absurd cc
field_held P (f ∷ fs) n t h e = by (λ k. field_held P fs n t (λ i c. h i (suc c.0, omega (arith, c.1), c.2)) k) (nat_eq f.name n) e
  where
    by : (field_named fs n ≡ Some t → P t) → (b : Bool) →
        option_map (λ g. g.ty) (cond b (Some f) (find (λ g. nat_eq g.name n) fs)) ≡ Some t → P t
    by rest true k = let same : f.ty ≡ t = cc in subst P same (h f.ty (first_of f.ty (map (λ g. g.ty) fs)))
    by rest false k = rest k

-- the type of a field of a row whose types are defined
pub field_defined : (s : Store) (r : Row) (fs : List Field) (text : List ℕ) (o : Option ℕ) → HoldsDefined s r → r ≡ row.Struct fs
    → o ≡ field_type s (Some (row.Struct fs)) text → IfSome o (IsDefined s)
field_defined s r fs text o h e k = if_some (IsDefined s) o (λ t g. by (name_number s text) t (sym k ∙ g))
  where
    held : HoldsDefined s (row.Struct fs)
    held = subst (HoldsDefined s) e h

    by : (q : Option ℕ) (t : ℕ) → option_and_then (field_named fs) q ≡ Some t → IsDefined s t
    by None t m = absurd cc
    by (Some n) t m = field_held (IsDefined s) fs n t held m

-- the type of a component of such a row
pub component_defined : (s : Store) (r : Row) (ts : List ℕ) (n : ℕ) (b : Bool) (o : Option ℕ) → HoldsDefined s r → r ≡ row.Tuple ts
    → o ≡ cond b (slice_get ts n) None → IfSome o (IsDefined s)
component_defined s r ts n b o h e k = if_some (IsDefined s) o (λ t g. by b t (sym k ∙ g))
  where
    by : (c : Bool) (t : ℕ) → cond c (slice_get ts n) None ≡ Some t → IsDefined s t
    by true t m = (subst (HoldsDefined s) e h) t (one_of ts n t m)
    by false t m = absurd cc

-- ---- by the node

pub member_type-of : (c : Context) (r : Option Row) → member_of (store_of c) c.head r ≡ member_type c r
member_type-of c None = refl
member_type-of c (Some (row.Scalar k)) = refl
member_type-of c (Some (row.Pointer i)) = refl
member_type-of c (Some (row.Nullable i)) = refl
member_type-of c (Some (row.Slice i)) = refl
member_type-of c (Some (row.Array n i)) = refl
member_type-of c (Some (row.Struct fs)) = refl
member_type-of c (Some (row.Tuple is)) = refl
member_type-of c (Some (row.Union is)) = refl
member_type-of c (Some (row.Error i)) = refl
member_type-of c (Some (row.Named d)) = refl

-- the fields of the struct that a type comes to have names of the store
pub struct_named : (s : Store) → IsStore s → (a : Ty) (r : Row) (fs us : List Field) → Some r ≡ base_row s a → r ≡ row.Struct fs → us ≡ fs
    → NamesBelow (length s.names) us
struct_named s v (ty.Iconst n) r fs us e k m = absurd cc
struct_named s v ty.Null r fs us e k m = absurd cc
struct_named s v ty.Empty r fs us e k m = absurd cc
struct_named s v (ty.Of t) r fs us e k m = subst (NamesBelow (length s.names)) (sym m) (by (base_at s t) e)
  where
    by : (o : Option ℕ) → Some r ≡ option_and_then (row_at s) o → NamesBelow (length s.names) fs
    by None n = absurd cc
    by (Some b) n = v.fields_named b fs (sym n ∙ ap Some k)
