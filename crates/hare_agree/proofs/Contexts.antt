-- What a node comes to in its context, where more or less is known of declarations: its rows, its type and its constant. What its turn
-- settles of its kids reads nothing of them.
use Rattle.std.proofs.Common.{◌≡◌, ℕ, Bool, true, false, not, ◌||◌, List, [], ◌∷◌, refl, ap, sym, ◌∙◌}
use Rattle.std.specs.Prelude.{Option, Some, None, cond, is_some, find, length}
use Rattle.std.specs.List.{list_any}
use Rattle.hare_tree.specs.declared.kind.Kind.{Kind}
use Rattle.hare_tree.specs.declared.kind.Kind.TheVariants as ki
use Rattle.hare_types.specs.declared.coercion.Ty.{Ty}
use Rattle.hare_types.specs.declared.row.Scalar.TheVariants as keyword
use Rattle.hare_types.specs.declared.coercion.Coercion.{Coercion}
use Rattle.hare_typed.specs.declared.constant.Const.{Const}
use Rattle.hare_typed.specs.Typed.{TypedNode, marked, typed_nodes}
use Rattle.hare_typed.specs.Folded.{folded}
use Rattle.hare_rules.specs.declared.declared.DeclType.{DeclType}
use Rattle.hare_rules.specs.declared.row_id.RowId.{RowId}
use Rattle.hare_rules.specs.declared.row_id.RowId.TheVariants as row
use Rattle.hare_rules.specs.Context.{Context, Role, Ordinary, Callee, Length, BindingType, CaseValue, DeclaredValue, store_of, kid}
use Rattle.hare_rules.specs.Aggregates.{arguments, has_params, result_of, behind_pointer_or, deleted_from}
use Rattle.hare_rules.specs.Operators.{written, path_type}
use Rattle.hare_rules.specs.Constants.{means_def}
use Rattle.hare_rules.specs.Settles.{settled_kids, own_coercion}
use Rattle.hare_rules.specs.Table.{rows_of}
use Rattle.hare_rules.specs.Types.{word, array_of, type_by, length_type, type_in_role, type_of}
use Rattle.hare_rules.specs.Rows.{holds, is_bound, type_sized, fits_hint, may_drop, small_array, rows_in_role, first_failing, fault_of}
use Rattle.hare_rules.specs.Values.{value_of_path, value_named, finished, value_as, value_by_type, value_of, declared_coercion}
use Rattle.hare_agree.proofs.Meanings.{knowing, IsKnownAlike, IsTreeAlike, AreTreesAlike, IsTreeAlike-tree_from_front, IsTreeAlike-kid_from_front, names_value-alike, value_of_meaning-alike, means_def-alike, path_type-alike, is_place-alike, is_mutable-alike, function_called-alike, length_of-alike}

-- the context with this known of declarations
abbrev pub told : List DeclType → Context → Context
told ds c = record c { setting = knowing ds c.setting }

-- a path that is no written type, and a call: what is known of what they mean is read
abbrev pub looks_up : Kind → Bool
looks_up ki.Path = true
looks_up ki.Call = true
looks_up _ = false

-- What is known of the declarations that the node looks up is the same, and so it is in its kids.
pub record IsNodeAlike (ds : List DeclType) (c : Context) : Type 0 where
  pub own : looks_up c.head.kind ≡ true → IsKnownAlike c.setting (knowing ds c.setting) c.meaning
  pub kids : AreTreesAlike c.setting (knowing ds c.setting) c.kids

kid-alike : (ds : List DeclType) (c : Context) (i : ℕ) → IsNodeAlike ds c → IsTreeAlike c.setting (knowing ds c.setting) (kid c i)
kid-alike ds c i k = IsTreeAlike-tree_from_front c.setting (knowing ds c.setting) i c.kids k.kids

deleted-alike : (ds : List DeclType) (c : Context) → IsNodeAlike ds c → IsTreeAlike c.setting (knowing ds c.setting) (deleted_from c)
deleted-alike ds c k = IsTreeAlike-kid_from_front c.setting (knowing ds c.setting) 0 (kid c 0) (kid-alike ds c 0 k)

-- ---- the type

type_by-alike : (ds : List DeclType) (c : Context) (k : Kind) → IsNodeAlike ds c →
    (looks_up k ≡ true → IsKnownAlike c.setting (knowing ds c.setting) c.meaning) → type_by (told ds c) k ≡ type_by c k
type_by-alike ds c ki.Path k own = path_type-alike ds c c.meaning (own refl)
type_by-alike ds c ki.Call k own = ap result_of (function_called-alike ds c (own refl))
type_by-alike ds c ki.TypeArray k own = ap (λ n. array_of c n (written c 1)) (length_of-alike ds c.setting (kid c 0) (kid-alike ds c 0 k))
type_by-alike ds c _ k own = refl

length_type-alike : (ds : List DeclType) (c : Context) (k : Kind) →
    (looks_up k ≡ true → IsKnownAlike c.setting (knowing ds c.setting) c.meaning) → length_type (told ds c) k ≡ length_type c k
length_type-alike ds c ki.Path own =
    let d = means_def-alike ds c.setting c.meaning (own refl) in
    let p = path_type-alike ds c c.meaning (own refl) in
    ap (λ b. cond b (path_type (told ds c) c.meaning) (word c keyword.Void)) d
    ∙ ap (λ o. cond (means_def c.setting c.meaning) o (word c keyword.Void)) p
length_type-alike ds c _ own = refl

pub type_of-alike : (ds : List DeclType) (c : Context) → IsNodeAlike ds c → type_of (told ds c) ≡ type_of c
type_of-alike ds c k = by_role c.inside.role where
  by_role : (o : Role) → type_in_role (told ds c) o ≡ type_in_role c o
  by_role Callee = refl
  by_role Length = length_type-alike ds c c.head.kind k.own
  by_role Ordinary = type_by-alike ds c c.head.kind k k.own
  by_role BindingType = type_by-alike ds c c.head.kind k k.own
  by_role CaseValue = type_by-alike ds c c.head.kind k k.own
  by_role DeclaredValue = type_by-alike ds c c.head.kind k k.own

-- ---- the rows

-- the row asks what a path or a callee means
abbrev asks_meaning : RowId → Bool
asks_meaning row.PathNamed = true
asks_meaning row.CallCallable = true
asks_meaning row.CallArity = true
asks_meaning _ = false

holds-alike : (ds : List DeclType) (c : Context) (r : RowId) → IsNodeAlike ds c →
    (asks_meaning r ≡ true → IsKnownAlike c.setting (knowing ds c.setting) c.meaning) → holds r (told ds c) ≡ holds r c
holds-alike ds c row.PathNamed k own = names_value-alike ds c.setting c.meaning (own refl)
holds-alike ds c row.CallCallable k own = ap is_some (function_called-alike ds c (own refl))
holds-alike ds c row.CallArity k own = ap (has_params (length (arguments c))) (function_called-alike ds c (own refl))
holds-alike ds c row.AddrPlace k own = is_place-alike ds c.setting (kid c 0) (kid-alike ds c 0 k)
holds-alike ds c row.AssignPlace k own = is_place-alike ds c.setting (kid c 0) (kid-alike ds c 0 k)
holds-alike ds c row.OpAssignPlace k own = is_place-alike ds c.setting (kid c 0) (kid-alike ds c 0 k)
holds-alike ds c row.AppendPlace k own = is_place-alike ds c.setting (kid c 0) (kid-alike ds c 0 k)
holds-alike ds c row.DeletePlace k own = ap (behind_pointer_or c) (is_place-alike ds c.setting (deleted_from c) (deleted-alike ds c k))
holds-alike ds c row.AddrMutable k own = is_mutable-alike ds c.setting c.locals (kid c 0) (kid-alike ds c 0 k)
holds-alike ds c row.AssignMutable k own = is_mutable-alike ds c.setting c.locals (kid c 0) (kid-alike ds c 0 k)
holds-alike ds c row.OpAssignMutable k own = is_mutable-alike ds c.setting c.locals (kid c 0) (kid-alike ds c 0 k)
holds-alike ds c row.AppendMutable k own = is_mutable-alike ds c.setting c.locals (kid c 0) (kid-alike ds c 0 k)
holds-alike ds c row.DeleteMutable k own =
    ap (behind_pointer_or c) (is_mutable-alike ds c.setting c.locals (deleted_from c) (deleted-alike ds c k))
holds-alike ds c row.ArrayLength k own = ap is_some (length_of-alike ds c.setting (kid c 0) (kid-alike ds c 0 k))
holds-alike ds c row.ArrayTypeSmall k own =
    ap (λ n. small_array c n (written c 1)) (length_of-alike ds c.setting (kid c 0) (kid-alike ds c 0 k))
holds-alike ds c row.Bound k own = ap (λ o. not (is_bound c.inside.role) || type_sized (store_of c) o) (type_of-alike ds c k)
holds-alike ds c row.Site k own = ap (fits_hint (store_of c) c.hint) (type_of-alike ds c k)
holds-alike ds c row.Kept k own = ap (may_drop (store_of c) c.hint) (type_of-alike ds c k)
holds-alike ds c _ k own = refl

-- the rows that ask what something means are those of paths and calls
asks-rows_of : (k : Kind) → list_any asks_meaning (rows_of k) ≡ looks_up k
asks-rows_of ki.Path = refl
asks-rows_of ki.Call = refl
asks-rows_of _ = refl

or-left : (a b : Bool) → a ≡ true → a || b ≡ true
or-left a b e = rw e refl

or-right : (a b : Bool) → b ≡ true → a || b ≡ true
or-right true b e = refl
or-right false b e = e

find-alike : (ds : List DeclType) (c : Context) (rs : List RowId) → IsNodeAlike ds c →
    (list_any asks_meaning rs ≡ true → IsKnownAlike c.setting (knowing ds c.setting) c.meaning) →
    find (λ r. not (holds r (told ds c))) rs ≡ find (λ r. not (holds r c)) rs
find-alike ds c [] k own = refl
find-alike ds c (r ∷ rs) k own =
    let h = holds-alike ds c r k (λ e. own (or-left (asks_meaning r) (list_any asks_meaning rs) e)) in
    let i = find-alike ds c rs k (λ e. own (or-right (asks_meaning r) (list_any asks_meaning rs) e)) in
    rw (h, i) refl

pub first_failing-alike : (ds : List DeclType) (c : Context) → IsNodeAlike ds c → first_failing (told ds c) ≡ first_failing c
first_failing-alike ds c k = by_role c.inside.role where
  judged : find (λ r. not (holds r (told ds c))) (rows_of c.head.kind) ≡ find (λ r. not (holds r c)) (rows_of c.head.kind)
  judged = find-alike ds c (rows_of c.head.kind) k (λ e. k.own (sym (asks-rows_of c.head.kind) ∙ e))

  by_role : (o : Role) →
      find (λ r. not (holds r (told ds c))) (rows_in_role o c.head.kind) ≡ find (λ r. not (holds r c)) (rows_in_role o c.head.kind)
  by_role Callee = refl
  by_role Length = refl
  by_role Ordinary = judged
  by_role BindingType = judged
  by_role CaseValue = judged
  by_role DeclaredValue = judged

-- where a row stands is not settled by declarations
pub fault_of-told : (ds : List DeclType) (c : Context) (r : RowId) → fault_of r (told ds c) ≡ fault_of r c
fault_of-told ds c row.PathBindingKnown = refl
fault_of-told ds c _ = refl

-- ---- the constant

value_of_path-alike : (ds : List DeclType) (c : Context) (k : Kind) →
    (looks_up k ≡ true → IsKnownAlike c.setting (knowing ds c.setting) c.meaning) → value_of_path (told ds c) k ≡ value_of_path c k
value_of_path-alike ds c ki.Path own = value_of_meaning-alike ds c.setting c.meaning (own refl)
value_of_path-alike ds c _ own = refl

-- the node as it will be, where it names this constant
abbrev with_value : Context → Ty → Coercion → Const → TypedNode
with_value c a r v =
    marked c.head (record { node = c.node; ty = a; coerce = r; meaning = c.meaning; value = v }) (typed_nodes (settled_kids c))

value_as-alike : (ds : List DeclType) (c : Context) (o : Role) (a : Ty) → IsNodeAlike ds c → value_as (told ds c) o a ≡ value_as c o a
value_as-alike ds c o a k = by_role o where
  named : value_named (told ds c) ≡ value_named c
  named = value_of_path-alike ds c c.head.kind k.own

  as_node : (r : Coercion) →
      folded (store_of c) c.inside.own (finished (told ds c) a r) ≡ folded (store_of c) c.inside.own (finished c a r)
  as_node r = ap (λ v. folded (store_of c) c.inside.own (with_value c a r v)) named

  by_role : (p : Role) → value_as (told ds c) p a ≡ value_as c p a
  by_role CaseValue = as_node (own_coercion (store_of c) c.hint a)
  by_role DeclaredValue = as_node (declared_coercion (store_of c) c.hint a)
  by_role Ordinary = named
  by_role Callee = named
  by_role Length = named
  by_role BindingType = named

pub value_of-alike : (ds : List DeclType) (c : Context) → IsNodeAlike ds c → value_of (told ds c) ≡ value_of c
value_of-alike ds c k = ap (value_by_type (told ds c)) (type_of-alike ds c k) ∙ by_type (type_of c) where
  by_type : (o : Option Ty) → value_by_type (told ds c) o ≡ value_by_type c o
  by_type None = refl
  by_type (Some a) = value_as-alike ds c c.inside.role a k
