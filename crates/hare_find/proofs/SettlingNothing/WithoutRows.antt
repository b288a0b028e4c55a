-- What is found of nodes of kinds without rows, and of what is called.
use Rattle.std.proofs.Common.{◌≡◌, ℕ, suc, true, false, not, nat_eq, List, [], ◌∷◌, map, length, refl, ap, sym, ◌∙◌, Some, None, arith}
use Rattle.std.specs.Prelude.{find}
use Rattle.std.proofs.lemmas.Bool.{eqb-true}
use Rattle.std.specs.List.{list_any}
use Rattle.hare_tree.specs.declared.kind.Kind.{Kind}
use Rattle.hare_tree.specs.declared.kind.Kind.TheVariants as ki
use Rattle.hare_tree.specs.Node.{Head}
use Rattle.hare_types.specs.declared.coercion.Ty.TheVariants as ty
use Rattle.hare_types.specs.declared.row.Scalar.TheVariants as keyword
use Rattle.hare_types.specs.Store.{Store}
use Rattle.hare_typed.specs.Typed.{TypedNode}
use Rattle.hare_rules.specs.declared.row_id.RowId.{RowId}
use Rattle.hare_rules.specs.Above.{Above}
use Rattle.hare_rules.specs.Context.{Setting, Context, Role, Ordinary, Callee, Length, BindingType, CaseValue, DeclaredValue, store_of}
use Rattle.hare_rules.specs.Finished.{bare}
use Rattle.hare_rules.specs.Flow.{Flow, context}
use Rattle.hare_rules.specs.Rows.{first_failing, is_judged, is_site, holds, rows_in_role}
use Rattle.hare_rules.specs.Settles.{target_of, settles_late}
use Rattle.hare_rules.specs.Table.{rows_of}
use Rattle.hare_rules.specs.Types.{type_by, type_in_role, type_of, word}
use Rattle.hare_rules.specs.Words.{typed_as, word_id}
use Rattle.hare_find.specs.declared.finding.Finding.{Finding}
use Rattle.hare_find.specs.Findings.{IsFound}
use Rattle.hare_find.specs.Plain.{is_plain, goes_by_kind, IsAtPlain, IsAtCallee}
use Rattle.hare_find.specs.Unsettled.{IsVoidFinding}
use Rattle.hare_find.proofs.SettlingNothing.AsFound.{found_unsettled}

-- ---- rows

pub meets_none : (c : Context) → rows_in_role c.inside.role c.head.kind ≡ [] → first_failing c ≡ None
meets_none c e = ap (find (λ r. not (holds r c))) e

pub asks_nothing : (c : Context) → rows_in_role c.inside.role c.head.kind ≡ [] → is_judged c ≡ false
asks_nothing c e = ap (list_any is_site) e

empty : (rs : List RowId) → nat_eq (length rs) 0 ≡ true → rs ≡ []
empty [] e = refl
empty (r ∷ rs) e = let none = eqb-true (suc (length rs)) 0 e in absurd (omega (arith, none))

by_kind_rows : (o : Role) (k : Kind) → goes_by_kind o ≡ true → rows_in_role o k ≡ rows_of k
by_kind_rows Ordinary k e = refl
by_kind_rows CaseValue k e = refl
by_kind_rows DeclaredValue k e = refl
by_kind_rows BindingType k e = refl
by_kind_rows Callee k e = absurd cc
by_kind_rows Length k e = absurd cc

by_kind_type : (c : Context) (o : Role) → goes_by_kind o ≡ true → type_in_role c o ≡ type_by c c.head.kind
by_kind_type c Ordinary e = refl
by_kind_type c CaseValue e = refl
by_kind_type c DeclaredValue e = refl
by_kind_type c BindingType e = refl
by_kind_type c Callee e = absurd cc
by_kind_type c Length e = absurd cc

-- ---- kinds without rows

plain_type : (c : Context) (k : Kind) → is_plain k ≡ true → type_by c k ≡ word c keyword.Void
plain_type c ki.None e = refl
plain_type c _ e = cc

plain_target : (k : Kind) → is_plain k ≡ true → (d : Context) (i : ℕ) → target_of d k i ≡ None
plain_target ki.None e d i = refl
plain_target _ e d i = cc

plain_late : (k : Kind) → is_plain k ≡ true → (c : Context) → settles_late c k ≡ []
plain_late ki.None e c = refl
plain_late _ e c = cc

-- ---- the type void

pub word_void : (c : Context) (l : Store) (t : ℕ) → store_of c ≡ l → word_id l keyword.Void ≡ Some t → word c keyword.Void ≡ Some (ty.Of t)
word_void c l t e d = ap (λ s. typed_as (word_id s keyword.Void)) e ∙ ap typed_as d

-- ---- nodes

-- what is found of a node of a kind without rows
pub found_plain : (w : Store → Setting) (s : Store) (a : Above) (f : Flow) (h : Head) (xs : List TypedNode) (n : ℕ) (x : Finding) →
    is_plain h.kind ≡ true → IsVoidFinding s n x → IsAtPlain w a f xs → IsFound w s a h xs f x
found_plain w s a f h xs n x k v q l d =
    let c = context (w l) a h (map bare xs) f in
    let none : rows_in_role c.inside.role c.head.kind ≡ [] = by_kind_rows c.inside.role h.kind q.role ∙ empty (rows_of h.kind) k in
    let type : type_of c ≡ word c keyword.Void = by_kind_type c c.inside.role q.role ∙ plain_type c h.kind k in
    found_unsettled c xs f.coercions (ty.Of v.void) n x v.unsettled
    (record { judged = asks_nothing c none; kids = plain_target h.kind k; late = plain_late h.kind k c }) (meets_none c none)
    (type ∙ word_void c l v.void (q.store l) (v.word l d)) (sym q.hand)

-- ---- what is called

path_target : (k : Kind) → k ≡ ki.Path → (d : Context) (i : ℕ) → target_of d k i ≡ None
path_target k e d i = rw e refl

path_late : (k : Kind) → k ≡ ki.Path → (c : Context) → settles_late c k ≡ []
path_late k e c = rw e refl

-- what is found of it
pub found_callee : (w : Store → Setting) (s : Store) (a : Above) (f : Flow) (h : Head) (xs : List TypedNode) (n : ℕ) (x : Finding) →
    h.kind ≡ ki.Path → IsVoidFinding s n x → IsAtCallee w a f xs → IsFound w s a h xs f x
found_callee w s a f h xs n x k v q l d =
    let c = context (w l) a h (map bare xs) f in
    let none : rows_in_role c.inside.role c.head.kind ≡ [] = ap (λ o. rows_in_role o h.kind) q.role in
    let type : type_of c ≡ word c keyword.Void = ap (type_in_role c) q.role in
    found_unsettled c xs f.coercions (ty.Of v.void) n x v.unsettled
    (record { judged = asks_nothing c none; kids = path_target h.kind k; late = path_late h.kind k c }) (meets_none c none)
    (type ∙ word_void c l v.void (q.store l) (v.word l d)) (sym q.hand)
