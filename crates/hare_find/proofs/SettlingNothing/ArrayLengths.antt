-- What is found of the length of an array.
use Rattle.std.proofs.Common.{◌≡◌, ℕ, true, false, cond, nat_eq, List, [], map, refl, ap, sym, ◌∙◌, subst, Option, Some, None}
use Rattle.std.specs.Prelude.{find}
use Rattle.hare_tree.specs.declared.kind.Kind.{Kind}
use Rattle.hare_tree.specs.declared.kind.Kind.TheVariants as ki
use Rattle.hare_tree.specs.declared.token.Meaning.{Meaning}
use Rattle.hare_tree.specs.declared.token.Meaning.TheVariants as means
use Rattle.hare_tree.specs.Node.{Head}
use Rattle.hare_types.specs.declared.coercion.Ty.{Ty}
use Rattle.hare_types.specs.declared.coercion.Ty.TheVariants as ty
use Rattle.hare_types.specs.Store.{Store}
use Rattle.hare_types.specs.Later.{IsLater}
use Rattle.hare_typed.specs.Typed.{TypedNode}
use Rattle.hare_rules.specs.declared.declared.DeclType.{DeclType}
use Rattle.hare_rules.specs.Above.{Above}
use Rattle.hare_rules.specs.Constants.{means_def, is_def, is_def_kind}
use Rattle.hare_rules.specs.Context.{Setting, Context}
use Rattle.hare_rules.specs.Finished.{bare}
use Rattle.hare_rules.specs.Flow.{Flow, context}
use Rattle.hare_rules.specs.Operators.{path_type, type_of_declaration, is_type_decl, named_id}
use Rattle.hare_rules.specs.Rows.{rows_in_role}
use Rattle.hare_rules.specs.Settles.{target_of, settles_late}
use Rattle.hare_rules.specs.Types.{length_type, type_in_role}
use Rattle.hare_rules.specs.Words.{typed_as}
use Rattle.hare_find.specs.declared.finding.Finding.{Finding}
use Rattle.hare_find.specs.Findings.{IsFound}
use Rattle.hare_find.specs.Lengths.{is_length, IsLengthIn, IsAtLength}
use Rattle.hare_find.specs.Unsettled.{IsUnsettled}
use Rattle.hare_find.proofs.SettlingNothing.WithoutRows.{meets_none, asks_nothing}
use Rattle.hare_find.proofs.SettlingNothing.AsFound.{found_unsettled}

-- ---- a length settles nothing

length_target : (k : Kind) → is_length k ≡ true → (d : Context) (i : ℕ) → target_of d k i ≡ None
length_target ki.Number e d i = refl
length_target ki.Path e d i = refl
length_target _ e d i = absurd cc

length_late : (k : Kind) → is_length k ≡ true → (c : Context) → settles_late c k ≡ []
length_late ki.Number e c = refl
length_late ki.Path e c = refl
length_late _ e c = absurd cc

-- ---- the def that a path means

-- what comes of it, by what is known of its declaration
declared : (c : Context) (ds : List DeclType) (m : Meaning) (n : ℕ) (p : Option DeclType) (o : Option Ty) → c.setting.decls ≡ ds →
    m ≡ means.Decl n → find (λ x. nat_eq x.decl n) ds ≡ p →
    cond (means_def c.setting m) (path_type c m) o ≡ cond (is_def p) (type_of_declaration c.setting p n) o
declared c ds m n p o e g h =
    ap (λ q. cond (means_def c.setting q) (path_type c q) o) g
    ∙ ap (λ q. cond (is_def q) (type_of_declaration c.setting q n) o) (ap (find (λ x. nat_eq x.decl n)) e ∙ h)

-- of a def its type
pub def_length : (c : Context) (ds : List DeclType) (m : Meaning) (n : ℕ) (d : DeclType) (o : Option Ty) → c.setting.decls ≡ ds →
    m ≡ means.Decl n → find (λ x. nat_eq x.decl n) ds ≡ Some d → d.kind ≡ ki.Def →
    cond (means_def c.setting m) (path_type c m) o ≡ Some (ty.Of d.ty)
def_length c ds m n d o e g h k =
    declared c ds m n (Some d) o e g h
    ∙ ap (λ q. cond (is_def_kind q) (cond (is_type_decl q) (typed_as (named_id c.setting n)) (Some (ty.Of d.ty))) o) k

not_def : (k : Kind) → ¬ (k ≡ ki.Def) → is_def_kind k ≡ false
not_def ki.Def h = absurd (h refl)
not_def _ h = refl

-- of any other declaration nothing
pub other_length : (c : Context) (ds : List DeclType) (m : Meaning) (n : ℕ) (d : DeclType) (o : Option Ty) → c.setting.decls ≡ ds →
    m ≡ means.Decl n → find (λ x. nat_eq x.decl n) ds ≡ Some d → ¬ (d.kind ≡ ki.Def) → cond (means_def c.setting m) (path_type c m) o ≡ o
other_length c ds m n d o e g h k =
    declared c ds m n (Some d) o e g h ∙ ap (λ b. cond b (type_of_declaration c.setting (Some d) n) o) (not_def d.kind k)

-- ---- the node

-- what is found of it, where this is its type
pub found_length : (w : Store → Setting) (s : Store) (a : Above) (f : Flow) (ds : List DeclType) (m : Meaning) (h : Head)
    (xs : List TypedNode) (b : Ty) (n : ℕ) (x : Finding) → is_length h.kind ≡ true → IsUnsettled b n x →
    ((c : Context) → IsLengthIn s ds m h c → length_type c c.head.kind ≡ Some b) → IsAtLength w s a f ds m h xs → IsFound w s a h xs f x
found_length w s a f ds m h xs b n x k u t q l d =
    let c = context (w l) a h (map bare xs) f in
    let none : rows_in_role c.inside.role c.head.kind ≡ [] = ap (λ o. rows_in_role o h.kind) q.role in
    let here : IsLengthIn s ds m h c =
    record { later = subst (IsLater s) (sym (q.store l)) d; decls = q.decls l; meaning = sym (q.meaning l d); head = refl } in
    found_unsettled c xs f.coercions b n x u
    (record { judged = asks_nothing c none; kids = length_target h.kind k; late = length_late h.kind k c }) (meets_none c none)
    (ap (type_in_role c) q.role ∙ t c here) (sym q.hand)
