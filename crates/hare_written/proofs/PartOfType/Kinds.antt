-- What kinds of parts of written types say.
use Rattle.std.proofs.Common.{◌≡◌, ℕ, zero, suc, Bool, true, false, ◌||◌, cond, List, [], ◌∷◌, Option, Some, None, refl, ap, sym, ◌∙◌, ◌⊎◌, inl, inr}
use Rattle.std.specs.Prelude.{nat_eq, find}
use Rattle.std.specs.List.{list_any}
use Rattle.hare_tree.specs.declared.kind.Kind.{Kind}
use Rattle.hare_tree.specs.declared.kind.Kind.TheVariants as ki
use Rattle.hare_tree.specs.declared.token.Meaning.{Meaning}
use Rattle.hare_tree.specs.declared.token.Meaning.TheVariants as means
use Rattle.hare_tree.specs.Levels.{is_type}
use Rattle.hare_tree.specs.Node.{Head}
use Rattle.hare_types.specs.declared.row.Row.{Row}
use Rattle.hare_typed.specs.Typed.{TypedNode}
use Rattle.rule_types.specs.Contexts.{role_of}
use Rattle.hare_rules.specs.declared.declared.DeclType.{DeclType}
use Rattle.hare_rules.specs.Constants.{means_def, is_def, is_def_kind}
use Rattle.hare_rules.specs.Context.{Setting, Context, Open, Ordinary, Length}
use Rattle.hare_rules.specs.Rows.{is_site, rows_in_role}
use Rattle.hare_rules.specs.Table.{rows_of}
use Rattle.hare_rules.specs.Flow.{is_behind_operand, locals_after, yields_after, is_path_kind, meaning_of, path_meaning}
use Rattle.hare_rules.specs.Settles.{target_of, settles_late}
use Rattle.hare_find.specs.Lengths.{is_length}
use Rattle.hare_find.specs.Plain.{is_plain}
use Rattle.hare_seen.specs.Sizes.{size_row_by}
use Rattle.hare_written.specs.declared.roles.Role.{Role}
use Rattle.hare_written.specs.declared.roles.Role.TheVariants as part
use Rattle.hare_written.specs.Nodes.{is_around, is_written}
use Rattle.hare_written.specs.Roles.{role_in}

-- ---- nothing is settled, bound or yielded

pub written-target : (k : Kind) → is_written k ≡ true → (c : Context) (i : ℕ) → target_of c k i ≡ None
written-target ki.None e c i = refl
written-target _ e c i = cc

pub written-late : (k : Kind) → is_written k ≡ true → (c : Context) → settles_late c k ≡ []
written-late ki.None e c = refl
written-late _ e c = cc

pub written-locals : (k : Kind) → is_written k ≡ true → (c : Context) (n : ℕ) → locals_after c k n [] ≡ []
written-locals ki.None e c n = refl
written-locals _ e c n = cc

pub written-yields : (k : Kind) → is_written k ≡ true → (ls : List Open) (h : Head) (xs : List TypedNode) → yields_after k ls h xs [] ≡ []
written-yields ki.None e ls h xs = refl
written-yields _ e ls h xs = cc

pub written-operand : (k : Kind) → is_written k ≡ true → (n : ℕ) → is_behind_operand k n ≡ false
written-operand ki.None e n = refl
written-operand _ e n = cc

-- ---- the three sorts of parts

pub type-written : (k : Kind) → is_type k ≡ true → is_written k ≡ true
type-written k e = ap (λ b. b || is_length k || is_around k) e

pub length-written : (k : Kind) → is_length k ≡ true → is_written k ≡ true
length-written ki.Number e = refl
length-written ki.Path e = refl
length-written _ e = cc

pub around-written : (k : Kind) → is_around k ≡ true → is_written k ≡ true
around-written ki.StructField e = refl
around-written ki.Spread e = refl
around-written ki.None e = refl
around-written ki.TrailingComma e = refl
around-written _ e = cc

pub around-plain : (k : Kind) → is_around k ≡ true → is_plain k ≡ true
around-plain ki.StructField e = refl
around-plain ki.Spread e = refl
around-plain ki.None e = refl
around-plain ki.TrailingComma e = refl
around-plain _ e = cc

-- no hint asks anything of them
pub around-unasked : (k : Kind) → is_around k ≡ true → list_any is_site (rows_in_role Ordinary k) ≡ false
around-unasked ki.StructField e = refl
around-unasked ki.Spread e = refl
around-unasked ki.None e = refl
around-unasked ki.TrailingComma e = refl
around-unasked _ e = cc

type-rows : (k : Kind) → is_type k ≡ true → list_any is_site (rows_of k) ≡ false
type-rows ki.None e = refl
type-rows _ e = cc

pub type-unasked : (b : Bool) (k : Kind) → is_type k ≡ true → list_any is_site (rows_in_role (role_of b) k) ≡ false
type-unasked true k e = type-rows k e
type-unasked false k e = type-rows k e

-- no row asks for the size of a length, nor of what stands round types
pub around-small : (k : Kind) → is_around k ≡ true → (o : Option Row) → size_row_by k o ≡ None
around-small ki.StructField e o = refl
around-small ki.Spread e o = refl
around-small ki.None e o = refl
around-small ki.TrailingComma e o = refl
around-small _ e o = cc

pub length-small : (k : Kind) → is_length k ≡ true → (o : Option Row) → size_row_by k o ≡ None
length-small ki.Number e o = refl
length-small ki.Path e o = refl
length-small _ e o = cc

-- ---- roles

pub role-length : (q : Role) → role_in q ≡ Length → q ≡ part.Length
role-length part.Ordinary e = cc
role-length part.BindingType e = cc
role-length part.Length e = refl

-- ---- names

-- a declaration that a path means is a def, or none
pub meant-def : (w : Setting) (ds : List DeclType) (m : Meaning) (n : ℕ) (p : Option DeclType) → w.decls ≡ ds → m ≡ means.Decl n →
    find (λ d. nat_eq d.decl n) ds ≡ p → means_def w m ≡ is_def p
meant-def w ds m n p e g h = ap (means_def w) g ∙ ap is_def (ap (find (λ d. nat_eq d.decl n)) e ∙ h)

pub not-def : (k : Kind) → ¬ (k ≡ ki.Def) → is_def_kind k ≡ false
not-def ki.Def h = absurd (h refl)
not-def _ h = refl

-- a length that means a declaration is a path
pub counted-path : (w : Setting) (h : Head) (k : Kind) (n : ℕ) → h.kind ≡ k → is_length k ≡ true → meaning_of w h ≡ means.Decl n →
    h.kind ≡ ki.Path
counted-path w h ki.Path n e l m = e
counted-path w h ki.Number n e l m =
    let none : means.None ≡ means.Decl n = sym (ap (λ k. cond (is_path_kind k) (w.means h.place) means.None) e) ∙ m in
    absurd cc
counted-path w h _ n e l m = cc

-- what the names say of a part they say of it alone
pub written-meaning : (k : Kind) → is_written k ≡ true → (w : Setting) (h : Head) (xs : List TypedNode) →
    path_meaning w h k xs ≡ meaning_of w h
written-meaning ki.None e w h xs = refl
written-meaning _ e w h xs = cc
