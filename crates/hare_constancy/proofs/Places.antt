-- A path to a global of which the address is taken is a place.
use Rattle.std.proofs.Common.{◌≡◌, ◌∙◌, sym, ap, refl, ℕ, Bool, true, false, not, ◌&&◌, ◌||◌, Option, Some, None}
use Rattle.std.specs.Prelude.{nat_eq}
use Rattle.std.proofs.lemmas.Bool.{eqb-true}
use Rattle.hare_tree.specs.declared.kind.Kind.{Kind}
use Rattle.hare_tree.specs.declared.kind.Kind.TheVariants as kind
use Rattle.hare_tree.specs.declared.token.Meaning.{Meaning}
use Rattle.hare_tree.specs.declared.token.Meaning.TheVariants as meant
use Rattle.hare_types.specs.declared.coercion.Ty.{Ty}
use Rattle.hare_types.specs.declared.coercion.Ty.TheVariants as ty
use Rattle.hare_types.specs.declared.row.Row.{Row}
use Rattle.hare_types.specs.declared.row.Row.TheVariants as row
use Rattle.hare_types.specs.ByIds.{row_at}
use Rattle.hare_typed.specs.Typed.{TypedNode, Mark, marked, typed_none, typed_more, head_of, mark_of, kids_of}
use Rattle.hare_typed.specs.Order.{kid_from_front}
use Rattle.hare_typed.specs.Given.{base_row, first_given}
use Rattle.hare_typed.specs.Constants.{is_known}
use Rattle.hare_typed.specs.Constancy.{is_name_of, is_void_row, names_void, is_global_path, begins_with_global}
use Rattle.hare_typed.specs.Evaluated.{is_named, is_place_kind, first_is_place}
use Rattle.hare_rules.specs.declared.declared.DeclType.{DeclType}
use Rattle.hare_rules.specs.Context.{Setting, declaration}
use Rattle.hare_rules.specs.Operators.{is_type_decl, declares_type}
use Rattle.hare_rules.specs.Places.{is_global, is_global_decl, means_place, place_by, is_place, is_first_place}
use Rattle.hare_constancy.specs.Laws.{NamesAreTypes}

-- ---- declarations

no_type : (k : Kind) → is_global k ≡ true → is_type_decl k ≡ false
no_type kind.GlobalLet e = refl
no_type kind.GlobalConst e = refl
no_type _ e = absurd cc

-- a global declares no type
global_no_type : (o : Option DeclType) (d : ℕ) → is_global_decl o ≡ true → declares_type o d ≡ false
global_no_type None d e = absurd cc
global_no_type (Some x) d e = no_type x.kind e

-- so no type has the name of a global
no_name : (w : Setting) → NamesAreTypes w → (d t : ℕ) → is_global_decl (declaration w d) ≡ true → is_name_of d (row_at w.store t) ≡ false
no_name w n d t e = by (row_at w.store t) refl
  where
    other : (f : ℕ) (b : Bool) → row_at w.store t ≡ Some (row.Named f) → nat_eq d f ≡ b → b ≡ false
    other f true g h =
        let same : d ≡ f = eqb-true d f h in
        let type = n t d (g ∙ ap (λ i. Some (row.Named i)) (sym same)) in
        let both = sym type ∙ global_no_type (declaration w d) d e in
        absurd cc
    other f false g h = refl

    by : (o : Option Row) → row_at w.store t ≡ o → is_name_of d o ≡ false
    by None g = refl
    by (Some (row.Named f)) g = other f (nat_eq d f) g refl
    by (Some (row.Scalar k)) g = refl
    by (Some (row.Pointer i)) g = refl
    by (Some (row.Nullable i)) g = refl
    by (Some (row.Slice i)) g = refl
    by (Some (row.Array m i)) g = refl
    by (Some (row.Struct fs)) g = refl
    by (Some (row.Tuple is)) g = refl
    by (Some (row.Union is)) g = refl
    by (Some (row.Error i)) g = refl

no_void : (w : Setting) → NamesAreTypes w → (d : ℕ) (f : Ty) → is_global_decl (declaration w d) ≡ true →
    names_void w.store (meant.Decl d) f ≡ false
no_void w n d (ty.Of t) e = ap (λ b. b && is_void_row (base_row w.store (ty.Of t))) (no_name w n d t e)
no_void w n d (ty.Iconst v) e = refl
no_void w n d ty.Null e = refl
no_void w n d ty.Empty e = refl

-- ---- the operand of `&`

path_place : (w : Setting) (x : TypedNode) → (head_of x).kind ≡ kind.Path → is_place w x ≡ true → means_place w (mark_of x).meaning ≡ true
path_place w (marked h m ts) k e =
    sym (ap (λ q. place_by w.store q (means_place w m.meaning) ts (is_first_place w ts)) k) ∙ e

not_false : (b : Bool) → not b ≡ true → b ≡ false
not_false true e = absurd cc
not_false false e = refl

global_place : (w : Setting) → NamesAreTypes w → (k : Kind) (m : Mark) (f : Ty) (b : Bool) → is_global_path k m ≡ true →
    (k ≡ kind.Path → means_place w m.meaning ≡ true)
    → is_place_kind w.store k m f b ≡ true
global_place w n kind.Path m f b e p = by m.meaning refl (p refl) e
  where
    by : (a : Meaning) → m.meaning ≡ a → means_place w a ≡ true → is_global_path kind.Path (record m { meaning = a }) ≡ true →
        is_place_kind w.store kind.Path m f b ≡ true
    by (meant.Decl d) g h i =
        ap (λ a. is_named a && not (is_known m.value || names_void w.store a m.ty)) g
        ∙ ap (λ c. not (c || names_void w.store (meant.Decl d) m.ty)) (not_false (is_known m.value) i)
        ∙ ap not (no_void w n d m.ty h)
    by (meant.Local x) g h i = absurd cc
    by (meant.Rt q) g h i = absurd cc
    by meant.None g h i = absurd cc
global_place w n _ m f b e p = absurd cc

-- the first of the kids is a place, where it is a path to a global and a place by the rows
pub address_place : (w : Setting) → NamesAreTypes w → (t x : TypedNode) → head_of (kid_from_front 0 t) ≡ head_of x →
    (mark_of (kid_from_front 0 t)).meaning ≡ (mark_of x).meaning → is_place w x ≡ true → begins_with_global (kids_of t) ≡ true →
    first_is_place w.store (kids_of t) ≡ true
address_place w n (marked h m typed_none) x e g p b = absurd cc
address_place w n (marked h m (typed_more (marked a q us) ts)) x e g p b =
    global_place w n a.kind q (first_given us) (first_is_place w.store us) b
    (λ k. ap (means_place w) g ∙ path_place w x (sym (ap (λ c. c.kind) e) ∙ k) p)
