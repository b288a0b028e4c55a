-- The length of an array, as constants have it and as the rules do.
use Rattle.std.proofs.Common.{◌≡◌, Bool, true, false, ◌&&◌, cond, List, [], ◌∷◌, length, ◌≤◌, arith, Option, Some, None, is_some, refl, ap, ap₂, sym, ◌∙◌}
use Rattle.std.specs.Prelude.{ℤ, slice_get, option_and_then}
use Rattle.hare_tree.specs.Node.{Head}
use Rattle.hare_tree.specs.declared.kind.Kind.{Kind}
use Rattle.hare_tree.specs.declared.kind.Kind.TheVariants as ki
use Rattle.hare_types.specs.declared.coercion.Ty.{Ty}
use Rattle.hare_types.specs.declared.coercion.Ty.TheVariants as ty
use Rattle.hare_types.specs.declared.row.Row.{Row}
use Rattle.hare_types.specs.declared.row.Row.TheVariants as row
use Rattle.hare_types.specs.Assign.{signed}
use Rattle.hare_types.specs.Store.{Store}
use Rattle.hare_types.specs.Sound.{IsStore}
use Rattle.hare_types.specs.Later.{IsLater}
use Rattle.hare_types.proofs.LaterLemmas.{later_here}
use Rattle.hare_typed.specs.declared.cell.Cell.{Cell}
use Rattle.hare_typed.specs.declared.constant.Const.{Const}
use Rattle.hare_typed.specs.declared.constant.Const.TheVariants as constant
use Rattle.hare_typed.specs.Typed.{TypedNode, TypedNodes, Mark, marked, mark_of}
use Rattle.hare_typed.specs.Numbers.{kind_of}
use Rattle.hare_typed.specs.Order.{missing, tree_from_front}
use Rattle.hare_typed.specs.Given.{base_row}
use Rattle.hare_typed.specs.Scalars.{Shape, spelled}
use Rattle.hare_typed.specs.Shapes.{shape_of_row}
use Rattle.hare_const.specs.Lengths as lengths
use Rattle.hare_const.specs.Numbers as numbers
use Rattle.hare_rules.specs.declared.declared.DeclType.{DeclType}
use Rattle.hare_rules.specs.Context.{Setting, own_type, place_of}
use Rattle.hare_rules.specs.Words.{word_of, integer_word_of, has_integer_base}
use Rattle.hare_rules.specs.Constants.{number_of_scalar, natural, unless_long, means_def, number_of_type, length_of_def, length_by, length_of}
use Rattle.rule_judge.specs.Settings.{setting_of}
use Rattle.rule_judge.specs.Defined.{IsDefinedTy}
use Rattle.rule_judge.proofs.DefinedLemmas.{row_of}
use Rattle.rule_judge.proofs.NameLemmas.{base_known}
use Rattle.rule_judge.proofs.BaseLemmas.{base_row_is, base_defined}
use Rattle.rule_types.specs.Lengths.{counts}

-- ---- bases

base_stays : (s f : Store) → IsStore s → IsLater s f → (a : Ty) → IsDefinedTy s a → base_row s a ≡ base_row f a
base_stays s f v l (ty.Of t) d =
    let b = base_known s v t d in
    let r = row_of s b.0 (base_defined s v t b.0 d b.1).within in
    base_row_is s s v (later_here s v) (ty.Of t) t b.0 r.0 refl b.1 r.1 ∙ sym (base_row_is s f v l (ty.Of t) t b.0 r.0 refl b.1 r.1)
base_stays s f v l (ty.Iconst n) d = refl
base_stays s f v l ty.Null d = refl
base_stays s f v l ty.Empty d = refl

-- ---- numbers

integer_same : (o : Option Row) → lengths.is_integer_row o ≡ is_some (integer_word_of (word_of o))
integer_same None = refl
integer_same (Some (row.Scalar k)) = by (is_some (signed k))
  where
    by : (b : Bool) → b ≡ is_some (cond b (Some k) None)
    by true = refl
    by false = refl
integer_same (Some (row.Pointer i)) = refl
integer_same (Some (row.Nullable i)) = refl
integer_same (Some (row.Slice i)) = refl
integer_same (Some (row.Array n i)) = refl
integer_same (Some (row.Struct fs)) = refl
integer_same (Some (row.Tuple is)) = refl
integer_same (Some (row.Union is)) = refl
integer_same (Some (row.Error i)) = refl
integer_same (Some (row.Named d)) = refl

number_same : (o : Option Shape) (cs : List Cell) →
    numbers.number_by o cs ≡ option_and_then (λ shape. number_of_scalar (spelled shape cs)) o
number_same None cs = refl
number_same (Some z) cs = refl

module _ (s f : Store) (v : IsStore s) (l : IsLater s f) where
  value_same : (a : Ty) (c : Const) → IsDefinedTy s a → numbers.number_in s a c ≡ number_of_type f a c
  value_same (ty.Of t) constant.Absent d = refl
  value_same (ty.Of t) (constant.Known cs os) d =
      number_same (option_and_then shape_of_row (base_row s (ty.Of t))) cs
      ∙ ap (λ (o : Option Row). option_and_then (λ shape. number_of_scalar (spelled shape cs)) (option_and_then shape_of_row o))
      (base_stays s f v l (ty.Of t) d)
  value_same (ty.Iconst n) c d = refl
  value_same ty.Null c d = refl
  value_same ty.Empty c d = refl

  module _ (decls : List DeclType) where
    abbrev w : Setting
    w = setting_of f decls

    def_same : (x : TypedNode) → IsDefinedTy s (own_type x) → means_def w (mark_of x).meaning ≡ true →
        lengths.constant_length s x ≡ length_of_def w x
    def_same x d m =
        ap₂ (λ (b : Bool) (o : Option ℤ). cond b (option_and_then natural o) None)
        (integer_same (base_row s (own_type x)) ∙ ap (λ (o : Option Row). is_some (integer_word_of (word_of o)))
        (base_stays s f v l (own_type x) d))
        (value_same (own_type x) (mark_of x).value d)
        ∙ sym (ap (λ b. cond (b && has_integer_base f (own_type x))
        (option_and_then natural (number_of_type f (own_type x) (mark_of x).value)) None) m)

    by_kind : (k : Kind) (x : TypedNode) → IsDefinedTy s (own_type x) → counts w k x ≡ true → lengths.length_by s k x ≡ length_by w k x
    by_kind ki.Number x d c = refl
    by_kind ki.Path x d c = def_same x d c
    by_kind _ x d c = refl

    pub length_stays : (x : TypedNode) → IsDefinedTy s (own_type x) → counts w (kind_of x) x ≡ true → lengths.length_of s x ≡ length_of w x
    length_stays (marked h m ts) d c = ap (option_and_then unless_long) (by_kind h.kind (marked h m ts) d c)

    uncounted : (k : Kind) (x : TypedNode) → counts w k x ≡ false → length_by w k x ≡ None
    uncounted ki.Path x c = ap (λ b. cond (b && has_integer_base f (own_type x))
        (option_and_then natural (number_of_type f (own_type x) (mark_of x).value)) None) c
    uncounted _ x c = absurd cc

    pub length_none : (x : TypedNode) → counts w (kind_of x) x ≡ false → length_of w x ≡ None
    length_none x c = ap (option_and_then unless_long) (uncounted (kind_of x) x c)

-- ---- the first kid

pub counted_path : (w : Setting) (x : TypedNode) (h : Head) (m : Mark) (ts : TypedNodes) → marked h m ts ≡ x → h.kind ≡ ki.Path →
    means_def w m.meaning ≡ counts w (kind_of x) x
counted_path w x h m ts e k = ap (λ y. means_def w (mark_of y).meaning) e ∙ sym (ap (λ j. counts w j x) (sym (ap kind_of e) ∙ k))

pub first_is : (xs : List TypedNode) (x : TypedNode) → slice_get xs 0 ≡ Some x → x ≡ tree_from_front 0 xs
first_is [] x e = absurd cc
first_is (y ∷ ys) x e = cc

pub no_kid : (w : Setting) (xs : List TypedNode) → length xs ≤ 0 → None ≡ length_of w (tree_from_front 0 xs)
no_kid w [] h = refl
no_kid w (x ∷ xs) h = absurd (omega arith)

pub no_place : (xs : List TypedNode) → length xs ≤ 0 → place_of missing ≡ place_of (tree_from_front 0 xs)
no_place [] h = refl
no_place (x ∷ xs) h = absurd (omega arith)
