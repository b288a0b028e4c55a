-- The first member to which a value goes is the one that it becomes, and what has to be known for it.
use Rattle.std.proofs.Common.{◌≡◌, ◌∙◌, sym, ap, subst, refl, ℕ, List, [], ◌∷◌, Option, Some, None, IsSome, true, false, Bool, cond}
use Rattle.std.specs.Prelude.{find, option_map, option_and_then, unwrap_or}
use Rattle.std.specs.Option.{option_or}
use Rattle.hare_types.specs.declared.coercion.Ty.{Ty}
use Rattle.hare_types.specs.declared.coercion.Ty.TheVariants as ty
use Rattle.hare_types.specs.declared.coercion.Coercion.{Coercion}
use Rattle.hare_types.specs.Trees.{EachTree}
use Rattle.hare_types.specs.Store.{Store}
use Rattle.hare_types.specs.Sound.{IsStore}
use Rattle.hare_types.specs.ByIds.{base_at, members_at}
use Rattle.hare_types.specs.Assign.{Value, Of, Iconst, Null, Empty, type_at, value_at, first_row, coercion}
use Rattle.hare_types.proofs.IdLemmas.{base_tells}
use Rattle.hare_typed.specs.Unions.{union_members}
use Rattle.hare_typed.specs.Coercions.{own_member, default_member, holding_member, lone_member, chosen_member, row_to}
use Rattle.hare_assign.specs.Shapes.{types_at}
use Rattle.hare_assign.specs.Chosen.{is_its_default, first_of, first_member, first_choice}
use Rattle.hare_assign.specs.Growth.{HasBase as TreeHasBase, IsKnown, AreKnown}
use Rattle.hare_assign.proofs.ChosenLemmas.{base_is, base_union}
use Rattle.hare_typed.specs.Joined.{AreTold, IsToldUnion}
use Rattle.hare_typed.specs.Sizes.{Fits}
use Rattle.hare_typed.specs.Settled.{HasBase}
use Rattle.hare_const.proofs.LaterTypes.{in_store}

-- ---- which member it is

none_first : (s : Store) (ms : List ℕ) → None ≡ first_of s (λ t. false) ms
none_first s [] = refl
none_first s (m ∷ ms) = none_first s ms

default_first : (s : Store) (f : Value) (ms : List ℕ) → default_member s f ms ≡ first_of s (is_its_default f) ms
default_first s (Iconst v) ms = refl
default_first s (Of t) ms = none_first s ms
default_first s Null ms = none_first s ms
default_first s Empty ms = none_first s ms

pub chosen_first : (s : Store) (f : Ty) (ms : List ℕ) → chosen_member s f ms ≡ first_member s (value_at s f) ms
chosen_first s f ms =
    let v = value_at s f in
    ap (λ o. option_or (own_member s v ms) (option_or o (option_or (holding_member s v ms) (lone_member s v ms)))) (default_first s v ms)

-- of a type that is no union there is none
pub chosen_choice : (s : Store) (f : Ty) (u : ℕ) → chosen_member s f (union_members s u) ≡ first_choice s f u
chosen_choice s f u = by (members_at s u) refl
  where
    by : (o : Option (List ℕ)) → members_at s u ≡ o → chosen_member s f (union_members s u) ≡ first_choice s f u
    by None e =
        ap (λ o. chosen_member s f (unwrap_or o [])) e ∙ chosen_first s f [] ∙ sym (ap (option_and_then (first_member s (value_at s f))) e)
    by (Some ms) e =
        ap (λ o. chosen_member s f (unwrap_or o [])) e ∙ chosen_first s f ms ∙ sym (ap (option_and_then (first_member s (value_at s f))) e)

-- the row of a coercion, and that of equal types where there is none
abbrev pub row_in : Option Coercion → ℕ
row_in None = 1
row_in (Some c) = c.row

row_mapped : (t : ℕ) (o : Option ℕ) → unwrap_or o 1 ≡ row_in (option_map (λ n. record { row = n; to = ty.Of t }) o)
row_mapped t None = refl
row_mapped t (Some n) = refl

-- the row by which a value goes to a type is that of its coercion
pub row_coerced : (s : Store) (f : Ty) (t : ℕ) → row_to s f t ≡ row_in (coercion s f t)
row_coerced s f t = row_mapped t (first_row s (value_at s f) (type_at s t))

-- ---- members that are told

pub told_found : (s : Store) (p : ℕ → Bool) (ms : List ℕ) (m : ℕ) → AreTold s ms → find p ms ≡ Some m → IsSome (base_at s m) × Fits s m
told_found s p [] m h e = absurd cc
told_found s p (k ∷ ms) m h e = by (p k) e (told_found s p ms m h.2)
  where
    by : (b : Bool) → cond b (Some k) (find p ms) ≡ Some m → (find p ms ≡ Some m → IsSome (base_at s m) × Fits s m) → IsSome (base_at s m) ×
        Fits s m
    by true g ih =
        let same : k ≡ m = cc in
        (subst (λ j. IsSome (base_at s j)) same h.0, subst (Fits s) same h.1)
    by false g ih = ih g

or_either : (P : ℕ → Type 0) (a b : Option ℕ) (m : ℕ) → (a ≡ Some m → P m) → (b ≡ Some m → P m) → option_or a b ≡ Some m → P m
or_either P None b m f g e = g e
or_either P (Some k) b m f g e = f e

pub told_chosen : (s : Store) (f : Ty) (u m : ℕ) → IsToldUnion s u → chosen_member s f (union_members s u) ≡ Some m → IsSome (base_at s m) ×
    Fits s m
told_chosen s f u m k e =
    let v = value_at s f in
    let ms = k.members in
    let here : first_member s v ms ≡ Some m
    = sym (chosen_first s f ms) ∙ sym (ap (λ o. chosen_member s f (unwrap_or o [])) k.union) ∙ e in
    let P : ℕ → Type 0 = λ j. IsSome (base_at s j) × Fits s j in
    or_either P _ _ m (told_found s _ ms m k.told)
    (or_either P _ _ m (told_found s _ ms m k.told)
    (or_either P _ _ m (told_found s _ ms m k.told) (told_found s _ ms m k.told)))
    here

-- ---- what the table looks at

module _ (s : Store) (v : IsStore s) where
  tree_known : (t : ℕ) → IsSome (base_at s t) → TreeHasBase s (type_at s t)
  tree_known t h = by (base_at s t) refl h
    where
      by : (o : Option ℕ) → base_at s t ≡ o → IsSome o → TreeHasBase s (type_at s t)
      by None e k = absurd cc
      by (Some b) e k = subst IsSome (sym (base_is s v t (in_store s (ty.Of t) h) b ((base_tells s v t b).0 e))) refl

  value_known : (f : Ty) → HasBase s f → IsKnown s (value_at s f)
  value_known (ty.Of t) h = tree_known t h
  value_known (ty.Iconst n) h = tt
  value_known ty.Null h = tt
  value_known ty.Empty h = tt

  each_known : (ms : List ℕ) → AreTold s ms → EachTree (TreeHasBase s) (types_at s ms)
  each_known [] h = tt
  each_known (m ∷ ms) h = (tree_known m h.0, each_known ms h.2)

  pub known : (f : Ty) (u : ℕ) → HasBase s f → HasBase s (ty.Of u) → IsToldUnion s u → AreKnown s (value_at s f) (type_at s u)
  known f u h k t = record {
    value = value_known f h;
    type = tree_known u k;
    members = λ ts e.
        let is = base_union s v u (in_store s (ty.Of u) k) ts e in
        let same : t.members ≡ is.0 = let both = sym t.union ∙ is.1 in cc in
        subst (EachTree (TreeHasBase s)) (sym is.2)
        (subst (λ ms. EachTree (TreeHasBase s) (types_at s ms)) same (each_known t.members t.told));
  }
