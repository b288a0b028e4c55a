-- What becomes of a value by its coercion is in each later store the same.
use Rattle.std.proofs.Common.{◌≡◌, ◌∙◌, sym, ap, ap₂, subst, refl, ℕ, arith, Bool, true, false, List, [], ◌∷◌, Option, Some, None}
use Rattle.std.specs.Prelude.{nat_eq, is_some, if◌then◌else◌}
use Rattle.std.proofs.lemmas.Bool.Decides.{nat_tests}
use Rattle.hare_types.specs.declared.coercion.Ty.{Ty}
use Rattle.hare_types.specs.declared.coercion.Ty.TheVariants as ty
use Rattle.hare_types.specs.declared.coercion.Coercion.{Coercion}
use Rattle.hare_types.specs.Store.{Store}
use Rattle.hare_types.specs.Sound.{IsStore}
use Rattle.hare_types.specs.Later.{IsLater}
use Rattle.hare_typed.specs.declared.cell.Cell.{Cell}
use Rattle.hare_typed.specs.Typed.{TypedNode, mark_of}
use Rattle.hare_typed.specs.Answers.{Gives}
use Rattle.hare_typed.specs.Coercions.{coerced_by, coerced_to_union, coerced_into, inner_to, inner_by, element_by}
use Rattle.hare_const.specs.NodeValues.{on_answer, object_number, coerced_value, cells_to_coerce, slice_of}
use Rattle.hare_const.specs.declared.outcome.Outcome.TheVariants.{Known}
use Rattle.hare_typed.specs.Joined.{Joins}
use Rattle.hare_const.specs.Made.{own_object}
use Rattle.hare_typed.specs.Settled.{HasBase}
use Rattle.hare_const.proofs.LaterTypes.{length_same}
use Rattle.hare_const.proofs.LaterUnions.{SameTags, by_row_same, element_same, union_sliced, union_same}

same-nine : (r : ℕ) → nat_eq r 9 ≡ true → r ≡ 9
same-nine r e = grind (arith, nat_tests, e)

-- by another row than the one to unions
pub into-plain : (x : Store) (f : Ty) (r u : ℕ) (cs : List Cell) → nat_eq r 9 ≡ false →
    coerced_into x f r (ty.Of u) cs ≡ Gives (coerced_by x f r u cs)
into-plain x f r u cs e = ap (λ b. if b then coerced_to_union x f u cs else Gives (coerced_by x f r u cs)) e

-- what a coercion by a row makes a slice of
abbrev pub sliced_by : Store → Ty → ℕ → Ty → Option ℕ
sliced_by x f r to = let i = inner_by x f r to in element_by x i.row i.to

pub sliced-plain : (x : Store) (f : Ty) (r u : ℕ) → nat_eq r 9 ≡ false → sliced_by x f r (ty.Of u) ≡ element_by x r (ty.Of u)
sliced-plain x f r u e =
    ap (λ b. let i : Coercion = if b then inner_to x f u else record { row = r; to = ty.Of u } in element_by x i.row i.to) e

module _ (s l : Store) (v : IsStore s) (later : IsLater s l) where
  sliced_same : (f : Ty) (r : ℕ) (to : Ty) → HasBase s f → HasBase s to → Joins s f r to → sliced_by l f r to ≡ sliced_by s f r to
  sliced_same f r (ty.Of u) h k j = by (nat_eq r 9) refl
    where
      by : (b : Bool) → nat_eq r 9 ≡ b → sliced_by l f r (ty.Of u) ≡ sliced_by s f r (ty.Of u)
      by true e =
          let nine = same-nine r e in
          subst (λ n. sliced_by l f n (ty.Of u) ≡ sliced_by s f n (ty.Of u)) (sym nine) (union_sliced s l v later f u h k (j nine))
      by false e = sliced-plain l f r u e ∙ element_same s l v later r u k ∙ sym (sliced-plain s f r u e)
  sliced_same f r (ty.Iconst n) h k j = refl
  sliced_same f r ty.Null h k j = refl
  sliced_same f r ty.Empty h k j = refl

  -- the object that the node makes
  pub object_same : (own : ℕ) (t : TypedNode) (cs : List Cell) → HasBase s (mark_of t).ty → HasBase s (mark_of t).coerce.to →
      Joins s (mark_of t).ty (mark_of t).coerce.row (mark_of t).coerce.to → own_object l own t cs ≡ own_object s own t cs
  object_same own t cs h k j =
      ap (λ o. if is_some o then record { object = object_number own t; cells = cs } ∷ [] else [])
      (sliced_same (mark_of t).ty (mark_of t).coerce.row (mark_of t).coerce.to h k j)

  module _ (same : SameTags s l) where
    into_same : (f : Ty) (r : ℕ) (to : Ty) (cs : List Cell) → HasBase s f → HasBase s to → Joins s f r to →
        coerced_into l f r to cs ≡ coerced_into s f r to cs
    into_same f r (ty.Of u) cs h k j = by (nat_eq r 9) refl
      where
        by : (b : Bool) → nat_eq r 9 ≡ b → coerced_into l f r (ty.Of u) cs ≡ coerced_into s f r (ty.Of u) cs
        by true e =
            let nine = same-nine r e in
            subst (λ n. coerced_into l f n (ty.Of u) cs ≡ coerced_into s f n (ty.Of u) cs) (sym nine)
            (union_same s l v later same f u cs h k (j nine))
        by false e = into-plain l f r u cs e ∙ ap Gives (by_row_same s l v later f r u cs h k) ∙ sym (into-plain s f r u cs e)
    into_same f r (ty.Iconst n) cs h k j = refl
    into_same f r ty.Null cs h k j = refl
    into_same f r ty.Empty cs h k j = refl

    pub coerced_same : (own : ℕ) (t : TypedNode) (cs : List Cell) → HasBase s (mark_of t).ty → HasBase s (mark_of t).coerce.to →
        Joins s (mark_of t).ty (mark_of t).coerce.row (mark_of t).coerce.to → coerced_value l own t cs ≡ coerced_value s own t cs
    coerced_same own t cs h k j =
        let f = (mark_of t).ty in
        let r = (mark_of t).coerce.row in
        let to = (mark_of t).coerce.to in
        let put : cells_to_coerce l own t cs ≡ cells_to_coerce s own t cs
        = ap₂ (λ o m. elim o [ None ↦ cs | Some x ↦ slice_of own t m ]) (sliced_same f r to h k j) (length_same s l v later f h) in
        ap (λ x. on_answer (coerced_into l f r to x) Known) put
        ∙ ap (λ x. on_answer x Known) (into_same f r to (cells_to_coerce s own t cs) h k j)
