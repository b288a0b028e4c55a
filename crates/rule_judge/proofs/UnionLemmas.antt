-- Unions that rules make.
use Rattle.std.proofs.Common.{◌≡◌, ◌≢◌, ℕ, zero, suc, ◌≤◌, ◌==◌, Bool, true, false, nat_lt, List, [], ◌∷◌, length, Option, Some, None, IsSome, refl, ap, sym, ◌∙◌, subst, arith, ◌⊎◌, inl, inr}
use Rattle.std.specs.Prelude.{Contains, slice_get, option_and_then, if◌then◌else◌}
use Rattle.std.specs.Cmp.{unsigned_Decides}
use Rattle.std.specs.List.{cons_option}
use Rattle.hare_types.specs.declared.row.Row.TheVariants as row
use Rattle.hare_types.specs.declared.row.Scalar.TheVariants as keyword
use Rattle.hare_types.specs.Rows.{AreMembers}
use Rattle.hare_types.specs.Store.{Store, definition_of}
use Rattle.hare_types.specs.Sound.{IsStore}
use Rattle.hare_types.specs.Later.{IsLater}
use Rattle.hare_types.specs.ByIds.{row_at}
use Rattle.hare_types.specs.Unions.{id_of, ascending, union_of}
use Rattle.hare_types.proofs.MeaningsLemmas.{ids_ascend}
use Rattle.hare_rules.specs.Words.{nomem, with_refusal}
use Rattle.rule_judge.specs.Defined.{IsDefined, IsDefinedName, IsRefusable}
use Rattle.rule_judge.proofs.DefinedLemmas.{defined_by_row, defined_stays, row_stays}

name_held : (s : Store) (j : ℕ) (o : Option ℕ) → o ≡ Some j → IsDefined s j → (i : ℕ) → Contains (cons_option o []) i → IsDefined s i
name_held s j None e h i c = absurd cc
name_held s j (Some k) e h (i) (zero, l, g) = let same : j ≡ i = cc in subst (IsDefined s) same h
name_held s j (Some k) e h (i) (suc n, l, g) = absurd (omega (arith, l))

-- a name is as well defined as what it is defined to be
pub name_defined : (now new : Store) → IsStore now → IsLater now new → (t d : ℕ) → row_at new t ≡ Some (row.Named d) → IsDefinedName now d →
    IsDefined new t
name_defined now new v l t d e h =
    let there = l.grows.defined d h.0 h.1 in
    defined_by_row new t (row.Named d) e (name_held new h.0 (definition_of new d) there (defined_stays now new v l h.0 h.2))
    (λ c g. let same : d ≡ c = cc in subst (λ q. IsSome (definition_of new q)) same (subst IsSome (sym there) refl))

-- ---- two members

two_cases : (a b i : ℕ) → Contains (a ∷ b ∷ []) i → (a ≡ i) ⊎ (b ≡ i)
two_cases a b i (zero, l, e) = inl e
two_cases a b i (suc zero, l, e) = inr e
two_cases a b i (suc (suc k), l, e) = absurd (omega (arith, l))

two_ascending : (a b : ℕ) → a ≢ b → 2 ≤ length (ascending (a ∷ b ∷ []))
two_ascending a b apart = by (nat_lt b a) (b == a) refl
  where
    by : (x y : Bool) → (b == a) ≡ y → 2 ≤ length (if x then b ∷ a ∷ [] else (if y then a ∷ [] else a ∷ b ∷ []))
    by true y e = omega arith
    by false true e = absurd (apart (sym ((unsigned_Decides b a).0 e)))
    by false false e = omega arith

module _ (s : Store) (a b : ℕ) (of_a : IsDefined s a) (of_b : IsDefined s b) where
  pub both_held : (i : ℕ) → Contains (ascending (a ∷ b ∷ [])) i → IsDefined s i
  both_held i c = by (two_cases a b i (((ids_ascend (a ∷ b ∷ [])).same i).0 c))
    where
      by : (a ≡ i) ⊎ (b ≡ i) → IsDefined s i
      by (inl e) = subst (IsDefined s) e of_a
      by (inr e) = subst (IsDefined s) e of_b

-- a type and the refusal of memory
module _ (s : Store) (t n : ℕ) (h : IsRefusable s t) (here : row_at s n ≡ Some (row.Named nomem)) where
  apart : t ≢ n
  apart e = h.not_nomem (ap (row_at s) e ∙ here)

  each : (i : ℕ) → Contains (ascending (t ∷ n ∷ [])) i → (t ≡ i) ⊎ (n ≡ i)
  each i c = two_cases t n i (((ids_ascend (t ∷ n ∷ [])).same i).0 c)

  pub are_members : AreMembers s.rows (ascending (t ∷ n ∷ []))
  are_members = record {
    several = two_ascending t n apart;
    ascend = (ids_ascend (t ∷ n ∷ [])).ascends;
    not_never = λ i c. never i (each i c);
    not_union = λ i js c. union i js (each i c);
  }
    where
      never : (i : ℕ) → (t ≡ i) ⊎ (n ≡ i) → slice_get s.rows i ≢ Some (row.Scalar keyword.Never)
      never i (inl e) k = h.not_never (ap (row_at s) e ∙ k)
      never i (inr e) k = let both = sym here ∙ ap (row_at s) e ∙ k in cc

      union : (i : ℕ) (js : List ℕ) → (t ≡ i) ⊎ (n ≡ i) → slice_get s.rows i ≢ Some (row.Union js)
      union i js (inl e) k = h.not_union js (ap (row_at s) e ∙ k)
      union i js (inr e) k = let both = sym here ∙ ap (row_at s) e ∙ k in cc

pub refusable_stays : (now new : Store) → IsStore now → IsLater now new → (t : ℕ) → IsRefusable now t → IsRefusable new t
refusable_stays now new v l t h =
    let same = row_stays now new v l t h.defined.within in
    record {
      defined = defined_stays now new v l t h.defined;
      not_never = λ e. h.not_never (sym same ∙ e);
      not_union = λ is e. h.not_union is (sym same ∙ e);
      not_nomem = λ e. h.not_nomem (sym same ∙ e);
    }

pub refusal_is : (f : Store) (t n u : ℕ) (is : List ℕ) → id_of f (row.Named nomem) ≡ Some n → is ≡ ascending (t ∷ n ∷ []) →
    id_of f (row.Union is) ≡ Some u → with_refusal f t ≡ Some u
refusal_is f t n u is e g h = ap (option_and_then (λ m. union_of f (t ∷ m ∷ []))) e ∙ sym (ap (λ js. id_of f (row.Union js)) g) ∙ h
