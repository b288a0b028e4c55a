-- The refusal of memory, which is `!void`.
use Rattle.std.proofs.Common.{◌≡◌, ◌≢◌, ◌⊎◌, inl, inr, ℕ, zero, suc, Bool, true, nat_eq, List, [], ◌∷◌, ◌++◌, Option, Some, None, refl, sym, ap, ◌∙◌, subst}
use Rattle.std.specs.Prelude.{slice_get, IfSome, option_map, option_and_then}
use Rattle.std.specs.Map.{lookup}
use Rattle.hare_graph.proofs.Elements.{Other, other, Contains-none, get_or-there}
use Rattle.hare_types.specs.declared.declared.Declared.{Declared}
use Rattle.hare_types.specs.declared.row.Row.{Row}
use Rattle.hare_types.specs.declared.row.Row.TheVariants as row
use Rattle.hare_types.specs.declared.row.Scalar.TheVariants as keyword
use Rattle.hare_types.specs.Numbering.{Continues}
use Rattle.hare_types.specs.Trees.{Scalar, Error}
use Rattle.hare_types.specs.Rows.{tree_of, trees}
use Rattle.hare_types.specs.Store.{Store, tree_at, sized_of, definition_of, with_declared}
use Rattle.hare_types.specs.ByValue.{has_size, HoldsByValue}
use Rattle.hare_declare.specs.Entered.{KeepsBeside}
use Rattle.hare_declare.proofs.TypesEntered.OneByOne.{sized-kept, sized-pushed, definition-pushed}

-- its tree, by the ids that it was entered with
module _ (a b : Store) (v e : ℕ) (void : tree_at a v ≡ Some (Scalar keyword.Void))
    (refusal : tree_at b e ≡ Some (tree_of (trees a.rows) (row.Error v))) where
  tree : tree_at b e ≡ Some (Error (Scalar keyword.Void))
  tree = refusal ∙ ap (λ t. Some (Error t)) (get_or-there (trees a.rows) v (Scalar keyword.Void) (Scalar keyword.Void) void)

  pub refusal-sized : (d : ℕ) → sized_of b d ≡ Some true → IfSome (tree_at b e) (λ u. has_size b u ≡ sized_of b d)
  refusal-sized d k = subst (λ o. IfSome o (λ u. has_size b u ≡ sized_of b d)) (sym tree) (sym k)

  pub refusal-finite : (d : ℕ) → IfSome (tree_at b e) (λ u. ¬ HoldsByValue b u d)
  refusal-finite d = subst (λ o. IfSome o (λ u. ¬ HoldsByValue b u d)) (sym tree) holds_none
    where
      holds_none : ¬ HoldsByValue b (Error (Scalar keyword.Void)) d
      holds_none ([], h) = Contains-none d h
      holds_none (e ∷ way, h) = Contains-none e h.0

-- ---- the store, step by step

-- a type that stands goes on to stand
row-kept : (xs ys : List Row) (i : ℕ) (r : Row) → slice_get xs i ≡ Some r → slice_get (xs ++ ys) i ≡ Some r
row-kept [] ys i r e = absurd cc
row-kept (x ∷ xs) ys zero r e = e
row-kept (x ∷ xs) ys (suc i) r e = row-kept xs ys i r e

pub row-stays : (xs ys zs : List Row) (i : ℕ) (r : Row) → Continues xs ys → zs ≡ ys → slice_get xs i ≡ Some r → slice_get zs i ≡ Some r
row-stays xs ys zs i r c e h = ap (λ rs. slice_get rs i) (e ∙ c.1) ∙ row-kept xs c.0 i r h

-- a name is declared, two types are taken in, and the name is defined
module _ (s0 s1 s2 s3 : Store) (d : ℕ) (b : Bool) (declared : s1 ≡ with_declared s0 d b) (first : s2 ≡ record s1 { rows = s2.rows })
    (second : s3 ≡ record s2 { rows = s3.rows }) where
  same-sizes : (n : ℕ) → sized_of s3 n ≡ sized_of (with_declared s0 d b) n
  same-sizes n = ap (λ s. sized_of s n) second ∙ ap (λ s. sized_of s n) first ∙ ap (λ s. sized_of s n) declared

  same-definitions : (n : ℕ) → definition_of s3 n ≡ definition_of (with_declared s0 d b) n
  same-definitions n = ap (λ s. definition_of s n) second ∙ ap (λ s. definition_of s n) first ∙ ap (λ s. definition_of s n) declared

  pub not-defined : sized_of s0 d ≡ None → definition_of s3 d ≡ None
  not-defined none = by (definition_of s3 d) refl
    where
      undeclared : (o : Option Declared) → lookup (nat_eq d) s0.declared ≡ o → option_map (λ z. z.sized) o ≡ None
          → definition_of s0 d ≡ None
      undeclared None e f = ap (option_and_then (λ z. z.definition)) e
      undeclared (Some y) e f = absurd cc

      by : (o : Option ℕ) → definition_of s3 d ≡ o → definition_of s3 d ≡ None
      by None e = e
      by (Some t) e =
          let was : definition_of s0 d ≡ Some t = definition-pushed s0 d d t b (sym (same-definitions d) ∙ e) in
          let gone : definition_of s0 d ≡ None = undeclared (lookup (nat_eq d) s0.declared) refl none in
          absurd cc

  pub keeps : (s4 : Store) → ((n : ℕ) → sized_of s4 n ≡ sized_of s3 n) → ((n : ℕ) → n ≢ d → definition_of s4 n ≡ definition_of s3 n)
      → KeepsBeside d s0 s4
  keeps s4 sizes others = record {
    sized = λ n c e. sizes n ∙ same-sizes n ∙ sized-kept s0 d n b c e;
    only = λ n c e. sized-pushed s0 d n b c (sym (sizes n ∙ same-sizes n) ∙ e);
    undefined = λ n t e. by n t e (other n d);
  }
    where
      by : (n t : ℕ) → definition_of s4 n ≡ Some t → Other n d → (n ≡ d) ⊎ (definition_of s0 n ≡ Some t)
      by n t e (inl k) = inl k
      by n t e (inr k) = inr (definition-pushed s0 d n t b (sym (others n k ∙ same-definitions n) ∙ e))
