-- What is asked of the types of a chain of names.
use Rattle.std.proofs.Common.{◌≡◌, ◌≢◌, ℕ, zero, suc, ◌<◌, true, List, [], ◌∷◌, ◌++◌, length, Some, None, ap, ap₂, sym, ◌∙◌, subst}
use Rattle.std.proofs.Common.{arith, ◌⊎◌, inl, inr}
use Rattle.std.specs.Prelude.{slice_get, Contains, IfSome}
use Rattle.std.proofs.lemmas.Option.{get_or_from_slice_get, slice_get-get_or, slice_get_within}
use Rattle.hare_types.specs.declared.row.Row.{Row}
use Rattle.hare_types.specs.declared.row.Row.TheVariants as row
use Rattle.hare_types.specs.declared.row.Scalar.TheVariants as keyword
use Rattle.hare_types.specs.Trees.{Tree, Scalar, Pointer, Named}
use Rattle.hare_types.specs.ByValue.{has_size, held}
use Rattle.hare_types.specs.Bases.{IsBaseOf}
use Rattle.hare_types.specs.Rows.{AreMembers, IsReduced, tree_in, tree_of, trees}
use Rattle.hare_types.specs.Sound.{IsStore}
use Rattle.hare_types.specs.Store.{Store, tree_at, sized_of, definition_of, with_declared, Extends}
use Rattle.hare_types.proofs.TreeLemmas.{length-trees}
use Rattle.hare_types.proofs.CallerLemmas.{tree_at_row, has_size-Extends}
use Rattle.type_bench.proofs.UndefinedLemmas.{undefined, undefined-declared, definition-same, sized-same}

-- a base is a type of the store
pub based_within : (s : Store) (t b : ℕ) → IsBaseOf s t b → b < length s.rows
based_within s t b h = omega (arith, slice_get_within (trees s.rows) b h.1 h.3, length-trees s.rows)

-- ---- what is declared and defined

-- a declared name is not one that is not declared
pub apart : (s : Store) (d e : ℕ) → sized_of s d ≡ Some true → sized_of s e ≡ None → d ≢ e
apart s d e declared unknown same = let both : Some true ≡ None = sym declared ∙ ap (sized_of s) same ∙ unknown in absurd cc

-- a name that is declared behind others is not defined yet
pub undefined-behind : (old first now : Store) (d : ℕ) → first.declared ≡ old.declared →
    now.declared ≡ (with_declared first d true).declared → sized_of old d ≡ None → definition_of now d ≡ None
undefined-behind old first now d same entered unknown =
    definition-same now (with_declared first d true) entered d
    ∙ undefined-declared first d true d (undefined first d (sized-same first old same d ∙ unknown))

-- ---- sizes

pub sized_named : (s : Store) (t other d : ℕ) → tree_at s t ≡ Some (Named other) → sized_of s other ≡ Some true → sized_of s d ≡ Some true →
    IfSome (tree_at s t) (λ u. has_size s u ≡ sized_of s d)
sized_named s t other d tree a b = rw tree (a ∙ sym b)

pub sized_as : (s : Store) (t d : ℕ) → IfSome (tree_at s t) (λ u. has_size s u ≡ Some true) → sized_of s d ≡ Some true →
    IfSome (tree_at s t) (λ u. has_size s u ≡ sized_of s d)
sized_as s t d h e = subst (λ o. IfSome (tree_at s t) (λ u. has_size s u ≡ o)) (sym e) h

-- ---- the members of a union

one_of_two : (i p k : ℕ) → Contains (i ∷ p ∷ []) k → (i ≡ k) ⊎ (p ≡ k)
one_of_two i p k (zero, l, e) = inl e
one_of_two i p k (suc zero, l, e) = inr e
one_of_two i p k (suc (suc n), l, e) = absurd (omega (arith, l))

-- a word and a pointer to it are the members of a union
AreMembers-pair : (rows : List Row) (i p : ℕ) → slice_get rows i ≡ Some (row.Scalar keyword.Int) →
    slice_get rows p ≡ Some (row.Pointer i) → i < p → AreMembers rows (i ∷ p ∷ [])
AreMembers-pair rows i p word pointer less = record {
  several = omega arith;
  ascend = ((less, tt), (tt, tt));
  not_never = λ k c e. not_never k (one_of_two i p k c) e;
  not_union = λ k js c e. not_union k js (one_of_two i p k c) e;
}
  where
    not_never : (k : ℕ) → (i ≡ k) ⊎ (p ≡ k) → slice_get rows k ≢ Some (row.Scalar keyword.Never)
    not_never k (inl h) e =
        let both : Some (row.Scalar keyword.Int) ≡ Some (row.Scalar keyword.Never) = sym word ∙ ap (slice_get rows) h ∙ e in
        absurd cc
    not_never k (inr h) e =
        let both : Some (row.Pointer i) ≡ Some (row.Scalar keyword.Never) = sym pointer ∙ ap (slice_get rows) h ∙ e in
        absurd cc

    not_union : (k : ℕ) (js : List ℕ) → (i ≡ k) ⊎ (p ≡ k) → slice_get rows k ≢ Some (row.Union js)
    not_union k js (inl h) e =
        let both : Some (row.Scalar keyword.Int) ≡ Some (row.Union js) = sym word ∙ ap (slice_get rows) h ∙ e in
        absurd cc
    not_union k js (inr h) e =
        let both : Some (row.Pointer i) ≡ Some (row.Union js) = sym pointer ∙ ap (slice_get rows) h ∙ e in
        absurd cc

pub reduced-pair : (s : Store) → IsStore s → (i p : ℕ) (is : List ℕ) → is ≡ i ∷ p ∷ [] →
    slice_get s.rows i ≡ Some (row.Scalar keyword.Int) → slice_get s.rows p ≡ Some (row.Pointer i) → IsReduced s.rows (row.Union is)
reduced-pair s v i p is both word pointer =
    subst (AreMembers s.rows) (sym both) (AreMembers-pair s.rows i p word pointer (v.rows_sound.within p (row.Pointer i) pointer))

-- ---- the names that are held

-- that union holds no name
held-union : (ts : List Tree) (i p : ℕ) (u : Tree) → slice_get ts i ≡ Some (Scalar keyword.Int) → slice_get ts p ≡ Some (Pointer u) →
    held (tree_of ts (row.Union (i ∷ p ∷ []))) ≡ []
held-union ts i p u word pointer =
    ap₂ (λ a b. held a ++ (held b ++ [])) (get_or_from_slice_get ts i (Scalar keyword.Int) (Scalar keyword.Void) word)
    (get_or_from_slice_get ts p (Pointer u) (Scalar keyword.Void) pointer)

pub held-pair : (s new : Store) → IsStore s → (i p t : ℕ) (is : List ℕ) → is ≡ i ∷ p ∷ [] →
    slice_get s.rows i ≡ Some (row.Scalar keyword.Int) → slice_get s.rows p ≡ Some (row.Pointer i) →
    tree_at new t ≡ Some (tree_of (trees s.rows) (row.Union is)) → IfSome (tree_at new t) (λ u. held u ≡ [])
held-pair s new v i p t is both word pointer tree =
    rw (tree, both)
    (held-union (trees s.rows) i p (tree_in (trees s.rows) i) (tree_at_row s v i (row.Scalar keyword.Int) word)
    (tree_at_row s v p (row.Pointer i) pointer))

-- ---- what an error mark is put before

tree_within : (s : Store) (i : ℕ) → i < length s.rows → tree_at s i ≡ Some (tree_in (trees s.rows) i)
tree_within s i within = slice_get-get_or (trees s.rows) i (Scalar keyword.Void) (omega (arith, within, length-trees s.rows))

pub held-marked : (s new : Store) (i t : ℕ) → i < length s.rows → IfSome (tree_at s i) (λ u. held u ≡ []) →
    tree_at new t ≡ Some (tree_of (trees s.rows) (row.Error i)) → IfSome (tree_at new t) (λ u. held u ≡ [])
held-marked s new i t within h tree = rw tree (subst (λ o. IfSome o (λ u. held u ≡ [])) (tree_within s i within) h)

pub sized-marked : (s new : Store) → Extends s new → (i t : ℕ) → i < length s.rows → IfSome (tree_at s i) (λ u. has_size s u ≡ Some true) →
    tree_at new t ≡ Some (tree_of (trees s.rows) (row.Error i)) → IfSome (tree_at new t) (λ u. has_size new u ≡ Some true)
sized-marked s new grows i t within h tree =
    let inner = subst (λ o. IfSome o (λ u. has_size s u ≡ Some true)) (tree_within s i within) h in
    rw tree (has_size-Extends s new grows (tree_in (trees s.rows) i) true inner)
