-- The test of types decides whether they are one type, and a store has one id for one type.
use Rattle.std.proofs.Common.{◌≡◌, ℕ, ◌<◌, Bool, true, false, ◌==◌, length, refl, subst}
use Rattle.std.specs.Prelude.{nat_eq}
use Rattle.std.specs.Bool.{Decides}
use Rattle.std.specs.Cmp.{unsigned_Decides}
use Rattle.std.specs.Cmp.Lexicographic.{pointwise, pointwise_decides}
use Rattle.std.proofs.lemmas.Bool.Decides.{Decides-and, Decides-or}
use Rattle.hare_types.specs.KeyLaws.{scalar_eq-Decides}
use Rattle.hare_types.specs.Trees.{Tree, Trees, Scalar, Pointer, Nullable, Slice, Array, Struct, Tuple, Union, Error, Named, none, more, SomeTree, EachTree, Same, SameEach, AllAmong, IsAmong}
use Rattle.hare_types.specs.Store.{Store}
use Rattle.hare_types.specs.Sound.{IsStore}
use Rattle.hare_types.specs.Assign.{type_at, some_tree, each_tree, same, same_each, all_among, is_among}
use Rattle.hare_types.proofs.CallerLemmas.{one_id}
use Rattle.hare_layout.proofs.MemberLemmas.{Same-refl}
use Rattle.hare_assign.proofs.TypeLemmas.{tree_at-type}

some_tree-Decides : (p : Tree → Bool) (P : Tree → Type 0) → ((t : Tree) → Decides (p t) (P t)) → (ts : Trees) →
    Decides (some_tree p ts) (SomeTree P ts)
some_tree-Decides p P d none = (λ h. absurd cc, λ h. absurd h)
some_tree-Decides p P d (more t ts) = Decides-or (p t) (some_tree p ts) (d t) (some_tree-Decides p P d ts)

each_tree-Decides : (p : Tree → Bool) (P : Tree → Type 0) → ((t : Tree) → Decides (p t) (P t)) → (ts : Trees) →
    Decides (each_tree p ts) (EachTree P ts)
each_tree-Decides p P d none = (λ h. tt, λ h. refl)
each_tree-Decides p P d (more t ts) = Decides-and (p t) (each_tree p ts) (d t) (each_tree-Decides p P d ts)

mutual
  pub same-Decides : (t u : Tree) → Decides (same t u) (Same t u)
  same-Decides (Scalar a) (Scalar b) = scalar_eq-Decides a b
  same-Decides (Pointer t) (Pointer u) = same-Decides t u
  same-Decides (Nullable t) (Nullable u) = same-Decides t u
  same-Decides (Slice t) (Slice u) = same-Decides t u
  same-Decides (Array m t) (Array n u) = Decides-and (m == n) (same t u) (unsigned_Decides m n) (same-Decides t u)
  same-Decides (Struct ms ts) (Struct ns us) =
      Decides-and (pointwise nat_eq ms ns) (same_each ts us) (pointwise_decides unsigned_Decides ms ns) (same_each-Decides ts us)
  same-Decides (Tuple ts) (Tuple us) = same_each-Decides ts us
  same-Decides (Union ts) (Union us) =
      Decides-and (all_among ts us) (each_tree (λ u. is_among ts u) us) (all_among-Decides ts us)
      (each_tree-Decides (λ u. is_among ts u) (IsAmong ts) (is_among-Decides ts) us)
  same-Decides (Error t) (Error u) = same-Decides t u
  same-Decides (Named d) (Named e) = unsigned_Decides d e
  same-Decides _ _ = (λ h. absurd cc, λ h. absurd h)

  same_each-Decides : (ts us : Trees) → Decides (same_each ts us) (SameEach ts us)
  same_each-Decides none none = (λ h. tt, λ h. refl)
  same_each-Decides (more t ts) (more u us) = Decides-and (same t u) (same_each ts us) (same-Decides t u) (same_each-Decides ts us)
  same_each-Decides _ _ = (λ h. absurd cc, λ h. absurd h)

  pub all_among-Decides : (ts us : Trees) → Decides (all_among ts us) (AllAmong ts us)
  all_among-Decides none us = (λ h. tt, λ h. refl)
  all_among-Decides (more t ts) us =
      Decides-and (some_tree (λ u. same t u) us) (all_among ts us) (some_tree-Decides (λ u. same t u) (λ u. Same t u) (same-Decides t) us)
      (all_among-Decides ts us)

  is_among-Decides : (ts : Trees) (u : Tree) → Decides (is_among ts u) (IsAmong ts u)
  is_among-Decides none u = (λ h. absurd cc, λ h. absurd h)
  is_among-Decides (more t ts) u = Decides-or (same t u) (is_among ts u) (same-Decides t u) (is_among-Decides ts u)

-- ids of one type are one id
pub same-ids : (s : Store) → IsStore s → (a b : ℕ) → a < length s.rows → b < length s.rows → (a == b) ≡ same (type_at s a) (type_at s b)
same-ids s v a b l m = by (nat_eq a b) refl (same (type_at s a) (type_at s b)) refl
  where
    by : (x : Bool) → nat_eq a b ≡ x → (y : Bool) → same (type_at s a) (type_at s b) ≡ y → x ≡ y
    by true e true g = refl
    by true e false g =
        let ids = (unsigned_Decides a b).0 e in
        let one = (same-Decides (type_at s a) (type_at s b)).1
        (subst (λ n. Same (type_at s a) (type_at s n)) ids (Same-refl (type_at s a))) in
        absurd cc
    by false e true g =
        let ids = one_id s v a b (type_at s a) (type_at s b) (tree_at-type s a l) (tree_at-type s b m)
        ((same-Decides (type_at s a) (type_at s b)).0 g) in
        let one = (unsigned_Decides a b).1 ids in
        absurd cc
    by false e false g = refl
