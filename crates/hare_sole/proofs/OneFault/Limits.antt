-- The limits of a program have at most one first fault.
use Rattle.std.proofs.Common.{◌≡◌, ◌⊎◌, inl, inr, ℕ, zero, suc, ◌<◌, ◌≤◌, List, [], ◌∷◌, map, ap, sym, ◌∙◌, subst, arith, slice_get, Some}
use Rattle.std.specs.Prelude.{Contains, sum_by, take}
use Rattle.std.proofs.lemmas.Bool.{cases_lt}
use Rattle.std.proofs.lemmas.List.Sums.{sum_by-cons}
use Rattle.hare_tree.specs.declared.place.Fault.{Fault}
use Rattle.hare_tree.specs.Node.{Node}
use Rattle.hare_modules.specs.Order.{fault}
use Rattle.hare_modules.specs.Uses.{place_of}
use Rattle.hare_modules.specs.Declarations.{name_in}
use Rattle.hare_types.specs.Store.{Store}
use Rattle.hare_typed.specs.Typed.{TypedNode}
use Rattle.hare_typed.specs.Erased.{erase}
use Rattle.hare_depends.proofs.ListLemmas.{Contains-there}
use Rattle.hare_whole.specs.Limits.{IsEntryFault, no_main, odd_main, IsFramed, IsFirstOff, IsFrameFault, name_place, function_weight, global_bytes, IsWithin, IsSumFault, IsLimitFault, of_entry, of_frame, of_sum}
use Rattle.hare_sole.proofs.OneTree.Borrowed.{entry-sound}

entry-fault-once : (paths : List (List ℕ)) (ts : List Node) (f e : Fault) → IsEntryFault paths ts f → IsEntryFault paths ts e → f ≡ e
entry-fault-once paths ts f e (no_main a b) (no_main c d) = b ∙ sym d
entry-fault-once paths ts f e (no_main a b) (odd_main n t c d o i) = absurd cc
entry-fault-once paths ts f e (odd_main n t c d o i) (no_main a b) = absurd cc
entry-fault-once paths ts f e (odd_main n t a b o i) (odd_main m u c d q j) =
    let same : n ≡ m = cc in
    let there : slice_get ts m ≡ Some t = subst (λ (z : ℕ). slice_get ts z ≡ Some t) same b in
    let tree : t ≡ u = cc in
    i ∙ ap (λ (z : Node). fault 46 (place_of (name_in z))) tree ∙ sym j

-- the first of which it is not so is one
first-off-once : {A : Type 0} (Q : A → Type 0) (xs : List A) (n m : ℕ) (x y : A) → IsFirstOff Q xs n x → IsFirstOff Q xs m y → x ≡ y
first-off-once {A} Q xs n m x y h k = by (cases_lt n m) (cases_lt m n)
  where
    by : (n < m) ⊎ (m ≤ n) → (m < n) ⊎ (n ≤ m) → x ≡ y
    by (inl l) r = absurd (h.1 (k.2 n x l h.0))
    by (inr l) (inl r) = absurd (k.1 (h.2 m y r k.0))
    by (inr l) (inr r) =
        let same : n ≡ m = omega arith in
        let there : slice_get xs m ≡ Some x = subst (λ (z : ℕ). slice_get xs z ≡ Some x) same h.0 in
        cc

frame-fault-once : (s : Store) (ds : List TypedNode) (f e : Fault) → IsFrameFault s ds f → IsFrameFault s ds e → f ≡ e
frame-fault-once s ds f e h k =
    let same = first-off-once (IsFramed s) ds h.0 k.0 h.1 k.1 h.2 k.2 in
    h.3 ∙ ap (λ (d : TypedNode). fault 47 (name_place d)) same ∙ sym k.3

frame-or-framed : (s : Store) (ds : List TypedNode) (f : Fault) → IsFrameFault s ds f → ((d : TypedNode) → Contains ds d → IsFramed s d) → ⊥
frame-or-framed s ds f h k = h.2.1 (k h.1 (Contains-there ds h.0 h.1 h.2.0))

-- what more of the first declarations have together is no less
sum-front : {A : Type 0} (f : A → ℕ) (xs : List A) (n m : ℕ) → n ≤ m → sum_by f (take n xs) ≤ sum_by f (take m xs)
sum-front f xs zero m l = omega arith
sum-front f [] (suc n) zero l = absurd (omega arith)
sum-front f [] (suc n) (suc m) l = omega arith
sum-front f (x ∷ xs) (suc n) zero l = absurd (omega arith)
sum-front f (x ∷ xs) (suc n) (suc m) l =
    let rest = sum-front f xs n m (omega arith) in
    omega (arith, sum_by-cons f x (take n xs), sum_by-cons f x (take m xs), rest)

within-front : (s : Store) (ds : List TypedNode) (n m : ℕ) → n ≤ m → IsWithin s ds m → IsWithin s ds n
within-front s ds n m l w = record {
  weight = λ h. w.weight (omega (arith, sum-front (function_weight s) ds n m l));
  bytes = λ h. w.bytes (omega (arith, sum-front (global_bytes s) ds n m l));
}

sum-fault-once : (s : Store) (ds : List TypedNode) (f e : Fault) → IsSumFault s ds f → IsSumFault s ds e → f ≡ e
sum-fault-once s ds f e h k = by (cases_lt h.number k.number) (cases_lt k.number h.number)
  where
    by : (h.number < k.number) ⊎ (k.number ≤ h.number) → (k.number < h.number) ⊎ (h.number ≤ k.number) → f ≡ e
    by (inl l) r = absurd (h.passes (within-front s ds (suc h.number) k.number (omega arith) k.before))
    by (inr l) (inl r) = absurd (k.passes (within-front s ds (suc k.number) h.number (omega arith) h.before))
    by (inr l) (inr r) =
        let same : h.number ≡ k.number = omega arith in
        let there : slice_get ds k.number ≡ Some h.decl = subst (λ (z : ℕ). slice_get ds z ≡ Some h.decl) same h.is_there in
        let q : Some h.decl ≡ Some k.decl = sym there ∙ k.is_there in
        let decl : h.decl ≡ k.decl = cc in
        h.is ∙ ap (λ (d : TypedNode). fault 48 (name_place d)) decl ∙ sym k.is

pub limit-once : (paths : List (List ℕ)) (s : Store) (ds : List TypedNode) (f e : Fault) → IsLimitFault paths s ds f →
    IsLimitFault paths s ds e → f ≡ e
limit-once paths s ds f e (of_entry h) (of_entry k) = entry-fault-once paths (map erase ds) f e h k
limit-once paths s ds f e (of_entry h) (of_frame n i k) = absurd (entry-sound paths (map erase ds) n f i h)
limit-once paths s ds f e (of_entry h) (of_sum n i r k) = absurd (entry-sound paths (map erase ds) n f i h)
limit-once paths s ds f e (of_frame n i h) (of_entry k) = absurd (entry-sound paths (map erase ds) n e i k)
limit-once paths s ds f e (of_frame n i h) (of_frame m j k) = frame-fault-once s ds f e h k
limit-once paths s ds f e (of_frame n i h) (of_sum m j r k) = absurd (frame-or-framed s ds f h r)
limit-once paths s ds f e (of_sum n i r h) (of_entry k) = absurd (entry-sound paths (map erase ds) n e i k)
limit-once paths s ds f e (of_sum n i r h) (of_frame m j k) = absurd (frame-or-framed s ds e k r)
limit-once paths s ds f e (of_sum n i r h) (of_sum m j q k) = sum-fault-once s ds f e h k
