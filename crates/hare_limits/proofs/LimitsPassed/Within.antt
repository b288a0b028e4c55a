-- Where a program is within all limits, no limit has a fault.
use Rattle.std.proofs.Common.{◌≡◌, ℕ, suc, ◌<◌, ◌≤◌, true, false, List, length, map, take, Some, ap, sym, subst, ◌∙◌, arith}
use Rattle.std.specs.Prelude.{slice_get, sum_by, Contains}
use Rattle.std.proofs.lemmas.List.Sums.{sum_by-take-le}
use Rattle.std.proofs.lemmas.Option.{slice_get_within, get_or_from_slice_get}
use Rattle.std.proofs.Math.Seq.{take-length}
use Rattle.hare_tree.specs.declared.place.Fault.{Fault}
use Rattle.hare_tree.specs.Node.{Node}
use Rattle.hare_types.specs.Store.{Store}
use Rattle.hare_typed.specs.Typed.{TypedNode}
use Rattle.hare_typed.specs.Erased.{erase}
use Rattle.hare_whole.specs.Limits.{IsEntry, IsEntryFault, no_main, odd_main, is_entry_shaped, IsWithin, function_weight, global_bytes, AreWithinLimits, IsLimitFault, of_entry, of_frame, of_sum}

same-there : {A : Type 0} (xs : List A) (i j : ℕ) (x y : A) → i ≡ j → slice_get xs i ≡ Some x → slice_get xs j ≡ Some y → x ≡ y
same-there xs i j x y q e g = let h : slice_get xs j ≡ Some x = ap (slice_get xs) (sym q) ∙ e in cc

entry-sound : (paths : List (List ℕ)) (ts : List Node) (n : ℕ) (f : Fault) → IsEntry paths ts n → IsEntryFault paths ts f → ⊥
entry-sound paths ts n f e (no_main m p) = let a = e.main in cc
entry-sound paths ts n f e (odd_main k t m g o p) =
    let a = e.main in
    let q : n ≡ k = cc in
    let s : e.tree ≡ t = same-there ts n k e.tree t q e.is_there g in
    let b : true ≡ false = sym e.shaped ∙ ap is_entry_shaped s ∙ o in
    cc

there : {A : Type 0} (xs : List A) (i : ℕ) (x : A) → slice_get xs i ≡ Some x → Contains xs x
there xs i x g = (i, slice_get_within xs i x g, get_or_from_slice_get xs i x x g)

-- what all declarations have together is at least what the first have
front-within : (s : Store) (ds : List TypedNode) (n : ℕ) → IsWithin s ds (length ds) → IsWithin s ds n
front-within s ds n w = record {
  weight = λ l.
      let a = sum_by-take-le (function_weight s) ds n in
      let b : sum_by (function_weight s) (take (length ds) ds) ≡ sum_by (function_weight s) ds = ap (sum_by (function_weight s))
      (take-length ds) in
      w.weight (omega arith);
  bytes = λ l.
      let a = sum_by-take-le (global_bytes s) ds n in
      let b : sum_by (global_bytes s) (take (length ds) ds) ≡ sum_by (global_bytes s) ds = ap (sum_by (global_bytes s)) (take-length ds) in
      w.bytes (omega arith);
}

pub limits-sound : (paths : List (List ℕ)) (s : Store) (ds : List TypedNode) (n : ℕ) (f : Fault) → AreWithinLimits paths s ds n
    → IsLimitFault paths s ds f → ⊥
limits-sound paths s ds n f w (of_entry h) = entry-sound paths (map erase ds) n f w.entry_is h
limits-sound paths s ds n f w (of_frame k e h) = h.2.1 (w.framed h.1 (there ds h.0 h.1 h.2.0))
limits-sound paths s ds n f w (of_sum k e a h) = h.passes (front-within s ds (suc h.number) w.sums)
