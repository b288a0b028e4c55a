use Rattle.std.proofs.Common.{◌≡◌, ℕ, List, true, false, Some, slice_get, refl, ap, sym, ◌∙◌}
use Rattle.hare_tree.specs.declared.place.Fault.{Fault}
use Rattle.hare_tree.specs.Node.{Node}
use Rattle.hare_whole.specs.Limits.{IsEntry, IsEntryFault, no_main, odd_main, is_entry_shaped}
use Rattle.hare_typed.specs.Typed.{TypedNode, TypedNodes, marked, typed_none, typed_more}
use Rattle.hare_typed.specs.Erased.{erase, erase_each}
use Rattle.hare_rules.specs.Context.{Setting}
use Rattle.hare_rules.specs.Above.{Above}
use Rattle.hare_rules.specs.Flow.{Flow}
use Rattle.hare_rules.specs.Finished.{bare, behind, AllCarry}
use Rattle.hare_inference.specs.Inferred.{Found, found, infer}
use Rattle.hare_inference.specs.Laws.{InferenceIsExact}
use Rattle.hare_whole.specs.Declared.{unnumbered, unnumbered_each}

mutual
  pub erase-unnumbered : (t : TypedNode) → erase (unnumbered t) ≡ erase t
  erase-unnumbered (marked h m ts) = let e = erase_each-unnumbered ts in cc

  erase_each-unnumbered : (ts : TypedNodes) → erase_each (unnumbered_each ts) ≡ erase_each ts
  erase_each-unnumbered typed_none = refl
  erase_each-unnumbered (typed_more t ts) =
      let e = erase-unnumbered t in
      let i = erase_each-unnumbered ts in
      cc

pub one_bare : InferenceIsExact → (w : Setting) (a : Above) (f : Flow) (x y : TypedNode) → erase x ≡ erase y → bare x ≡ x → bare y ≡ y →
    AllCarry w a x f → AllCarry w a y f → x ≡ y
one_bare exact w a f x y e i j h k =
    let there = (exact w a f).found_by x h in
    let other = (exact w a f).found_by y k in
    let same = ap (λ t. infer w a t f) e in
    let both : found (bare x) (behind w a x f) ≡ found (bare y) (behind w a y f) = cc in
    sym i ∙ ap (λ (z : Found). z.tree) both ∙ j

same-there : {A : Type 0} (xs : List A) (i j : ℕ) (x y : A) → i ≡ j → slice_get xs i ≡ Some x → slice_get xs j ≡ Some y → x ≡ y
same-there xs i j x y q e g = let h : slice_get xs j ≡ Some x = ap (slice_get xs) (sym q) ∙ e in cc

pub entry-sound : (paths : List (List ℕ)) (ts : List Node) (n : ℕ) (f : Fault) → IsEntry paths ts n → IsEntryFault paths ts f → ⊥
entry-sound paths ts n f e (no_main m p) = let a = e.main in cc
entry-sound paths ts n f e (odd_main k t m g o p) =
    let a = e.main in
    let q : n ≡ k = cc in
    let s : e.tree ≡ t = same-there ts n k e.tree t q e.is_there g in
    let b : true ≡ false = sym e.shaped ∙ ap is_entry_shaped s ∙ o in
    cc
