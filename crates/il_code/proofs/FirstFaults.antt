-- A text has at most one first fault.
use Rattle.std.proofs.Common.{◌≡◌, ℕ, ◌+◌, ◌-◌, List, ◌==◌, length, take, reverse, sym, ap, ◌∙◌, inl, inr, arith}
use Rattle.std.specs.Prelude.{count_by}
use Rattle.std.specs.List.{prefix_len}
use Rattle.il_code.specs.Faults.{IsNoLater, IsFirst, IsFirstIn, is_not_feed}
use Rattle.il_code.specs.FaultLaws.{FirstFaultIsOne}

-- two places at the same offset, and one number
abbrev Same : ℕ → List ℕ → ℕ → List ℕ → Type 0
Same n here m there = (length here ≡ length there) × (n ≡ m)

both_first : (n : ℕ) (here : List ℕ) (m : ℕ) (there : List ℕ) → IsNoLater n here m there → IsNoLater m there n here → Same n here m there
both_first n here m there (inl x) (inl y) = absurd (omega arith)
both_first n here m there (inl x) (inr y) = let e = y.0 in absurd (omega arith)
both_first n here m there (inr x) (inl y) = let e = x.0 in absurd (omega arith)
both_first n here m there (inr x) (inr y) = let a = x.1 in let b = y.1 in (sym x.0, omega arith)

one_first : (Fault : ℕ → List ℕ → Type 0) (n : ℕ) (here : List ℕ) (m : ℕ) (there : List ℕ) → IsFirst Fault n here → IsFirst Fault m there →
    Same n here m there
one_first Fault n here m there x y = both_first n here m there (x.first m there y.fault) (y.first n here x.fault)

one_first_in : (text : List ℕ) (n : ℕ) (here : List ℕ) (m : ℕ) (there : List ℕ) → IsFirstIn text n here → IsFirstIn text m there →
    Same n here m there
one_first_in text n here m there (inl x) (inl y) = one_first _ n here m there x y
one_first_in text n here m there (inl x) (inr y) = absurd (y.0 n here x.fault)
one_first_in text n here m there (inr x) (inl y) = absurd (x.0 m there y.fault)
one_first_in text n here m there (inr x) (inr y) = one_first _ n here m there x.1 y.1

pub first_fault_is_one : FirstFaultIsOne
first_fault_is_one text number line column other other_line other_column x y =
    let k = one_first_in text number x.here other y.here x.first y.first in (
      k.1,
      x.line_is ∙ ap (λ n. 1 + count_by (λ c. c == 10) (take (length text - n) text)) k.0 ∙ sym y.line_is,
      x.column_is ∙ ap (λ n. 1 + prefix_len is_not_feed (reverse (take (length text - n) text))) k.0 ∙ sym y.column_is,
    )
