-- Constructs behind one another. No public clause cites it.
use Rattle.std.specs.Prelude.{ℕ, zero, suc, List, [], ◌∷◌, Option, Some, None, Bool, if◌then◌else◌, codes}
use Rattle.il_read.specs.Front.{◌>>=◌, branch, behind}

-- up to n constructs, each where the text shows that one begins
abbrev pub each : {A : Type 0} → (List ℕ → Option (A × List ℕ)) → (List ℕ → Bool) → ℕ → List ℕ → Option (List A × List ℕ)
each at begins zero s = Some ([], s)
each at begins (suc n) s = if begins s then (at s >>= λ x. each at begins n x.1 >>= λ more. Some (x.0 ∷ more.0, more.1)) else Some ([], s)

-- up to n constructs and one more, each of these behind a comma and a space
abbrev pub listed : {A : Type 0} → (List ℕ → Option (A × List ℕ)) → ℕ → List ℕ → Option (List A × List ℕ)
listed at zero s = None
listed at (suc n) s = at s >>= λ x. branch (behind (codes ", ") x.1) (λ rest. listed at n rest >>= λ more. Some (x.0 ∷ more.0, more.1))
    (Some (x.0 ∷ [], x.1))

-- constructs with commas between, up to the bracket that ends them
abbrev pub bracketed : {A : Type 0} → (List ℕ → Option (A × List ℕ)) → ℕ → List ℕ → Option (List A × List ℕ)
bracketed at n s = branch (behind (codes ")") s) (λ rest. Some ([], rest))
    (listed at n s >>= λ xs. behind (codes ")") xs.1 >>= λ rest. Some (xs.0, rest))
