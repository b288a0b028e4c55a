-- Rows of the limits: each is met, and passed by one.
use Rattle.std.proofs.Common.{◌≡◌, ℕ, ◌+◌, ◌<◌, ◌≤◌, ◌^◌, List, [], ◌∷◌, ◌++◌, true, false, length, replicate, sum_by, codes, refl, arith}
use Rattle.std.proofs.lemmas.List.{length-replicate}
use Rattle.std.proofs.lemmas.List.Elements.{All-replicate}
use Rattle.std.proofs.lemmas.List.Sums.{sum_by-le}
use Rattle.std.proofs.lemmas.Bool.{false_from_ne_true}
use Rattle.harec_words.specs.Commands.{Check, Run, IsCommand, IsNoCommand, IsFile, AreArguments, default_units}
use Rattle.harec_words.specs.Reading.{are_files, are_arguments}
use Rattle.harec_words.proofs.PartsOfWords.Paths.{file_decides}
use Rattle.harec_words.proofs.ReadCommands.Commands.{files_decide, arguments_decide, reads}
use Rattle.harec_words.proofs.WorkedRows.Worked.{no_command}

-- ---- bytes of a word that names a file

abbrev long : ℕ → List ℕ
long stem = replicate stem 97 ++ codes ".ha"

longest_word : IsCommand (codes "check" ∷ long 1021 ∷ []) (Check (long 1021 ∷ []))
longest_word = reads (codes "check" ∷ long 1021 ∷ []) (Check (long 1021 ∷ [])) refl

longest_dotted : IsCommand (codes "check" ∷ (codes "./" ++ long 1019) ∷ []) (Check ((codes "./" ++ long 1019) ∷ []))
longest_dotted = reads (codes "check" ∷ (codes "./" ++ long 1019) ∷ []) (Check ((codes "./" ++ long 1019) ∷ [])) refl

no_longer_word : IsNoCommand (codes "check" ∷ long 1022 ∷ [])
no_longer_word = no_command (codes "check" ∷ long 1022 ∷ []) refl

no_longer_dotted : IsNoCommand (codes "check" ∷ (codes "./" ++ long 1020) ∷ [])
no_longer_dotted = no_command (codes "check" ∷ (codes "./" ++ long 1020) ∷ []) refl

-- ---- files

abbrev file : List ℕ
file = codes "x.ha"

are_files-replicate : (n : ℕ) → 1 ≤ n → n ≤ 65536 → are_files (replicate n file) ≡ true
are_files-replicate n some few =
    let many = length-replicate n file in
    (files_decide (replicate n file)).1
    (record { some = omega arith; few = omega arith; named = All-replicate IsFile n file ((file_decides file).0 refl) })

are_files-past : (n : ℕ) → 65536 < n → are_files (replicate n file) ≡ false
are_files-past n past =
    let many = length-replicate n file in
    false_from_ne_true _ (λ e. let few = ((files_decide (replicate n file)).0 e).few in absurd (omega arith))

-- up to 65,536 files
most_files : (n : ℕ) → 1 ≤ n → n ≤ 65536 → IsCommand (codes "check" ∷ replicate n file) (Check (replicate n file))
most_files n some few =
    let met : are_files (replicate n file) ≡ true = are_files-replicate n some few in
    reads (codes "check" ∷ replicate n file) (Check (replicate n file)) (rw met refl)

no_more_files : (n : ℕ) → 65536 < n → IsNoCommand (codes "check" ∷ replicate n file)
no_more_files n past =
    let passed : are_files (replicate n file) ≡ false = are_files-past n past in
    no_command (codes "check" ∷ replicate n file) (rw passed refl)

-- ---- arguments

-- a run with these arguments
abbrev brings : List (List ℕ) → List (List ℕ)
brings args = codes "run" ∷ file ∷ codes "--" ∷ args

with_arguments : (args : List (List ℕ)) → AreArguments args → IsCommand (brings args) (Run default_units (file ∷ []) args)
with_arguments args a = let met : are_arguments args ≡ true = (arguments_decide args).1 a in
    reads (brings args) (Run default_units (file ∷ []) args) (rw met refl)

without_arguments : (args : List (List ℕ)) → (AreArguments args → ⊥) → IsNoCommand (brings args)
without_arguments args h =
    let passed : are_arguments args ≡ false = false_from_ne_true _ (λ e. h ((arguments_decide args).0 e)) in
    no_command (brings args) (rw passed refl)

abbrev empty : List ℕ
empty = []

sum_by-replicate : (n : ℕ) → sum_by length (replicate n empty) ≤ 0
sum_by-replicate n =
    let m = sum_by-le length 0 (replicate n empty) (All-replicate (λ w. length w ≤ 0) n empty (omega arith)) in omega (arith, m)

-- up to 1,048,576 arguments
most_arguments : (n : ℕ) → n ≤ 1048576 → IsCommand (brings (replicate n empty)) (Run default_units (file ∷ []) (replicate n empty))
most_arguments n few =
    let many = length-replicate n empty in
    let small = sum_by-replicate n in
    with_arguments (replicate n empty) (record { few = omega arith; small = omega arith })

no_more_arguments : (n : ℕ) → 1048576 < n → IsNoCommand (brings (replicate n empty))
no_more_arguments n past =
    without_arguments (replicate n empty) (λ a. let few = a.few in let many = length-replicate n empty in absurd (omega arith))

-- arguments of m and of n bytes
abbrev two : ℕ → ℕ → List (List ℕ)
two m n = replicate m 97 ∷ replicate n 98 ∷ []

two_bytes : (m n : ℕ) → sum_by length (two m n) ≡ m + n
two_bytes m n = rw (length-replicate {A = ℕ} m 97, length-replicate {A = ℕ} n 98) (omega arith)

-- up to 2 ^ 30 bytes, in two arguments
most_bytes : (m n : ℕ) → m + n ≤ 2 ^ 30 → IsCommand (brings (two m n)) (Run default_units (file ∷ []) (two m n))
most_bytes m n small =
    let bytes = two_bytes m n in
    with_arguments (two m n) (record { few = omega arith; small = omega arith })

no_more_bytes : (m n : ℕ) → 2 ^ 30 < m + n → IsNoCommand (brings (two m n))
no_more_bytes m n past =
    without_arguments (two m n) (λ a. let small = a.small in let bytes = two_bytes m n in absurd (omega arith))
