-- Faults of the language have lines.
use Rattle.std.proofs.Common.{◌≡◌, ℕ, ◌<◌, ◌≤◌, ◌-◌, List, length, Some, true, is_some, IsTrue, Result, Ok, Err, IfOk, refl, ap, [], arith}
use Rattle.std.specs.Prelude.{slice_get}
use Rattle.std.proofs.lemmas.Bool.{le-leb}
use Rattle.std.proofs.lemmas.Option.{slice_get-get_or}
use Rattle.hare_tree.specs.declared.place.Fault.{Fault}
use Rattle.harec_words.specs.Faults.{language_faults, has_line, fault_line}
use Rattle.harec_check.specs.Lines.{IsFaultLine}

-- an element that is there
is_some-slice_get : {X : Type 0} (xs : List X) (i : ℕ) (d : X) → i < length xs → is_some (slice_get xs i) ≡ true
is_some-slice_get xs i d l = ap is_some (slice_get-get_or xs i d l)

-- the faults E1 to E49 have names
pub has_line-language : (n : ℕ) → 1 ≤ n → n ≤ 49 → IsTrue (has_line 69 n)
has_line-language n l h =
    let all : length language_faults ≡ 49 = refl in
    let named = is_some-slice_get language_faults (n - 1) [] (omega (arith, l, h, all)) in
    rw (le-leb 1 n l, named) refl

-- the line of a fault, from its parts
pub IsFaultLine-read : {E : Type 0} (paths : List (List ℕ)) (f : Fault) (path : List ℕ) (line column : ℕ) (r : Result (List ℕ) E) →
    slice_get paths f.place.file ≡ Some path → line ≡ f.place.line → column ≡ f.place.column →
    IfOk r (λ t. t ≡ fault_line path 69 f.number line column) → IfOk r (IsFaultLine paths f)
IsFaultLine-read paths f path line column (Ok t) word l k e = record { path = path; word = word; text = rw (l, k) at e }
IsFaultLine-read paths f path line column (Err x) word l k e = tt
