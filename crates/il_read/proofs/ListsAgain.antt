-- Lists are read as they are printed, where their elements are.
use Rattle.std.proofs.Common.{◌≡◌, ℕ, zero, suc, ◌+◌, ◌<◌, ◌≤◌, List, [], ◌∷◌, ◌++◌, Option, Some, None, Bool, true, false, length, length-append, refl, sym, ap, subst, ◌∙◌, append_assoc, arith, codes}
use Rattle.std.specs.List.{flat_map, list_all}
use Rattle.std.proofs.lemmas.Bool.{and_parts}
use Rattle.il_code.specs.Print.{with_commas, behind_commas}
use Rattle.il_read.specs.Front.{behind}
use Rattle.il_read.specs.Lists.{each, listed, bracketed}

-- as many elements as bytes at most, where each has a byte
pub length-flat_map : {A : Type 0} (text : A → List ℕ) → ((x : A) → 0 < length (text x)) → (xs : List A) →
    length xs ≤ length (flat_map text xs)
length-flat_map text some [] = omega arith
length-flat_map text some (x ∷ xs) = omega (arith, some x, length-flat_map text some xs, length-append (text x) (flat_map text xs))

pub length-rest : {A : Type 0} (text : A → List ℕ) → ((x : A) → 0 < length (text x)) → (xs : List A) (rest : List ℕ) →
    length xs ≤ length (flat_map text xs ++ rest)
length-rest text some xs rest = omega (arith, length-flat_map text some xs, length-append (flat_map text xs) rest)

length-behind_commas : {A : Type 0} (text : A → List ℕ) (xs : List A) → length xs ≤ length (behind_commas text xs)
length-behind_commas text [] = omega arith
length-behind_commas text (x ∷ xs) = omega (arith, length-behind_commas text xs, length-append (text x) (behind_commas text xs))

-- ---- behind one another

module _ {A : Type 0} (at : List ℕ → Option (A × List ℕ)) (begins : List ℕ → Bool) (text : A → List ℕ) (ok : A → Bool) (P : List ℕ → Type 0)
    (reads : (x : A) (r : List ℕ) → ok x ≡ true → P r → at (text x ++ r) ≡ Some (x, r))
    (starts : (x : A) (r : List ℕ) → ok x ≡ true → begins (text x ++ r) ≡ true)
    (keeps : (x : A) (r : List ℕ) → ok x ≡ true → P (text x ++ r)) where
  rest_is : (xs : List A) (rest : List ℕ) → list_all ok xs ≡ true → P rest → P (flat_map text xs ++ rest)
  rest_is [] rest h p = p
  rest_is (x ∷ xs) rest h p = subst P (sym (append_assoc (text x) (flat_map text xs) rest))
      (keeps x (flat_map text xs ++ rest) (and_parts (ok x) (list_all ok xs) h).0)

  pub each_again : (xs : List A) (rest : List ℕ) (n : ℕ) → list_all ok xs ≡ true → length xs ≤ n → P rest → begins rest ≡ false →
      each at begins n (flat_map text xs ++ rest) ≡ Some (xs, rest)
  each_again [] rest zero h k p b = refl
  each_again [] rest (suc n) h k p b = rw b refl
  each_again (x ∷ xs) rest zero h k p b = absurd (omega arith)
  each_again (x ∷ xs) rest (suc n) h k p b =
      let parts = and_parts (ok x) (list_all ok xs) h in
      let more = flat_map text xs ++ rest in
      let one = starts x more parts.0 in
      let two = reads x more parts.0 (rest_is xs rest parts.1 p) in
      let three = each_again xs rest n parts.1 (omega arith) p b in
      ap (each at begins (suc n)) (append_assoc (text x) (flat_map text xs) rest) ∙ rw (one, two, three) refl

-- ---- with commas

module _ {A : Type 0} (at : List ℕ → Option (A × List ℕ)) (text : A → List ℕ) (ok : A → Bool) (P : List ℕ → Type 0)
    (reads : (x : A) (r : List ℕ) → ok x ≡ true → P r → at (text x ++ r) ≡ Some (x, r)) (comma : (r : List ℕ) → P (codes ", " ++ r)) where
  some_again : (xs : List A) (x : A) (rest : List ℕ) (n : ℕ) → ok x ≡ true → list_all ok xs ≡ true → length xs ≤ n → P rest →
      behind (codes ", ") rest ≡ None → listed at (suc n) (text x ++ (behind_commas text xs ++ rest)) ≡ Some (x ∷ xs, rest)
  some_again [] x rest n hx h k p b =
      let one = reads x rest hx p in
      rw one (rw b refl)
  some_again (y ∷ ys) x rest zero hx h k p b = absurd (omega arith)
  some_again (y ∷ ys) x rest (suc n) hx h k p b =
      let parts = and_parts (ok y) (list_all ok ys) h in
      let more = text y ++ (behind_commas text ys ++ rest) in
      let one = reads x (codes ", " ++ more) hx (comma more) in
      let two = some_again ys y rest n parts.0 parts.1 (omega arith) p b in
      ap (λ z. listed at (suc (suc n)) (text x ++ (codes ", " ++ z))) (append_assoc (text y) (behind_commas text ys) rest) ∙ rw (one, two)
      refl

  pub listed_again : (x : A) (xs : List A) (c : ℕ) (rest : List ℕ) → list_all ok (x ∷ xs) ≡ true → P (c ∷ rest) →
      behind (codes ", ") (c ∷ rest) ≡ None →
      listed at (length (with_commas text (x ∷ xs) ++ c ∷ rest)) (with_commas text (x ∷ xs) ++ c ∷ rest) ≡ Some (x ∷ xs, c ∷ rest)
  listed_again x xs c rest h p b =
      let parts = and_parts (ok x) (list_all ok xs) h in
      let all = text x ++ (behind_commas text xs ++ c ∷ rest) in
      let m = length (text x) + (length (behind_commas text xs) + length rest) in
      let long : length all ≡ suc m = omega (
        arith,
        length-append (text x) (behind_commas text xs ++ c ∷ rest),
        length-append
            (behind_commas text xs) (c ∷ rest),
      ) in
      let few : length xs ≤ m = omega (arith, length-behind_commas text xs) in
      ap (λ z. listed at (length z) z) (append_assoc (text x) (behind_commas text xs) (c ∷ rest)) ∙
      (ap (λ k. listed at k all) long ∙ some_again xs x (c ∷ rest) m parts.0 parts.1 few p b)

  -- in brackets, where no element begins with the closing one
  pub bracketed_again : ((x : A) (r : List ℕ) → behind (codes ")") (text x ++ r) ≡ None) → ((r : List ℕ) → P (41 ∷ r)) →
      (xs : List A) (rest : List ℕ) → list_all ok xs ≡ true →
      bracketed at (length (with_commas text xs ++ 41 ∷ rest)) (with_commas text xs ++ 41 ∷ rest) ≡ Some (xs, rest)
  bracketed_again opens close [] rest h = refl
  bracketed_again opens close (x ∷ xs) rest h =
      let one : behind (codes ")") (with_commas text (x ∷ xs) ++ 41 ∷ rest) ≡ None =
      ap (behind (codes ")")) (append_assoc (text x) (behind_commas text xs) (41 ∷ rest)) ∙ opens x
      (behind_commas text xs ++ 41 ∷ rest) in
      let two = listed_again x xs 41 rest h (close rest) refl in
      rw one (rw two refl)
