-- What passes to the output and from the input, in parts.
use Rattle.std.proofs.Common.{◌≡◌, ℕ, suc, ◌+◌, ◌<◌, ◌≤◌, List, [], ◌∷◌, ◌++◌, length, take, drop, Option, Some, None, refl, sym, ap, ◌∙◌, subst, arith, ◌⊎◌, inl, inr, length-append, take-append-drop, append-nil}
use Rattle.std.proofs.lemmas.List.{take-append-le, take_all}
use Rattle.std.specs.Io.KnownBytes.{Appends, Consumes, IsAtEnd}
use Rattle.std.proofs.KnownBytes.{Appends-nil, Appends-trans, Consumes-nil}
use Rattle.hx_io.specs.Fronts.{AppendsFront}
use Rattle.il_acts.specs.Outside.{IsTaken, IsPut, Finds}

-- ---- the input that is found

-- whatever it is, where a function does not ask for it
pub finds_any : (left : Option (List ℕ)) (Of : List ℕ → Type 0) → ((input : List ℕ) → Of input) → Finds left Of
finds_any (Some xs) Of h = record { input = xs; told = λ bytes e. cc; does = h xs }
finds_any None Of h = record { input = []; told = λ bytes e. cc; does = h [] }

-- nothing is taken, and nothing is put
pub takes_none : (input : List ℕ) (left : Option (List ℕ)) → IsTaken input input left left
takes_none input left = record { bytes = []; taken = refl; lost = Consumes-nil left }

pub puts_none : (output : List ℕ) (written : Option (List ℕ)) → IsPut output output written written
puts_none output written = record { bytes = []; added = append-nil output; put = Appends-nil written }

-- ---- output in parts

-- a front of a part, behind all before it, is a front of the whole
pub front_more : (a b c : Option (List ℕ)) (xs ys : List ℕ) → Appends a b xs → AppendsFront b c ys → AppendsFront a c (xs ++ ys)
front_more a b c xs ys p q =
    let n : ℕ = q.0 in
    let few : n ≤ length ys = q.1 in
    let taken : take (length xs + n) (xs ++ ys) ≡ xs ++ take n ys = take_behind xs ys n in
    (length xs + n, simp length-append (omega (arith, few)), subst (Appends a c) (sym taken) (Appends-trans a b c xs (take n ys) p q.2))
  where
    take_behind : (us vs : List ℕ) (k : ℕ) → take (length us + k) (us ++ vs) ≡ us ++ take k vs
    take_behind [] vs k = let e : 0 + k ≡ k = omega arith in rw e refl
    take_behind (u ∷ us) vs k =
        let e : length (u ∷ us) + k ≡ suc (length us + k) = omega arith in
        rw e (ap (λ (l : List ℕ). u ∷ l) (take_behind us vs k))

-- and of more behind it
pub front_wider : (a c : Option (List ℕ)) (xs ys : List ℕ) → AppendsFront a c xs → AppendsFront a c (xs ++ ys)
front_wider a c xs ys q =
    let few : q.0 ≤ length xs = q.1 in
    let e : take q.0 (xs ++ ys) ≡ take q.0 xs = take-append-le q.0 xs ys few in
    (q.0, simp length-append (omega (arith, few)), subst (Appends a c) (sym e) q.2)

-- ---- input in parts

-- then there is an input of which these are the next bytes
pub record Input (left left' : Option (List ℕ)) (n : ℕ) (bytes : List ℕ) : Type 0 where
  pub input : List ℕ
  pub told : (xs : List ℕ) → left ≡ Some xs → input ≡ xs
  pub next : take n input ≡ bytes
  pub rest : bytes ++ drop n input ≡ input

take_long : (n : ℕ) (xs : List ℕ) → length xs ≤ n → take n xs ≡ xs
take_long n xs h = take_all n xs h

pub input_of : (left left' : Option (List ℕ)) (n : ℕ) (bytes : List ℕ) → Consumes left left' bytes → length bytes ≤ n →
    (length bytes < n → IsAtEnd left') → Input left left' n bytes
input_of None left' n bytes lost few end =
    let next : take n bytes ≡ bytes = take_long n bytes few in
    record {
      input = bytes;
      told = λ xs e. cc;
      next = next;
      rest = subst (λ (l : List ℕ). l ++ drop n bytes ≡ bytes) next (take-append-drop n bytes);
    }
input_of (Some xs) None n bytes lost few end = absurd lost
input_of (Some xs) (Some ys) n bytes lost few end =
    let next : take n xs ≡ bytes = front in
    record {
      input = xs;
      told = λ zs e. cc;
      next = next;
      rest = subst (λ (l : List ℕ). l ++ drop n xs ≡ xs) next (take-append-drop n xs);
    }
  where
    by_count : (length bytes ≡ n) ⊎ (length bytes < n) → take n (bytes ++ ys) ≡ bytes
    by_count (inl e) = take-append-le n bytes ys (omega (arith, e)) ∙ take_long n bytes (omega (arith, e))
    by_count (inr l) =
        let none : ys ≡ [] = end l in
        let all : bytes ++ ys ≡ bytes = ap (λ (zs : List ℕ). bytes ++ zs) none ∙ append-nil bytes in
        ap (take n) all ∙ take_long n bytes (omega (arith, l))

    whole : (length bytes ≡ n) ⊎ (length bytes < n)
    whole = grind arith

    front : take n xs ≡ bytes
    front = ap (take n) lost ∙ by_count whole
