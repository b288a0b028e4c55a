-- Files that are read one after another, and what the rules of names ask of their trees.
use Rattle.std.specs.Prelude.{IsErrAnd}
use Rattle.std.proofs.Common.{◌≡◌, Result, Ok, Err, IfErr, ℕ, ◌+◌, ◌≤◌, List, [], ◌∷◌, ◌++◌, length, take, drop, slice_get, Some, refl, sym}
use Rattle.std.proofs.Common.{ap, ◌∙◌, subst, inl, inr, suc, zero, add-one, add_assoc, arith}
use Rattle.std.proofs.lemmas.List.Sums.{sum_by-cons, sum_by_push}
use Rattle.hare_tree.specs.declared.place.Fault.{Fault}
use Rattle.hare_tree.specs.declared.stop.Stop.{Stop}
use Rattle.hare_tree.specs.declared.stop.Stop.TheVariants as stop
use Rattle.hare_tree.specs.declared.tree.FileTree.{FileTree}
use Rattle.hare_decl.specs.Answers.{IsSource, Stops}
use Rattle.hare_decl.proofs.SourceTrees.Sources.{sources_stand_over_tokens}
use Rattle.hare_names.specs.Answers.{IsFileOf}
use Rattle.hare_sources.specs.Files.{most_of_all, bytes_of, IsRead, IsFaultOfFile, AreReadFrom, IsFaultFrom, AreRead, IsFaultOfFiles}

-- ---- elements

pub take-there : {A : Type 0} (xs : List A) (i : ℕ) (x : A) → slice_get xs i ≡ Some x → take (i + 1) xs ≡ take i xs ++ x ∷ []
take-there [] i x e = absurd cc
take-there (y ∷ ys) zero x e = let h : y ≡ x = cc in ap (λ z. z ∷ []) h
take-there (y ∷ ys) (suc i) x e = rw add-one (ap (λ zs. y ∷ zs) (rw add-one at (take-there ys i x e)))

pub split-there : {A : Type 0} (xs : List A) (i : ℕ) (x : A) → slice_get xs i ≡ Some x → xs ≡ take i xs ++ x ∷ drop (suc i) xs
split-there [] i x e = absurd cc
split-there (y ∷ ys) zero x e = let h : y ≡ x = cc in ap (λ z. z ∷ ys) h
split-there (y ∷ ys) (suc i) x e = ap (λ zs. y ∷ zs) (split-there ys i x e)

pub length-there : {A : Type 0} (xs : List A) (i : ℕ) (x : A) → slice_get xs i ≡ Some x → length (take i xs) ≡ i
length-there [] i x e = absurd cc
length-there (y ∷ ys) zero x e = refl
length-there (y ∷ ys) (suc i) x e = ap suc (length-there ys i x e)

-- ---- reading on

-- the numbers behind one file more
further : (before file : ℕ) (s : List ℕ) (ss : List (List ℕ)) → before + bytes_of (s ∷ ss) ≡ (before + length s) + bytes_of ss
further before file s ss = ap (λ n. before + n) (sum_by-cons length s ss) ∙ sym (add_assoc before (length s) (bytes_of ss))

later : (file n : ℕ) → file + suc n ≡ suc file + n
later file n = omega arith

-- no bytes and no files more
no-bytes : (before : ℕ) → before + bytes_of [] ≡ before
no-bytes before = omega arith

no-files : (file : ℕ) → file + length {A = List ℕ} [] ≡ file
no-files file = omega arith

-- one file more is read
pub read-push : (before file : ℕ) (ss : List (List ℕ)) (ts : List FileTree) (s : List ℕ) (t : FileTree) →
    AreReadFrom before file ss ts → IsRead (before + bytes_of ss) (file + length ss) s t →
    AreReadFrom before file (ss ++ s ∷ []) (ts ++ t ∷ [])
read-push before file [] [] s t h r =
    (subst (λ n. IsRead n file s t) (no-bytes before) (subst (λ n. IsRead (before + bytes_of []) n s t) (no-files file) r), tt)
read-push before file [] (u ∷ us) s t h r = absurd h
read-push before file (x ∷ xs) [] s t h r = absurd h
read-push before file (x ∷ xs) (u ∷ us) s t h r = (
  h.0,
  read-push (before + length x) (suc file) xs us s t h.1
      (subst (λ n. IsRead n (suc file + length xs) s t) (further before file x xs)
      (subst (λ n. IsRead (before + bytes_of (x ∷ xs)) n s t) (later file (length xs)) r)),
)

-- the first that is not read has the first fault
pub fault-behind : (before file : ℕ) (ss : List (List ℕ)) (ts : List FileTree) (s : List ℕ) (rest : List (List ℕ)) (f : Fault) →
    AreReadFrom before file ss ts → IsFaultOfFile (before + bytes_of ss) (file + length ss) s f →
    IsFaultFrom before file (ss ++ s ∷ rest) f
fault-behind before file [] [] s rest f h k =
    inl (subst (λ n. IsFaultOfFile n file s f) (no-bytes before)
    (subst (λ n. IsFaultOfFile (before + bytes_of []) n s f) (no-files file) k))
fault-behind before file [] (u ∷ us) s rest f h k = absurd h
fault-behind before file (x ∷ xs) [] s rest f h k = absurd h
fault-behind before file (x ∷ xs) (u ∷ us) s rest f h k =
    inr (
      u,
      h.0,
      fault-behind (before + length x) (suc file) xs us s rest f h.1
          (subst (λ n. IsFaultOfFile n (suc file + length xs) s f) (further before file x xs)
          (subst (λ n. IsFaultOfFile (before + bytes_of (x ∷ xs)) n s f) (later file (length xs)) k)),
    )

-- what is read is within the limit
pub read-within : (before file : ℕ) (ss : List (List ℕ)) (ts : List FileTree) → before ≤ most_of_all → AreReadFrom before file ss ts →
    before + bytes_of ss ≤ most_of_all
read-within before file [] [] l h = subst (λ n. n ≤ most_of_all) (sym (no-bytes before)) l
read-within before file [] (u ∷ us) l h = absurd h
read-within before file (x ∷ xs) [] l h = absurd h
read-within before file (x ∷ xs) (u ∷ us) l h =
    subst (λ n. n ≤ most_of_all) (sym (further before file x xs)) (read-within (before + length x) (suc file) xs us h.0.small.together h.1)

pub length-read : (before file : ℕ) (ss : List (List ℕ)) (ts : List FileTree) → AreReadFrom before file ss ts → length ts ≡ length ss
length-read before file [] [] h = refl
length-read before file [] (u ∷ us) h = absurd h
length-read before file (x ∷ xs) [] h = absurd h
length-read before file (x ∷ xs) (u ∷ us) h = ap suc (length-read (before + length x) (suc file) xs us h.1)

-- ---- from the start

-- so many files are read, and these are the bytes of them
pub record Reading (srcs : List (List ℕ)) (i before : ℕ) (ts : List FileTree) : Type 0 where
  pub read : AreRead (take i srcs) ts
  pub bytes : before ≡ bytes_of (take i srcs)

zero-before : (n : ℕ) → 0 + n ≡ n
zero-before n = omega arith

pub reading-within : (srcs : List (List ℕ)) (i before : ℕ) (ts : List FileTree) → Reading srcs i before ts → before ≤ most_of_all
reading-within srcs i before ts r =
    let w : 0 + bytes_of (take i srcs) ≤ most_of_all = read-within 0 0 (take i srcs) ts (omega arith) r.read in omega (arith, r.bytes)

module _ (srcs : List (List ℕ)) (i before : ℕ) (ts : List FileTree) (s : List ℕ) (r : Reading srcs i before ts)
    (e : slice_get srcs i ≡ Some s) where
  bytes-are : before ≡ 0 + bytes_of (take i srcs)
  bytes-are = r.bytes ∙ sym (zero-before (bytes_of (take i srcs)))

  file-is : i ≡ 0 + length (take i srcs)
  file-is = sym (zero-before (length (take i srcs)) ∙ length-there srcs i s e)

  pub reading-on : (t : FileTree) → IsRead before i s t → Reading srcs (i + 1) (before + length s) (ts ++ t ∷ [])
  reading-on t h = record {
    read = subst (λ ss. AreRead ss (ts ++ t ∷ [])) (sym (take-there srcs i s e))
        (read-push 0 0 (take i srcs) ts s t r.read
        (subst (λ n. IsRead n (0 + length (take i srcs)) s t) bytes-are (subst (λ n. IsRead before n s t) file-is h)));
    bytes = more;
  }
    where
      more : before + length s ≡ bytes_of (take (i + 1) srcs)
      more =
          ap (λ n. n + length s) r.bytes
          ∙ sym (ap bytes_of (take-there srcs i s e) ∙ sum_by_push length (take i srcs) s)

  pub reading-stops : (f : Fault) → IsFaultOfFile before i s f → IsFaultOfFiles srcs f
  reading-stops f h =
      subst (λ ss. IsFaultOfFiles ss f) (sym (split-there srcs i s e))
      (fault-behind 0 0 (take i srcs) ts s (drop (suc i) srcs) f r.read
      (subst (λ n. IsFaultOfFile n (0 + length (take i srcs)) s f) bytes-are (subst (λ n. IsFaultOfFile before n s f) file-is h)))

-- ---- what calls give

-- what returns a stop that it was given
pub err-same : {A : Type 0} (result : Result A (Stop Fault)) (e : Stop Fault) (P : Stop Fault → Type 0) → IsErrAnd result (λ y. y ≡ e) →
    P e → IfErr result P
err-same (Ok a) e P h k = tt
err-same (Err y) e P h k = subst P (sym h) k

-- a stop at a fault of one sort is one at a fault of another, where the first are among these
pub stops-more : (P Q : Fault → Type 0) → ((f : Fault) → P f → Q f) → (e : Stop Fault) → Stops P e → Stops Q e
stops-more P Q h (stop.Fault f) k = h f k
stops-more P Q h stop.Memory k = tt

-- ---- the trees of files

-- the tree of the bytes of a file is that of the file
pub file-of : (file : ℕ) (text : List ℕ) (t : FileTree) → IsSource file text t → IsFileOf file t
file-of file text t h =
    let over = sources_stand_over_tokens file text t h in
    record { file_is = h.file_is.read.file_is; fits = h.file_is.read.fits; tokens = over.0; stands = over.2 }

pub files-of : (before file : ℕ) (ss : List (List ℕ)) (ts : List FileTree) → AreReadFrom before file ss ts → (k : ℕ) (t : FileTree) →
    slice_get ts k ≡ Some t → IsFileOf (file + k) t
files-of before file [] [] h k t e = absurd cc
files-of before file [] (u ∷ us) h k t e = absurd h
files-of before file (x ∷ xs) [] h k t e = absurd h
files-of before file (x ∷ xs) (u ∷ us) h zero t e =
    let q : u ≡ t = cc in subst (λ n. IsFileOf n t) (omega arith) (subst (IsFileOf file) q (file-of file x u h.0.source))
files-of before file (x ∷ xs) (u ∷ us) h (suc k) t e =
    subst (λ n. IsFileOf n t) (sym (later file k)) (files-of (before + length x) (suc file) xs us h.1 k t e)
