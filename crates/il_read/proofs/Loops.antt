-- What a loop has read, and what the rest reads as.
use Rattle.std.proofs.Common.{◌≡◌, ℕ, ◌-◌, ◌<◌, ◌+◌, suc, List, [], ◌∷◌, ◌++◌, Option, Some, None, Bool, true, refl, sym, ap, ◌∙◌, append_assoc, arith, codes}
use Rattle.il_code.specs.declared.types.Inst.{Inst}
use Rattle.il_code.specs.declared.types.Phi.{Phi}
use Rattle.il_read.specs.declared.line.Line.TheVariants as line
use Rattle.il_read.specs.Front.{◌>>=◌, behind}
use Rattle.il_read.specs.Lists.{each, listed}
use Rattle.il_read.specs.Lines.{line_at, begins_line, in_front, lines}

-- a turn is left
pub left : (i n : ℕ) → i < n → n - i ≡ suc (n - (i + 1))
left i n h = omega arith

-- ---- lists

-- with these in front
abbrev pub also : {A : Type 0} → List A → Option (List A × List ℕ) → Option (List A × List ℕ)
also xs None = None
also xs (Some r) = Some (xs ++ r.0, r.1)

also-more : {A : Type 0} (xs : List A) (x : A) (o : Option (List A × List ℕ)) →
    also xs (o >>= λ more. Some (x ∷ more.0, more.1)) ≡ also (xs ++ x ∷ []) o
also-more xs x None = refl
also-more xs x (Some r) = ap (λ ys. Some (ys, r.1)) (sym (append_assoc xs (x ∷ []) r.0))

module _ {A : Type 0} (at : List ℕ → Option (A × List ℕ)) where
  -- one more was read
  pub each_kept : (begins : List ℕ → Bool) (all : Option (List A × List ℕ)) (xs ys : List A) (n m : ℕ) (s : List ℕ) (x : A) (r : List ℕ) →
      also xs (each at begins n s) ≡ all → n ≡ suc m → begins s ≡ true → at s ≡ Some (x, r) → ys ≡ xs ++ x ∷ [] →
      also ys (each at begins m r) ≡ all
  each_kept begins all xs ys n m s x r before turn b read pushed =
      rw pushed (sym (also-more xs x (each at begins m r))) ∙ (rw (turn, b, read) at before)

  -- one more was read, and a comma stands behind it
  pub listed_kept : (all : Option (List A × List ℕ)) (xs ys : List A) (n m : ℕ) (s : List ℕ) (x : A) (r t : List ℕ) →
      also xs (listed at n s) ≡ all → n ≡ suc m → at s ≡ Some (x, r) → Some t ≡ behind (codes ", ") r → ys ≡ xs ++ x ∷ [] →
      also ys (listed at m t) ≡ all
  listed_kept all xs ys n m s x r t before turn read comma pushed =
      rw pushed (sym (also-more xs x (listed at m t))) ∙ (rw (← comma) at (rw (turn, read) at before))

-- ---- the lines of a block

-- with these in front
abbrev pub also_lines : List Phi → List Inst → Option ((List Phi × List Inst) × List ℕ) → Option ((List Phi × List Inst) × List ℕ)
also_lines ps is None = None
also_lines ps is (Some r) = Some ((ps ++ r.0.0, is ++ r.0.1), r.1)

also_lines-phi : (ps : List Phi) (is : List Inst) (p : Phi) (o : Option ((List Phi × List Inst) × List ℕ)) →
    also_lines ps is (o >>= λ more. Some (in_front (line.Phi p) more.0, more.1)) ≡ also_lines (ps ++ p ∷ []) is o
also_lines-phi ps is p None = refl
also_lines-phi ps is p (Some r) = ap (λ qs. Some ((qs, is ++ r.0.1), r.1)) (sym (append_assoc ps (p ∷ []) r.0.0))

also_lines-inst : (ps : List Phi) (is : List Inst) (i : Inst) (o : Option ((List Phi × List Inst) × List ℕ)) →
    also_lines ps is (o >>= λ more. Some (in_front (line.Inst i) more.0, more.1)) ≡ also_lines ps (is ++ i ∷ []) o
also_lines-inst ps is i None = refl
also_lines-inst ps is i (Some r) = ap (λ js. Some ((ps ++ r.0.0, js), r.1)) (sym (append_assoc is (i ∷ []) r.0.1))

module _ (all : Option ((List Phi × List Inst) × List ℕ)) (ps qs : List Phi) (is js : List Inst) (n m : ℕ) (s : List ℕ) where
  -- a phi was read
  pub lines_phi : (p : Phi) (r : List ℕ) → also_lines ps is (lines n s) ≡ all → n ≡ suc m → begins_line s ≡ true →
      line_at s ≡ Some (line.Phi p, r) → qs ≡ ps ++ p ∷ [] → js ≡ is → also_lines qs js (lines m r) ≡ all
  lines_phi p r before turn b read pushed same =
      rw (pushed, same) (sym (also_lines-phi ps is p (lines m r))) ∙ (rw (turn, b, read) at before)

  -- an instruction was read
  pub lines_inst : (i : Inst) (r : List ℕ) → also_lines ps is (lines n s) ≡ all → n ≡ suc m → begins_line s ≡ true →
      line_at s ≡ Some (line.Inst i, r) → qs ≡ ps → js ≡ is ++ i ∷ [] → also_lines qs js (lines m r) ≡ all
  lines_inst i r before turn b read same pushed =
      rw (same, pushed) (sym (also_lines-inst ps is i (lines m r))) ∙ (rw (turn, b, read) at before)
