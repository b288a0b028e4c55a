-- Lists that are turned round.
use Rattle.std.proofs.Common.{◌≡◌, ℕ, true, false, length, List, [], ◌∷◌, ◌++◌, refl, sym, ap, ◌∙◌, append_assoc, arith}
use Rattle.std.specs.Prelude.{◌==◌, reverse, if◌then◌else◌}
use Rattle.std.proofs.lemmas.Bool.Decides.{nat_tests}
use Rattle.std.proofs.lemmas.List.{reverse-append, reverse-reverse}
use Rattle.il_code.specs.declared.types.Block.{Block}
use Rattle.il_code.specs.declared.types.Inst.{Inst}
use Rattle.il_code.specs.declared.types.Jump.TheVariants.{Hlt}
use Rattle.il_code.specs.Shaped.{falls}
use Rattle.il_tight.specs.Tight.{joined, labelled, with_joined}

pub last_first : {A : Type 0} (xs : List A) (x : A) → reverse (xs ++ x ∷ []) ≡ x ∷ reverse xs
last_first xs x = reverse-append xs (x ∷ [])

pub turned : {A : Type 0} (ys xs : List A) (x : A) → ys ++ reverse (xs ++ x ∷ []) ≡ (ys ++ x ∷ []) ++ reverse xs
turned ys xs x = ap (λ (z : List _). ys ++ z) (last_first xs x) ∙ sym (append_assoc ys (x ∷ []) (reverse xs))

pub twice : {A : Type 0} (xs : List A) → reverse (reverse xs) ≡ xs
twice xs = reverse-reverse xs

pub last_joined : (xs : List Block) (a b : Block) → with_joined (xs ++ a ∷ []) b ≡ xs ++ (if falls a.jump then joined a b else a) ∷ []
last_joined [] a b = refl
last_joined (x ∷ []) a b = refl
last_joined (x ∷ y ∷ xs) a b = ap (λ (z : List Block). x ∷ z) (last_joined (y ∷ xs) a b)

-- a block of instructions, by whether there are some
pub not_labelled : (label : List ℕ) (is : List Inst) → (length is == 0) ≡ true → labelled label is ≡ []
not_labelled label [] h = refl
not_labelled label (i ∷ is) h = let e : length (i ∷ is) ≡ 0 = grind (arith, nat_tests) in absurd (omega arith)

pub is_labelled : (label : List ℕ) (is : List Inst) → (length is == 0) ≡ false →
    labelled label is ≡ record { label = label; phis = []; insts = is; jump = Hlt } ∷ []
is_labelled label [] h = cc
is_labelled label (i ∷ is) h = refl

pub regroup : {A : Type 0} (xs ys zs : List A) → xs ++ (ys ++ zs) ≡ (xs ++ ys) ++ zs
regroup xs ys zs = sym (append_assoc xs ys zs)
