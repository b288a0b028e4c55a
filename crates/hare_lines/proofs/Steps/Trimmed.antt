-- Bytes without the blanks at their end, from the end on.
use Rattle.std.proofs.Common.{◌≡◌, ℕ, zero, suc, ◌-◌, ◌<◌, ◌≤◌, List, [], ◌∷◌, ◌++◌, true, false, length, take, get_or, refl, sym, ap, ◌∙◌, subst, arith}
use Rattle.std.proofs.Math.Seq.{take-length}
use Rattle.hare_tree.specs.Words.{is_blank}
use Rattle.hare_lines.specs.Read.{trimmed, before_blanks}

trimmed_blank : (w : List ℕ) (c : ℕ) → is_blank c ≡ true → trimmed (w ++ c ∷ []) ≡ trimmed w
trimmed_blank [] c h = rw h refl
trimmed_blank (d ∷ w) c h = ap (before_blanks d) (trimmed_blank w c h)

before_some : (d : ℕ) (w : List ℕ) (c : ℕ) → before_blanks d (w ++ c ∷ []) ≡ d ∷ (w ++ c ∷ [])
before_some d [] c = refl
before_some d (e ∷ w) c = refl

trimmed_kept : (w : List ℕ) (c : ℕ) → is_blank c ≡ false → trimmed (w ++ c ∷ []) ≡ w ++ c ∷ []
trimmed_kept [] c h = rw h refl
trimmed_kept (d ∷ w) c h = ap (before_blanks d) (trimmed_kept w c h) ∙ before_some d w c

take_snoc : (s : List ℕ) (n : ℕ) → n < length s → take (suc n) s ≡ take n s ++ get_or s n 0 ∷ []
take_snoc [] n h = absurd (omega arith)
take_snoc (c ∷ s) zero h = refl
take_snoc (c ∷ s) (suc n) h = ap (λ l. c ∷ l) (take_snoc s n (omega arith))

pub trimmed_start : (s : List ℕ) (n : ℕ) → n ≡ length s → trimmed (take n s) ≡ trimmed s
trimmed_start s n e = ap trimmed (ap (λ k. take k s) e ∙ take-length s)

-- one more blank is left out
pub trimmed_less : (s : List ℕ) (n : ℕ) → 0 < n → n ≤ length s → is_blank (get_or s (n - 1) 0) ≡ true → trimmed (take n s) ≡ trimmed s
    → trimmed (take (n - 1) s) ≡ trimmed s
trimmed_less s zero p h b e = absurd (omega arith)
trimmed_less s (suc n) p h b e =
    let same : suc n - 1 ≡ n = omega arith in
    let blank : is_blank (get_or s n 0) ≡ true = subst (λ k. is_blank (get_or s k 0) ≡ true) same b in
    ap (λ k. trimmed (take k s)) same ∙ sym (trimmed_blank (take n s) (get_or s n 0) blank)
    ∙ ap trimmed (sym (take_snoc s n (omega arith))) ∙ e

-- nothing is left to leave out
pub trimmed_done : (s : List ℕ) (n : ℕ) → 0 < n → n ≤ length s → is_blank (get_or s (n - 1) 0) ≡ false → trimmed (take n s) ≡ trimmed s
    → take n s ≡ trimmed s
trimmed_done s zero p h b e = absurd (omega arith)
trimmed_done s (suc n) p h b e =
    let same : suc n - 1 ≡ n = omega arith in
    let kept : is_blank (get_or s n 0) ≡ false = subst (λ k. is_blank (get_or s k 0) ≡ false) same b in
    let last = take_snoc s n (omega arith) in
    last ∙ sym (trimmed_kept (take n s) (get_or s n 0) kept) ∙ ap trimmed (sym last) ∙ e

pub trimmed_none : (s : List ℕ) (n : ℕ) → n ≡ 0 → trimmed (take n s) ≡ trimmed s → take n s ≡ trimmed s
trimmed_none s n z e = ap (λ k. take k s) z ∙ ap (λ k. trimmed (take k s)) (sym z) ∙ e
