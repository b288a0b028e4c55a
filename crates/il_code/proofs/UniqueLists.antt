-- Lists of constructs, one behind the other or with commas between, are told by their tokens.
use Rattle.std.proofs.Common.{◌≡◌, List, [], ◌∷◌, ◌++◌, Bool, true, false, refl, sym, ap, ◌∙◌, append_assoc, map}
use Rattle.il_code.specs.Tokens.{IlToken, LineEnd}
use Rattle.il_code.specs.Grammar.{Pattern, both, row, spaced, may_lines, on_line, line, lines, many, Fits}
use Rattle.il_code.proofs.Unique.{true_and_false, behind_seam, Unique, any, ahead, fails, first_of_token, closed, one_token, skipped}

-- ---- one behind the other

-- what may be written one behind the other: `E` holds where one more stands next, `G` behind the last, and `F` behind each
pub record Repeats (A : Type 0) (P : A → Pattern) (F E G : List IlToken → Bool) : Type 0 where
  pub one : Unique A P F
  pub opens : (x : A) (a r : List IlToken) → Fits (P x) a → E (a ++ r) ≡ true
  pub apart : (r : List IlToken) → G r ≡ true → E r ≡ false
  pub inside : (r : List IlToken) → E r ≡ true → F r ≡ true
  pub over : (r : List IlToken) → G r ≡ true → F r ≡ true

opens_row : {A : Type 0} {P : A → Pattern} {F E G : List IlToken → Bool} → Repeats A P F E G → (x : A) (xs : List A) (b r : List IlToken) →
    Fits (both (P x) (row (map P xs))) b → E (b ++ r) ≡ true
opens_row {E} k x xs b r h = ap (λ z. E (z ++ r)) h.2 ∙ ap E (append_assoc h.0 h.1 r) ∙ k.opens x h.0 (h.1 ++ r) h.3

-- what holds where one more stands next and behind the last holds in front of them all
pub row_leads : {A : Type 0} {P : A → Pattern} {F E G : List IlToken → Bool} → Repeats A P F E G → (H : List IlToken → Bool) →
    ((r : List IlToken) → E r ≡ true → H r ≡ true) → ((r : List IlToken) → G r ≡ true → H r ≡ true) → (xs : List A) (b r : List IlToken) →
    Fits (row (map P xs)) b → G r ≡ true → H (b ++ r) ≡ true
row_leads k H e g [] b r h s = ap (λ z. H (z ++ r)) h ∙ g r s
row_leads k H e g (x ∷ xs) b r h s = e (b ++ r) (opens_row k x xs b r h)

row_same : {A : Type 0} {P : A → Pattern} {F E G : List IlToken → Bool} → Repeats A P F E G → (xs ys : List A) (a b r s : List IlToken) →
    Fits (row (map P xs)) a → Fits (row (map P ys)) b → a ++ r ≡ b ++ s → G r ≡ true → G s ≡ true → (xs ≡ ys) × (r ≡ s)
row_same k [] [] a b r s fx fy e gr gs = (refl, ap (λ z. z ++ r) (sym fx) ∙ e ∙ ap (λ z. z ++ s) fy)
row_same {E} k [] (y ∷ ys) a b r s fx fy e gr gs =
    absurd (true_and_false (E r) (ap E (ap (λ z. z ++ r) (sym fx) ∙ e) ∙ opens_row k y ys b s fy) (k.apart r gr))
row_same {E} k (x ∷ xs) [] a b r s fx fy e gr gs =
    absurd (true_and_false (E s) (ap E (ap (λ z. z ++ s) (sym fy) ∙ sym e) ∙ opens_row k x xs a r fx) (k.apart s gs))
row_same {F} k (x ∷ xs) (y ∷ ys) a b r s fx fy e gr gs =
    let before = row_leads k F k.inside k.over in
    let joint = behind_seam fx.0 fx.1 r fy.0 fy.1 s a b fx.2 fy.2 e in
    let one = k.one.same x y fx.0 fy.0 (fx.1 ++ r) (fy.1 ++ s) fx.3 fy.3 joint (before xs fx.1 r fx.4 gr) (before ys fy.1 s fy.4 gs) in
    let more = row_same k xs ys fx.1 fy.1 r s fx.4 fy.4 one.1 gr gs in
    (ap (λ z. z ∷ xs) one.0 ∙ ap (λ zs. y ∷ zs) more.0, more.1)

pub unique_row : {A : Type 0} {P : A → Pattern} {F E G : List IlToken → Bool} → Repeats A P F E G → Unique (List A) (λ xs. row (map P xs)) G
unique_row k = record { same = row_same k }

-- ---- blanks of lines

abbrev pub is_line : IlToken → Bool
is_line LineEnd = true
is_line t = false

abbrev pub no_line : List IlToken → Bool
no_line = ahead (fails is_line)

-- a token with NLs behind it
pub unique_spaced : (t : IlToken) → Unique (Unit {0}) (λ u. spaced t) no_line
unique_spaced t = closed may_lines no_line (one_token t) (skipped is_line may_lines refl) (λ b r h k. refl)

pub spaced_any : {A : Type 0} {P : A → Pattern} → Unique A P any → Unique A (λ x. both (P x) may_lines) no_line
spaced_any u = closed may_lines no_line u (skipped is_line may_lines refl) (λ b r h k. refl)

-- a construct on a line of its own
pub unique_line_of : {A : Type 0} {P : A → Pattern} {F : List IlToken → Bool} → Unique A P F →
    ((r : List IlToken) → F (LineEnd ∷ r) ≡ true) → Unique A (λ x. on_line (P x)) no_line
unique_line_of {F} u f = closed lines no_line u (skipped is_line lines refl)
    (λ b r h k. let x = first_of_token LineEnd (many line) b r h in ap F x.1 ∙ f x.0)
