-- Lists of cells that are compared: where cells recur, and which repetitions tell two lists apart.
use Rattle.std.proofs.Common.{◌≡◌, ℕ, zero, suc, ◌+◌, ◌-◌, ◌*◌, ◌/◌, ◌%◌, ◌<◌, ◌≤◌, List, [], ◌∷◌, length, take, get_or, Option, Some, None, refl, ap, ap₂, ◌∙◌, sym, subst, arith, Bool, ◌⊎◌, inl, inr, below_more}
use Rattle.std.specs.Prelude.{slice_get, IfSome, IsTrue, ◌↔◌}
use Rattle.std.proofs.Math.Nat.{mul_comm}
use Rattle.std.proofs.lemmas.List.{get_or_default}
use Rattle.std.proofs.lemmas.Option.{slice_get-get_or}
use Rattle.std.proofs.lemmas.Bool.{cases_lt}
use Rattle.hare_typed.specs.declared.cell.Cell.{Cell}
use Rattle.hare_typed.specs.declared.cells.Repeat.{Repeat}
use Rattle.hare_typed.specs.declared.cells.same.Stretch.{Stretch}
use Rattle.hare_typed.specs.Repeats.{with_repeat, repeated, FitIn, IsAround, Recurs, AgreeTo}
use Rattle.hare_typed.proofs.RepeatLemmas.{get_before, get_within, get_beyond, repeated_at, fit_at, step_back}
use Rattle.hare_typed.proofs.OriginLemmas.{copies-fit}

-- ---- lists by their elements

pub same_elements : {A : Type 0} (cs ds : List A) → ((i : ℕ) → slice_get cs i ≡ slice_get ds i) → cs ≡ ds
same_elements [] [] h = refl
same_elements [] (d ∷ ds) h = let e = h 0 in cc
same_elements (c ∷ cs) [] h = let e = h 0 in cc
same_elements (c ∷ cs) (d ∷ ds) h =
    let e : Some c ≡ Some d = h 0 in
    let first : c ≡ d = cc in
    ap₂ (λ x xs. x ∷ xs) first (same_elements cs ds (λ i. h (suc i)))

pub agree_all : {A : Type 0} (n : ℕ) (cs ds : List A) → length cs ≡ length ds → length cs ≤ n →
    ((i : ℕ) → i < n → slice_get cs i ≡ slice_get ds i) → cs ≡ ds
agree_all n [] [] e l h = refl
agree_all n [] (d ∷ ds) e l h = absurd (omega arith)
agree_all n (c ∷ cs) [] e l h = absurd (omega arith)
agree_all zero (c ∷ cs) (d ∷ ds) e l h = absurd (omega arith)
agree_all (suc n) (c ∷ cs) (d ∷ ds) e l h =
    let f : Some c ≡ Some d = h 0 (omega arith) in
    let first : c ≡ d = cc in
    ap₂ (λ x xs. x ∷ xs) first (agree_all n cs ds (omega arith) (omega arith) (λ i k. h (suc i) (omega arith)))

-- one more element is the same
pub agree_more : {A : Type 0} (cs ds : List A) (i : ℕ) (d : A) → length cs ≡ length ds → i < length cs →
    get_or cs i d ≡ get_or ds i d → ((k : ℕ) → k < i → slice_get cs k ≡ slice_get ds k) →
    (k : ℕ) → k < i + 1 → slice_get cs k ≡ slice_get ds k
agree_more cs ds i d e l f h =
    below_more (λ k. slice_get cs k ≡ slice_get ds k) i h
    (slice_get-get_or cs i d l ∙ ap (λ x. Some x) f ∙ sym (slice_get-get_or ds i d (omega arith)))

-- ---- the same repetitions tell different lists apart

with_repeat-same : (r : Repeat) (cs ds : List Cell) → r.from < r.to → r.to ≤ length cs → r.to ≤ length ds →
    with_repeat r cs ≡ with_repeat r ds → cs ≡ ds
with_repeat-same r cs ds f h k e = same_elements cs ds at
  where
    at : (i : ℕ) → slice_get cs i ≡ slice_get ds i
    at i = by (cases_lt i r.to)
      where
        by : (i < r.to) ⊎ (r.to ≤ i) → slice_get cs i ≡ slice_get ds i
        by (inl l) = sym (get_before r cs i l h) ∙ ap (λ xs. slice_get xs i) e ∙ get_before r ds i l k
        by (inr l) =
            let place : ℕ = r.to + (r.more * (r.to - r.from) + (i - r.to)) in
            let there : r.to + (i - r.to) ≡ i = omega arith in
            sym (get_beyond r cs place (i - r.to) f h refl ∙ ap (slice_get cs) there)
            ∙ ap (λ xs. slice_get xs place) e
            ∙ get_beyond r ds place (i - r.to) f k refl
            ∙ ap (slice_get ds) there

pub repeated-same : (rs : List Repeat) (cs ds : List Cell) → FitIn rs cs → FitIn rs ds → repeated rs cs ≡ repeated rs ds → cs ≡ ds
repeated-same [] cs ds h k e = e
repeated-same (r ∷ rs) cs ds h k e =
    with_repeat-same r cs ds h.0 h.1 k.1 (repeated-same rs (with_repeat r cs) (with_repeat r ds) h.2 k.2 e)

-- and the cells of two lists with the same repetitions are the same where those that were written are
pub same_kept : (rs ss : List Repeat) (cs ds xs ys zs ws : List Cell) (b : Bool) → rs ≡ ss → FitIn rs cs → FitIn ss ds →
    repeated rs cs ≡ xs → repeated ss ds ≡ ys → zs ≡ cs → ws ≡ ds → (IsTrue b ↔ zs ≡ ws) → (IsTrue b ↔ xs ≡ ys)
same_kept rs ss cs ds xs ys zs ws b e f k s o v w h = (
  λ t. sym s ∙ ap (repeated rs) (sym v ∙ h.0 t ∙ w) ∙ whole,
  λ q. h.1 (v ∙ repeated-same rs cs ds f (subst (λ x. FitIn x ds) (sym e) k) (s ∙ q ∙ sym whole) ∙ sym w),
)
  where
    whole : repeated rs ds ≡ ys
    whole = ap (λ x. repeated x ds) e ∙ o

-- ---- copies recur

copy_before : (r : Repeat) (cs : List Cell) (i q k : ℕ) → r.from < r.to → r.to ≤ length cs → q < r.more → k < r.to - r.from →
    i ≡ r.to + (q * (r.to - r.from) + k) → slice_get (with_repeat r cs) i ≡ slice_get (with_repeat r cs) (i - (r.to - r.from))
copy_before r cs i zero k f h l m e =
    let before : i - (r.to - r.from) ≡ r.from + k = omega arith in
    get_within r cs i zero k f h l m e
    ∙ ap (slice_get cs) (sym before)
    ∙ sym (get_before r cs (i - (r.to - r.from)) (omega arith) h)
copy_before r cs i (suc q) k f h l m e =
    get_within r cs i (suc q) k f h l m e ∙ sym (get_within r cs (i - (r.to - r.from)) q k f h (omega arith) m (omega arith))

pub copy_recurs : (r : Repeat) (cs : List Cell) (i : ℕ) → r.from < r.to → r.to ≤ length cs → r.to ≤ i →
    i < r.to + (r.to - r.from) * r.more → slice_get (with_repeat r cs) i ≡ slice_get (with_repeat r cs) (i - (r.to - r.from))
copy_recurs r cs i f h b l =
    let part = r.to - r.from in
    let n = i - r.to in
    let whole : part * (n / part) + n % part ≡ n = omega arith in
    let turned : part * (n / part) ≡ n / part * part = mul_comm part (n / part) in
    let turned_more : part * r.more ≡ r.more * part = mul_comm part r.more in
    let small : n % part < part = omega arith in
    copy_before r cs i (n / part) (n % part) f h (fewer (cases_lt (n / part) r.more)) small (omega arith)
  where
    fewer : ((i - r.to) / (r.to - r.from) < r.more) ⊎ (r.more ≤ (i - r.to) / (r.to - r.from)) → (i - r.to) / (r.to - r.from) < r.more
    fewer (inl k) = k
    fewer (inr k) =
        let fit = copies-fit (i - r.to) (r.to - r.from) r.more k in
        let turned : (r.to - r.from) * r.more ≡ r.more * (r.to - r.from) = mul_comm (r.to - r.from) r.more in
        absurd (omega arith)

-- ---- back from one repetition to those before it

-- a stretch behind a repetition is one behind those that come later, as far as they leave the cells where they were
pub recurs_back : (rs : List Repeat) (n end : ℕ) (d : Repeat) (cs : List Cell) (s : Stretch) → 0 < n → n ≤ length rs → FitIn rs cs →
    AgreeTo end (repeated rs cs) (repeated (take n rs) cs) → s.end ≤ end →
    ((ds : List Cell) → (get_or rs (n - 1) d).to ≤ length ds → Recurs s (with_repeat (get_or rs (n - 1) d) ds)) →
    Recurs s (repeated rs cs)
recurs_back rs n end d cs s p h f agree l found = record {
  proper = w.proper;
  within = w.within;
  same = λ i a b. let wp = w.proper in there i (omega arith) ∙ w.same i a b ∙ sym (there (i - s.distance) (omega arith));
}
  where
    r : Repeat
    r = get_or rs (n - 1) d

    i_in : n - 1 < length rs
    i_in = omega arith

    e : r ≡ get_or rs (n - 1) r
    e = get_or_default rs (n - 1) d r i_in

    level : List Cell
    level = repeated (take (n - 1) rs) cs

    w : Recurs s (with_repeat r level)
    w = found level (fit_at rs (n - 1) r cs i_in e f).1

    whole : repeated (take n rs) cs ≡ with_repeat r level
    whole = let m : n ≡ n - 1 + 1 = omega arith in ap (λ k. repeated (take k rs) cs) m ∙ repeated_at rs (n - 1) r cs i_in e

    there : (i : ℕ) → i < end → slice_get (repeated rs cs) i ≡ slice_get (with_repeat r level) i
    there i b = agree i b ∙ ap (λ xs. slice_get xs i) whole

pub recurs_found : (rs : List Repeat) (n end : ℕ) (d : Repeat) → 0 < n → n ≤ length rs →
    ((cs : List Cell) → FitIn rs cs → AgreeTo end (repeated rs cs) (repeated (take n rs) cs)) →
    (o : Option Stretch) → IfSome o (λ s. s.end ≤ end) →
    IfSome o (λ s. (ds : List Cell) → (get_or rs (n - 1) d).to ≤ length ds → Recurs s (with_repeat (get_or rs (n - 1) d) ds)) →
    IfSome o (λ s. (cs : List Cell) → FitIn rs cs → Recurs s (repeated rs cs))
recurs_found rs n end d p h agree None l found = tt
recurs_found rs n end d p h agree (Some s) l found = λ cs f. recurs_back rs n end d cs s p h f (agree cs f) l found

-- before a repetition the cells are where they were
pub agree_back : (rs : List Repeat) (n end less : ℕ) (d : Repeat) (cs : List Cell) → 0 < n → n ≤ length rs → FitIn rs cs →
    AgreeTo end (repeated rs cs) (repeated (take n rs) cs) → less ≤ end → less ≤ (get_or rs (n - 1) d).to →
    AgreeTo less (repeated rs cs) (repeated (take (n - 1) rs) cs)
agree_back rs n end less d cs p h f agree l m i b =
    agree i (omega arith)
    ∙ step_back rs n d cs i i p h f (λ ds k. get_before (get_or rs (n - 1) d) ds i (omega arith) k)

-- ---- two stretches

-- of one distance
same_upto : (s t : Stretch) (place n : ℕ) (cs ds : List Cell) → s.distance ≡ t.distance → s.begin ≤ place → t.begin ≤ place →
    n ≤ s.end → n ≤ t.end → Recurs s cs → Recurs t ds → AgreeTo place cs ds → (m i : ℕ) → i < m → i < n → slice_get cs i ≡ slice_get ds i
same_upto s t place n cs ds e a b k l p q h zero i z u = absurd (omega arith)
same_upto s t place n cs ds e a b k l p q h (suc m) i z u =
    let proper = p.proper in
    let within = p.within in
    let before = same_upto s t place n cs ds e a b k l p q h m (i - s.distance) in
    elim (cases_lt i place) [
      | inl v ↦ h i v
      | inr v ↦
          p.same i (omega arith) (omega arith)
          ∙ before (omega arith) (omega arith)
          ∙ ap (λ d. slice_get ds (i - d)) e
          ∙ sym (q.same i (omega arith) (omega arith))
    ]

pub alike_same : (s t : Stretch) (place n : ℕ) (cs ds : List Cell) → s.distance ≡ t.distance → s.begin ≤ place → t.begin ≤ place →
    n ≤ s.end → n ≤ t.end → Recurs s cs → Recurs t ds → AgreeTo place cs ds → AgreeTo n cs ds
alike_same s t place n cs ds e a b k l p q h i = same_upto s t place n cs ds e a b k l p q h (suc i) i (omega arith)

-- of two, each of which has passed in both
both_upto : (s t : Stretch) (place n : ℕ) (cs ds : List Cell) → s.begin + t.distance ≤ place → t.begin + s.distance ≤ place →
    n ≤ s.end → n ≤ t.end → Recurs s cs → Recurs t ds → AgreeTo place cs ds → (m i : ℕ) → i < m → i < n → slice_get cs i ≡ slice_get ds i
both_upto s t place n cs ds a b k l p q h zero i z u = absurd (omega arith)
both_upto s t place n cs ds a b k l p q h (suc m) i z u =
    let d = s.distance in
    let e = t.distance in
    let pp = p.proper in
    let qp = q.proper in
    let turned : i - d - e ≡ i - e - d = omega arith in
    let before = both_upto s t place n cs ds a b k l p q h m in
    elim (cases_lt i place) [
      | inl v ↦ h i v
      | inr v ↦
          p.same i (omega arith) (omega arith)
          ∙ before (i - d) (omega arith) (omega arith)
          ∙ q.same (i - d) (omega arith) (omega arith)
          ∙ ap (slice_get ds) turned
          ∙ sym (before (i - e - d) (omega arith) (omega arith))
          ∙ sym (p.same (i - e) (omega arith) (omega arith))
          ∙ before (i - e) (omega arith) (omega arith)
          ∙ sym (q.same i (omega arith) (omega arith))
    ]

pub alike_both : (s t : Stretch) (place n : ℕ) (cs ds : List Cell) → s.begin + t.distance ≤ place → t.begin + s.distance ≤ place →
    n ≤ s.end → n ≤ t.end → Recurs s cs → Recurs t ds → AgreeTo place cs ds → AgreeTo n cs ds
alike_both s t place n cs ds a b k l p q h i = both_upto s t place n cs ds a b k l p q h (suc i) i (omega arith)
