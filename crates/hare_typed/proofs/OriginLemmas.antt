-- Parts of lists of cells with repetitions: what they are of the cells before each repetition.
use Rattle.std.proofs.Common.{◌≡◌, ℕ, ◌+◌, ◌-◌, ◌*◌, ◌/◌, ◌%◌, ◌<◌, ◌≤◌, List, [], ◌∷◌, ◌++◌, length, take, drop, get_or, reverse, Some, ap, ap₂, ◌∙◌, sym, subst, arith, append_assoc, length-append, length-drop}
use Rattle.std.specs.Prelude.{slice_get}
use Rattle.std.proofs.Math.Nat.{mul_comm, mul-le-mul_right}
use Rattle.std.proofs.Math.Seq.{drop-append-add, drop-append_seam, take-append_seam}
use Rattle.std.proofs.lemmas.List.{take-append-le, drop-append-le, length-take-le, take-append-drop, take_all, reverse-append, get_or_default}
use Rattle.hare_typed.specs.declared.cell.Cell.{Cell}
use Rattle.hare_typed.specs.declared.cells.Repeat.{Repeat}
use Rattle.hare_typed.specs.declared.cells.part.Origin.TheVariants.{Plain, Repeated}
use Rattle.hare_typed.specs.Cells.{cells_within}
use Rattle.hare_typed.specs.Repeats.{again, with_repeat, repeated, FitIn, moved, IsOrigin}
use Rattle.hare_typed.proofs.KidLemmas.{take-get}
use Rattle.hare_typed.proofs.RepeatLemmas.{length-again, length-with_repeat, with_repeat-append, with_repeat-moved, repeated_at, fit_at, slice_get-drop}

-- ---- one repetition

within_front : (xs ys : List Cell) (a n : ℕ) → a + n ≤ length xs → cells_within a n (xs ++ ys) ≡ cells_within a n xs
within_front xs ys a n h =
    let l = length-drop a xs in
    ap (take n) (drop-append-le a xs ys (omega arith)) ∙ take-append-le n (drop a xs) ys (omega arith)

-- a part that ends before the copies
pub within-before : (r : Repeat) (cs : List Cell) (a b : ℕ) → a ≤ b → b ≤ r.to → r.to ≤ length cs →
    cells_within a (b - a) (with_repeat r cs) ≡ cells_within a (b - a) cs
within-before r cs a b o l h =
    let front = take r.to cs in
    let d = length-take-le r.to cs h in
    within_front front (again r.more (drop r.from front) ++ drop r.to cs) a (b - a) (omega arith)
    ∙ sym (within_front front (drop r.to cs) a (b - a) (omega arith))
    ∙ ap (cells_within a (b - a)) (take-append-drop r.to cs)

-- one that begins behind them
pub within-behind : (r : Repeat) (cs : List Cell) (a b m : ℕ) → r.to ≤ length cs → m ≡ r.more * (r.to - r.from) → r.to + m ≤ a → a ≤ b →
    cells_within a (b - a) (with_repeat r cs) ≡ cells_within (a - m) (b - m - (a - m)) cs
within-behind r cs a b m h e l o =
    let front = take r.to cs in
    let part = drop r.from front in
    let copies = again r.more part in
    let rest = drop r.to cs in
    let k : ℕ = a - (r.to + m) in
    let d = length-take-le r.to cs h in
    let p : length part ≡ r.to - r.from = length-drop r.from front ∙ ap (λ n. n - r.from) d in
    let g : length copies ≡ m = length-again r.more part ∙ ap (λ n. r.more * n) p ∙ sym e in
    let x : a ≡ length (front ++ copies) + k = omega (arith, length-append front copies, g, d, l) in
    let y : a - m ≡ length front + k = omega (arith, d, l) in
    let z : b - m - (a - m) ≡ b - a = omega (arith, l, o) in
    ap (cells_within a (b - a)) (sym (append_assoc front copies rest))
    ∙ ap (λ n. cells_within n (b - a) ((front ++ copies) ++ rest)) x
    ∙ ap (take (b - a)) (drop-append-add (front ++ copies) rest k)
    ∙ sym (ap (take (b - a)) (drop-append-add front rest k))
    ∙ ap (λ n. cells_within n (b - a) (front ++ rest)) (sym y)
    ∙ ap (cells_within (a - m) (b - a)) (take-append-drop r.to cs)
    ∙ ap (λ n. cells_within (a - m) n cs) (sym z)

-- the same repetition in what stands from a place on
abbrev pub from_place : ℕ → Repeat → Repeat
from_place a r = record { from = r.from - a; to = r.to - a; more = r.more }

-- one that holds the whole repetition
pub within-around : (r : Repeat) (cs : List Cell) (a b m : ℕ) → r.from < r.to → r.to ≤ length cs → m ≡ r.more * (r.to - r.from) →
    a ≤ r.from → r.to + m ≤ b → b ≤ length (with_repeat r cs) →
    cells_within a (b - a) (with_repeat r cs) ≡ with_repeat (from_place a r) (cells_within a (b - m - a) cs)
within-around r cs a b m f h e o l u =
    let q : Repeat = from_place a r in
    let n : ℕ = b - m - a in
    let xs = take a cs in
    let ds = drop a cs in
    let ys = take n ds in
    let zs = drop n ds in
    let long = length-with_repeat r cs h in
    let whole : b ≤ length cs + m = omega (arith, long, e, u) in
    let width : r.to - a - (r.from - a) ≡ r.to - r.from = omega (arith, f, o) in
    let many : r.more * (r.to - a - (r.from - a)) ≡ m = ap (λ i. r.more * i) width ∙ sym e in
    let lx : length xs ≡ a = length-take-le a cs (omega (arith, f, o, h)) in
    let ld = length-drop a cs in
    let ly : length ys ≡ n = length-take-le n ds (omega (arith, ld, whole, l)) in
    let t : q.to ≤ length ys = omega (arith, ly, l, f, o) in
    let lw : length (with_repeat q ys) ≡ b - a = omega (arith, length-with_repeat q ys t, many, ly, l, f, o) in
    let from_is : r.from ≡ a + (r.from - a) = omega (arith, o) in
    let to_is : r.to ≡ a + (r.to - a) = omega (arith, o, f) in
    let shifted : with_repeat r cs ≡ with_repeat (moved a q) (xs ++ ds) =
    ap₂ (λ i k. with_repeat (record { from = i; to = k; more = r.more }) cs) from_is to_is
    ∙ ap (with_repeat (moved a q)) (sym (take-append-drop a cs)) in
    let split : with_repeat q ds ≡ with_repeat q ys ++ zs =
    ap (with_repeat q) (sym (take-append-drop n ds)) ∙ with_repeat-append q ys zs t in
    let behind : drop a (xs ++ with_repeat q ds) ≡ with_repeat q ds =
    ap (λ i. drop i (xs ++ with_repeat q ds)) (sym lx) ∙ drop-append_seam xs (with_repeat q ds) in
    ap (cells_within a (b - a)) (shifted ∙ with_repeat-moved a q xs ds lx)
    ∙ ap (take (b - a)) (behind ∙ split)
    ∙ ap (λ i. take i (with_repeat q ys ++ zs)) (sym lw)
    ∙ take-append_seam (with_repeat q ys) zs

-- copies that all stand before a place
pub copies-fit : (beyond part more : ℕ) → more ≤ beyond / part → more * part ≤ beyond
copies-fit beyond part more h =
    let whole : part * (beyond / part) + beyond % part ≡ beyond = omega arith in
    let turned : part * (beyond / part) ≡ beyond / part * part = mul_comm part (beyond / part) in
    let most : more * part ≤ beyond / part * part = mul-le-mul_right part h in
    omega arith

-- ---- repetitions one after another

-- what is kept of the last repetitions gives the part from what it is of the cells before them
abbrev pub Traced : List Repeat → List Cell → (from to : ℕ) → (left : ℕ) → (first end : ℕ) → List Repeat → Type 0
Traced rs cs from to left first end inside = record {
  within : left ≤ length rs;
  order : first ≤ end;
  reaches : end ≤ length (repeated (take left rs) cs);
  fit : FitIn (reverse inside) (cells_within first (end - first) (repeated (take left rs) cs));
  same : repeated (reverse inside) (cells_within first (end - first) (repeated (take left rs) cs))
      ≡ cells_within from (to - from) (repeated rs cs);
}

pub traced-none : (rs : List Repeat) (cs : List Cell) (from to left : ℕ) → left ≡ length rs → from ≤ to → to ≤ length (repeated rs cs) →
    Traced rs cs from to left from to []
traced-none rs cs from to left e o h =
    let all : take left rs ≡ rs = take_all left rs (omega arith) in
    record {
      within = omega arith;
      order = o;
      reaches = subst (λ xs. to ≤ length (repeated xs cs)) (sym all) h;
      fit = tt;
      same = ap (λ xs. cells_within from (to - from) (repeated xs cs)) all;
    }

-- one repetition back
module _ (rs : List Repeat) (cs : List Cell) (from to left first end : ℕ) (inside : List Repeat) (d : Repeat)
    (k : Traced rs cs from to left first end inside) (p : 0 < left) (f : FitIn rs cs) (a b : ℕ) where
  abbrev r : Repeat
  r = get_or rs (left - 1) d

  abbrev before : List Cell
  before = repeated (take (left - 1) rs) cs

  step_is : repeated (take left rs) cs ≡ with_repeat r before
  step_is =
      let i : left - 1 < length rs = omega (arith, p, k.within) in
      let m : left ≡ left - 1 + 1 = omega (arith, p) in
      ap (λ n. repeated (take n rs) cs) m ∙ repeated_at rs (left - 1) r cs i (get_or_default rs (left - 1) d r i)

  pub there : (r.from < r.to) × (r.to ≤ length before)
  there =
      let i : left - 1 < length rs = omega (arith, p, k.within) in fit_at rs (left - 1) r cs i (get_or_default rs (left - 1) d r i) f

  pub ends : end ≤ length (with_repeat r before)
  ends = subst (λ xs. end ≤ length xs) step_is k.reaches

  pub traced-plain : IsOrigin r first end (Plain a b) before → Traced rs cs from to (left - 1) a b inside
  traced-plain g =
      let same : cells_within first (end - first) (repeated (take left rs) cs) ≡ cells_within a (b - a) before =
      ap (cells_within first (end - first)) step_is ∙ g.2 in
      record {
        within = omega (arith, k.within);
        order = g.0;
        reaches = g.1;
        fit = subst (FitIn (reverse inside)) same k.fit;
        same = ap (repeated (reverse inside)) (sym same) ∙ k.same;
      }

  pub traced-repeated : (q : Repeat) (new : List Repeat) → new ≡ inside ++ q ∷ [] → IsOrigin r first end (Repeated a b q) before →
      Traced rs cs from to (left - 1) a b new
  traced-repeated q new e g =
      let same : cells_within first (end - first) (repeated (take left rs) cs) ≡ with_repeat q (cells_within a (b - a) before) =
      ap (cells_within first (end - first)) step_is ∙ g.4 in
      let turned : reverse new ≡ q ∷ reverse inside = ap reverse e ∙ reverse-append inside (q ∷ []) in
      let long = length-take-le (b - a) (drop a before) (omega (arith, length-drop a before, g.1)) in
      let fits : q.to ≤ length (cells_within a (b - a) before) = omega (arith, long, g.3) in
      record {
        within = omega (arith, k.within);
        order = g.0;
        reaches = g.1;
        fit = subst (λ xs. FitIn xs (cells_within a (b - a) before)) (sym turned) (g.2, fits, subst (FitIn (reverse inside)) same k.fit);
        same =
            ap (λ xs. repeated xs (cells_within a (b - a) before)) turned ∙ ap (repeated (reverse inside)) (sym same) ∙ k.same;
      }

-- what was written of the part, with what is kept, is the part
pub traced-all : (rs : List Repeat) (cs : List Cell) (from to left first end : ℕ) (inside new : List Repeat) (ws : List Cell) →
    Traced rs cs from to left first end inside → left ≤ 0 → new ≡ reverse inside → ws ≡ cells_within first (end - first) cs →
    FitIn new ws × (repeated new ws ≡ cells_within from (to - from) (repeated rs cs))
traced-all rs cs from to left first end inside new ws k z e w =
    let none : left ≡ 0 = omega arith in
    let start : repeated (take left rs) cs ≡ cs = ap (λ n. repeated (take n rs) cs) none in
    let cells : cells_within first (end - first) (repeated (take left rs) cs) ≡ ws =
    ap (cells_within first (end - first)) start ∙ sym w in (
      subst (λ xs. FitIn xs ws) (sym e) (subst (FitIn (reverse inside)) cells k.fit),
      ap (λ xs. repeated xs ws) e ∙ ap (repeated (reverse inside)) (sym cells) ∙ k.same,
    )

-- ---- one by one

pub within-more : (cs part new : List Cell) (from place : ℕ) (x : Cell) → from ≤ place → slice_get cs place ≡ Some x →
    part ≡ cells_within from (place - from) cs → new ≡ part ++ x ∷ [] → new ≡ cells_within from (place + 1 - from) cs
within-more cs part new from place x o e f g =
    let i : from + (place - from) ≡ place = omega (arith, o) in
    let n : place + 1 - from ≡ place - from + 1 = omega (arith, o) in
    let here : slice_get (drop from cs) (place - from) ≡ Some x = slice_get-drop from cs (place - from) ∙ ap (slice_get cs) i ∙ e in
    g ∙ ap (λ xs. xs ++ x ∷ []) f ∙ sym (take-get (drop from cs) (place - from) x here) ∙ ap (λ k. cells_within from k cs) (sym n)
