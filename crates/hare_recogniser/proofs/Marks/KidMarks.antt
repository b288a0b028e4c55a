-- What taking out the last kid leaves, where kids are marks.
use Rattle.std.proofs.Common.{◌≡◌, ℕ, ◌-◌, List, [], ◌∷◌, ◌++◌, length, refl, ap, ◌∙◌}
use Rattle.std.specs.Prelude.{Some, None, slice_get}
use Rattle.hare_nesting.specs.Marks.{Mark, last_mark, but_last_mark}
use Rattle.hare_nesting.specs.Gauge.{deep_last}
use Rattle.hare_ll_table.proofs.StackTop.Tops.{split_last, no_last}

pub last_mark_append : (ms : List Mark) (m : Mark) → last_mark (ms ++ m ∷ []) ≡ m ∷ []
last_mark_append [] m = refl
last_mark_append (x ∷ []) m = refl
last_mark_append (x ∷ (y ∷ ys)) m = last_mark_append (y ∷ ys) m

pub but_last_mark_append : (ms : List Mark) (m : Mark) → but_last_mark (ms ++ m ∷ []) ≡ ms
but_last_mark_append [] m = refl
but_last_mark_append (x ∷ []) m = refl
but_last_mark_append (x ∷ (y ∷ ys)) m = ap (λ l. x ∷ l) (but_last_mark_append (y ∷ ys) m)

-- ---- the last kid

deep_last_append : (n : ℕ) (ms : List Mark) (m : Mark) → deep_last n (ms ++ m ∷ []) ≡ deep_last n (m ∷ [])
unfolding deep_last
deep_last_append n [] m = refl
deep_last_append n (x ∷ []) m = refl
deep_last_append n (x ∷ (y ∷ ys)) m = deep_last_append n (y ∷ ys) m

pub deep_last_some : (n : ℕ) (ms : List Mark) (m : Mark) → slice_get ms (length ms - 1) ≡ Some m → deep_last n ms ≡ deep_last n (m ∷ [])
deep_last_some n ms m e = let s = split_last ms m e in ap (deep_last n) s.1 ∙ deep_last_append n s.0 m

pub deep_last_none : (n : ℕ) (ms : List Mark) → slice_get ms (length ms - 1) ≡ None → deep_last n ms ≡ []
unfolding deep_last
deep_last_none n ms e = ap (deep_last n) (no_last ms e)
