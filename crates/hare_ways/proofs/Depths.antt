-- Ways that are so much deeper.
use Rattle.std.proofs.Common.{◌≡◌, ℕ, suc, ◌+◌, List, [], ◌∷◌, ◌++◌, Bool, true, false, ◌&&◌, map, length, refl, ap, sym, ◌∙◌, arith, if◌then◌else◌}
use Rattle.hare_ways.specs.declared.way.Start.{Start}
use Rattle.hare_ways.specs.declared.way.Way.{Way}
use Rattle.hare_ways.specs.declared.breaks.Breaks.{Breaks}
use Rattle.hare_ways.specs.Ways.{deeper, starting, within_brackets}
use Rattle.hare_ways.specs.Walk.{deepened, at_depth, depth_within}

pub at_depth-append : (d : ℕ) (ws vs : List Way) → at_depth d (ws ++ vs) ≡ at_depth d ws ++ at_depth d vs
at_depth-append d [] vs = refl
at_depth-append d (w ∷ ws) vs = ap (λ us. deepened d w ∷ us) (at_depth-append d ws vs)

pub length-at_depth : (d : ℕ) (ws : List Way) → length (at_depth d ws) ≡ length ws
length-at_depth d [] = refl
length-at_depth d (w ∷ ws) = ap suc (length-at_depth d ws)

pub at_depth-starting : (d : ℕ) (s : Start) (ws : List Way) → at_depth d (starting s ws) ≡ starting s (at_depth d ws)
at_depth-starting d s [] = refl
at_depth-starting d s (w ∷ ws) = refl

deepened-deeper : (d : ℕ) (w : Way) → deepened d (deeper w) ≡ deepened (d + 1) w
deepened-deeper d w =
    let e : d + (w.depth + 1) ≡ (d + 1) + w.depth = omega arith in
    ap (λ n. record { start = w.start; depth = n; joins_before = w.joins_before; joins_behind = w.joins_behind; comma = w.comma }) e

at_depth-deeper : (d : ℕ) (ws : List Way) → at_depth d (map deeper ws) ≡ at_depth (d + 1) ws
at_depth-deeper d [] = refl
at_depth-deeper d (w ∷ ws) =
    ap (λ v. v ∷ at_depth d (map deeper ws)) (deepened-deeper d w) ∙ ap (λ vs. deepened (d + 1) w ∷ vs) (at_depth-deeper d ws)

within-if : (d : ℕ) (c : Bool) (ws : List Way) → at_depth (if c then d + 1 else d) ws ≡ at_depth d (if c then map deeper ws else ws)
within-if d true ws = sym (at_depth-deeper d ws)
within-if d false ws = refl

-- inside broken brackets all is one deeper
pub at_depth-within : (b : Breaks) (inside : Bool) (d : ℕ) (ws : List Way)
    → at_depth (depth_within b inside d) ws ≡ at_depth d (within_brackets b inside ws)
at_depth-within b inside d ws = within-if d (b.brackets && inside) ws

-- no depth at all
pub at_depth-zero : (ws : List Way) → at_depth 0 ws ≡ ws
at_depth-zero [] = refl
at_depth-zero (w ∷ ws) =
    let e : 0 + w.depth ≡ w.depth = omega arith in
    ap (λ n. record { start = w.start; depth = n; joins_before = w.joins_before; joins_behind = w.joins_behind; comma = w.comma } ∷
    at_depth 0 ws) e
    ∙ ap (λ vs. w ∷ vs) (at_depth-zero ws)
