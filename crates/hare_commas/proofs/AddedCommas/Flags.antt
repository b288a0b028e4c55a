-- Where commas are added, among ways that begin lines and stand in brackets.
use Rattle.std.proofs.Common.{◌≡◌, ℕ, ◌+◌, List, [], ◌∷◌, ◌++◌, Bool, true, false, map, refl, ap, if◌then◌else◌}
use Rattle.hare_ways.specs.declared.way.Start.{Start}
use Rattle.hare_ways.specs.declared.way.Way.{Way}
use Rattle.hare_ways.specs.Ways.{starting, deeper}
use Rattle.hare_commas.specs.Commas.{comma_way, settled, comma_ways, with_commas}
use Rattle.hare_commas.specs.Commas.{AreSpread}

-- no comma is added in front of the first
abbrev pub IsPlain : List Way → Type 0
IsPlain [] = Unit {0}
IsPlain (w ∷ ws) = w.comma ≡ false

pub plain-append : (u v : List Way) → IsPlain u → IsPlain v → IsPlain (u ++ v)
plain-append [] v p q = q
plain-append (w ∷ u) v p q = p

pub plain-starting : (s : Start) (u : List Way) → IsPlain u → IsPlain (starting s u)
plain-starting s [] p = tt
plain-starting s (w ∷ u) p = p

started : Start → Way → Way
started s w = record { start = s; depth = w.depth; joins_before = w.joins_before; joins_behind = w.joins_behind; comma = w.comma }

starting-first : (b : Bool) (s : Start) (w : Way) (l : List Way) → b ≡ false
    → comma_ways b w.depth ++ settled (started s w) ∷ l ≡ starting s (comma_ways b w.depth ++ settled w ∷ l)
unfolding started
starting-first true s w l e = cc
starting-first false s w l e = refl

pub with_commas-starting : (s : Start) (u : List Way) → IsPlain u → with_commas (starting s u) ≡ starting s (with_commas u)
unfolding started
with_commas-starting s [] p = refl
with_commas-starting s (w ∷ u) p = starting-first w.comma s w (with_commas u) p

pub spread-starting : (s : Start) (u : List Way) (cs ds : List ℕ) → AreSpread (starting s u) cs ds → AreSpread u cs ds
spread-starting s [] cs ds h = tt
spread-starting s (w ∷ u) [] ds h = h
spread-starting s (w ∷ u) (c ∷ cs) ds h = h

-- ---- one deeper

deeper-first : (b : Bool) (w : Way) (l k : List Way) → l ≡ map deeper k
    → comma_ways b (w.depth + 1) ++ settled (deeper w) ∷ l ≡ map deeper (comma_ways b w.depth ++ settled w ∷ k)
deeper-first true w l k e = ap (λ x. comma_way (w.depth + 1) ∷ settled (deeper w) ∷ x) e
deeper-first false w l k e = ap (λ x. settled (deeper w) ∷ x) e

pub with_commas-deeper : (u : List Way) → with_commas (map deeper u) ≡ map deeper (with_commas u)
with_commas-deeper [] = refl
with_commas-deeper (w ∷ u) = deeper-first w.comma w _ _ (with_commas-deeper u)

pub spread-deeper : (u : List Way) (cs ds : List ℕ) → AreSpread (map deeper u) cs ds → AreSpread u cs ds
spread-deeper [] cs ds h = tt
spread-deeper (w ∷ u) [] ds h = h
spread-deeper (w ∷ u) (c ∷ cs) ds h = (h.0, h.1, spread-deeper u cs h.0 h.2)

plain-deeper : (u : List Way) → IsPlain u → IsPlain (map deeper u)
plain-deeper [] p = tt
plain-deeper (w ∷ u) p = p

-- within brackets that are broken or not
pub with_commas-within : (c : Bool) (u : List Way)
    → with_commas (if c then map deeper u else u) ≡ (if c then map deeper (with_commas u) else with_commas u)
with_commas-within true u = with_commas-deeper u
with_commas-within false u = refl

pub spread-within : (c : Bool) (u : List Way) (cs ds : List ℕ) → AreSpread (if c then map deeper u else u) cs ds → AreSpread u cs ds
spread-within true u cs ds h = spread-deeper u cs ds h
spread-within false u cs ds h = h

pub plain-within : (c : Bool) (u : List Way) → IsPlain u → IsPlain (if c then map deeper u else u)
plain-within true u p = plain-deeper u p
plain-within false u p = p
