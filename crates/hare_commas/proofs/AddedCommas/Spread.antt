-- How many comments stand in front of each token, without the commas that are added and with them.
use Rattle.std.proofs.Common.{◌≡◌, ℕ, zero, suc, ◌+◌, List, [], ◌∷◌, ◌++◌, Bool, true, false, length, drop, get_or, refl, sym, ap, ◌∙◌, subst, arith}
use Rattle.hare_ways.specs.declared.way.Way.{Way}
use Rattle.hare_commas.specs.Commas.{comma_way, settled, comma_ways, with_commas, comma_count, AreSpread}

zero-add : (a : ℕ) → a ≡ 0 + a
zero-add a = omega arith

pub add-zero : (a : ℕ) → a ≡ a + 0
add-zero a = omega arith

suc-add : (a b : ℕ) → suc (a + b) ≡ suc a + b
suc-add a b = omega arith

pub spread-left : (u v : List Way) (cs ds : List ℕ) → AreSpread (u ++ v) cs ds → AreSpread u cs ds
spread-left [] v cs ds h = tt
spread-left (w ∷ u) v [] ds h = h
spread-left (w ∷ u) v (c ∷ cs) ds h = (h.0, h.1, spread-left u v cs h.0 h.2)

pub drop-nil : (n : ℕ) → drop {A = ℕ} n [] ≡ []
drop-nil zero = refl
drop-nil (suc n) = refl

none-spread : (v : List Way) → AreSpread v [] []
none-spread [] = tt
none-spread (w ∷ v) = refl

nil-cons : {A : Type 0} (c : ℕ) (es : List ℕ) → [] ≡ c ∷ es → A
nil-cons c es h = cc

drop-one : (n c : ℕ) (ds es : List ℕ) → drop 1 ds ≡ c ∷ es → drop (suc n) ds ≡ drop n (c ∷ es)
drop-one n c [] es h = nil-cons c es h
drop-one n c (d ∷ ds) es h = ap (drop n) h

drop-front : (b : Bool) (d c : ℕ) (w : Way) (l : List Way) (ds es : List ℕ) → drop (comma_count b) ds ≡ c ∷ es
    → drop (length (comma_ways b d ++ w ∷ l)) ds ≡ drop (length l) es
drop-front true d c w l ds es h = drop-one (suc (length l)) c ds es h
drop-front false d c w l ds es h = ap (drop (suc (length l))) h

pub spread-right : (u v : List Way) (cs ds : List ℕ) → AreSpread (u ++ v) cs ds
    → AreSpread v (drop (length u) cs) (drop (length (with_commas u)) ds)
spread-right [] v cs ds h = h
spread-right (w ∷ u) v [] ds h =
    let k = length (with_commas (w ∷ u)) in
    subst (λ l. AreSpread v [] l) (sym (ap (drop k) h ∙ drop-nil k)) (none-spread v)
spread-right (w ∷ u) v (c ∷ cs) ds h =
    subst (λ l. AreSpread v (drop (length u) cs) l) (sym (drop-front w.comma w.depth c (settled w) (with_commas u) ds h.0 h.1))
    (spread-right u v cs h.0 h.2)

-- ---- the comments at a token

pub spread-first : (w : Way) (ws : List Way) (cs ds : List ℕ) → w.comma ≡ false → AreSpread (w ∷ ws) cs ds → get_or cs 0 0 ≡ get_or ds 0 0
spread-first w ws [] ds e h = ap (λ l. get_or l 0 0) (sym h)
spread-first w ws (c ∷ cs) ds e h =
    let same : drop 0 ds ≡ c ∷ h.0 = subst (λ b. drop (comma_count b) ds ≡ c ∷ h.0) e h.1 in
    ap (λ l. get_or l 0 0) (sym same)

one-get : (ds : List ℕ) → get_or (drop 1 ds) 0 0 ≡ get_or ds 1 0
one-get [] = refl
one-get (d ∷ ds) = refl

-- behind the comma that is added
pub spread-second : (w : Way) (ws : List Way) (cs ds : List ℕ) → w.comma ≡ true → AreSpread (w ∷ ws) cs ds → get_or cs 0 0 ≡ get_or ds 1 0
spread-second w ws [] ds e h = ap (λ l. get_or l 1 0) (sym h)
spread-second w ws (c ∷ cs) ds e h =
    let same : drop 1 ds ≡ c ∷ h.0 = subst (λ b. drop (comma_count b) ds ≡ c ∷ h.0) e h.1 in
    ap (λ l. get_or l 0 0) (sym same) ∙ one-get ds

-- ---- ways side by side

commas-append : (b : Bool) (d : ℕ) (w : Way) (l u v : List Way) → l ≡ u ++ v
    → comma_ways b d ++ w ∷ l ≡ (comma_ways b d ++ w ∷ u) ++ v
commas-append true d w l u v e = ap (λ x. comma_way d ∷ w ∷ x) e
commas-append false d w l u v e = ap (λ x. w ∷ x) e

pub with_commas-append : (u v : List Way) → with_commas (u ++ v) ≡ with_commas u ++ with_commas v
with_commas-append [] v = refl
with_commas-append (w ∷ u) v = commas-append w.comma w.depth (settled w) _ _ _ (with_commas-append u v)

-- ---- places

pub drop-drop : (a b : ℕ) (s : List ℕ) → drop a (drop b s) ≡ drop (b + a) s
drop-drop a zero s = ap (λ k. drop k s) (zero-add a)
drop-drop a (suc b) [] = drop-nil a ∙ sym (drop-nil (suc b + a))
drop-drop a (suc b) (c ∷ s) = drop-drop a b s ∙ ap (λ k. drop k (c ∷ s)) (suc-add b a)

pub get-drop : (n i : ℕ) (s : List ℕ) → get_or (drop n s) i 0 ≡ get_or s (n + i) 0
get-drop zero i s = ap (λ k. get_or s k 0) (zero-add i)
get-drop (suc n) i [] = refl
get-drop (suc n) i (c ∷ s) = get-drop n i s ∙ ap (λ k. get_or (c ∷ s) k 0) (suc-add n i)

-- what is spread behind the first of ways
pub spread-next : (u v : List Way) (n m : ℕ) (cs ds : List ℕ) → AreSpread (u ++ v) (drop n cs) (drop m ds)
    → AreSpread v (drop (n + length u) cs) (drop (m + length (with_commas u)) ds)
spread-next u v n m cs ds h =
    subst (λ l. AreSpread v l (drop (m + length (with_commas u)) ds)) (drop-drop (length u) n cs)
    (subst (λ l. AreSpread v (drop (length u) (drop n cs)) l) (drop-drop (length (with_commas u)) m ds)
    (spread-right u v (drop n cs) (drop m ds) h))

-- at a token in front of which no comma is added
pub spread-here : (w : Way) (ws : List Way) (n m : ℕ) (cs ds : List ℕ) → w.comma ≡ false → AreSpread (w ∷ ws) (drop n cs) (drop m ds)
    → get_or cs n 0 ≡ get_or ds m 0
spread-here w ws n m cs ds e h =
    ap (λ k. get_or cs k 0) (add-zero n) ∙ sym (get-drop n 0 cs) ∙ spread-first w ws (drop n cs) (drop m ds) e h
    ∙ get-drop m 0 ds ∙ ap (λ k. get_or ds k 0) (sym (add-zero m))
