-- The numbers of tokens by their index, in lists in which they rise and in fronts of such.
use Rattle.std.proofs.Common.{◌≡◌, ℕ, zero, suc, ◌<◌, ◌≤◌, List, [], ◌∷◌, ◌++◌, map, length, refl, ap, sym, ◌∙◌, arith, append_assoc}
use Rattle.hare_tree.specs.declared.token.Token.{Token}
use Rattle.hare_tree.specs.Grammar.{place_of}
use Rattle.hare_nesting.specs.Gauge.{Seen, seen_in}
use Rattle.hare_nesting.proofs.Telling.Claims.{Rises}
use Rattle.hare_nesting.proofs.Telling.Gaining.{Ascends}
use Rattle.hare_nesting.proofs.OverFiles.Fronts.{IsFront}

-- the number of the token with this index
abbrev pub line_of : List Token → ℕ → ℕ
line_of ts k = (place_of ts k).line

-- ---- where numbers rise

pub line_within : (n : ℕ) (w : List Token) (m k : ℕ) → Ascends n w m → k < length w → (n ≤ line_of w k) × (line_of w k < m)
unfolding Ascends
line_within n [] m k a e = absurd (omega (arith, e))
line_within n (t ∷ w) m zero a e = (a.0, below (suc t.place.line) w m a.1)
  where
    below : (n : ℕ) (w : List Token) (m : ℕ) → Ascends n w m → n ≤ m
    below n [] m a = a
    below n (t ∷ w) m a = let r = below (suc t.place.line) w m a.1 in omega (arith, r, a.0)
line_within n (t ∷ w) m (suc k) a e = let r = line_within (suc t.place.line) w m k a.1 (omega (arith, e)) in (omega (arith, r.0, a.0), r.1)

pub line_rises : (n : ℕ) (w : List Token) (m j k : ℕ) → Ascends n w m → j < k → k < length w → line_of w j < line_of w k
unfolding Ascends
line_rises n [] m j k a d e = absurd (omega (arith, e))
line_rises n (t ∷ w) m j zero a d e = absurd (omega (arith, d))
line_rises n (t ∷ w) m zero (suc k) a d e = let r = line_within (suc t.place.line) w m k a.1 (omega (arith, e)) in omega (arith, r.0)
line_rises n (t ∷ w) m (suc j) (suc k) a d e = line_rises (suc t.place.line) w m j k a.1 (omega (arith, d)) (omega (arith, e))

pub rises : (w : List Token) (m : ℕ) → Ascends 1 w m → Rises w
rises w m a = (λ k e. positive k e, λ j k d e. line_rises 1 w m j k a d e)
  where
    positive : (k : ℕ) → k < length w → 0 < line_of w k
    positive k e = let r = line_within 1 w m k a e in omega (arith, r.0)

-- one number stands at one index
pub line_once : (n : ℕ) (w : List Token) (m j k : ℕ) → Ascends n w m → j < length w → k < length w → line_of w j ≡ line_of w k → j ≡ k
unfolding Ascends
line_once n [] m j k a d e i = absurd (omega (arith, e))
line_once n (t ∷ w) m zero zero a d e i = refl
line_once n (t ∷ w) m zero (suc k) a d e i = let r = line_rises n (t ∷ w) m 0 (suc k) a (omega arith) e in absurd (omega (arith, r, i))
line_once n (t ∷ w) m (suc j) zero a d e i = let r = line_rises n (t ∷ w) m 0 (suc j) a (omega arith) d in absurd (omega (arith, r, i))
line_once n (t ∷ w) m (suc j) (suc k) a d e i = ap suc (line_once (suc t.place.line) w m j k a.1 (omega (arith, d)) (omega (arith, e)) i)

-- ---- lists one behind the other

pub line_before : (a b : List Token) (k : ℕ) → k < length a → line_of (a ++ b) k ≡ line_of a k
line_before [] b k e = absurd (omega (arith, e))
line_before (t ∷ a) b zero e = refl
line_before (t ∷ a) b (suc k) e = line_before a b k (omega (arith, e))

pub line_behind : (a b : List Token) (n m k : ℕ) → Ascends n b m → length a ≤ k → k < length (a ++ b) → n ≤ line_of (a ++ b) k
unfolding Ascends
line_behind [] b n m k x d e = (line_within n b m k x e).0
line_behind (t ∷ a) b n m zero x d e = absurd (omega (arith, d))
line_behind (t ∷ a) b n m (suc k) x d e = line_behind a b n m k x (omega (arith, d)) (omega (arith, e))

-- a list up to a token, the token, and what stands behind it
pub record Around (w : List Token) (k : ℕ) : Type 0 where
  pub before : List Token
  pub token : Token
  pub behind : List Token
  pub is : w ≡ before ++ token ∷ behind
  pub count : length before ≡ k
  pub line : line_of w k ≡ token.place.line

pub around_at : (w : List Token) (k : ℕ) → k < length w → Around w k
around_at [] k e = absurd (omega (arith, e))
around_at (t ∷ w) zero e = record { before = []; token = t; behind = w; is = refl; count = refl; line = refl }
around_at (t ∷ w) (suc k) e =
    let r = around_at w k (omega (arith, e)) in
    record { before = t ∷ r.before; token = r.token; behind = r.behind; is = ap (λ l. t ∷ l) r.is; count = ap suc r.count; line = r.line }

pub ascends_apart : (n : ℕ) (a b : List Token) (m : ℕ) → Ascends n (a ++ b) m → (k : ℕ) × Ascends n a k × Ascends k b m
unfolding Ascends
ascends_apart n [] b m x = (n, omega arith, x)
ascends_apart n (t ∷ a) b m x = let r = ascends_apart (suc t.place.line) a b m x.1 in (r.0, (x.0, r.1), r.2)

pub ascends_first : (n : ℕ) (z : Token) (w : List Token) (m : ℕ) → Ascends n (z ∷ w) m → n ≤ z.place.line
unfolding Ascends
ascends_first n z w m a = a.0

-- ---- fronts

cons_same : (x y : Seen) (a b : List Seen) → x ∷ a ≡ y ∷ b → (x ≡ y) × (a ≡ b)
cons_same x y a b e = (cc, cc)

pub front_line : (a b : List Token) → IsFront a b → (k : ℕ) → k < length a → line_of b k ≡ line_of a k
front_line [] b f k e = absurd (omega (arith, e))
front_line (t ∷ a) [] f k e = let i = f.is in cc
front_line (t ∷ a) (u ∷ b) f zero e = let h = cons_same _ _ _ _ f.is in ap (λ s. s.number) h.0
front_line (t ∷ a) (u ∷ b) f (suc k) e =
    let h = cons_same _ _ _ _ f.is in front_line a b (record { more = f.more; is = h.1 }) k (omega (arith, e))

pub front_shorter : (a b : List Token) → IsFront a b → length a ≤ length b
front_shorter [] b f = omega arith
front_shorter (t ∷ a) [] f = let i = f.is in cc
front_shorter (t ∷ a) (u ∷ b) f =
    let h = cons_same _ _ _ _ f.is in let r = front_shorter a b (record { more = f.more; is = h.1 }) in omega (arith, r)

pub front_then : (a b c : List Token) → IsFront a b → IsFront b c → IsFront a c
front_then a b c f g = record {
  more = f.more ++ g.more;
  is = g.is ∙ ap (λ l. l ++ g.more) f.is ∙ append_assoc (map seen_in a) f.more
      g.more;
}

pub front_append : (a b c : List Token) → IsFront a b → IsFront a (b ++ c)
front_append [] b c f = record { more = map seen_in (b ++ c); is = refl }
front_append (t ∷ a) [] c f = let i = f.is in cc
front_append (t ∷ a) (u ∷ b) c f =
    let h = cons_same _ _ _ _ f.is in
    let r = front_append a b c (record { more = f.more; is = h.1 }) in
    record { more = r.more; is = ap (λ x. x ∷ map seen_in (b ++ c)) h.0 ∙ ap (λ l. seen_in t ∷ l) r.is }

-- of two fronts of a list the shorter is a front of the other
pub front_short : (a b c : List Token) → IsFront a (b ++ c) → length a ≤ length b → IsFront a b
front_short [] b c f e = record { more = map seen_in b; is = refl }
front_short (t ∷ a) [] c f e = absurd (omega (arith, e))
front_short (t ∷ a) (u ∷ b) c f e =
    let h = cons_same _ _ _ _ f.is in
    let r = front_short a b c (record { more = f.more; is = h.1 }) (omega (arith, e)) in
    record { more = r.more; is = ap (λ x. x ∷ map seen_in b) h.0 ∙ ap (λ l. seen_in t ∷ l) r.is }

pub front_long : (a b c : List Token) → IsFront a (b ++ c) → length b ≤ length a → IsFront b a
front_long a [] c f e = record { more = map seen_in a; is = refl }
front_long [] (u ∷ b) c f e = absurd (omega (arith, e))
front_long (t ∷ a) (u ∷ b) c f e =
    let h = cons_same _ _ _ _ f.is in
    let r = front_long a b c (record { more = f.more; is = h.1 }) (omega (arith, e)) in
    record { more = r.more; is = ap (λ x. x ∷ map seen_in a) (sym h.0) ∙ ap (λ l. seen_in u ∷ l) r.is }

-- the tokens that are seen as those of a front
pub record Front (a b : List Token) : Type 0 where
  pub first : List Token
  pub behind : List Token
  pub is : b ≡ first ++ behind
  pub same : map seen_in first ≡ map seen_in a

pub front : (a b : List Token) → IsFront a b → Front a b
front [] b f = record { first = []; behind = b; is = refl; same = refl }
front (t ∷ a) [] f = let i = f.is in cc
front (t ∷ a) (u ∷ b) f =
    let h = cons_same _ _ _ _ f.is in
    let r = front a b (record { more = f.more; is = h.1 }) in
    record {
      first = u ∷ r.first;
      behind = r.behind;
      is = ap (λ l. u ∷ l) r.is;
      same = ap (λ x. x ∷ map seen_in r.first) h.0 ∙ ap
          (λ l. seen_in t ∷ l) r.same;
    }
