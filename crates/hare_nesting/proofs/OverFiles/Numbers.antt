-- Tokens by their numbers: what joining strings side by side does to them.
use Rattle.std.proofs.Common.{◌≡◌, ℕ, zero, suc, ◌+◌, ◌<◌, ◌≤◌, List, [], ◌∷◌, ◌++◌, Bool, true, false, map, length, take, refl, ap, sym, ◌∙◌, subst, arith}
use Rattle.std.proofs.lemmas.List.{length-append, length-map}
use Rattle.hare_tree.specs.declared.token.Token.{Token}
use Rattle.hare_tree.specs.Grammar.{unplaced, place_of, is_proper_string, joined_to, joined}
use Rattle.hare_prefixes.proofs.Outcomes.Alike.{classes}
use Rattle.hare_prefixes.proofs.Completion.Viable.{same_classes}
use Rattle.hare_prefixes.proofs.Joining.Used.{chosen}
use Rattle.hare_prefixes.proofs.Joining.Joined.{joined_append}
use Rattle.hare_prefixes.proofs.Joining.Places.{spot, all_stand, places_stand}
use Rattle.hare_prefixes.proofs.FirstFault.Faults.{before_spot}
use Rattle.hare_nesting.specs.Gauge.{numbered}
use Rattle.hare_nesting.proofs.Telling.Gaining.{Ascends}

-- ---- lists of numbered tokens

-- the token with a number in place of its line
abbrev pub with_number : ℕ → Token → Token
with_number n t = record {
  kind = t.kind;
  place = record { file = 0; line = n; column = 1 };
  text = t.text;
  number = t.number;
  suffix =
      t.suffix;
}

pub numbered_append : (n : ℕ) (a b : List Token) → numbered n (a ++ b) ≡ numbered n a ++ numbered (n + length a) b
numbered_append n [] b = ap (λ k. numbered k b) (let i : n ≡ n + 0 = omega arith in i)
numbered_append n (t ∷ a) b =
    let i : suc n + length a ≡ n + length (t ∷ a) = omega arith in
    ap (λ l. with_number n t ∷ l) (numbered_append (suc n) a b ∙ ap (λ k. numbered (suc n) a ++ numbered k b) i)

pub numbered_take : (n k : ℕ) (ts : List Token) → take k (numbered n ts) ≡ numbered n (take k ts)
numbered_take n zero ts = refl
numbered_take n (suc k) [] = refl
numbered_take n (suc k) (t ∷ ts) = ap (λ l. with_number n t ∷ l) (numbered_take (suc n) k ts)

pub length_numbered : (n : ℕ) (ts : List Token) → length (numbered n ts) ≡ length ts
length_numbered n [] = refl
length_numbered n (t ∷ ts) = ap suc (length_numbered (suc n) ts)

pub line_numbered : (n k : ℕ) (ts : List Token) → k < length ts → (place_of (numbered n ts) k).line ≡ n + k
line_numbered n k [] e = absurd (omega (arith, e))
line_numbered n zero (t ∷ ts) e = omega arith
line_numbered n (suc k) (t ∷ ts) e = let i = line_numbered (suc n) k ts (omega (arith, e)) in omega (arith, i)

-- ---- numbers stand in place of places alone

pub unplaced_numbered : (n : ℕ) (ts : List Token) → map unplaced (numbered n ts) ≡ map unplaced ts
unplaced_numbered n [] = refl
unplaced_numbered n (t ∷ ts) = ap (λ l. unplaced t ∷ l) (unplaced_numbered (suc n) ts)

unplaced_joined_to : (t : Token) (us : List Token) → map unplaced (joined_to t us) ≡ joined_to (unplaced t) (map unplaced us)
unplaced_joined_to t [] = refl
unplaced_joined_to t (u ∷ us) = by (is_proper_string t) (is_proper_string u)
  where
    by : (p q : Bool) → map unplaced (chosen p q t u us) ≡ chosen p q (unplaced t) (unplaced u) (map unplaced us)
    by true true = refl
    by true false = refl
    by false q = refl

pub unplaced_joined : (ts : List Token) → map unplaced (joined ts) ≡ joined (map unplaced ts)
unplaced_joined [] = refl
unplaced_joined (t ∷ ts) = unplaced_joined_to t (joined ts) ∙ ap (joined_to (unplaced t)) (unplaced_joined ts)

pub unplaced_both : (n : ℕ) (ts : List Token) → map unplaced (joined (numbered n ts)) ≡ map unplaced (joined ts)
unplaced_both n ts = unplaced_joined (numbered n ts) ∙ ap joined (unplaced_numbered n ts) ∙ sym (unplaced_joined ts)

pub plain_classes : (a b : List Token) → map unplaced a ≡ map unplaced b → classes a ≡ classes b
plain_classes a b e = sym (same_classes a) ∙ ap classes e ∙ same_classes b

pub plain_lengths : (a b : List Token) → map unplaced a ≡ map unplaced b → length a ≡ length b
plain_lengths a b e = sym (length-map a unplaced) ∙ ap length e ∙ length-map b unplaced

-- ---- numbers rise

pub ascends_from : (k n : ℕ) (w : List Token) (m : ℕ) → k ≤ n → Ascends n w m → Ascends k w m
unfolding Ascends
ascends_from k n [] m e a = omega (arith, a, e)
ascends_from k n (t ∷ w) m e a = (omega (arith, a.0, e), a.1)

pub ascends_to : (n : ℕ) (w : List Token) (m k : ℕ) → m ≤ k → Ascends n w m → Ascends n w k
unfolding Ascends
ascends_to n [] m k e a = omega (arith, a, e)
ascends_to n (t ∷ w) m k e a = (a.0, ascends_to (suc t.place.line) w m k e a.1)

pub ascends_append : (n : ℕ) (a : List Token) (m : ℕ) (b : List Token) (k : ℕ) → Ascends n a m → Ascends m b k → Ascends n (a ++ b) k
unfolding Ascends
ascends_append n [] m b k x y = ascends_from n m b k x y
ascends_append n (t ∷ a) m b k x y = (x.0, ascends_append (suc t.place.line) a m b k x.1 y)

ascends_joined_to : (n : ℕ) (t : Token) (us : List Token) (m : ℕ) → n ≤ t.place.line → Ascends (suc t.place.line) us m →
    Ascends n (joined_to t us) m
unfolding Ascends
ascends_joined_to n t [] m e a = (e, a)
ascends_joined_to n t (u ∷ us) m e a = by (is_proper_string t) (is_proper_string u)
  where
    by : (p q : Bool) → Ascends n (chosen p q t u us) m
    by true true = (e, ascends_from (suc t.place.line) (suc u.place.line) us m (omega (arith, a.0)) a.1)
    by true false = (e, a)
    by false q = (e, a)

pub joined_ascends : (n : ℕ) (ts : List Token) → Ascends n (joined (numbered n ts)) (n + length ts)
unfolding Ascends
joined_ascends n [] = omega arith
joined_ascends n (t ∷ ts) =
    let e : suc n + length ts ≡ n + length (t ∷ ts) = omega arith in
    ascends_joined_to n _ (joined (numbered (suc n) ts)) (n + length (t ∷ ts)) (omega arith)
    (subst (λ k. Ascends (suc n) (joined (numbered (suc n) ts)) k) e (joined_ascends (suc n) ts))

pub numbered_ascends : (n : ℕ) (ts : List Token) → Ascends n (numbered n ts) (n + length ts)
unfolding Ascends
numbered_ascends n [] = omega arith
numbered_ascends n (t ∷ ts) =
    let e : suc n + length ts ≡ n + length (t ∷ ts) = omega arith in
    (omega arith, subst (λ k. Ascends (suc n) (numbered (suc n) ts) k) e (numbered_ascends (suc n) ts))

-- ---- a joined token has the number of the first that it is made from

-- the joined token behind `a` stands at this token of the file
pub record Numbered (ts a : List Token) (y : Token) : Type 0 where
  pub at : ℕ
  pub line : y.place.line ≡ suc at
  pub within : at < length ts
  pub front : a ≡ joined (numbered 1 (take at ts))
  pub count : length (joined (take (suc at) ts)) ≡ suc (length a)

pub is_numbered : (ts a : List Token) (y : Token) (rest : List Token) → joined (numbered 1 ts) ≡ a ++ y ∷ rest → Numbered ts a y
is_numbered ts a y rest e =
    let s = all_stand (numbered 1 ts) a (y ∷ rest) e in
    let p = spot (numbered 1 ts) s.at y rest s.stands in
    let w : s.at < length ts = omega (arith, p.within, length_numbered 1 ts) in
    let b : a ≡ joined (take s.at (numbered 1 ts)) = before_spot (numbered 1 ts) s.at y rest a p e in
    let x = p.cut.first in
    let c : joined (take (suc s.at) (numbered 1 ts)) ≡ a ++ x ∷ [] =
    ap joined p.cut.next ∙ joined_append (take s.at (numbered 1 ts)) (x ∷ []) p.apart ∙ ap (λ l. l ++ x ∷ []) (sym b) in
    let d : length (joined (take (suc s.at) ts)) ≡ length (a ++ x ∷ []) =
    plain_lengths _ _ (sym (unplaced_both 1 (take (suc s.at) ts))) ∙ ap (λ l. length (joined l)) (sym (numbered_take 1 (suc s.at) ts)) ∙
    ap length c in
    record {
      at = s.at;
      line = ap (λ q. q.line) (sym (places_stand (numbered 1 ts) s.at y rest s.stands)) ∙ line_numbered 1 s.at ts w ∙ omega arith;
      within = w;
      front = b ∙ ap joined (numbered_take 1 s.at ts);
      count = omega (arith, d, length-append a (x ∷ []));
    }
