-- Which tokens of a file a run over its joined tokens has used.
use Rattle.std.proofs.Common.{◌≡◌, List, [], ◌∷◌, ◌++◌, Bool, true, false, map, take, length, refl, ap, sym, ◌∙◌, subst, arith, if◌then◌else◌}
use Rattle.std.proofs.lemmas.List.{length-append}
use Rattle.hare_tree.specs.declared.token.Token.{Token}
use Rattle.hare_tree.specs.Grammar.{is_proper_string, string_at, joined_to, joined, place_of, unplaced}
use Rattle.hare_prefixes.specs.Used.{RunsUseTokens}
use Rattle.hare_prefixes.proofs.Soundness.Readings.{runs_read_trees}
use Rattle.hare_prefixes.proofs.Outcomes.Breaks.{twice}

-- the first of the tokens that the joined token `t` is made from, and those before it
record RawAt (ts before : List Token) (t : Token) : Type 0 where
  front : List Token
  first : Token
  behind : List Token
  is : ts ≡ front ++ first ∷ behind
  joins : joined front ≡ before
  place : first.place ≡ t.place

pub not_nil : (before : List Token) (t : Token) (rest : List Token) → [] ≡ before ++ t ∷ rest → ⊥
not_nil [] t rest e = cc
not_nil (b ∷ before) t rest e = cc

pub heads : (a b : Token) (u v : List Token) → a ∷ u ≡ b ∷ v → (a ≡ b) × (u ≡ v)
heads a b u v e = (cc, cc)

-- two strings as one token
abbrev pub merged : Token → Token → Token
merged y u = string_at y.place (y.text ++ u.text)

abbrev pub chosen : Bool → Bool → Token → Token → List Token → List Token
chosen p q y u us = if p then (if q then merged y u ∷ us else y ∷ u ∷ us) else y ∷ u ∷ us

-- a joined token stands at the first of those that it is made from
head_place : (y : Token) (us : List Token) (t : Token) (rest : List Token) → joined_to y us ≡ t ∷ rest → y.place ≡ t.place
head_place y [] t rest e = ap (λ z. z.place) (heads y t [] rest e).0
head_place y (u ∷ us) t rest e = by (is_proper_string y) (is_proper_string u) e
  where
    by : (p q : Bool) → chosen p q y u us ≡ t ∷ rest → y.place ≡ t.place
    by true true e = ap (λ z. z.place) (heads (merged y u) t us rest e).0
    by true false e = ap (λ z. z.place) (heads y t (u ∷ us) rest e).0
    by false q e = ap (λ z. z.place) (heads y t (u ∷ us) rest e).0

raw_at : (ts before : List Token) (t : Token) (rest : List Token) → joined ts ≡ before ++ t ∷ rest → RawAt ts before t
raw_at [] before t rest e = absurd (not_nil before t rest e)
raw_at (y ∷ ys) [] t rest e = record {
  front = [];
  first = y;
  behind = ys;
  is = refl;
  joins = refl;
  place = head_place y (joined ys) t rest
      e;
}
raw_at (y ∷ ys) (b ∷ before) t rest e = by (joined ys) refl e (λ bf i. raw_at ys bf t rest i)
  where
    -- the token stays by itself
    single : (u : Token) (us : List Token) → joined ys ≡ u ∷ us → ((us' : List Token) → joined_to y (u ∷ us') ≡ y ∷ u ∷ us') →
        y ∷ u ∷ us ≡ b ∷ (before ++ t ∷ rest) → ((bf : List Token) → joined ys ≡ bf ++ t ∷ rest → RawAt ys bf t) →
        RawAt (y ∷ ys) (b ∷ before) t
    single u us i k e f =
        let h = heads y b (u ∷ us) (before ++ t ∷ rest) e in
        let r = f before (i ∙ h.1) in
        record {
          front = y ∷ r.front;
          first = r.first;
          behind = r.behind;
          is = ap (λ l. y ∷ l) r.is;
          joins = ap (joined_to y) r.joins ∙
              stays before h.1 ∙ ap (λ z. z ∷ before) h.0;
          place = r.place;
        }
      where
        stays : (bf : List Token) → u ∷ us ≡ bf ++ t ∷ rest → joined_to y bf ≡ y ∷ bf
        stays [] j = refl
        stays (c ∷ bf) j = let g = heads u c us (bf ++ t ∷ rest) j in subst (λ z. joined_to y (z ∷ bf) ≡ y ∷ z ∷ bf) g.0 (k bf)

    by : (js : List Token) → joined ys ≡ js → joined_to y js ≡ b ∷ (before ++ t ∷ rest) →
        ((bf : List Token) → joined ys ≡ bf ++ t ∷ rest → RawAt ys bf t) → RawAt (y ∷ ys) (b ∷ before) t
    by [] i e f = absurd (not_nil before t rest (heads y b [] (before ++ t ∷ rest) e).1)
    by (u ∷ us) i e f = test (is_proper_string y) refl (is_proper_string u) refl e
      where
        test : (p : Bool) → is_proper_string y ≡ p → (q : Bool) → is_proper_string u ≡ q → chosen p q y u us ≡ b ∷ (before ++ t ∷ rest) →
            RawAt (y ∷ ys) (b ∷ before) t
        test true c true d e =
            let h = heads (merged y u) b us (before ++ t ∷ rest) e in
            let r = f (u ∷ before) (i ∙ ap (λ l. u ∷ l) h.1) in
            let m : joined_to y (u ∷ before) ≡ merged y u ∷ before = rw (c, d) refl in
            record {
              front = y ∷ r.front;
              first = r.first;
              behind = r.behind;
              is = ap (λ l. y ∷ l) r.is;
              joins = ap (joined_to y) r.joins ∙
                  m ∙ ap (λ z. z ∷ before) h.0;
              place = r.place;
            }
        test true c false d e = single u us i (λ us'. rw (c, d) refl) e f
        test false c q d e = single u us i (λ us'. rw c refl) e f

take_front : (u v : List Token) → take (length u) (u ++ v) ≡ u
take_front [] v = refl
take_front (t ∷ u) v = ap (λ l. t ∷ l) (take_front u v)

place_behind : (u : List Token) (t : Token) (v : List Token) → place_of (u ++ t ∷ v) (length u) ≡ t.place
place_behind [] t v = refl
place_behind (y ∷ u) t v = place_behind u t v

pub runs_use_tokens : RunsUseTokens
runs_use_tokens s file ts t rest made e =
    let r = runs_read_trees s file (joined ts) (t ∷ rest) made e in
    let w = raw_at ts r.used t rest r.split in
    let n = length w.front in
    let front : take n ts ≡ w.front = ap (take n) w.is ∙ take_front w.front (w.first ∷ w.behind) in
    record {
      tree = r.tree;
      count = n;
      within = omega (arith, ap length w.is, length-append w.front (w.first ∷ w.behind));
      shaped = r.shaped;
      spelled = ap (map unplaced) r.spelled ∙ twice r.used ∙ ap (map unplaced) (sym w.joins ∙ ap joined (sym front));
      placed = r.placed;
      place = ap (λ l. place_of l n) w.is ∙ place_behind w.front w.first w.behind ∙ w.place;
      is_made = r.is_made;
    }
