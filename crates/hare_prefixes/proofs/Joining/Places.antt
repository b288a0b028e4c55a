-- Where joined tokens stand in the file.
use Rattle.std.proofs.Common.{◌≡◌, ℕ, zero, suc, ◌<◌, List, [], ◌∷◌, ◌++◌, Bool, true, false, ◌&&◌, take, drop, length, refl, ap, sym, ◌∙◌, subst, arith}
use Rattle.std.proofs.Math.Seq.{drop-length}
use Rattle.std.proofs.lemmas.List.{length-append, take-append-drop}
use Rattle.hare_tree.specs.declared.token.Token.{Token}
use Rattle.hare_tree.specs.Grammar.{is_proper_string, joined_to, joined, ends_in_string, begins_with_string, StandsAt, place_of}
use Rattle.hare_prefixes.specs.Faults.{Stands, AllStand, PlacesStand}
use Rattle.hare_prefixes.proofs.Joining.Used.{not_nil, heads, merged}
use Rattle.hare_prefixes.proofs.Joining.Joined.{Head, head, joined_append}

-- a list up to a token of it, and with it
pub record Cut (ts : List Token) (n : ℕ) : Type 0 where
  pub first : Token
  pub behind : List Token
  pub rest : drop n ts ≡ first ∷ behind
  pub next : take (suc n) ts ≡ take n ts ++ first ∷ []
  pub place : place_of ts n ≡ first.place

pub cut : (ts : List Token) (n : ℕ) → n < length ts → Cut ts n
cut [] n e = absurd (omega (arith, e))
cut (y ∷ ts) zero e = record { first = y; behind = ts; rest = refl; next = refl; place = refl }
cut (y ∷ ts) (suc n) e =
    let c = cut ts n (omega (arith, e)) in record
    { first = c.first; behind = c.behind; rest = c.rest; next = ap (λ l. y ∷ l) c.next; place = c.place }

pub stands_within : (ts : List Token) (n : ℕ) (t : Token) (rest : List Token) → t ∷ rest ≡ joined (drop n ts) → n < length ts
stands_within [] zero t rest e = cc
stands_within [] (suc n) t rest e = cc
stands_within (y ∷ ts) zero t rest e = omega arith
stands_within (y ∷ ts) (suc n) t rest e = let h = stands_within ts n t rest e in omega (arith, h)

-- a joined token, and the token of the file at which it stands
pub record Spot (ts : List Token) (n : ℕ) (t : Token) (rest : List Token) : Type 0 where
  pub within : n < length ts
  pub cut : Cut ts n
  pub head : Head cut.first cut.behind
  pub is : t ≡ head.first
  pub whole : joined ts ≡ joined (take n ts) ++ t ∷ rest
  pub apart : (ends_in_string (take n ts) && is_proper_string cut.first) ≡ false

pub spot : (ts : List Token) (n : ℕ) (t : Token) (rest : List Token) → StandsAt ts n (t ∷ rest) → Spot ts n t rest
spot ts n t rest s =
    let w = stands_within ts n t rest s.behind in
    let c = cut ts n w in
    let h = head c.first c.behind in
    let e : t ∷ rest ≡ h.first ∷ h.rest = s.behind ∙ ap joined c.rest ∙ h.is in
    record {
      within = w;
      cut = c;
      head = h;
      is = (heads t h.first rest h.rest e).0;
      whole = ap joined (sym (take-append-drop n ts)) ∙ joined_append (take n ts) (drop n ts) s.apart ∙ ap (λ l. joined (take n ts) ++ l)
          (sym s.behind);
      apart = subst (λ l. (ends_in_string (take n ts) && begins_with_string l) ≡ false) c.rest s.apart;
    }

pub places_stand : PlacesStand
places_stand ts n t rest s = let p = spot ts n t rest s in p.cut.place ∙ p.head.place ∙ ap (λ z. z.place) (sym p.is)

-- ---- each of the joined tokens stands somewhere

and_false : (b : Bool) → (b && false) ≡ false
and_false true = refl
and_false false = refl

-- one token further
further : (y : Token) (ys : List Token) (n : ℕ) (us : List Token) → StandsAt ys n us →
    (n ≡ 0 → (is_proper_string y && begins_with_string ys) ≡ false) → StandsAt (y ∷ ys) (suc n) us
further y ys zero us s e = record { behind = s.behind; apart = e refl }
further y [] (suc n) us s e = record { behind = s.behind; apart = and_false (is_proper_string y) }
further y (z ∷ zs) (suc n) us s e = record { behind = s.behind; apart = s.apart }

not_first : (b : Token) (before : List Token) (t : Token) (rest ys : List Token) → joined ys ≡ (b ∷ before) ++ t ∷ rest → (n : ℕ) →
    StandsAt ys n (t ∷ rest) → n ≡ 0 → ⊥
not_first b before t rest ys e zero s d =
    let l : length (t ∷ rest) ≡ length (b ∷ (before ++ t ∷ rest)) = ap length (s.behind ∙ e) in
    omega (arith, l, length-append before (t ∷ rest))
not_first b before t rest ys e (suc n) s d = omega (arith, d)

raw_at : (ts before : List Token) (t : Token) (rest : List Token) → joined ts ≡ before ++ t ∷ rest → Stands ts (t ∷ rest)
raw_at ts [] t rest e = record { at = 0; stands = record { behind = sym e; apart = refl } }
raw_at [] (b ∷ before) t rest e = absurd (not_nil (b ∷ before) t rest e)
raw_at (y ∷ ys) (b ∷ before) t rest e = by (joined ys) refl e (λ bf i. raw_at ys bf t rest i)
  where
    -- behind more than the token itself
    past : (c : Token) (bf : List Token) → joined ys ≡ (c ∷ bf) ++ t ∷ rest →
        ((bf : List Token) → joined ys ≡ bf ++ t ∷ rest → Stands ys (t ∷ rest)) → Stands (y ∷ ys) (t ∷ rest)
    past c bf i f =
        let r = f (c ∷ bf) i in record {
          at = suc r.at;
          stands = further y ys r.at (t ∷ rest) r.stands
              (λ z. absurd (not_first c bf t rest ys i r.at r.stands z));
        }

    -- the first of the joined tokens is such a string where the first of the others is
    begins : (zs : List Token) (u : Token) (us : List Token) → joined zs ≡ u ∷ us → is_proper_string u ≡ begins_with_string zs
    begins [] u us i = cc
    begins (z ∷ zs) u us i = let h = head z zs in ap is_proper_string (heads u h.first us h.rest (sym i ∙ h.is)).0 ∙ h.proper

    -- the token stays by itself
    single : (u : Token) (us bf : List Token) → joined ys ≡ u ∷ us → (is_proper_string y && is_proper_string u) ≡ false →
        u ∷ us ≡ bf ++ t ∷ rest → ((bf : List Token) → joined ys ≡ bf ++ t ∷ rest → Stands ys (t ∷ rest)) → Stands (y ∷ ys) (t ∷ rest)
    single u us [] i k e f = record {
      at = 1;
      stands = further y ys 0 (t ∷ rest) (record { behind = sym (i ∙ e); apart = refl })
          (λ z. ap (λ p. is_proper_string y && p) (sym (begins ys u us i)) ∙ k);
    }
    single u us (c ∷ bf) i k e f = past c bf (i ∙ e) f

    by : (js : List Token) → joined ys ≡ js → joined_to y js ≡ b ∷ (before ++ t ∷ rest) →
        ((bf : List Token) → joined ys ≡ bf ++ t ∷ rest → Stands ys (t ∷ rest)) → Stands (y ∷ ys) (t ∷ rest)
    by [] i e f = absurd (not_nil before t rest (heads y b [] (before ++ t ∷ rest) e).1)
    by (u ∷ us) i e f = test (is_proper_string y) refl (is_proper_string u) refl
      where
        test : (p : Bool) → is_proper_string y ≡ p → (q : Bool) → is_proper_string u ≡ q → Stands (y ∷ ys) (t ∷ rest)
        test true c true d =
            let m : joined_to y (u ∷ us) ≡ merged y u ∷ us = rw (c, d) refl in
            past u before (i ∙ ap (λ l. u ∷ l) (heads (merged y u) b us (before ++ t ∷ rest) (sym m ∙ e)).1) f
        test true c false d =
            let m : joined_to y (u ∷ us) ≡ y ∷ u ∷ us = rw (c, d) refl in
            single u us before i (rw (c, d) refl) (heads y b (u ∷ us) (before ++ t ∷ rest) (sym m ∙ e)).1 f
        test false c q d =
            let m : joined_to y (u ∷ us) ≡ y ∷ u ∷ us = rw c refl in
            single u us before i (rw c refl) (heads y b (u ∷ us) (before ++ t ∷ rest) (sym m ∙ e)).1 f

pub all_stand : AllStand
all_stand ts before [] e = record {
  at = length ts;
  stands =
      record {
        behind = ap joined (sym (drop-length ts));
        apart = ap (λ l. ends_in_string (take (length ts) ts) && begins_with_string l)
            (drop-length ts) ∙ and_false (ends_in_string (take (length ts) ts));
      };
}
all_stand ts before (t ∷ rest) e = raw_at ts before t rest e
