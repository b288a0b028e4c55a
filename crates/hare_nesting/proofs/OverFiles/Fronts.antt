-- Fronts of the tokens of a file, as the gauge sees them.
use Rattle.std.proofs.Common.{◌≡◌, ◌+◌, List, [], ◌∷◌, ◌++◌, Bool, true, false, map, length, refl, ap, sym, ◌∙◌}
use Rattle.hare_tree.specs.declared.token.Token.{Token}
use Rattle.hare_tree.specs.Grammar.{is_proper_string, joined_to, joined}
use Rattle.hare_automaton.specs.Classes.{class_of}
use Rattle.hare_prefixes.proofs.Joining.Used.{merged}
use Rattle.hare_prefixes.proofs.Joining.Joined.{Head, head}
use Rattle.hare_prefixes.proofs.Joining.Loose.{proper_class}
use Rattle.hare_nesting.specs.Gauge.{Seen, seen_in, numbered}
use Rattle.hare_nesting.proofs.OverFiles.Numbers.{numbered_append}

-- ---- what the gauge sees of fronts

-- to the gauge, the tokens `b` begin with the tokens `a`
pub record IsFront (a b : List Token) : Type 0 where
  pub more : List Seen
  pub is : map seen_in b ≡ map seen_in a ++ more

seen_same : (t u : Token) → class_of t ≡ class_of u → t.place ≡ u.place → seen_in t ≡ seen_in u
seen_same t u c p = ap (λ x. let s : Seen = record { class = x; number = t.place.line } in s) c ∙ ap
    (λ q. let s : Seen = record { class = class_of u; number = q.line } in s) p

-- the first of joined tokens is seen as the token at which it stands
seen_head : (t : Token) (z : List Token) (h : Head t z) → seen_in h.first ≡ seen_in t
seen_head t z h = by (is_proper_string t) refl
  where
    by : (p : Bool) → is_proper_string t ≡ p → seen_in h.first ≡ seen_in t
    by true e = seen_same h.first t (proper_class h.first (h.proper ∙ e) ∙ sym (proper_class t e)) (sym h.place)
    by false e = ap seen_in (h.same e)

seen_merged : (t u v : Token) → is_proper_string t ≡ true → is_proper_string u ≡ true → is_proper_string v ≡ true →
    seen_in (merged t u) ≡ seen_in (merged t v)
seen_merged t u v a b c = refl

others_same : (x y : Seen) (a b : List Seen) → x ∷ a ≡ y ∷ b → a ≡ b
others_same x y a b e = cc

-- one token further
front_behind : (t u v : Token) (us vs : List Token) (m : List Seen) → is_proper_string v ≡ is_proper_string u →
    map seen_in (v ∷ vs) ≡ map seen_in (u ∷ us) ++ m → map seen_in (joined_to t (v ∷ vs)) ≡ map seen_in (joined_to t (u ∷ us)) ++ m
front_behind t u v us vs m d e = by (is_proper_string t) refl (is_proper_string u) refl
  where
    by : (p : Bool) → is_proper_string t ≡ p → (q : Bool) → is_proper_string u ≡ q →
        map seen_in (joined_to t (v ∷ vs)) ≡ map seen_in (joined_to t (u ∷ us)) ++ m
    by true a true b =
        let o : map seen_in vs ≡ map seen_in us ++ m = others_same _ _ _ _ e in
        let l : joined_to t (v ∷ vs) ≡ merged t v ∷ vs = rw (a, d ∙ b) refl in
        let r : joined_to t (u ∷ us) ≡ merged t u ∷ us = rw (a, b) refl in
        ap (map seen_in) l ∙ ap (λ x. x ∷ map seen_in vs) (seen_merged t v u a (d ∙ b) b) ∙ ap (λ x. seen_in (merged t u) ∷ x) o ∙ ap
        (λ x. map seen_in x ++ m) (sym r)
    by true a false b =
        let l : joined_to t (v ∷ vs) ≡ t ∷ v ∷ vs = rw (a, d ∙ b) refl in
        let r : joined_to t (u ∷ us) ≡ t ∷ u ∷ us = rw (a, b) refl in
        ap (map seen_in) l ∙ ap (λ x. seen_in t ∷ x) e ∙ ap (λ x. map seen_in x ++ m) (sym r)
    by false a q b =
        let l : joined_to t (v ∷ vs) ≡ t ∷ v ∷ vs = rw a refl in
        let r : joined_to t (u ∷ us) ≡ t ∷ u ∷ us = rw a refl in
        ap (map seen_in) l ∙ ap (λ x. seen_in t ∷ x) e ∙ ap (λ x. map seen_in x ++ m) (sym r)

pub front_joined : (a b : List Token) → IsFront (joined a) (joined (a ++ b))
front_joined [] b = record { more = map seen_in (joined b); is = refl }
front_joined (t ∷ []) b =
    let h = head t b in record {
      more = map seen_in h.rest;
      is = ap (map seen_in) h.is ∙ ap (λ x. x ∷ map seen_in h.rest)
          (seen_head t b h);
    }
front_joined (t ∷ y ∷ a) b =
    let h = head y a in
    let k = head y (a ++ b) in
    let r = front_joined (y ∷ a) b in
    let e : map seen_in (k.first ∷ k.rest) ≡ map seen_in (h.first ∷ h.rest) ++ r.more =
    sym (ap (map seen_in) k.is) ∙ r.is ∙ ap (λ l. map seen_in l ++ r.more) h.is in
    record {
      more = r.more;
      is = ap (λ l. map seen_in (joined_to t l)) k.is ∙ front_behind t h.first k.first h.rest k.rest r.more
          (k.proper ∙ sym h.proper) e ∙ ap (λ l. map seen_in (joined_to t l) ++ r.more) (sym h.is);
    }

-- the same of numbered tokens
pub front_numbered : (a b : List Token) → IsFront (joined (numbered 1 a)) (joined (numbered 1 (a ++ b)))
front_numbered a b =
    let r = front_joined (numbered 1 a) (numbered (1 + length a) b) in
    record { more = r.more; is = ap (λ l. map seen_in (joined l)) (numbered_append 1 a b) ∙ r.is }
