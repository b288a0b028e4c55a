-- Lists of tokens of which the strings side by side are one.
use Rattle.std.proofs.Common.{◌≡◌, List, [], ◌∷◌, ◌++◌, Bool, true, false, ◌&&◌, refl, ap, sym, ◌∙◌, append_assoc}
use Rattle.hare_tree.specs.declared.token.Token.{Token}
use Rattle.hare_tree.specs.Grammar.{is_proper_string, string_at, joined_to, joined, ends_in_string, begins_with_string}
use Rattle.hare_prefixes.proofs.Joining.Used.{merged, chosen}

-- ---- where a list begins

-- the first of the joined tokens, which stands at the first of the others
pub record Head (y : Token) (z : List Token) : Type 0 where
  pub first : Token
  pub rest : List Token
  pub is : joined (y ∷ z) ≡ first ∷ rest
  pub place : y.place ≡ first.place
  pub proper : is_proper_string first ≡ is_proper_string y
  pub same : is_proper_string y ≡ false → first ≡ y

pub head : (y : Token) (z : List Token) → Head y z
head y z = by (joined z) refl
  where
    by : (us : List Token) → joined z ≡ us → Head y z
    by [] i = record { first = y; rest = []; is = ap (joined_to y) i; place = refl; proper = refl; same = λ e. refl }
    by (u ∷ us) i = test (is_proper_string y) refl (is_proper_string u) refl
      where
        stays : joined_to y (u ∷ us) ≡ y ∷ u ∷ us → Head y z
        stays k = record { first = y; rest = u ∷ us; is = ap (joined_to y) i ∙ k; place = refl; proper = refl; same = λ e. refl }

        test : (p : Bool) → is_proper_string y ≡ p → (q : Bool) → is_proper_string u ≡ q → Head y z
        test true a true b = record {
          first = merged y u;
          rest = us;
          is = ap (joined_to y) i ∙ rw (a, b) refl;
          place = refl;
          proper = sym a;
          same = λ e. cc;
        }
        test true a false b = stays (rw (a, b) refl)
        test false a q b = stays (rw a refl)

-- ---- lists one behind the other

-- where no strings meet, the lists are joined apart
pub joined_append : (x z : List Token) → (ends_in_string x && begins_with_string z) ≡ false → joined (x ++ z) ≡ joined x ++ joined z
joined_append [] z e = refl
joined_append (t ∷ []) [] e = refl
joined_append (t ∷ []) (y ∷ z) e =
    let h = head y z in
    ap (joined_to t) h.is ∙ by (is_proper_string t) refl (is_proper_string h.first) refl ∙ ap (λ l. t ∷ l) (sym h.is)
  where
    by : (p : Bool) → is_proper_string t ≡ p → (q : Bool) → is_proper_string (head y z).first ≡ q →
        joined_to t ((head y z).first ∷ (head y z).rest) ≡ t ∷ (head y z).first ∷ (head y z).rest
    by true a true b = let d : (is_proper_string t && is_proper_string y) ≡ true = rw (a, sym (head y z).proper ∙ b) refl in cc
    by true a false b = rw (a, b) refl
    by false a q b = rw a refl
joined_append (t ∷ u ∷ x) z e =
    let h = head u x in
    ap (joined_to t) (joined_append (u ∷ x) z e ∙ ap (λ l. l ++ joined z) h.is) ∙ by (is_proper_string t) (is_proper_string h.first) ∙ ap
    (λ l. joined_to t l ++ joined z) (sym h.is)
  where
    by : (p q : Bool) → chosen p q t (head u x).first ((head u x).rest ++ joined z) ≡
        chosen p q t (head u x).first (head u x).rest ++ joined z
    by true true = refl
    by true false = refl
    by false q = refl

-- three strings are one, whichever two are joined first
merged_twice : (t u v : Token) → merged (merged t u) v ≡ merged t (merged u v)
merged_twice t u v = ap (string_at t.place) (append_assoc t.text u.text v.text)

-- what joins in front of tokens joins in front of what they are joined to
joined_to_two : (t u : Token) (z : List Token) → is_proper_string t ≡ true → is_proper_string u ≡ true →
    joined_to t (joined_to u z) ≡ joined_to (merged t u) z
joined_to_two t u [] a b = rw (a, b) refl
joined_to_two t u (v ∷ vs) a b = by (is_proper_string v) refl
  where
    by : (q : Bool) → is_proper_string v ≡ q → joined_to t (joined_to u (v ∷ vs)) ≡ joined_to (merged t u) (v ∷ vs)
    by true c =
        let l : joined_to u (v ∷ vs) ≡ merged u v ∷ vs = rw (b, c) refl in
        let m : joined_to t (merged u v ∷ vs) ≡ merged t (merged u v) ∷ vs = rw a refl in
        let r : joined_to (merged t u) (v ∷ vs) ≡ merged (merged t u) v ∷ vs = rw c refl in
        ap (joined_to t) l ∙ m ∙ ap (λ y. y ∷ vs) (sym (merged_twice t u v)) ∙ sym r
    by false c =
        let l : joined_to u (v ∷ vs) ≡ u ∷ v ∷ vs = rw (b, c) refl in
        let m : joined_to t (u ∷ v ∷ vs) ≡ merged t u ∷ v ∷ vs = rw (a, b) refl in
        let r : joined_to (merged t u) (v ∷ vs) ≡ merged t u ∷ v ∷ vs = rw c refl in
        ap (joined_to t) l ∙ m ∙ sym r

joined_to_front : (t : Token) (x z : List Token) → joined_to t (joined (x ++ z)) ≡ joined (joined_to t x ++ z)
joined_to_front t [] z = refl
joined_to_front t (u ∷ us) z = by (is_proper_string t) refl (is_proper_string u) refl
  where
    by : (p : Bool) → is_proper_string t ≡ p → (q : Bool) → is_proper_string u ≡ q →
        joined_to t (joined_to u (joined (us ++ z))) ≡ joined (chosen p q t u us ++ z)
    by true a true b = joined_to_two t u (joined (us ++ z)) a b
    by true a false b = refl
    by false a q b = refl

-- a front may be joined first
pub joined_front : (x z : List Token) → joined (x ++ z) ≡ joined (joined x ++ z)
joined_front [] z = refl
joined_front (t ∷ x) z = ap (joined_to t) (joined_front x z) ∙ joined_to_front t (joined x) z
