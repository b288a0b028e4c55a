-- How many tokens the first of the joined tokens is made of, and what it is.
use Rattle.std.proofs.Common.{◌≡◌, ℕ, suc, ◌+◌, ◌-◌, ◌<◌, ◌≤◌, List, [], ◌∷◌, drop, take, length, Bool, true, false, refl, sym, ap, ◌∙◌}
use Rattle.std.proofs.Common.{arith, length-drop}
use Rattle.std.proofs.lemmas.Option.{slice_get_within}
use Rattle.std.specs.Prelude.{slice_get, Some, None, ◌&&◌}
use Rattle.std.proofs.lemmas.List.{drop-drop}
use Rattle.hare_tree.specs.declared.token.Token.{Token}
use Rattle.hare_automaton.specs.declared.class.Class.TheVariants as cl
use Rattle.hare_automaton.specs.Classes.{class_of}
use Rattle.hare_tree.specs.Grammar.{is_proper_string, joined_to, joined, ends_in_string, begins_with_string}
use Rattle.hare_ll_table.specs.Joined.{BeginsWith}
use Rattle.hare_recogniser.specs.Width.{strings_in_front, width}
use Rattle.hare_ll_table.proofs.SeenTokens.Joining.{read_drop, drop_past, join_no, string_is, merged}

pub strings_at_more : (ts : List Token) (n : ℕ) (t : Token) → slice_get ts n ≡ Some t → is_proper_string t ≡ true →
    strings_in_front (drop n ts) ≡ 1 + strings_in_front (drop (n + 1) ts)
strings_at_more ts n t h p = ap strings_in_front (read_drop ts n t (sym h)) ∙ rw p (one_more (strings_in_front (drop (n + 1) ts))) where
  one_more : (m : ℕ) → suc m ≡ 1 + m
  one_more m = omega arith

pub strings_at_other : (ts : List Token) (n : ℕ) (t : Token) → slice_get ts n ≡ Some t → is_proper_string t ≡ false →
    strings_in_front (drop n ts) ≡ 0
strings_at_other ts n t h p = ap strings_in_front (read_drop ts n t (sym h)) ∙ rw p refl

pub strings_past : (ts : List Token) (n : ℕ) → slice_get ts n ≡ None → strings_in_front (drop n ts) ≡ 0
strings_past ts n h = ap strings_in_front (drop_past ts n (sym h))

pub width_strings : (ts : List Token) (n : ℕ) (t : Token) → slice_get ts n ≡ Some t → is_proper_string t ≡ true →
    width (drop n ts) ≡ 1 + strings_in_front (drop (n + 1) ts)
width_strings ts n t h p = ap width (read_drop ts n t (sym h)) ∙ rw p (one_more (strings_in_front (drop (n + 1) ts))) where
  one_more : (m : ℕ) → suc m ≡ 1 + m
  one_more m = omega arith

pub width_other : (ts : List Token) (n : ℕ) (t : Token) → slice_get ts n ≡ Some t → is_proper_string t ≡ false → width (drop n ts) ≡ 1
width_other ts n t h p = ap width (read_drop ts n t (sym h)) ∙ rw p refl

-- ---- the first of the joined tokens

-- it stands at the first of the list, and is a string where that is one
pub record Front (t : Token) (ts : List Token) : Type 0 where
  pub token : Token
  pub joins : joined (t ∷ ts) ≡ token ∷ joined (drop (width (t ∷ ts)) (t ∷ ts))
  pub place : token.place ≡ t.place
  pub proper : is_proper_string token ≡ is_proper_string t
  pub class : class_of token ≡ class_of t

text_class : (t : Token) → is_proper_string t ≡ true → class_of t ≡ cl.Text
text_class t e = ap class_of (string_is t e)

front_alone : (t : Token) (ts : List Token) → width (t ∷ ts) ≡ 1 → joined (t ∷ ts) ≡ t ∷ joined ts → Front t ts
front_alone t ts w e = record {
  token = t;
  joins = e ∙ ap (λ n. t ∷ joined (drop n (t ∷ ts))) (sym w);
  place = refl;
  proper = refl;
  class =
      refl;
}

front_other : (t : Token) (ts : List Token) → is_proper_string t ≡ false → Front t ts
front_other t ts e = front_alone t ts (rw e refl) (join_no t (joined ts) e)

-- a string in front of what another one begins
front_more : (t u : Token) (us : List Token) → is_proper_string t ≡ true → is_proper_string u ≡ true → Front u us → Front t (u ∷ us)
front_more t u us a b f =
    let c : is_proper_string f.token ≡ true = f.proper ∙ b in
    let m : is_proper_string (merged t f.token) ≡ true = refl in
    let w : width (t ∷ u ∷ us) ≡ suc (width (u ∷ us)) = rw (a, b) refl in
    record {
      token = merged t f.token;
      joins = ap (joined_to t) f.joins ∙ rw (a, c) refl ∙ ap (λ n. merged t f.token ∷ joined (drop n (t ∷ u ∷ us))) (sym w);
      place = refl;
      proper = m ∙ sym a;
      class = text_class (merged t f.token) m ∙ sym (text_class t a);
    }

front_string : (t : Token) (ts : List Token) → is_proper_string t ≡ true → Front t ts
front_string t [] a = front_alone t [] (rw a refl) refl
front_string t (u ∷ us) a = by (is_proper_string u) refl (λ b. front_string u us b) where
  by : (p : Bool) → is_proper_string u ≡ p → (is_proper_string u ≡ true → Front u us) → Front t (u ∷ us)
  by true b f = front_more t u us a b (f b)
  by false b f = front_alone t (u ∷ us) (rw (a, b) refl)
      (ap (joined_to t) (join_no u (joined us) b) ∙ rw (a, b) refl ∙ ap (λ js. t ∷ js) (sym (join_no u (joined us) b)))

pub front : (t : Token) (ts : List Token) → Front t ts
front t ts = by (is_proper_string t) refl where
  by : (p : Bool) → is_proper_string t ≡ p → Front t ts
  by true a = front_string t ts a
  by false a = front_other t ts a

-- ---- where it ends

strings_within : (ts : List Token) → strings_in_front ts ≤ length ts
strings_within [] = omega arith
strings_within (t ∷ ts) = by (is_proper_string t) refl (strings_within ts) where
  by : (p : Bool) → is_proper_string t ≡ p → strings_in_front ts ≤ length ts → strings_in_front (t ∷ ts) ≤ length (t ∷ ts)
  by true a h = rw a (omega arith)
  by false a h = rw a (omega arith)

width_within : (t : Token) (ts : List Token) → (0 < width (t ∷ ts)) × (width (t ∷ ts) ≤ length (t ∷ ts))
width_within t ts = by (is_proper_string t) refl (strings_within ts) where
  by : (p : Bool) → is_proper_string t ≡ p → strings_in_front ts ≤ length ts → (0 < width (t ∷ ts)) × (width (t ∷ ts) ≤ length (t ∷ ts))
  by true a h = rw a (omega arith, omega arith)
  by false a h = rw a (omega arith, omega arith)

strings_end : (ts : List Token) → begins_with_string (drop (strings_in_front ts) ts) ≡ false
strings_end [] = refl
strings_end (t ∷ ts) = by (is_proper_string t) refl (strings_end ts) where
  by : (p : Bool) → is_proper_string t ≡ p → begins_with_string (drop (strings_in_front ts) ts) ≡ false →
      begins_with_string (drop (strings_in_front (t ∷ ts)) (t ∷ ts)) ≡ false
  by true a h = rw a h
  by false a h = rw a a

and_false : (b : Bool) → (b && false) ≡ false
and_false true = refl
and_false false = refl

front_apart : (t : Token) (ts : List Token) →
    (ends_in_string (take (width (t ∷ ts)) (t ∷ ts)) && begins_with_string (drop (width (t ∷ ts)) (t ∷ ts))) ≡ false
front_apart t ts = by (is_proper_string t) refl where
  by : (p : Bool) → is_proper_string t ≡ p →
      (ends_in_string (take (width (t ∷ ts)) (t ∷ ts)) && begins_with_string (drop (width (t ∷ ts)) (t ∷ ts))) ≡ false
  by true a = rw (a, strings_end ts) (and_false (ends_in_string (take (suc (strings_in_front ts)) (t ∷ ts))))
  by false a = rw (a, a) refl

-- the first of the joined tokens from a place of the list on
pub begins_with_front : (ts : List Token) (at next : ℕ) (t : Token) → slice_get ts at ≡ Some t → next ≡ at + width (drop at ts) →
    BeginsWith ts at (front t (drop (at + 1) ts)).token next
begins_with_front ts at next t h n =
    let vs : List Token = drop (at + 1) ts in
    let e : drop at ts ≡ t ∷ vs = read_drop ts at t (sym h) in
    let f = front t vs in
    let w = width (t ∷ vs) in
    let m : next ≡ at + w = n ∙ ap (λ us. at + width us) e in
    let k : next - at ≡ w = omega arith in
    let d : drop w (t ∷ vs) ≡ drop next ts = ap (drop w) (sym e) ∙ drop-drop w at ts ∙ ap (λ i. drop i ts) (sym m) in
    let i : at < length ts = slice_get_within ts at t h in
    let v = width_within t vs in
    let l = length-drop at ts in
    let s = ap length e in
    record {
      joins = ap joined e ∙ f.joins ∙ ap (λ us. f.token ∷ joined us) d;
      further = omega (arith, v.0);
      within = omega (arith, v.1, l, s);
      stands = record { behind = rw (k, e) (ap joined (sym d)); apart = rw (k, e) (front_apart t vs) };
    }
