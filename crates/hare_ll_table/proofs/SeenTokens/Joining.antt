-- Strings side by side, read from the left.
use Rattle.std.proofs.Common.{◌≡◌, ℕ, ◌+◌, ◌<◌, List, [], ◌∷◌, ◌++◌, drop, length, Bool, true, false, refl, sym, ap, ◌∙◌, append_assoc, add-one, drop-cons, inl, inr}
use Rattle.std.specs.Prelude.{slice_get, Some, None, ◌&&◌, ◌==◌, if◌then◌else◌}
use Rattle.std.proofs.lemmas.Bool.{and_parts, eqb-true}
use Rattle.std.proofs.lemmas.Option.{slice_get_within, get_or_from_slice_get, slice_get_cases}
use Rattle.std.proofs.lemmas.List.{drop_all}
use Rattle.hare_tree.specs.declared.place.Place.{Place}
use Rattle.hare_tree.specs.declared.token.TokenKind.{TokenKind}
use Rattle.hare_tree.specs.declared.token.TokenKind.TheVariants as tk
use Rattle.hare_tree.specs.declared.token.Suffix.{Suffix}
use Rattle.hare_tree.specs.declared.token.Suffix.TheVariants as suffix
use Rattle.hare_tree.specs.declared.token.Token.{Token}
use Rattle.hare_tree.specs.Grammar.{is_string, is_proper_string, string_at, joined_to, joined}
use Rattle.hare_tree.specs.Shape.{has_no_suffix}

-- what is known of a string with nothing beside its text
record Parts (t : Token) : Type 0 where
  kind : t.kind ≡ tk.Str
  suffix : t.suffix ≡ suffix.None
  number : t.number ≡ 0

proper_parts : (t : Token) → is_proper_string t ≡ true → Parts t
proper_parts t e =
    let p = and_parts (is_string t.kind && has_no_suffix t.suffix) (t.number == 0) e in
    let q = and_parts (is_string t.kind) (has_no_suffix t.suffix) p.0 in
    record { kind = kind_by t.kind q.0; suffix = suffix_by t.suffix q.1; number = eqb-true t.number 0 p.1 }
  where
    kind_by : (k : TokenKind) → is_string k ≡ true → k ≡ tk.Str
    kind_by tk.Str i = refl
    kind_by _ i = cc

    suffix_by : (s : Suffix) → has_no_suffix s ≡ true → s ≡ suffix.None
    suffix_by suffix.None i = refl
    suffix_by _ i = cc

string_by : (k : TokenKind) (p : Place) (x : List ℕ) (n : ℕ) (s : Suffix) → k ≡ tk.Str → n ≡ 0 → s ≡ suffix.None →
    (let t : Token = record { kind = k; place = p; text = x; number = n; suffix = s } in t ≡ string_at p x)
string_by k p x n s a b c = rw (a, b, c) refl

-- such a string is its text
pub string_is : (t : Token) → is_proper_string t ≡ true → t ≡ string_at t.place t.text
string_is t e = let h = proper_parts t e in string_by t.kind t.place t.text t.number t.suffix h.kind h.number h.suffix

-- two strings as one token
abbrev pub merged : Token → Token → Token
merged t u = string_at t.place (t.text ++ u.text)

join_two : (t u : Token) (js : List Token) → is_proper_string t ≡ true → is_proper_string u ≡ true → joined_to t (u ∷ js) ≡ merged t u ∷ js
join_two t u js e h = rw (e, h) refl

join_other : (t u : Token) (js : List Token) → is_proper_string u ≡ false → joined_to t (u ∷ js) ≡ t ∷ u ∷ js
join_other t u js h = elim (is_proper_string t) as
    (λ b. (if b then (if is_proper_string u then merged t u ∷ js else t ∷ u ∷ js) else t ∷ u ∷ js) ≡ t ∷ u ∷ js)
    [ true ↦ rw h refl | false ↦ refl ]

pub join_no : (t : Token) (js : List Token) → is_proper_string t ≡ false → joined_to t js ≡ t ∷ js
join_no t [] e = refl
join_no t (u ∷ js) e = rw e refl

-- a string behind another one
join_more : (p : Place) (x : List ℕ) (t : Token) (js : List Token) → is_proper_string t ≡ true →
    joined_to (string_at p x) (joined_to t js) ≡ joined_to (string_at p (x ++ t.text)) js
join_more p x t [] e = rw e refl
join_more p x t (v ∷ vs) e = more_of (is_proper_string v) refl where
  more_of : (b : Bool) → is_proper_string v ≡ b →
      joined_to (string_at p x) (joined_to t (v ∷ vs)) ≡ joined_to (string_at p (x ++ t.text)) (v ∷ vs)
  more_of true h =
      rw (
        join_two t v vs e h,
        join_two (string_at p x) (merged t v) vs refl refl,
        join_two (string_at p (x ++ t.text)) v vs refl h,
        append_assoc x t.text v.text,
      )
      refl
  more_of false h = rw (join_other t v vs h, join_two (string_at p x) t (v ∷ vs) refl e, join_other (string_at p (x ++ t.text)) v vs h) refl

-- another token behind a string
join_end : (s t : Token) (js : List Token) → is_proper_string t ≡ false → joined_to s (joined_to t js) ≡ s ∷ joined_to t js
join_end s t js e = rw (join_no t js e, join_other s t js e) refl

-- ---- in a list

pub read_drop : (ts : List Token) (n : ℕ) (t : Token) → Some t ≡ slice_get ts n → drop n ts ≡ t ∷ drop (n + 1) ts
read_drop ts n t e =
    let w : n < length ts = slice_get_within ts n t (sym e) in
    rw (drop-cons ts n t, get_or_from_slice_get ts n t t (sym e), add-one) refl

pub drop_past : (ts : List Token) (n : ℕ) → None ≡ slice_get ts n → drop n ts ≡ []
drop_past ts n e = elim (slice_get_cases ts n).1 [ inl h ↦ absurd (none_some (e ∙ h.2)) | inr h ↦ drop_all n ts h.0 ] where
  none_some : {x : Token} → None ≡ Some x → ⊥
  none_some g = cc

-- the joined tokens from a place on
pub joined_at : (ts : List Token) (n : ℕ) (t : Token) → Some t ≡ slice_get ts n →
    joined (drop n ts) ≡ joined_to t (joined (drop (n + 1) ts))
joined_at ts n t e = ap joined (read_drop ts n t e)

pub joined_past : (ts : List Token) (n : ℕ) → None ≡ slice_get ts n → joined (drop n ts) ≡ []
joined_past ts n e = ap joined (drop_past ts n e)

-- ---- a run of strings, so far as it is read

pub first_so_far : (ts : List Token) (at next : ℕ) (t : Token) (x : List ℕ) → Some t ≡ slice_get ts at → is_proper_string t ≡ true →
    next ≡ at + 1 →
    x ≡ t.text → joined (drop at ts) ≡ joined_to (string_at t.place x) (joined (drop next ts))
first_so_far ts at next t x h p n e =
    let g = λ (u : Token). joined_to u (joined (drop (at + 1) ts)) in
    rw (n, e) (joined_at ts at t h ∙ ap g (string_is t p))

one_more : (ts : List Token) (at next : ℕ) (s t : Token) → joined (drop at ts) ≡ joined_to s (joined (drop next ts)) →
    Some t ≡ slice_get ts next →
    joined (drop at ts) ≡ joined_to s (joined_to t (joined (drop (next + 1) ts)))
one_more ts at next s t e h = let g = joined_to s in e ∙ ap g (joined_at ts next t h)

pub more_so_far : (ts : List Token) (at next behind : ℕ) (p : Place) (x y : List ℕ) (t : Token) →
    joined (drop at ts) ≡ joined_to (string_at p x) (joined (drop next ts)) →
    Some t ≡ slice_get ts next → is_proper_string t ≡ true → behind ≡ next + 1 → y ≡ x ++ t.text →
    joined (drop at ts) ≡ joined_to (string_at p y) (joined (drop behind ts))
more_so_far ts at next behind p x y t e h q n a =
    rw (n, a) (one_more ts at next (string_at p x) t e h ∙ join_more p x t (joined (drop (next + 1) ts)) q)

pub ends_at : (ts : List Token) (at next : ℕ) (s t : Token) → joined (drop at ts) ≡ joined_to s (joined (drop next ts)) →
    Some t ≡ slice_get ts next →
    is_proper_string t ≡ false → joined (drop at ts) ≡ s ∷ joined (drop next ts)
ends_at ts at next s t e h q =
    let j = joined_at ts next t h in
    let g = λ (us : List Token). s ∷ us in
    one_more ts at next s t e h ∙ join_end s t (joined (drop (next + 1) ts)) q ∙ ap g (sym j)

pub ends_past : (ts : List Token) (at next : ℕ) (s : Token) → joined (drop at ts) ≡ joined_to s (joined (drop next ts)) →
    None ≡ slice_get ts next →
    joined (drop at ts) ≡ s ∷ joined (drop next ts)
ends_past ts at next s e h = e ∙ rw (joined_past ts next h) refl
