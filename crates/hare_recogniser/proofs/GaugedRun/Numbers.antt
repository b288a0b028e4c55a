-- What the gauge sees of the tokens of a list from a place on.
use Rattle.std.proofs.Common.{◌≡◌, ℕ, zero, suc, ◌+◌, ◌-◌, ◌≤◌, List, [], ◌∷◌, drop, map, refl, sym, ap, ◌∙◌, arith}
use Rattle.std.specs.Prelude.{slice_get, Some, None, if◌then◌else◌}
use Rattle.std.proofs.lemmas.List.{drop-drop}
use Rattle.hare_tree.specs.declared.place.Place.{Place}
use Rattle.hare_tree.specs.declared.kind.Kind.TheVariants as ki
use Rattle.hare_tree.specs.declared.token.TokenKind.{TokenKind}
use Rattle.hare_tree.specs.declared.token.TokenKind.TheVariants as tk
use Rattle.hare_tree.specs.declared.token.Suffix.{Suffix}
use Rattle.hare_tree.specs.declared.token.Token.{Token}
use Rattle.hare_tree.specs.Node.{Head}
use Rattle.hare_automaton.specs.declared.class.Class.{Class}
use Rattle.hare_automaton.specs.Classes.{class_of, class_in}
use Rattle.hare_tree.specs.Grammar.{is_proper_string, joined}
use Rattle.hare_nesting.specs.Gauge.{Seen, seen_in, numbered}
use Rattle.hare_recogniser.specs.Width.{strings_in_front, width}
use Rattle.hare_recogniser.specs.Gauged.{seen_from}
use Rattle.hare_ll_table.proofs.SeenTokens.Joining.{read_drop, drop_past}
use Rattle.hare_recogniser.proofs.Steps.Widths.{front}

-- the token with this number in place of its line
abbrev renumbered : ℕ → Token → Token
renumbered n t = record {
  kind = t.kind;
  place = record { file = 0; line = n; column = 1 };
  text = t.text;
  number = t.number;
  suffix =
      t.suffix;
}

class_placed : (k : TokenKind) (p q : Place) (x : List ℕ) (n : ℕ) (s : Suffix) →
    (let h : Head = record { kind = ki.None; place = p; text = x; number = n; suffix = s } in class_in k h ≡
    class_in k (record { kind = ki.None; place = q; text = x; number = n; suffix = s }))
class_placed tk.Name p q x n s = refl
class_placed tk.Keyword p q x n s = refl
class_placed tk.Number p q x n s = refl
class_placed tk.Str p q x n s = refl
class_placed tk.RuneLit p q x n s = refl
class_placed tk.Mark p q x n s = refl
class_placed tk.End p q x n s = refl

class_numbered : (n : ℕ) (t : Token) → class_of (renumbered n t) ≡ class_of t
class_numbered n t = class_placed t.kind _ t.place t.text t.number t.suffix

numbered_drop : (m n : ℕ) (ts : List Token) → drop m (numbered n ts) ≡ numbered (n + m) (drop m ts)
numbered_drop zero n ts = let e : n ≡ n + 0 = omega arith in ap (λ i. numbered i ts) e
numbered_drop (suc m) n [] = refl
numbered_drop (suc m) n (t ∷ ts) =
    let e : suc n + m ≡ n + suc m = omega arith in numbered_drop m (suc n) ts ∙ ap (λ i. numbered i (drop m ts)) e

strings_numbered : (n : ℕ) (ts : List Token) → strings_in_front (numbered n ts) ≡ strings_in_front ts
strings_numbered n [] = refl
strings_numbered n (t ∷ ts) = ap (λ m. if is_proper_string t then suc m else 0) (strings_numbered (suc n) ts)

width_numbered : (n : ℕ) (ts : List Token) → width (numbered n ts) ≡ width ts
width_numbered n [] = refl
width_numbered n (t ∷ ts) = ap (λ m. if is_proper_string t then suc m else 1) (strings_numbered (suc n) ts)

seen_token : (t : Token) (c : Class) (n : ℕ) → class_of t ≡ c → t.place.line ≡ n → seen_in t ≡ record { class = c; number = n }
seen_token t c n e h = cc

-- the first of them
seen_next : (n : ℕ) (t : Token) (ts : List Token) →
    (let s : Seen = record { class = class_of t; number = n } in seen_from n (t ∷ ts) ≡
    s ∷ seen_from (n + width (t ∷ ts)) (drop (width (t ∷ ts)) (t ∷ ts)))
seen_next n t ts =
    let f = front (renumbered n t) (numbered (suc n) ts) in
    let d = ap (λ m. drop m (numbered n (t ∷ ts))) (width_numbered n (t ∷ ts)) ∙ numbered_drop (width (t ∷ ts)) n (t ∷ ts) in
    let a = seen_token f.token (class_of t) n (f.class ∙ class_numbered n t) (ap (λ p. p.line) f.place) in
    ap (map seen_in) f.joins ∙ ap (λ us. seen_in f.token ∷ map seen_in (joined us)) d
    ∙ ap (λ s. s ∷ seen_from (n + width (t ∷ ts)) (drop (width (t ∷ ts)) (t ∷ ts))) a

-- ---- at a place of the list

pub seen_at : (ts : List Token) (from at next : ℕ) (t : Token) → slice_get ts at ≡ Some t → next ≡ at + width (drop at ts) → from ≤ at →
    (let s : Seen = record { class = class_of t; number = at - from + 1 } in seen_from (at - from + 1) (drop at ts) ≡
    s ∷ seen_from (next - from + 1) (drop next ts))
seen_at ts from at next t h n l =
    let vs : List Token = drop (at + 1) ts in
    let s : Seen = record { class = class_of t; number = at - from + 1 } in
    let e : drop at ts ≡ t ∷ vs = read_drop ts at t (sym h) in
    let w = width (t ∷ vs) in
    let m : next ≡ at + w = n ∙ ap (λ us. at + width us) e in
    let d : drop w (t ∷ vs) ≡ drop next ts = ap (drop w) (sym e) ∙ drop-drop w at ts ∙ ap (λ i. drop i ts) (sym m) in
    let k : at - from + 1 + w ≡ next - from + 1 = omega arith in
    ap (seen_from (at - from + 1)) e ∙ seen_next (at - from + 1) t vs ∙ ap (λ us. s ∷ seen_from (at - from + 1 + w) us) d ∙ ap
    (λ i. s ∷ seen_from i (drop next ts)) k

pub seen_past : (ts : List Token) (at n : ℕ) → slice_get ts at ≡ None → seen_from n (drop at ts) ≡ []
seen_past ts at n h = ap (seen_from n) (drop_past ts at (sym h))
