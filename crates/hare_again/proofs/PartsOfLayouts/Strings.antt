-- Where a string at the front of a text closes.
use Rattle.std.proofs.Common.{◌≡◌, ℕ, ◌+◌, ◌-◌, ◌≤◌, List, [], ◌∷◌, ◌++◌, ◌⊎◌, Some, true, false, get_or, length, drop, ap, ◌∙◌, subst, arith, append_assoc, length-append}
use Rattle.std.proofs.Math.Logic.{⊎_elim}
use Rattle.hare_tree.specs.declared.token.TokenKind.TheVariants.{Str}
use Rattle.hare_tree.specs.declared.token.Token.{Token}
use Rattle.hare_tree.specs.Tokens.{holds}
use Rattle.hare_tree.specs.Spelling.{IsSpellingOf, IsSpelling, IsQuoted, IsRaw, spelled}
use Rattle.hare_lex.specs.Lexing.{closing}
use Rattle.hare_lex.proofs.Literals.Quotes.{closing_holds, raw_holds}
use Rattle.hare_lex.proofs.Sound.Literals.{quoted_holds}

-- these bytes at the front of the text are a string
pub record IsStringIn (w s : List ℕ) : Type 0 where
  pub text : List ℕ
  pub rest : List ℕ
  pub split : s ≡ w ++ rest
  pub is_string : IsQuoted text w ⊎ IsRaw text w

-- a literal between quotes, in front of a text: its first byte, and where the closing quote stands
record Quoted (s w : List ℕ) (q : ℕ) (content behind : List ℕ) : Type 0 where
  front : s ≡ q ∷ (content ++ q ∷ behind)
  len : length w ≡ length content + 2

quoted : (s w rest : List ℕ) (q : ℕ) (content : List ℕ) → s ≡ w ++ rest → w ≡ q ∷ (content ++ q ∷ []) → Quoted s w q content rest
quoted s w rest q content e k = record {
  front = e ∙ ap (λ l. l ++ rest) k ∙ ap (λ l. q ∷ l) (append_assoc content (q ∷ []) rest);
  len = let n = ap length k in omega (arith, n, length-append content (q ∷ []));
}

closes : (s w : List ℕ) (q : ℕ) (content behind : List ℕ) → Quoted s w q content behind → holds q false content ≡ true
    → closing (get_or s 0 0) false 0 (drop 1 s) ≡ Some (length w - 2)
closes s w q content behind z h =
    let same : 0 + length content ≡ length w - 2 = omega (arith, z.len) in
    ap (λ l. closing (get_or l 0 0) false 0 (drop 1 l)) z.front ∙ closing_holds q false 0 content behind h ∙ ap Some same

-- what is known of a string at the front of a text
pub record Closed (w s : List ℕ) : Type 0 where
  pub closes_at : closing (get_or s 0 0) false 0 (drop 1 s) ≡ Some (length w - 2)
  pub long : 2 ≤ length w

pub string_closes : (w s : List ℕ) → IsStringIn w s → Closed w s
string_closes w s h = ⊎_elim
    (λ a.
    let z = quoted s w h.rest 34 (spelled a.parts) h.split a.spelled_by in
    record { closes_at = closes s w 34 (spelled a.parts) h.rest z (quoted_holds a.parts a.each); long = omega (arith, z.len) })
    (λ a.
    let z = quoted s w h.rest 96 h.text h.split a.spelled_by in
    record { closes_at = closes s w 96 h.text h.rest z (raw_holds h.text a.each); long = omega (arith, z.len) })
    h.is_string

-- a token that is a string
pub string_of : (t : Token) (s w rest : List ℕ) → t.kind ≡ Str → s ≡ w ++ rest → IsSpelling t w → IsStringIn w s
string_of t s w rest k e h = record {
  text = t.text;
  rest = rest;
  split = e;
  is_string =
      (subst (λ q. IsSpellingOf q t.text t.number t.suffix w) k h).2;
}
