-- The string or rune that stands at the front of a text is found there.
use Rattle.std.proofs.Common.{◌≡◌, ℕ, ◌+◌, List, ◌∷◌, ◌++◌, Option, Some, None, Bool, true, false, length, take, refl, ap, ◌∙◌, arith}
use Rattle.hare_tree.specs.declared.token.TokenKind.TheVariants.{Str}
use Rattle.hare_tree.specs.declared.token.Suffix.TheVariants as suffix
use Rattle.hare_tree.specs.Tokens.{holds}
use Rattle.hare_lex.specs.declared.front.Found.{Found}
use Rattle.hare_lex.specs.declared.front.Found.TheVariants as found
use Rattle.hare_lex.specs.Lexing.{at_front, string_front, raw_front, rune_front, mark_front, closing, one, bad_escape, string_end, rune_end}
use Rattle.hare_lex.proofs.Literals.Quotes.{closing_found, closing_holds}
use Rattle.hare_lex.proofs.Sound.Marks.{NoOther}
use Rattle.hare_lex.proofs.Sound.Literals.{lit_take}

-- ---- literals

-- what holds before the closing quote
pub closed : (q : ℕ) (s content rest : List ℕ) → s ≡ content ++ q ∷ rest → holds q false content ≡ true →
    (closing q false 0 s ≡ Some (length content)) × (take (length content) s ≡ content)
closed q s content rest e h = (
  ap (closing q false 0) e ∙ closing_holds q false 0 content rest h ∙ ap Some (omega arith),
  lit_take q content
      rest s e,
)

-- a closed string is found, with its first wrong escape
pub string_found : (s content rest : List ℕ) → s ≡ content ++ 34 ∷ rest → holds 34 false content ≡ true →
    string_front s ≡ string_end (length content) (bad_escape 0 content)
string_found s content rest e h =
    let c = closed 34 s content rest e h in ap
    (λ o. elim o as (λ _. Found) [ None ↦ found.Fault 6 0 | Some n ↦ string_end n (bad_escape 0 (take n s)) ]) c.0 ∙ ap
    (λ l. string_end (length content) (bad_escape 0 l)) c.1

-- a closed raw string is found
pub raw_found : (s content rest : List ℕ) → s ≡ content ++ 96 ∷ rest → holds 96 false content ≡ true →
    raw_front s ≡ found.Token Str (length content + 2) 0 suffix.None
raw_found s content rest e h =
    let c = closed 96 s content rest e h in ap
    (λ o. elim o as (λ _. Found) [ None ↦ found.Fault 6 0 | Some n ↦ found.Token Str (n + 2) 0 suffix.None ]) c.0

-- a closed rune is found
pub rune_found : (s content rest : List ℕ) → s ≡ content ++ 39 ∷ rest → holds 39 false content ≡ true →
    rune_front s ≡ rune_end (length content) content (one content)
rune_found s content rest e h =
    let c = closed 39 s content rest e h in ap
    (λ o. elim o as (λ _. Found) [ None ↦ found.Fault 6 0 | Some n ↦ rune_end n (take n s) (one (take n s)) ]) c.0 ∙ ap
    (λ l. rune_end (length content) l (one l)) c.1

-- where no quote closes, none is found
pub open_none : (q : ℕ) (s : List ℕ) → ((content rest : List ℕ) → s ≡ content ++ q ∷ rest → holds q false content ≡ true → ⊥) →
    closing q false 0 s ≡ None
open_none q s h = by_found (closing q false 0 s) refl
  where
    by_found : (o : Option ℕ) → closing q false 0 s ≡ o → o ≡ None
    by_found None e = refl
    by_found (Some n) e = let c = closing_found q false 0 s n e in absurd (h c.content c.rest c.split c.inside)

-- ---- the first byte

-- at a double quote a string is looked for
pub front_string : (b : Bool) (s : List ℕ) → at_front b (34 ∷ s) ≡ string_front s
unfolding at_front
front_string b s = refl

-- at a backtick a raw string is looked for
pub front_raw : (b : Bool) (s : List ℕ) → at_front b (96 ∷ s) ≡ raw_front s
unfolding at_front
front_raw b s = refl

-- at a single quote a rune is looked for
pub front_rune : (b : Bool) (s : List ℕ) → at_front b (39 ∷ s) ≡ rune_front s
unfolding at_front
front_rune b s = refl

-- an `@` is found to be a fault
pub front_at_sign : (b : Bool) (s : List ℕ) → at_front b (64 ∷ s) ≡ found.Fault 10 0
unfolding at_front
front_at_sign b s = refl

-- at any other byte a mark is looked for
pub front_other : (b : Bool) (c : ℕ) (s : List ℕ) → NoOther c → at_front b (c ∷ s) ≡ mark_front (c ∷ s)
unfolding at_front
front_other b c s h =
    let x0 = h.0 in let x1 = h.1 in let x2 = h.2 in let x3 = h.3 in let x4 = h.4 in let x5 = h.5 in rw (x0, x1, x2, x3, x4, x5) refl
