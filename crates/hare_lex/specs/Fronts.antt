-- What a walk over a text finds at its front: blanks, a comment, a token or a fault.
use Rattle.std.specs.Prelude.{◌≡◌, ℕ, ◌+◌, ◌<◌, ◌≤◌, List, ◌++◌, Bool, true, false, Option, Some, None, length, slice_index, take, drop}
use Rattle.std.specs.List.{list_all}
use Rattle.hare_tree.specs.declared.place.Place.{Place}
use Rattle.hare_tree.specs.declared.token.TokenKind.{TokenKind}
use Rattle.hare_tree.specs.declared.token.TokenKind.TheVariants.{Str}
use Rattle.hare_tree.specs.declared.token.Suffix.{Suffix}
use Rattle.hare_tree.specs.declared.token.Token.{Token}
use Rattle.hare_tree.specs.Words.{is_blank}
use Rattle.hare_tree.specs.Tokens.{IsComment, Stands, Break, no_gap}
use Rattle.hare_lex.specs.declared.gap.GapPart.{GapPart}
use Rattle.hare_lex.specs.declared.front.Found.{Found}
use Rattle.hare_lex.specs.declared.front.Found.TheVariants as found
use Rattle.hare_lex.specs.Lexing.{text_of}

-- ---- blanks and comments

-- a comment in front of what is left, or blanks in front of what begins with none
abbrev pub IsPart : Bool → List ℕ → List ℕ → Type 0
IsPart true p rest = IsComment p rest
IsPart false p rest = (list_all is_blank p ≡ true) × (is_blank (slice_index rest 0) ≡ false)

-- The part stands at the front, or neither a blank nor a comment does.
abbrev pub IsGapPart : List ℕ → Option GapPart → Type 0
IsGapPart s None = no_gap s ≡ true
IsGapPart s (Some part) = (0 < part.len) × (part.len ≤ length s) × IsPart part.comment (take part.len s) (drop part.len s)

-- ---- tokens and faults

-- the token of these bytes
abbrev pub token_at : TokenKind → Place → List ℕ → ℕ → Suffix → Token
token_at k p w n x = record { kind = k; place = p; text = text_of k w; number = n; suffix = x }

-- at whatever place, the token of this kind, with this number and suffix, stands at the front, and has so many bytes
pub record Standing (b : Bool) (s : List ℕ) (k : TokenKind) (len n : ℕ) (x : Suffix) : Type 0 where
  pub word : List ℕ
  pub rest : List ℕ
  pub split : s ≡ word ++ rest
  pub len_is : length word ≡ len
  pub stands : (p : Place) → Stands b (token_at k p word n x) word rest

-- what is found is right: the token stands at the front, or the fault does
abbrev pub Sound : Bool → List ℕ → Found → Type 0
Sound b s (found.Token k len n x) = Standing b s k len n x
Sound b s (found.Fault n offset) = Break b s n offset

-- the token or the fault lies in the text, and a string has both of its quotes
abbrev pub Within : List ℕ → Found → Type 0
Within s (found.Token kind len n x) = (0 < len) × (len ≤ length s) × (kind ≡ Str → 2 ≤ len)
Within s (found.Fault n offset) = offset ≤ length s
