-- What the text of a file says of its program's strings and blocks.
use Rattle.std.proofs.Common.{ℕ, ◌+◌, ◌≤◌, List, [], ◌∷◌, ◌++◌, length, ap, arith}
use Rattle.std.specs.Prelude.{sum_by}
use Rattle.std.proofs.lemmas.List.{length-append}
use Rattle.std.proofs.lemmas.List.Sums.{sum_by-cons, sum_by-append}
use Rattle.hx_base.specs.Runtime.{argument_size}
use Rattle.hare_blocks.specs.declared.token.Token.{Token}
use Rattle.hare_blocks.specs.declared.token.Token.TheVariants as token
use Rattle.hare_blocks.specs.Tokens.{IsSpelling, Spells}
use Rattle.hare_blocks.specs.Trees.{Statement, Statements, declares, assigns, chooses, chooses_one, repeats, puts, exits, nothing, first, Program, exit_of, block_of, head_tokens, in_braces, statement_tokens, statements_tokens, front_tokens, file_tokens}
use Rattle.hare_blocks.specs.Class.{statements_blocks, IsSource}
use Rattle.low_blocks.specs.Statements.{statement_texts, statements_texts}
use Rattle.low_blocks.specs.Programs.{body_of, program_texts, lowered}
use Rattle.low_blocks.proofs.SameRuns.Start.{texts_size}
use Rattle.low_blocks.specs.Agreement.{DoesTheSame}
use Rattle.low_blocks.proofs.SameRuns.Whole.{HasFewTexts, does_the_same}

-- how many bytes a token takes at least: a string its quotes and its characters
abbrev token_size : Token → ℕ
token_size (token.Text text) = 2 + length text
token_size t = 0

abbrev tokens_size : List Token → ℕ
tokens_size ts = sum_by token_size ts

spelling_size : (t : Token) (s : List ℕ) → IsSpelling t s → token_size t ≤ length s
spelling_size (token.Text text) s h = omega (arith, ap length h.0, length-append text (34 ∷ []))
spelling_size t s h = omega arith

text_holds : (ts : List Token) (text : List ℕ) → Spells ts text → tokens_size ts ≤ length text
text_holds [] text h = omega arith
text_holds (t ∷ ts) text (blanks, s, rest, b, spelled, l, e, on) =
    omega (
      arith,
      sum_by-cons token_size t ts,
      spelling_size t s spelled,
      text_holds ts rest on,
      ap length e,
      length-append blanks
          (s ++ rest),
      length-append s rest,
    )

-- ---- the strings of statements stand in their tokens

size_front : (a b : List Token) → tokens_size a ≤ tokens_size (a ++ b)
size_front a b = omega (arith, sum_by-append token_size a b)

size_back : (a b : List Token) → tokens_size b ≤ tokens_size (a ++ b)
size_back a b = omega (arith, sum_by-append token_size a b)

size_more : (t : Token) (ts : List Token) → tokens_size ts ≤ tokens_size (t ∷ ts)
size_more t ts = omega (arith, sum_by-cons token_size t ts)

size_braces : (ts : List Token) → tokens_size ts ≤ tokens_size (in_braces ts)
size_braces ts = omega (arith, size_more token.OpenBrace (ts ++ token.CloseBrace ∷ []), size_front ts (token.CloseBrace ∷ []))

mutual
  statement_holds : (s : Statement) → texts_size (statement_texts s) ≤ tokens_size (statement_tokens s)
  statement_holds (declares x e) = omega arith
  statement_holds (assigns x e) = omega arith
  statement_holds (chooses c body) =
      omega (
        arith,
        statements_hold body,
        size_braces (statements_tokens body),
        size_back (head_tokens token.If c)
            (in_braces (statements_tokens body)),
      )
  statement_holds (chooses_one c body other) =
      let a = in_braces (statements_tokens body) in
      let b = in_braces (statements_tokens other) in
      omega (
        arith,
        statements_hold body,
        statements_hold other,
        size_braces (statements_tokens body),
        size_braces
            (statements_tokens other),
        size_back (head_tokens token.If c) (a ++ (token.Else ∷ b)),
        sum_by-append token_size a
            (token.Else ∷ b),
        size_more token.Else b,
        sum_by-append argument_size (statements_texts body) (statements_texts other),
      )
  statement_holds (repeats c body) =
      omega (
        arith,
        statements_hold body,
        size_braces (statements_tokens body),
        size_back (head_tokens token.For c)
            (in_braces (statements_tokens body)),
      )
  statement_holds (puts text) = omega arith
  statement_holds (exits e) = omega arith

  statements_hold : (ss : Statements) → texts_size (statements_texts ss) ≤ tokens_size (statements_tokens ss)
  statements_hold nothing = omega arith
  statements_hold (first s ss) =
      omega (
        arith,
        statement_holds s,
        statements_hold ss,
        sum_by-append argument_size (statement_texts s) (statements_texts ss),
        sum_by-append token_size (statement_tokens s) (token.Semicolon ∷ statements_tokens ss),
        size_more token.Semicolon
            (statements_tokens ss),
      )

program_holds : (p : Program) → texts_size (program_texts p) ≤ tokens_size (file_tokens p)
program_holds (exit_of e) = omega arith
program_holds (block_of ss) =
    let braces = in_braces (statements_tokens ss) in
    omega (
      arith,
      statements_hold ss,
      size_braces (statements_tokens ss),
      size_front braces (token.Semicolon ∷ []),
      size_back front_tokens
          (braces ++ token.Semicolon ∷ []),
    )

-- ---- files of the class

small : (text : List ℕ) (p : Program) → IsSource text p → length text ≤ 65536
small text (exit_of e) h = omega (arith, h.of_class.small)
small text (block_of ss) h = h.of_class.small

pub source_texts : (text : List ℕ) (p : Program) → IsSource text p → texts_size (program_texts p) ≤ 65536
source_texts text p h = omega (arith, program_holds p, text_holds (file_tokens p) text h.spelled, small text p h)

pub source_blocks : (text : List ℕ) (p : Program) → IsSource text p → statements_blocks (body_of p) ≤ 15
source_blocks text (exit_of e) h = omega arith
source_blocks text (block_of ss) h = omega (arith, h.of_class.blocks)

pub source_few : (text : List ℕ) (p : Program) → IsSource text p → HasFewTexts p
source_few text p h = omega (arith, source_texts text p h)

pub source_same : (text : List ℕ) (p : Program) → IsSource text p → DoesTheSame p (lowered p)
source_same text p h = does_the_same p (source_few text p h)
