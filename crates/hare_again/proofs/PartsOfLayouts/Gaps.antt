-- The bytes of gaps, and of comments, as they are read.
use Rattle.std.proofs.Common.{◌≡◌, ℕ, zero, suc, ◌+◌, List, [], ◌∷◌, Bool, true, false, cond, replicate, refl, ap, ◌∙◌, arith, if◌then◌else◌}
use Rattle.std.specs.Prelude.{◌==◌}
use Rattle.std.specs.List.{fold}
use Rattle.hare_tree.specs.Words.{is_blank}
use Rattle.hare_pieces.specs.Pieces.{are_blank}
use Rattle.hare_lines.specs.declared.way.Gap.{Gap}
use Rattle.hare_lines.specs.declared.way.Gap.TheVariants.{First, Join, Blank, Line}
use Rattle.hare_lines.specs.Read.{feeds_of, feeds_in, before_blanks, trimmed}
use Rattle.hare_lines.specs.Layout.{gap_bytes, read_back}
use Rattle.hare_again.specs.Again.{GapsAreRead}

plus-zero : (a : ℕ) → a + 0 ≡ a
plus-zero a = omega arith

-- tabs are no line ends
tabs-feed : (a n : ℕ) → fold (λ k c. k + cond (c == 10) 1 0) a (replicate n 9) ≡ a
tabs-feed a zero = refl
tabs-feed a (suc n) = tabs-feed (a + 0) n ∙ plus-zero a

feeds-read : (g : Gap) → feeds_in (gap_bytes g) ≡ read_back g
feeds-read First = refl
feeds-read Join = refl
feeds-read Blank = refl
feeds-read (Line true n) = ap feeds_of (tabs-feed 2 n)
feeds-read (Line false n) = ap feeds_of (tabs-feed 1 n)

tabs-blank : (n : ℕ) → are_blank (replicate n 9) ≡ true
tabs-blank zero = refl
tabs-blank (suc n) = tabs-blank n

gaps-blank : (g : Gap) → are_blank (gap_bytes g) ≡ true
gaps-blank First = refl
gaps-blank Join = refl
gaps-blank Blank = refl
gaps-blank (Line true n) = tabs-blank n
gaps-blank (Line false n) = tabs-blank n

-- ---- comments

blank-by : (b : Bool) (c : ℕ) → is_blank c ≡ b → trimmed (if b then [] else c ∷ []) ≡ (if b then [] else c ∷ [])
blank-by true c e = refl
blank-by false c e = ap (λ x. if x then [] else c ∷ []) e

before-trimmed : (c : ℕ) (s : List ℕ) → trimmed s ≡ s → trimmed (before_blanks c s) ≡ before_blanks c s
before-trimmed c [] e = blank-by (is_blank c) c refl
before-trimmed c (d ∷ s) e = ap (before_blanks c) e

trimmed-twice : (s : List ℕ) → trimmed (trimmed s) ≡ trimmed s
trimmed-twice [] = refl
trimmed-twice (c ∷ s) = before-trimmed c (trimmed s) (trimmed-twice s)

pub gaps-are-read : GapsAreRead
gaps-are-read = record { feeds = feeds-read; blanks = gaps-blank; trims = trimmed-twice }
