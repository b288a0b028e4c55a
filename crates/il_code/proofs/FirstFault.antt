-- A plain program for small texts: the first fault of a text, with its number, line and column.
use Rattle.std.proofs.Common.{ℕ, suc, ◌+◌, List, [], ◌∷◌, Option, None, Some, ◌==◌, length, take, reverse}
use Rattle.std.specs.Prelude.{count_by, nat_lt, if◌then◌else◌}
use Rattle.std.specs.List.{list_any, prefix_len, filter_map}
use Rattle.il_code.specs.Rules.{is_main}
use Rattle.il_code.specs.Loose.{LooseItem, settled}
use Rattle.il_code.specs.Marks.{bears, marks}
use Rattle.il_code.specs.Faults.{is_not_feed}
use Rattle.il_code.proofs.TextPieces.{Piece, Whole, Far, Stray, End, choose, pieces}
use Rattle.il_code.proofs.TextTokens.{Outcome, got, bad}
use Rattle.il_code.proofs.TextReader.{module_of}

-- number, line and column
abbrev pub Verdict : Type 0
Verdict = ℕ × ℕ × ℕ

abbrev at_offset : List ℕ → ℕ → ℕ → Verdict
at_offset text number at = (number, 1 + count_by (λ c. c == 10) (take at text), 1 + prefix_len is_not_feed (reverse (take at text)))

abbrev bearing_offset : Piece → Option ℕ
bearing_offset (Whole at minus t) = if bears t then Some at else None
bearing_offset (Far at) = None
bearing_offset (Stray at) = None
bearing_offset (End at) = None

abbrev least_of : ℕ → List ℕ → ℕ
least_of n [] = n
least_of n (m ∷ ms) = least_of (if nat_lt m n then m else n) ms

-- the first mark, at the offset of its token
abbrev first_mark : List ℕ → List (List ℕ) → Option (ℕ × ℕ)
first_mark [] [] = None
first_mark [] (m ∷ ms) = Some (0, 0)
first_mark (at ∷ ats) [] = Some (0, 0)
first_mark (at ∷ ats) ([] ∷ ms) = first_mark ats ms
first_mark (at ∷ ats) ((n ∷ ns) ∷ ms) = Some (least_of n ns, at)

abbrev marked_fault : List ℕ → List LooseItem → Option (ℕ × ℕ) → Option Verdict
marked_fault text items (Some m) = Some (at_offset text m.0 m.1)
marked_fault text items None = choose (list_any is_main (settled items)) (λ _. None) (λ _. Some (at_offset text 9 (length text)))

abbrev outcome_fault : List ℕ → List Piece → Outcome (List LooseItem) → Option Verdict
outcome_fault text ps (bad number at) = Some (at_offset text number at)
outcome_fault text ps (got items behind) = marked_fault text items (first_mark (filter_map bearing_offset ps) (marks items))

abbrev pub first_fault : List ℕ → Option Verdict
first_fault text = outcome_fault text (pieces text) (module_of (suc (length text)) (pieces text))
