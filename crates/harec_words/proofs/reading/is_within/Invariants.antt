use Rattle.std.proofs.Common.{◌≡◌, ◌+◌, length, take, sum_by}
use Rattle.harec_words.proofs.reading.is_within.Given as goal

-- what the words so far have, and what is left of the bound
abbrev pub invariant-loop-word : goal.invariant-loop-word
invariant-loop-word l = sum_by length (take l.word-index l.words) + l.left ≡ l.most
