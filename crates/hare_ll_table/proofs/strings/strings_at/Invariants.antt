use Rattle.std.proofs.Common.{◌≡◌, ◌-◌, ◌<◌, ◌≤◌, length, drop}
use Rattle.hare_tree.specs.Grammar.{string_at, joined, joined_to}
use Rattle.hare_ll_table.proofs.strings.strings_at.Given as goal

abbrev pub invariant-loop-token : goal.invariant-loop-token
invariant-loop-token l =
    record {
      so_far : joined (drop l.at l.tokens) ≡ joined_to (string_at l.first.place l.text) (joined (drop l.next l.tokens));
      behind : l.at < l.next;
      within : l.next ≤ length l.tokens;
    }

abbrev pub decreases-loop-token : goal.decreases-loop-token
decreases-loop-token l = length l.tokens - l.next
