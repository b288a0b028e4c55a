use Rattle.std.proofs.Common.{◌≡◌, drop}
use Rattle.hare_automaton.specs.Engine.{all_changed}
use Rattle.hare_parse.proofs.change.all_changed.Given as goal

abbrev pub invariant-loop-change : goal.invariant-loop-change
invariant-loop-change l =
    all_changed l.file l.token l.changes l.fn.groups ≡ all_changed l.file l.token (drop l.change-index l.changes) l.groups
