use Rattle.std.proofs.Common.{◌≡◌, map, drop}
use Rattle.hare_tree.specs.Words.{is_listed}
use Rattle.hare_tree.proofs.name.is_listed.Given as goal

abbrev pub invariant-loop-w : goal.invariant-loop-w
invariant-loop-w l = is_listed (map (λ w. w.now) (drop l.w-index l.list)) l.s ≡ is_listed (map (λ w. w.now) l.list) l.s
