use Rattle.hare_tree.specs.Node.{size_of}
use Rattle.hare_declare.proofs.seen.+size_seen.Given as goal

abbrev pub decreases-size_seen : goal.decreases-size_seen
decreases-size_seen l = size_of l.t.now
