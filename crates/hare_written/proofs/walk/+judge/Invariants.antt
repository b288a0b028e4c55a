use Rattle.std.proofs.Common.{◌≡◌, ◌+◌, length}
use Rattle.hare_tree.specs.Node.{head}
use Rattle.hare_walk.specs.Grown.{IsGrown}
use Rattle.hare_written.specs.Judged.{AreJudged}
use Rattle.hare_written.specs.Nodes.{nodes_in}
use Rattle.hare_written.specs.Program.{program_of}
use Rattle.hare_written.proofs.walk.+judge.Given as goal

abbrev pub invariant-judge_kids-loop-i : goal.invariant-judge_kids-loop-i
invariant-judge_kids-loop-i l = record {
  many : length l.done ≡ l.i;
  judged : AreJudged (program_of l.env) l.s (head l.node) l.kids l.initial.count l.done;
  count : l.count ≡ l.initial.count + length (nodes_in l.done);
  grown : IsGrown l.initial.s l.s;
}
