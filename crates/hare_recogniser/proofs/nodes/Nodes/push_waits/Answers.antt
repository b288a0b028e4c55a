use Rattle.std.proofs.Common.{◌++◌, ◌<◌, sym, ap, arith}
use Rattle.hare_recogniser.proofs.Steps.Opened.{nodes_in_none, nodes_pushed}
use Rattle.hare_recogniser.proofs.nodes.Nodes.push_waits.Goals as goal

pub loop-left-init : goal.loop-left-init
loop-left-init c = record { within = omega arith; so_far = ap (λ l. l ++ c.args.self.now) (sym (nodes_in_none c.args.waits.now)) }

pub loop-left-preserved : goal.loop-left-preserved
loop-left-preserved c =
    let h : 0 < c.loop-left.left = omega arith in
    let i = c.loop-left.invariant in
    record {
      within = omega arith;
      so_far = nodes_pushed c.args.waits.now c.loop-left.left _ c.push_all.new.self c.nodes_of_wait.result.now c.loop-left.self
          c.args.self.now h i.within c.in_ok-push_all.ensures c.nodes_of_wait.ensures i.so_far;
    }
