use Rattle.hare_sole.proofs.OneFault.Steps.{Inference}
use Rattle.hare_sole.proofs.OneTree.Parts.{Trees}
use Rattle.hare_sole.proofs.OneProgram.Phases.{Orders, phase_faults_are_one, checked_or_faulty, limits_are_left}
use Rattle.hare_sole.proofs.laws.law_one_fault_of_phases.Goals as goal

pub returns-clause-one : goal.returns-clause-one
returns-clause-one c =
    let inference : Inference = record {
      exact = c.law_inference_is_exact.ensures;
      tree = c.law_one_tree.ensures;
      fault = c.law_one_fault.ensures;
      decided = c.law_tree_or_fault.ensures;
    } in
    let trees : Trees =
    record { exact = c.law_inference_is_exact.ensures; tree = c.law_one_tree.ensures; enough = c.law_values_are_enough.ensures } in
    let orders : Orders =
    record { circle = c.law_one_order.ensures.fault; order = c.law_one_order.ensures.order; circles = c.law_one_order.ensures.circles } in
    phase_faults_are_one inference trees orders

pub returns-clause-none : goal.returns-clause-none
returns-clause-none c =
    let inference : Inference = record {
      exact = c.law_inference_is_exact.ensures;
      tree = c.law_one_tree.ensures;
      fault = c.law_one_fault.ensures;
      decided = c.law_tree_or_fault.ensures;
    } in
    let trees : Trees =
    record { exact = c.law_inference_is_exact.ensures; tree = c.law_one_tree.ensures; enough = c.law_values_are_enough.ensures } in
    let orders : Orders =
    record { circle = c.law_one_order.ensures.fault; order = c.law_one_order.ensures.order; circles = c.law_one_order.ensures.circles } in
    checked_or_faulty inference trees orders

pub returns-clause-left : goal.returns-clause-left
returns-clause-left c =
    let inference : Inference = record {
      exact = c.law_inference_is_exact.ensures;
      tree = c.law_one_tree.ensures;
      fault = c.law_one_fault.ensures;
      decided = c.law_tree_or_fault.ensures;
    } in
    let trees : Trees =
    record { exact = c.law_inference_is_exact.ensures; tree = c.law_one_tree.ensures; enough = c.law_values_are_enough.ensures } in
    let orders : Orders =
    record { circle = c.law_one_order.ensures.fault; order = c.law_one_order.ensures.order; circles = c.law_one_order.ensures.circles } in
    limits_are_left inference trees orders
