use Rattle.std.proofs.Common.{take, is_some, ap, sym, ◌∙◌}
use Rattle.hare_typed.specs.Typed.{TypedNode}
use Rattle.hare_typed.specs.Given.{given}
use Rattle.hare_typed.specs.Order.{tree_from_front}
use Rattle.hare_rules.specs.Above.{hint_seen, first}
use Rattle.hare_rules.specs.Words.{id_in}
use Rattle.rule_mem.proofs.HintedLemmas.{first_take, hint_to-asks, second_asked, and_both, and_not}
use Rattle.rule_mem.proofs.hinted.assignment_asks.Goals as goal

pub returns-then-is_second : goal.returns-then-is_second
returns-then-is_second c f =
    let xs = c.args.t.now.kids.now in
    let ys = take c.args.i xs in
    and_both c.is_second.result c.has_type.result _ _ _ c.if-is_second.true c.is_second.ensures c.has_type.ensures
    (second_asked ys (hint_seen (first ys)) (is_some (id_in (given (tree_from_front 0 xs))))
    (λ e. hint_to-asks (id_in (given (first ys))) ∙ ap (λ (x : TypedNode). is_some (id_in (given x))) (first_take xs c.args.i e)))

pub returns-else-is_second : goal.returns-else-is_second
returns-else-is_second c f =
    let xs = c.args.t.now.kids.now in
    let ys = take c.args.i xs in
    and_not c.is_second.result _ _ _ c.if-is_second.false c.is_second.ensures
    (second_asked ys (hint_seen (first ys)) (is_some (id_in (given (tree_from_front 0 xs))))
    (λ e. hint_to-asks (id_in (given (first ys))) ∙ ap (λ (x : TypedNode). is_some (id_in (given x))) (first_take xs c.args.i e)))
