use Rattle.std.proofs.Common.{take, drop, suc, is_some, ap, sym, ◌∙◌}
use Rattle.hare_tree.specs.Shape.{is_none as is_left_out}
use Rattle.hare_types.specs.declared.coercion.Ty.{Ty}
use Rattle.hare_typed.specs.Typed.{TypedNode, typed_nodes}
use Rattle.hare_typed.specs.Erased.{erase_each}
use Rattle.hare_typed.specs.Given.{given, base_row}
use Rattle.hare_typed.specs.Coercions.{element_of_slice}
use Rattle.hare_typed.specs.Order.{tree_from_front}
use Rattle.hare_rules.specs.Above.{appended_hint, first, next_kind}
use Rattle.rule_judge.specs.Settings.{setting_of}
use Rattle.rule_mem.proofs.HintedLemmas.{first_take, appended, second_asked, and_both, and_not}
use Rattle.rule_mem.proofs.hinted.append_asks.Goals as goal

pub returns-then-is_second : goal.returns-then-is_second
returns-then-is_second c f l =
    let xs = c.args.t.now.kids.now in
    let ys = take c.args.i xs in
    let rest = erase_each (typed_nodes (drop (suc c.args.i) xs)) in
    and_both c.is_second.result c.is_some.result _ _ _ c.if-is_second.true c.is_second.ensures
    (c.is_some.ensures ∙ ap is_some (c.slice_element.ensures.value f l ∙ ap (λ (a : Ty). element_of_slice (base_row f a))
    c.seen.ensures.value))
    (second_asked ys (appended_hint (setting_of f c.args.t.now.decls.now) (first ys) rest)
    (is_some (element_of_slice (base_row f (given (tree_from_front 0 xs)))))
    (λ e. appended f (given (first ys)) (is_left_out (next_kind rest)) ∙ ap
    (λ (x : TypedNode). is_some (element_of_slice (base_row f (given x)))) (first_take xs c.args.i e)))

pub returns-else-is_second : goal.returns-else-is_second
returns-else-is_second c f l =
    let xs = c.args.t.now.kids.now in
    let ys = take c.args.i xs in
    let rest = erase_each (typed_nodes (drop (suc c.args.i) xs)) in
    and_not c.is_second.result _ _ _ c.if-is_second.false c.is_second.ensures
    (second_asked ys (appended_hint (setting_of f c.args.t.now.decls.now) (first ys) rest)
    (is_some (element_of_slice (base_row f (given (tree_from_front 0 xs)))))
    (λ e. appended f (given (first ys)) (is_left_out (next_kind rest)) ∙ ap
    (λ (x : TypedNode). is_some (element_of_slice (base_row f (given x)))) (first_take xs c.args.i e)))
