use Rattle.std.proofs.Common.{ap, ◌∙◌}
use Rattle.hare_tree.specs.Node.{head}
use Rattle.hare_typed.specs.Order.{tree_from_front}
use Rattle.hare_rules.specs.Context.{place_of}
use Rattle.hare_rules.specs.Control.{has_written_type, type_kid}
use Rattle.rule_judge.specs.Turns.{context_in}
use Rattle.rule_ctl.proofs.BindingLemmas.{first_of, second_of}
use Rattle.rule_ctl.proofs.bindings.type_place.Goals as goal

pub returns-then-has_written_type : goal.returns-then-has_written_type
returns-then-has_written_type c f =
    let x = context_in f c.args.t.now in
    first_of c.has_written_type.result (has_written_type x) (place_of (type_kid x)) x.head.place c.place_at.result
    c.if-has_written_type.true (c.has_written_type.ensures f)
    (c.place_at.ensures ∙ ap (λ n. place_of (tree_from_front n c.args.t.now.kids.now)) c.type_kid.ensures)

pub returns : goal.returns
returns c f =
    let x = context_in f c.args.t.now in
    second_of c.has_written_type.result (has_written_type x) (place_of (type_kid x)) x.head.place _ c.if-has_written_type.false
    (c.has_written_type.ensures f)
    (ap (λ n. (head n).place) c.node.view_is)
