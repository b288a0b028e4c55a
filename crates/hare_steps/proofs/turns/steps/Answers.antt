use Rattle.std.proofs.Common.{◌∙◌}
use Rattle.std.proofs.lemmas.Option.{slice_get-get_or}
use Rattle.hare_steps.proofs.PlacesListed.Order.{order_within}
use Rattle.hare_steps.proofs.TurnByTurn.Turn.{goes-next, goes-ends, turn-sized}
use Rattle.hare_steps.proofs.turns.steps.Goals as goal

pub push_turn-requires : goal.push_turn-requires
push_turn-requires c = record {
  there = order_within c.args.saids.now c.args.order.now c.loop-decl.decl-index _ c.requires.order
      (slice_get-get_or c.args.order.now c.loop-decl.decl-index 0 c.loop-decl-test.true);
}

pub loop-decl-preserved : goal.loop-decl-preserved
loop-decl-preserved c =
    let here = slice_get-get_or c.args.order.now c.loop-decl.decl-index 0 c.loop-decl-test.true in
    let there = order_within c.args.saids.now c.args.order.now c.loop-decl.decl-index _ c.requires.order here in
    record {
      sized = turn-sized c.args.saids.now _ c.loop-decl.judged.items _ c.push_turn.new.judged.items _ there c.in_ok-push_turn.ensures ∙
          c.loop-decl.invariant.sized;
      goes = λ p same.
          goes-next p c.args.order.now c.loop-decl.decl-index c.loop-decl.judged.items _ c.args.saids.now same
          (c.loop-decl.invariant.goes p same) _ here there
          c.loop-decl.invariant.sized c.push_turn.new.judged.items _ c.in_ok-push_turn.ensures;
    }

pub returns : goal.returns
returns c = record {
  value = λ p same.
      goes-ends p c.args.order.now c.loop-decl.decl-index c.loop-decl.judged.items _ (c.loop-decl.invariant.goes p same)
      c.loop-decl-test.false;
}
