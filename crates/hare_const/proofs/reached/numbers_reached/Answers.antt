use Rattle.std.proofs.Common.{◌≡◌, ◌∙◌, ◌≤◌, List, ℕ, ap, subst, length, refl, arith}
use Rattle.std.specs.Prelude.{slice_get}
use Rattle.std.specs.Ordering.{nat_cmp}
use Rattle.std.specs.BTreeMap.{get}
use Rattle.hare_types.specs.Unions.{ascending}
use Rattle.hare_typed.specs.Leads.{leads}
use Rattle.hare_const.specs.Statics.{reached_by, Adds}
use Rattle.hare_const.proofs.ReachedLemmas.{reaches_first, reaches_more, reaches_all}
use Rattle.hare_const.proofs.reached.numbers_reached.Goals as goal

pub loop-i-init : goal.loop-i-init
loop-i-init c =
    let met = c.meet_led.new.met.order.items in
    record {
      numbers = c.in_ok-meet_led.ensures.numbers;
      order =
          reaches_first (get nat_cmp c.args.table.now) c.args.cells.now met
          (subst (λ (l : List ℕ). Adds (leads c.args.cells.now) l met) c.new.ensures.items c.in_ok-meet_led.ensures.order);
    }

pub loop-i-preserved : goal.loop-i-preserved
loop-i-preserved c = record {
  numbers = c.in_ok-meet_next.ensures.numbers;
  order =
      reaches_more (get nat_cmp c.args.table.now) c.args.cells.now c.loop-i.i c.loop-i.met.order.items c.meet_next.new.met.order.items
      c.loop-i.invariant.order (slice_get c.loop-i.met.order.items c.loop-i.i) refl c.in_ok-meet_next.ensures.order;
}

pub returns : goal.returns
returns c =
    let find = get nat_cmp c.args.table.now in
    let all : length c.loop-i.met.order.items ≤ c.loop-i.i = omega arith in
    let count : c.loop-i.i ≡ c.args.count = omega arith in
    reaches_all find c.args.cells.now c.loop-i.i c.loop-i.met.order.items c.loop-i.met.numbers.keys c.loop-i.invariant.order all
    c.loop-i.invariant.numbers
    ∙ ap (λ k. reached_by find k (ascending (leads c.args.cells.now))) count
