use Rattle.std.proofs.Common.{◌≡◌, arith, length}
use Rattle.hare_types.specs.Store.{Store}
use Rattle.hare_types.specs.declared.row.Row.{Row}
use Rattle.hare_types.specs.Waiting.{IsTakenIn}
use Rattle.hare_types.proofs.EnterLemmas.{IsEntered, entered, entered-old}
use Rattle.hare_types.proofs.settle.keep_if_new.Goals as goal

-- what stands once the row is pushed
pushed : (c : goal.After-wait-arg-1) (s : Store) (r : Row) → s.declared ≡ c.args.declared.now.entries → c.args.i ≡ length s.rows →
    IsTakenIn s c.args.kept.now.items r c.args.rows.now
    → IsEntered s c.args.declared.now.entries c.args.rows.now c.args.i c.push_reserved.new.self.items
pushed c s r d h t =
    entered s c.args.kept.now.items r c.args.rows.now c.args.declared.now.entries c.args.i d h t c.deref.result.now
    c.push_reserved.new.self.items c.index-rows-i.result c.fresh-fresh.result c.if-i-rows.true c.deref.ensures.value
    c.index-rows-i.is c.push_reserved.ensures.items c.fresh-fresh.ensures.blank c.fresh-fresh.ensures.extent c.fresh-fresh.ensures.root
    c.fresh-fresh.ensures.bounded

pub wait-requires-clause-needs : goal.wait-requires-clause-needs
wait-requires-clause-needs c = let t = c.requires.taken in (pushed c t.0 t.1 t.2 t.3 t.4).needs

pub wait-requires-clause-seen : goal.wait-requires-clause-seen
wait-requires-clause-seen c = let t = c.requires.taken in (pushed c t.0 t.1 t.2 t.3 t.4).seen

pub wait-requires-clause-none : goal.wait-requires-clause-none
wait-requires-clause-none c = let t = c.requires.taken in (pushed c t.0 t.1 t.2 t.3 t.4).none

pub returns-then-i-rows : goal.returns-then-i-rows
returns-then-i-rows c = record {
  kept = λ s r d h t.
      let e : IsEntered s c.args.declared.now.entries c.args.rows.now c.args.i c.push_reserved.new.self.items =
      entered s c.args.kept.now.items r c.args.rows.now c.args.declared.now.entries c.args.i d h t c.deref.result.now
      c.push_reserved.new.self.items c.index-rows-i.result c.fresh-fresh.result c.if-i-rows.true c.deref.ensures.value
      c.index-rows-i.is c.push_reserved.ensures.items c.fresh-fresh.ensures.blank c.fresh-fresh.ensures.extent c.fresh-fresh.ensures.root
      c.fresh-fresh.ensures.bounded in
      e.kept c.wait.new.kept.items c.wait.ensures.found c.wait.ensures.seen c.wait.ensures.settled;
}

pub returns-else-i-rows : goal.returns-else-i-rows
returns-else-i-rows c = record {
  kept = λ s r d h t. entered-old s c.args.kept.now.items r c.args.rows.now c.args.declared.now.entries
      c.args.i d h t (omega (arith, c.if-i-rows.false));
}
