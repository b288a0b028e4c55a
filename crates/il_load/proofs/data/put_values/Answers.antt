use Rattle.std.proofs.Common.{◌≡◌, ◌+◌, ◌-◌, ◌<◌, ℕ, length, take, drop, subst, arith}
use Rattle.std.specs.Prelude.{flat_map, sum_by}
use Rattle.il_code.specs.Addresses.{value_size}
use Rattle.il_load.specs.Data.{value_in}
use Rattle.il_load.specs.Puts.{IsReady, PutsBefore}
use Rattle.il_load.proofs.DataLemmas.{length-value_in}
use Rattle.il_load.proofs.PutLemmas.{element-ready, element-rest, element-puts}
use Rattle.il_load.proofs.data.put_values.Goals as goal

pub put_value-requires : goal.put_value-requires
put_value-requires c =
    let xs = c.args.values.now in
    let f = value_in c.args.symbols.now c.args.width in
    let size = value_size c.args.width in
    let same = length-value_in c.args.symbols.now c.args.width in
    let i = c.loop-i.i - 1 in
    let next : c.loop-i.i ≡ i + 1 = omega (arith, c.loop-i-test.true) in
    let x = c.index-values-i.result in
    let l : i < length xs = omega (arith, c.loop-i.auto.i, c.loop-i-test.true) in
    element-ready f size same xs i x x l c.index-values-i.is c.loop-i.memory c.loop-i.at
    (subst (λ (n : ℕ). IsReady c.loop-i.memory c.loop-i.at (sum_by size (take n xs))) next c.loop-i.invariant.0)

pub loop-i-preserved : goal.loop-i-preserved
loop-i-preserved c =
    let xs = c.args.values.now in
    let f = value_in c.args.symbols.now c.args.width in
    let size = value_size c.args.width in
    let same = length-value_in c.args.symbols.now c.args.width in
    let i = c.loop-i.i - 1 in
    let next : c.loop-i.i ≡ i + 1 = omega (arith, c.loop-i-test.true) in
    let x = c.index-values-i.result in
    let l : i < length xs = omega (arith, c.loop-i.auto.i, c.loop-i-test.true) in
    let ready = subst (λ (n : ℕ). IsReady c.loop-i.memory c.loop-i.at (sum_by size (take n xs))) next c.loop-i.invariant.0 in
    let puts = subst (λ (n : ℕ). PutsBefore c.args.memory.now c.loop-i.memory c.args.end (flat_map f (drop n xs)) c.loop-i.at)
    next c.loop-i.invariant.1 in (
      element-rest f size same xs i x x l c.index-values-i.is c.loop-i.memory c.put_value.new.memory c.loop-i.at c.in_ok-at.at ready
          c.in_ok-at.ensures,
      element-puts f size same xs i x x l c.index-values-i.is c.args.memory.now c.loop-i.memory c.put_value.new.memory c.args.end
          c.loop-i.at c.in_ok-at.at puts c.in_ok-at.ensures,
    )
