use Rattle.std.proofs.Common.{◌≡◌, ◌+◌, ◌<◌, List, [], ◌∷◌, ◌++◌, length, take, drop, get_or, sym, ap, ◌∙◌, subst, arith}
use Rattle.std.specs.List.{All}
use Rattle.std.proofs.lemmas.List.{take_more, take_all}
use Rattle.hx_base.specs.Runtime.{arguments_start, data_start}
use Rattle.il_code.specs.declared.types.IlItem.{IlItem}
use Rattle.il_code.specs.Addresses.{with_data}
use Rattle.il_load.specs.Data.{ranges_with}
use Rattle.il_load.specs.Puts.{Stands}
use Rattle.il_load.specs.Start.{LiesBefore}
use Rattle.il_load.proofs.DataLemmas.{table_knows}
use Rattle.il_load.proofs.ItemLemmas.{item-free, item-before, item-split, item-stands}
use Rattle.il_load.proofs.StartLemmas.{before-weaker, data-ends}
use Rattle.il_load.proofs.SymbolLemmas.{data_after}
use Rattle.il_load.proofs.start.put_items.Goals as goal

pub put_item-requires-clause-free : goal.put_item-requires-clause-free
put_item-requires-clause-free c =
    let m = c.args.m.now in
    let v = c.requires.valid in
    let table = c.args.symbols.now in
    let knows = table_knows m table c.requires.symbols in
    let k = c.loop-item.item-index in
    let i = c.item-item.result in
    let l : k < length m.items = subst (λ (xs : List IlItem). k < length xs) c.as_slice-item-items.ensures c.loop-item-test.true in
    let here : i ≡ get_or m.items k i = subst (λ (xs : List IlItem). i ≡ get_or xs k i) c.as_slice-item-items.ensures c.item-item.is in
    item-free m v table knows (take k m.items) c.loop-item.memory.ranges c.loop-item.invariant.0 i (drop (k + 1) m.items)
    (item-split m v table knows k i l here)

pub put_item-requires-clause-some : goal.put_item-requires-clause-some
put_item-requires-clause-some c = record {
  memory = with_data c.args.m.now c.requires.some.memory (take c.loop-item.item-index c.args.m.now.items);
  stands = c.loop-item.invariant.1 c.requires.some.memory c.requires.some.stands;
}

pub loop-item-preserved : goal.loop-item-preserved
loop-item-preserved c =
    let m = c.args.m.now in
    let v = c.requires.valid in
    let table = c.args.symbols.now in
    let knows = table_knows m table c.requires.symbols in
    let k = c.loop-item.item-index in
    let i = c.item-item.result in
    let l : k < length m.items = subst (λ (xs : List IlItem). k < length xs) c.as_slice-item-items.ensures c.loop-item-test.true in
    let here : i ≡ get_or m.items k i = subst (λ (xs : List IlItem). i ≡ get_or xs k i) c.as_slice-item-items.ensures c.item-item.is in
    let more : take (k + 1) m.items ≡ take k m.items ++ i ∷ [] =
    take_more m.items k i l ∙ ap (λ y. take k m.items ++ y ∷ []) (sym here) in
    let before = item-before m v table knows (take k m.items) c.loop-item.memory.ranges c.loop-item.invariant.0 i (drop (k + 1) m.items)
    (item-split m v table knows k i l here) in (
      subst (λ rs. All (LiesBefore (data_after data_start (take (k + 1) m.items))) rs) (sym c.in_ok-put_item.ensures.ranges)
          (subst (λ xs. All (LiesBefore (data_after data_start xs)) (ranges_with c.loop-item.memory.ranges table i)) (sym more) before),
      λ memory s. subst (λ xs. Stands c.put_item.new.memory (with_data m memory xs)) (sym more)
          (item-stands m v table knows c.args.memory.now c.loop-item.memory c.put_item.new.memory (take k m.items) i
          c.loop-item.invariant.1 c.in_ok-put_item.ensures.item memory s),
    )

pub returns : goal.returns
returns c =
    let m = c.args.m.now in
    let k = c.loop-item.item-index in
    let length_is = ap length c.as_slice-item-items.ensures in
    let all : take k m.items ≡ m.items = take_all k m.items (omega (arith, c.loop-item-test.false, length_is)) in
    record {
      stands = λ memory s. subst (λ xs. Stands c.loop-item.memory (with_data m memory xs)) all (c.loop-item.invariant.1 memory s);
      below = before-weaker (data_after data_start m.items) arguments_start c.loop-item.memory.ranges (data-ends m c.requires.valid)
          (subst (λ xs. All (LiesBefore (data_after data_start xs)) c.loop-item.memory.ranges) all c.loop-item.invariant.0);
    }
