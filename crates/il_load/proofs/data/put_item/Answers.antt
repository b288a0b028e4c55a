use Rattle.std.proofs.Common.{ap, subst, sym}
use Rattle.std.specs.Prelude.{sum_by}
use Rattle.il_code.specs.Addresses.{part_size}
use Rattle.il_load.specs.Data.{PutsItem}
use Rattle.il_load.proofs.ItemLemmas.{mapped-ready, mapped-stands, parts-fit, item-puts}
use Rattle.il_load.proofs.data.put_item.Goals as goal

pub put_parts-requires : goal.put_parts-requires
put_parts-requires c =
    let m = c.requires.some.memory in
    let at = c.address_of-at.result in
    let size = c.data_size-size.result in
    let parts = c.as_slice-in-Data.result.now in
    mapped-ready c.map.new.self m at size (sum_by part_size parts)
    (parts-fit _ c.as_slice.result.now parts size c.as_slice.ensures c.as_slice-in-Data.ensures c.data_size-size.ensures)
    (mapped-stands c.args.memory.now c.map.new.self m at size (ap (λ k. k.held) c.in_ok-map-in-Data.ensures.value)
    (c.in_ok-map-in-Data.ensures.done m) c.requires.some.stands)

pub returns-in_ok-put_parts-in-Data-clause-item : goal.returns-in_ok-put_parts-in-Data-clause-item
returns-in_ok-put_parts-in-Data-clause-item c =
    let at = c.address_of-at.result in
    let size = c.data_size-size.result in
    subst (PutsItem c.args.symbols.now c.args.memory.now c.put_parts.new.memory) (sym c.in-Data.is)
    (item-puts c.args.memory.now c.map.new.self c.put_parts.new.memory c.args.symbols.now c.in-Data.export c.in-Data.name c.in-Data.align
    c.in-Data.parts c.as_slice.result.now c.as_slice-in-Data.result.now at c.in_ok-put_parts-in-Data.field-0 size c.as_slice.ensures
    c.as_slice-in-Data.ensures c.address_of-at.ensures c.data_size-size.ensures
    (λ m s. mapped-stands c.args.memory.now c.map.new.self m at size (ap (λ k. k.held) c.in_ok-map-in-Data.ensures.value)
    (c.in_ok-map-in-Data.ensures.done m) s)
    c.in_ok-put_parts-in-Data.ensures)
