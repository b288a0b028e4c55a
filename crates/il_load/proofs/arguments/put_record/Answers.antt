use Rattle.std.proofs.Common.{◌++◌}
use Rattle.hx_base.specs.Memory.{le_bytes}
use Rattle.hx_base.proofs.Memory.Numbers.{length-le_bytes}
use Rattle.il_load.proofs.ArgumentLemmas.{record-ready}
use Rattle.il_load.proofs.PutLemmas.{puts-both, puts-then, ready-last, ready-rest}
use Rattle.il_load.proofs.arguments.put_record.Goals as goal

pub put_number-requires-2-clause-ready : goal.put_number-requires-2-clause-ready
put_number-requires-2-clause-ready c =
    let mid = c.put_number.new.memory in
    let at = c.in_ok-capacity.capacity in
    ready-last mid at 8 8 (record-ready c.args.memory.now mid c.args.end at (le_bytes 8 c.args.bytes) c.requires
    (length-le_bytes 8 c.args.bytes) c.in_ok-capacity.ensures)

pub put_number-requires-3-clause-ready : goal.put_number-requires-3-clause-ready
put_number-requires-3-clause-ready c =
    let mid = c.put_number.new.memory in
    let at = c.in_ok-capacity.capacity in
    ready-rest mid c.put_number-2.new.memory at 8 8 c.in_ok-length.length (le_bytes 8 c.args.bytes)
    (record-ready c.args.memory.now mid c.args.end at (le_bytes 8 c.args.bytes) c.requires
    (length-le_bytes 8 c.args.bytes) c.in_ok-capacity.ensures)
    (length-le_bytes 8 c.args.bytes) c.in_ok-length.ensures

pub returns : goal.returns
returns c =
    let bytes = le_bytes 8 c.args.bytes in
    puts-then c.args.memory.now c.put_number-2.new.memory c.put_number-3.new.memory c.args.end c.in_ok-length.length
    (le_bytes 8 c.args.text) (bytes ++ bytes) c.put_number-3.result
    (puts-both c.args.memory.now c.put_number.new.memory c.put_number-2.new.memory c.args.end c.in_ok-capacity.capacity
    c.in_ok-length.length bytes bytes c.in_ok-capacity.ensures c.in_ok-length.ensures)
    c.put_number-3.ensures
