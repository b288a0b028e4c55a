use Rattle.std.proofs.Common.{◌≡◌, ◌+◌, ◌-◌, ◌*◌, ℕ, length, refl, ap, subst, arith}
use Rattle.std.specs.Prelude.{sum_by}
use Rattle.hx_base.specs.Memory.{map_range}
use Rattle.hx_base.specs.Runtime.{argument_records, argument_size, arguments_start, record_size}
use Rattle.hx_base.proofs.Memory.Arguments.{length-argument_records}
use Rattle.il_load.specs.Puts.{IsReady, Stands}
use Rattle.il_load.proofs.ArgumentLemmas.{size-at-most, table-mapped}
use Rattle.il_load.proofs.ItemLemmas.{mapped-ready, mapped-stands}
use Rattle.il_load.proofs.PutLemmas.{ready-kept, ready-last, ready-part}
use Rattle.il_load.proofs.arguments.put_arguments.Goals as goal

pub overflow_add-end : goal.overflow_add-end
overflow_add-end c =
    let most = size-at-most c.args.arguments.now in
    omega (arith, most, c.requires.few.count, c.requires.few.bytes, c.bytes_of.ensures)

pub map-requires-clause-ends : goal.map-requires-clause-ends
map-requires-clause-ends c =
    let most = size-at-most c.args.arguments.now in
    omega (arith, most, c.requires.few.count, c.requires.few.bytes, c.bytes_of.ensures)

pub map-requires-clause-bare : goal.map-requires-clause-bare
map-requires-clause-bare c = λ a l u. c.requires.bare _ a l u

pub put_records-requires-clause-ready : goal.put_records-requires-clause-ready
put_records-requires-clause-ready c =
    let args = c.args.arguments.now in
    let m = c.requires.some.memory in
    let size = 24 * length args + c.bytes_of.result in
    let same : 68719476736 + 24 * length args + c.bytes_of.result - 68719476736 ≡ size = omega arith in
    let stands = mapped-stands c.args.memory.now c.map.new.self m arguments_start _ (ap (λ k. k.held) c.in_ok-map.ensures.value)
    (c.in_ok-map.ensures.done m) c.requires.some.stands in
    let ready = mapped-ready c.map.new.self m arguments_start size size (omega arith)
    (subst (λ (n : ℕ). Stands c.map.new.self (map_range m arguments_start n)) same stands) in
    ready-part c.map.new.self (arguments_start + size) size arguments_start (record_size * length args) ready (omega arith) (omega arith)

pub put_texts-requires-clause-few : goal.put_texts-requires-clause-few
put_texts-requires-clause-few c =
    let most = size-at-most c.args.arguments.now in
    omega (arith, most, c.requires.few.count, c.requires.few.bytes)

pub put_texts-requires-clause-ready : goal.put_texts-requires-clause-ready
put_texts-requires-clause-ready c =
    let args = c.args.arguments.now in
    let m = c.requires.some.memory in
    let size = 24 * length args + c.bytes_of.result in
    let same : 68719476736 + 24 * length args + c.bytes_of.result - 68719476736 ≡ size = omega arith in
    let stands = mapped-stands c.args.memory.now c.map.new.self m arguments_start _ (ap (λ k. k.held) c.in_ok-map.ensures.value)
    (c.in_ok-map.ensures.done m) c.requires.some.stands in
    let ready = mapped-ready c.map.new.self m arguments_start size size (omega arith)
    (subst (λ (n : ℕ). Stands c.map.new.self (map_range m arguments_start n)) same stands) in
    let records = ready-kept c.map.new.self c.put_records.new.memory (arguments_start + size) size c.in_ok-put_records.field-0
    (argument_records (arguments_start + record_size * length args) args) ready c.in_ok-put_records.ensures.puts in
    let end : arguments_start + size ≡ arguments_start + record_size * length args + sum_by argument_size args =
    omega (arith, c.bytes_of.ensures) in
    let parts : size ≡ record_size * length args + sum_by argument_size args = omega (arith, c.bytes_of.ensures) in
    subst (λ (x : ℕ). IsReady c.put_records.new.memory x (sum_by argument_size args)) end
    (ready-last c.put_records.new.memory (arguments_start + size) (record_size * length args) (sum_by argument_size args)
    (subst (IsReady c.put_records.new.memory (arguments_start + size)) parts records))

pub returns-clause-done : goal.returns-clause-done
returns-clause-done c = λ m s.
    let args = c.args.arguments.now in
    let texts = arguments_start + record_size * length args in
    let records = c.in_ok-put_records.ensures in
    let size : 68719476736 + 24 * length args + c.bytes_of.result - 68719476736 ≡ record_size * length args + sum_by argument_size args =
    omega (arith, c.bytes_of.ensures) in
    let begin = records.begin in
    let long = length-argument_records texts args in
    let at : c.in_ok-put_records.field-0 ≡ arguments_start = omega (arith, begin, long) in
    let mapped = mapped-stands c.args.memory.now c.map.new.self m arguments_start _ (ap (λ k. k.held) c.in_ok-map.ensures.value)
    (c.in_ok-map.ensures.done m) s in
    subst (Stands c.put_texts.new.memory) (table-mapped m args _ c.in_ok-put_records.field-0 texts refl size at)
    (c.in_ok-put_texts.ensures.done _ (records.puts.stands _ mapped))
