use Rattle.std.proofs.Common.{◌≡◌, ◌+◌, ◌-◌, ◌*◌, ◌<◌, ◌++◌, ℕ, length, take, drop, sym, ap, ◌∙◌, subst, refl, arith}
use Rattle.std.specs.Prelude.{sum_by}
use Rattle.std.proofs.lemmas.List.{get_or_default}
use Rattle.hx_base.specs.Memory.{le_bytes}
use Rattle.hx_base.specs.Runtime.{argument_records, argument_size, record_size}
use Rattle.il_load.specs.Puts.{IsReady, PutsBefore}
use Rattle.il_load.proofs.ArgumentLemmas.{record-fits, record-rest, record-put, sizes-more}
use Rattle.il_load.proofs.arguments.put_records.Goals as goal

pub put_record-requires : goal.put_record-requires
put_record-requires c =
    let args = c.args.arguments.now in
    let i = c.loop-i.i - 1 in
    let next : c.loop-i.i ≡ i + 1 = omega (arith, c.loop-i-test.true) in
    let a = c.index-arguments-i.result in
    let l : i < length args = omega (arith, c.loop-i.auto.i, c.loop-i-test.true) in
    record-fits args i a a l c.index-arguments-i.is c.loop-i.memory c.loop-i.at
    (subst (λ (n : ℕ). IsReady c.loop-i.memory c.loop-i.at (record_size * n)) next c.loop-i.invariant.1)

pub loop-i-preserved : goal.loop-i-preserved
loop-i-preserved c =
    let args = c.args.arguments.now in
    let i = c.loop-i.i - 1 in
    let next : c.loop-i.i ≡ i + 1 = omega (arith, c.loop-i-test.true) in
    let a = c.index-arguments-i.result in
    let l : i < length args = omega (arith, c.loop-i.auto.i, c.loop-i-test.true) in
    let size = c.size-text.ensures in
    let text : c.loop-i.text ≡ c.args.texts + sum_by argument_size (take (i + 1) args) =
    c.loop-i.invariant.0 ∙ ap (λ (n : ℕ). c.args.texts + sum_by argument_size (take n args)) next in
    let more = sizes-more args i a a l c.index-arguments-i.is in
    let n = length c.bytes.result.now in
    let bs = le_bytes 8 (c.loop-i.text - c.size-text.result) ++ le_bytes 8 n ++ le_bytes 8 n in
    let ready = subst (λ (n : ℕ). IsReady c.loop-i.memory c.loop-i.at (record_size * n)) next c.loop-i.invariant.1 in
    let puts = subst
    (λ (n : ℕ). PutsBefore c.args.memory.now c.loop-i.memory c.args.texts (argument_records c.loop-i.text (drop n args)) c.loop-i.at)
    next c.loop-i.invariant.2 in (
      omega (arith, text, more, size),
      record-rest args i a a l c.index-arguments-i.is c.loop-i.memory c.put_record.new.memory c.loop-i.at c.in_ok-at.at bs ready refl
          c.in_ok-at.ensures,
      record-put args i a a l c.index-arguments-i.is c.args.memory.now c.loop-i.memory c.put_record.new.memory c.args.texts c.loop-i.text
          c.size-text.result c.loop-i.at c.in_ok-at.at n size
          (ap length (c.bytes.ensures ∙ c.index-arguments-i-in-loop-i.is
          ∙ get_or_default args i c.index-arguments-i-in-loop-i.result a l ∙ sym c.index-arguments-i.is))
          (omega (arith, text, more, size)) puts c.in_ok-at.ensures,
    )
