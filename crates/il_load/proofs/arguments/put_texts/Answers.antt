use Rattle.std.proofs.Common.{◌+◌, ◌<◌, length, ◌∙◌, arith}
use Rattle.std.specs.Prelude.{sum_by}
use Rattle.hx_base.specs.Runtime.{argument_size}
use Rattle.il_load.proofs.ArgumentLemmas.{sizes-more, text-ready, text-put}
use Rattle.il_load.proofs.PutLemmas.{ready-kept}
use Rattle.il_load.proofs.arguments.put_texts.Goals as goal

pub put_bytes-requires : goal.put_bytes-requires
put_bytes-requires c =
    let args = c.args.arguments.now in
    let i = c.loop-argument.argument-index in
    let a = c.argument-item.result in
    let l : i < length args = omega (arith, c.loop-argument-test.true) in
    text-ready args i a a l c.argument-item.is c.loop-argument.memory c.args.texts c.loop-argument.at c.bytes.result.now
    c.bytes-in-loop-argument.result.now c.loop-argument.invariant.0 c.bytes.ensures c.bytes-in-loop-argument.ensures
    c.loop-argument.invariant.2

pub loop-argument-preserved : goal.loop-argument-preserved
loop-argument-preserved c =
    let args = c.args.arguments.now in
    let i = c.loop-argument.argument-index in
    let a = c.argument-item.result in
    let l : i < length args = omega (arith, c.loop-argument-test.true) in
    let more = sizes-more args i a a l c.argument-item.is in
    let at = c.loop-argument.invariant.0 in
    let size = c.size-at.ensures in
    let p = c.in_ok-put_bytes.ensures in (
      omega (arith, more, at, size),
      p.puts.ranges ∙ c.loop-argument.invariant.1,
      ready-kept c.loop-argument.memory c.put_bytes.new.memory (c.args.texts + sum_by argument_size args) (sum_by argument_size args)
          c.in_ok-put_bytes.field-0 c.bytes-in-loop-argument.result.now c.loop-argument.invariant.2 p.puts,
      text-put args i a a l c.argument-item.is c.args.memory.now c.loop-argument.memory c.put_bytes.new.memory c.args.texts
          c.loop-argument.at c.in_ok-put_bytes.field-0 c.bytes.result.now c.bytes-in-loop-argument.result.now at c.bytes.ensures
          c.bytes-in-loop-argument.ensures c.loop-argument.invariant.3 p,
    )
