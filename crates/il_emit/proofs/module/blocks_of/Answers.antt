-- The blocks are those of the function's lines.
use Rattle.std.proofs.Common.{refl, arith}
use Rattle.il_emit.proofs.Lines.Emitting.{function_emits}
use Rattle.il_emit.proofs.module.blocks_of.Goals as goal

pub returns-clause-value : goal.returns-clause-value
returns-clause-value c =
    let last = rw c.end_value.ensures at c.in_ok-end.ensures in
    function_emits c.args.source.now.program.now c.args.f.now _ c.label.new.self c.frame.new.self c.code.new.e c.end.new.self
    c.new.ensures refl refl
    c.new-2.ensures.items c.in_ok-label.ensures c.in_ok-frame.ensures c.in_ok-code.ensures last

pub returns-clause-fits : goal.returns-clause-fits
returns-clause-fits c = record {
  labels = omega (arith, c.in_ok-label.ensures.labels, c.in_ok-frame.ensures.labels, c.in_ok-code.ensures.labels, c.has_64_bits.ensures);
  addresses = omega (
    arith,
    c.in_ok-label.ensures.addresses,
    c.in_ok-frame.ensures.addresses,
    c.in_ok-code.ensures.addresses,
    c.has_64_bits-2.ensures,
  );
  temps = omega arith;
  frame = c.has_64_bits-4.ensures;
}
