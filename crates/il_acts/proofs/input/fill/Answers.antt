use Rattle.std.proofs.Common.{◌≡◌, ℕ, ◌+◌, ◌≤◌, length, take, length-take, sym, ◌∙◌, subst, arith}
use Rattle.std.proofs.lemmas.List.{length-take-le}
use Rattle.il_acts.specs.Filling.{Filled}
use Rattle.il_acts.proofs.Streaming.{fills_more, write_goes, piece_held, on_ok}
use Rattle.il_acts.proofs.Reading.{part_held}
use Rattle.il_acts.proofs.input.fill.Goals as goal

-- a write cannot stop
pub returns-then-is_err-clause-done : goal.returns-then-is_err-clause-done
returns-then-is_err-clause-done g c =
    let done = c.pieces.done in
    let count = c.in-Ok.count in
    let piece = take count c.read.new.buf in
    let len = c.min-len.result in
    let size : length (take len c.pieces.buf) ≡ len =
    length-take len c.pieces.buf ∙ omega (arith, c.min-len.ensures, c.min-len.array_long) in
    let least : count ≤ len = omega (arith, c.in-Ok.ensures.bound, c.read.auto.buf, size) in
    let sized : length piece ≡ count = length-take-le count c.read.new.buf c.in-Ok.ensures.bound in
    let few : done + length piece ≤ c.args.n = omega (arith, sized, least, c.min-len.ensures, c.pieces-test.true) in
    let held = part_held c.pieces.memory c.args.at c.args.n done (length piece) c.pieces.invariant.held few in
    write_goes c.args.memory.now c.pieces.memory c.write.new.self (g.I.Source.left c.args.input.now) (g.I.Source.left c.pieces.input)
    c.args.at c.args.n done piece c.write.result c.pieces.invariant.filled few (sym c.is_err.ensures.value ∙ c.if-is_err.true)
    c.write.ensures.done (c.write.ensures.held held)

pub pieces-preserved : goal.pieces-preserved
pieces-preserved g c =
    let at = c.args.at in
    let n = c.args.n in
    let done = c.pieces.done in
    let count = c.in-Ok.count in
    let piece = take count c.read.new.buf in
    let left = g.I.Source.left c.args.input.now in
    let left' = g.I.Source.left c.pieces.input in
    let left'' = g.I.Source.left c.read.new.self in
    let len = c.min-len.result in
    let size : length (take len c.pieces.buf) ≡ len =
    length-take len c.pieces.buf ∙ omega (arith, c.min-len.ensures, c.min-len.array_long) in
    let least : count ≤ len = omega (arith, c.in-Ok.ensures.bound, c.read.auto.buf, size) in
    let sized : length piece ≡ count = length-take-le count c.read.new.buf c.in-Ok.ensures.bound in
    let few : done + length piece ≤ n = omega (arith, sized, least, c.min-len.ensures, c.pieces-test.true) in
    let ok = sym c.is_err.ensures.value ∙ c.if-is_err.false in
    let adds = on_ok c.write.result ok c.write.ensures.pages in
    record {
      within = omega (arith, sized, few);
      filled = subst (λ (k : ℕ). Filled c.args.memory.now c.write.new.self left left'' at n (done + k)) sized
          (fills_more c.args.memory.now c.pieces.memory c.write.new.self left left' left'' at n done piece c.write.result
          c.pieces.invariant.filled few ok c.write.ensures.done adds c.in-Ok.ensures.bytes);
      held = piece_held c.pieces.memory c.write.new.self at n done (length piece) c.pieces.invariant.held adds;
      ranges = c.write.ensures.ranges ∙ c.pieces.invariant.ranges;
      kept = c.in-Ok.ensures.count.kept ∙ c.pieces.invariant.kept;
    }
