use Rattle.std.proofs.Common.{◌≡◌, sym, ap, ◌∙◌, true, false, not}
use Rattle.std.specs.Prelude.{IsSome, is_some}
use Rattle.hare_typed.specs.Cells.{bytes_of, cells_within}
use Rattle.hare_const.specs.Numbers.{byte_in}
use Rattle.hare_const.proofs.TextLemmas.{byte_passed, byte_first, bytes_first}
use Rattle.hare_const.proofs.texts.are_bytes.Goals as goal

pub loop-i-preserved : goal.loop-i-preserved
loop-i-preserved c =
    let cs = c.args.cells.now in
    let there = sym c.in-Some.ensures in
    let byte : IsSome (byte_in c.in-Some.cell) = ap is_some (sym c.byte_of.ensures) ∙ c.if-is_none.ensures in
    record {
      found =
          byte_passed cs c.args.from c.args.count c.loop-i.i c.in-Some.cell (IsSome (bytes_of (cells_within c.args.from c.args.count cs)))
          there c.loop-i-test.true byte c.loop-i.invariant.found;
      back = λ p.
          (byte_first cs c.args.from c.args.count c.loop-i.i c.in-Some.cell there c.loop-i-test.true (c.loop-i.invariant.back p)).1;
    }

pub returns-then-is_none : goal.returns-then-is_none
returns-then-is_none c = (
  λ e. absurd cc,
  λ h.
      let cs = c.args.cells.now in
      let all = bytes_first cs c.args.from c.args.count h in
      let byte : IsSome (byte_in c.in-Some.cell) =
      (byte_first cs c.args.from c.args.count c.loop-i.i c.in-Some.cell (sym c.in-Some.ensures) c.loop-i-test.true
      (c.loop-i.invariant.back all.1)).0 in
      let none : is_some c.byte_of.result ≡ false = c.is_none.ensures ∙ ap not c.if-is_none.true in
      let both : true ≡ false = sym byte ∙ ap is_some (sym c.byte_of.ensures) ∙ none in
      absurd cc,
)
