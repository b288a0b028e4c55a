use Rattle.std.proofs.Common.{sym, ◌∙◌, arith}
use Rattle.hare_names.proofs.RisingLemmas.{searching-up, searching-down, searching-there, searching-none}
use Rattle.hare_names.proofs.rising.search.Goals as goal

pub halves-preserved-then-is_before : goal.halves-preserved-then-is_before
halves-preserved-then-is_before c =
    searching-up c.args.place c.args.ordered.now c.halves.low c.halves.high _ _ c.requires (omega arith)
    (sym c.is_before.ensures ∙ c.if-is_before.true) c.halves.invariant

pub halves-preserved : goal.halves-preserved
halves-preserved c =
    searching-down c.args.place c.args.ordered.now c.halves.low c.halves.high _ _ c.requires (omega arith)
    (sym c.is_before-else-is_before.ensures ∙ c.if-is_before-2.true) c.halves.invariant

pub returns-else-is_before-2 : goal.returns-else-is_before-2
returns-else-is_before-2 c =
    sym (searching-there c.args.place c.args.ordered.now c.halves.low c.halves.high _ _ c.requires (omega arith)
    (sym c.is_before.ensures ∙ c.if-is_before.false) (sym c.is_before-else-is_before.ensures ∙ c.if-is_before-2.false)
    c.halves.invariant)

pub returns : goal.returns
returns c = sym (searching-none c.args.place c.args.ordered.now c.halves.low c.halves.high (omega arith) c.halves.invariant)
