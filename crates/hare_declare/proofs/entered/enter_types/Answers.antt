use Rattle.std.proofs.Common.{refl, ◌∙◌}
use Rattle.std.proofs.lemmas.Option.{slice_get-get_or}
use Rattle.hare_declare.proofs.TypesEntered.OneByOne.{one-more, not-entered, same-listed, none-told}
use Rattle.hare_declare.proofs.entered.enter_types.Goals as goal

pub enter-requires : goal.enter-requires
enter-requires c = not-entered _ _ _ _ c.loop-decl.invariant.entered

pub loop-decl-preserved : goal.loop-decl-preserved
loop-decl-preserved c = record {
  entered = one-more c.loop-decl.s c.args.outlines.now c.args.lacking.now c.loop-decl.decl _
      (slice_get-get_or c.args.outlines.now c.loop-decl.decl _ c.loop-decl-test.true) c.loop-decl.invariant.entered _ _ _ refl
      (none-told _ _ _ c.is_none-is_sized.ensures c.label_of.ensures) c.in_ok-enter.ensures;
  empty = same-listed c.loop-decl.decl _ _ _ _ c.in_ok-enter.ensures ∙ c.loop-decl.invariant.empty;
}
