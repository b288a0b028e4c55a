use Rattle.std.proofs.Common.{◌<◌, length, ap, sym, ◌∙◌, arith}
use Rattle.std.specs.Prelude.{is_some}
use Rattle.hare_types.proofs.WaitLemmas.{unknown-read}
use Rattle.hare_types.proofs.settle.wait.Goals as goal

pub enlist-requires-clause-unknown : goal.enlist-requires-clause-unknown
enlist-requires-clause-unknown c =
    let within : c.args.i < length c.args.kept.now.items = omega (arith, c.requires.within, c.requires.as_many) in
    unknown-read c.args.kept.now.items c.args.i c.index-old.result.now within c.index-old.ensures
    (sym (c.is_some.ensures ∙ ap is_some c.get.ensures) ∙ c.if-is_some.false)

pub enlist-requires-clause-none : goal.enlist-requires-clause-none
enlist-requires-clause-none c =
    let within : c.args.i < length c.args.kept.now.items = omega (arith, c.requires.within, c.requires.as_many) in
    c.requires.none
    (unknown-read c.args.kept.now.items c.args.i c.index-old.result.now within c.index-old.ensures
    (sym (c.is_some.ensures ∙ ap is_some c.get.ensures) ∙ c.if-is_some.false))
