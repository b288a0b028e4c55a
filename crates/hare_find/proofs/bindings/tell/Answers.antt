use Rattle.std.proofs.Common.{ap, sym, ◌∙◌}
use Rattle.std.specs.Prelude.{option_copied}
use Rattle.hare_flow.specs.Seen.{entry_of}
use Rattle.hare_find.proofs.YieldsSeen.DefinedTypes.{local_defined, locals_set}
use Rattle.hare_find.proofs.BindingsSeen.Known.{told_set, told_past}
use Rattle.hare_find.proofs.bindings.tell.Goals as goal

pub returns-in-Some-clause-told : goal.returns-in-Some-clause-told
returns-in-Some-clause-told c es k =
    let e = entry_of c.args.b.now in
    rw c.set.ensures (told_set es c.args.told.now c.args.number e c.told_instead-l.result c.told_instead-l.ensures.told k)

pub returns-in_default-clause-told : goal.returns-in_default-clause-told
returns-in_default-clause-told c es k =
    told_past es c.args.told.now c.args.number (entry_of c.args.b.now) (sym c.get.ensures ∙ ap option_copied c.in_default.is) k

pub returns-in-Some-clause-defined : goal.returns-in-Some-clause-defined
returns-in-Some-clause-defined c s d k =
    let l = c.told_instead-l.result in
    let h = local_defined s c.args.told.now c.args.number c.in-Some.l.now (sym c.get.ensures ∙ ap option_copied c.in-Some.is) k in
    rw c.set.ensures (locals_set s c.args.told.now c.args.number l (c.told_instead-l.ensures.defined s h d) k)
