use Rattle.std.proofs.Common.{sym, ap, ◌∙◌}
use Rattle.hare_modules.specs.Tables.{value_of}
use Rattle.hare_modules.proofs.TableLemmas.{lookup-seen}
use Rattle.hare_modules.proofs.table.Table.get.Goals as goal

pub returns : goal.returns
returns g c = c.copied.ensures ∙ c.get.ensures.value ∙ sym (lookup-seen (λ k. k.now) c.args.name.now c.self.inside.entries.entries) ∙ ap
    (value_of c.args.name.now) c.self.view_is
