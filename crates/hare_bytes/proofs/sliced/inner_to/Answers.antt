use Rattle.std.proofs.Common.{sym, ◌∙◌}
use Rattle.hare_bytes.proofs.SlicedLemmas.{inner-chosen}
use Rattle.hare_bytes.proofs.sliced.inner_to.Goals as goal

pub returns-in-Some : goal.returns-in-Some
returns-in-Some c =
    inner-chosen c.args.s.now c.args.from c.args.to c.in-Some.inner c.requires.array (sym c.chosen_member.ensures.value ∙ c.in-Some.is)
