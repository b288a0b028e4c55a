use Rattle.std.proofs.Common.{ap, sym, ◌∙◌}
use Rattle.std.specs.Prelude.{option_map}
use Rattle.hare_types.specs.Kept.{told}
use Rattle.rule_mem.proofs.ExtentLemmas.{extent_stays}
use Rattle.rule_mem.proofs.reads.extent.Goals as goal

pub returns : goal.returns
returns c f l = c.extent.ensures.value ∙ ap (option_map told)
    (sym (extent_stays c.args.s.now f c.extent.ensures.sound l c.args.t c.requires))
