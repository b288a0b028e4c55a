-- Types that are known to be defined stay so.
use Rattle.rule_judge.proofs.DefinedLemmas.{defined_stays}
use Rattle.hare_defined.specs.Known.{DefinedTypesStay}

pub defined_types_stay : DefinedTypesStay
defined_types_stay now later ts v l h t c = defined_stays now later v l t (h t c)
