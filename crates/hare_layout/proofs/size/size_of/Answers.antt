use Rattle.std.proofs.Common.{ap}
use Rattle.std.specs.Prelude.{option_map}
use Rattle.std.specs.Option.{unwrap_or}
use Rattle.hare_layout.proofs.size.size_of.Goals as goal

pub returns-clause-value : goal.returns-clause-value
returns-clause-value c = (c.extent_of.result.align, c.extent_of.ensures.value)

pub returns-clause-at : goal.returns-clause-at
returns-clause-at c = ap (λ o. unwrap_or (option_map (λ x. x.size) o) 0) c.extent_of.ensures.at
