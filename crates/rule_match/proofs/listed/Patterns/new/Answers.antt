use Rattle.std.proofs.Common.{false, refl}
use Rattle.rule_match.proofs.ListedLemmas.{none_listed}
use Rattle.rule_match.proofs.listed.Patterns.new.Goals as goal

pub returns : goal.returns
returns c = none_listed (record { has_default = false; has_null = false; types = c.new.result }) refl refl c.new.ensures.empty
