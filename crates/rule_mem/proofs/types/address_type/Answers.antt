use Rattle.std.proofs.Common.{ap, sym, ◌∙◌, subst}
use Rattle.std.specs.Prelude.{IsSome}
use Rattle.hare_types.specs.declared.coercion.Ty.{Ty}
use Rattle.hare_rules.specs.Aggregates.{pointer_to}
use Rattle.hare_rules.specs.Words.{id_in, typed_as}
use Rattle.rule_mem.proofs.TypeLemmas.{id_there}
use Rattle.rule_mem.proofs.types.address_type.Goals as goal

pub returns-clause-value : goal.returns-clause-value
returns-clause-value c f l =
    ap typed_as (ap (pointer_to f) (ap id_in (sym c.seen-operand.ensures.value ∙ c.in-Of.is)) ∙ c.in_ok-made.ensures.id f l)
