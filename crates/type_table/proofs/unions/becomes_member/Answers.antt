use Rattle.std.proofs.Common.{Option, None, Some}
use Rattle.std.specs.Prelude.{IfSome}
use Rattle.hare_types.specs.declared.coercion.Coercion.{Coercion}
use Rattle.hare_types.specs.Assign.{IsIn}
use Rattle.hare_assign.specs.Chosen.{IsChosen}
use Rattle.type_table.proofs.UnionLemmas.{chosen-in}
use Rattle.type_table.proofs.unions.becomes_member.Goals as goal

pub returns : goal.returns
returns c = by c.chosen_member.result c.chosen_member.ensures.some
  where
    by : (o : Option Coercion) → IfSome o (λ x. IsChosen c.args.store.now c.args.from c.args.to x) →
        IfSome o (λ x. IsIn c.args.store.now x.to)
    by None h = tt
    by (Some x) h = chosen-in c.args.store.now c.is_union_type.ensures.sound c.args.from c.args.to x h
