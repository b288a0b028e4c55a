use Rattle.std.proofs.Common.{ap, ◌∙◌, is_some}
use Rattle.hare_types.specs.declared.coercion.Ty.{Ty}
use Rattle.hare_typed.specs.Given.{base_row}
use Rattle.hare_typed.specs.Coercions.{element_of_slice}
use Rattle.hare_typed.specs.Followed.{reached_type}
use Rattle.rule_mem.proofs.deletes.deletes_from_slice.Goals as goal

pub returns : goal.returns
returns c f l =
    c.is_some.ensures
    ∙ ap is_some
    (c.slice_element.ensures.value f l
    ∙ ap (λ (a : Ty). element_of_slice (base_row f a)) (c.reached.ensures.value f l ∙ ap (reached_type f) (c.deleted_seen.ensures.value f)))
