use Rattle.std.proofs.Common.{ap, ◌∙◌}
use Rattle.std.proofs.lemmas.Result.{IfOk-weaker}
use Rattle.std.specs.Prelude.{option_and_then}
use Rattle.hare_types.specs.declared.row.Row.TheVariants as row
use Rattle.hare_types.specs.Unions.{id_of}
use Rattle.hare_types.proofs.LaterLemmas.{later_trans}
use Rattle.rule_ctl.proofs.calls.bytes_slice.Goals as goal

pub returns-clause-id : goal.returns-clause-id
returns-clause-id c =
    IfOk-weaker c.slice_of.result _ _
    (λ u h f l.
    ap (option_and_then (λ t. id_of f (row.Slice t)))
    (c.in_ok-byte.ensures.id f (later_trans c.word.new.s c.slice_of.new.s f c.slice_of.ensures.grown.later l)) ∙ h f l)
    c.slice_of.ensures.id
