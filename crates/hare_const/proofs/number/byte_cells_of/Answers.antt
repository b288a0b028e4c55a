use Rattle.std.proofs.Common.{◌≡◌, take, rules}
use Rattle.std.proofs.lemmas.Result.{IfOk-weaker}
use Rattle.hx_base.specs.Memory.{le_bytes}
use Rattle.hare_typed.specs.Cells.{byte_cells}
use Rattle.hare_const.proofs.NumberLemmas.{lowest_bytes}
use Rattle.hare_const.proofs.number.byte_cells_of.Goals as goal

pub returns : goal.returns
returns c =
    IfOk-weaker c.of.result (λ cells. cells ≡ take c.args.bytes (byte_cells (le_bytes 8 c.args.number)))
    (λ cells. cells ≡ byte_cells (le_bytes c.args.bytes c.args.number))
    (λ cells e. lowest_bytes cells c.args.bytes c.args.number c.requires e) (search rules)
