use Rattle.hare_lines.proofs.LayoutLaws.Kept.{pieces_are_in_order}
use Rattle.hare_lines.proofs.laws.law_pieces_are_in_order.Goals as goal

pub returns : goal.returns
returns c = pieces_are_in_order
