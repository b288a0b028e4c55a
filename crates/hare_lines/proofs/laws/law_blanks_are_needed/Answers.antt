use Rattle.hare_lines.proofs.LayoutLaws.Grown.{growing_pieces_are_others}
use Rattle.hare_lines.proofs.laws.law_blanks_are_needed.Goals as goal

pub returns : goal.returns
returns c = growing_pieces_are_others
