use Rattle.hare_lines.proofs.LayoutLaws.Kept.{placed_are_seen, laid_are_kept}
use Rattle.hare_lines.proofs.laws.law_pieces_are_kept.Goals as goal

pub returns-clause-placed : goal.returns-clause-placed
returns-clause-placed c = placed_are_seen

pub returns-clause-laid : goal.returns-clause-laid
returns-clause-laid c = laid_are_kept
