use Rattle.hare_again.proofs.LaidAsBefore.Files.{layouts-stay, sources-stay}
use Rattle.hare_again.proofs.laws.law_layouts_stay.Goals as goal

pub returns-clause-layouts : goal.returns-clause-layouts
returns-clause-layouts c = layouts-stay

pub returns-clause-sources : goal.returns-clause-sources
returns-clause-sources c = sources-stay
