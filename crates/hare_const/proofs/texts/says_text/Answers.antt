use Rattle.hare_typed.specs.Words.{words}
use Rattle.hare_const.proofs.TextLemmas.{no_text}
use Rattle.hare_const.proofs.texts.says_text.Goals as goal

pub returns-in-None : goal.returns-in-None
returns-in-None c = (λ e. absurd cc, λ h. absurd (no_text c.args.objects.now (words c.args.cells.now) c.in-None.ensures h))
