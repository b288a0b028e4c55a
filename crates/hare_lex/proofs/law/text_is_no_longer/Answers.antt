use Rattle.hare_lex.proofs.Order.Shorter.{no_longer}
use Rattle.hare_lex.proofs.law.text_is_no_longer.Goals as goal

pub returns : goal.returns
returns c = λ t s h. no_longer t.kind t.text t.number t.suffix s h
