use Rattle.std.proofs.Common.{sym, subst}
use Rattle.hare_lex.specs.Fronts.{Sound}
use Rattle.hare_lex.proofs.Sound.Tokens.{front_sound}
use Rattle.hare_lex.proofs.front.first_token.Goals as goal

pub returns-clause-stands : goal.returns-clause-stands
returns-clause-stands c =
    subst (Sound c.args.behind_path c.args.s.now) (sym c.at_front.ensures.value)
    (front_sound c.args.behind_path c.args.s.now c.requires)
