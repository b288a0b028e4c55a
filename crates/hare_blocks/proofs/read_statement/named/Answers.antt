use Rattle.std.proofs.Common.{refl}
use Rattle.hare_blocks.proofs.ReadStatements.Simple.{name_alone, name_of_other}
use Rattle.hare_blocks.proofs.read_statement.named.Goals as goal

pub returns-then-not-takes : goal.returns-then-not-takes
returns-then-not-takes c = name_alone c.args.left c.args.name.now c.args.tokens.now c.takes-2.new.self (c.if-takes.ensures.absent refl)
    (rw (c.if-takes.ensures.kept refl) at (c.if-not-takes.ensures.absent refl))

pub returns-then-not-is_word : goal.returns-then-not-is_word
returns-then-not-is_word c = name_of_other c.args.left c.args.name.now c.args.tokens.now c.takes-2.new.self (c.if-takes.ensures.absent refl)
    (λ h. let k = c.if-not-is_word.ensures.1 h in cc)
