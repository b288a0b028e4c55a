use Rattle.harec_words.proofs.ReadCommands.Commands.{one_command}
use Rattle.harec_words.proofs.laws.law_one_command.Goals as goal

pub returns : goal.returns
returns c = one_command
