use Rattle.harec_words.proofs.ReadCommands.Meant.{found_is, found_only, none_is}
use Rattle.harec_words.proofs.command.command_of.Goals as goal

pub returns-clause-found : goal.returns-clause-found
returns-clause-found c = found_is c.args.words.now c.read.result c.read.ensures.value

pub returns-clause-only : goal.returns-clause-only
returns-clause-only c = found_only c.args.words.now c.read.result c.read.ensures.value

pub returns-clause-none : goal.returns-clause-none
returns-clause-none c = none_is c.args.words.now c.read.result c.read.ensures.value
