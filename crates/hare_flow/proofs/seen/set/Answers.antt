use Rattle.hare_flow.specs.Seen.{entry_of}
use Rattle.hare_flow.proofs.SeenLemmas.{map_set}
use Rattle.hare_flow.proofs.seen.set.Goals as goal

pub returns-then-i-bindings : goal.returns-then-i-bindings
returns-then-i-bindings c = map_set entry_of c.args.bindings.now c.args.number c.args.b
