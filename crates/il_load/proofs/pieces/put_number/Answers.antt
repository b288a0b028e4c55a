use Rattle.il_load.proofs.PutLemmas.{number-puts}
use Rattle.il_load.proofs.pieces.put_number.Goals as goal

pub returns-in-Ok : goal.returns-in-Ok
returns-in-Ok c =
    number-puts c.args.memory.now c.store.new.self c.args.end c.args.width c.from.result c.args.value c.from.ensures c.requires.ready
    c.in-Ok.ensures.ranges c.in-Ok.ensures.pages c.in-Ok.ensures.done
