-- Faults of steps.
use Rattle.hare_whole.specs.Turns.{seen, Fails}
use Rattle.hare_turns.specs.Laws.{EndsAreSeen, TypesStop, ValueStops}

pub types_stop : EndsAreSeen → TypesStop
types_stop ends p s l g vs n t f h d faulty e =
    let k = ends p s l g vs h e in Fails.types n t d (faulty (seen l g.done) k.later k.same)

pub value_stops : EndsAreSeen → ValueStops
value_stops ends p s l g vs n t f h d faulty e =
    let k = ends p s l g vs h e in Fails.value n t d (faulty (seen l g.done) k.later)
