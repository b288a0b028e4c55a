-- The last statement leaves, and the list is lower by it.
use Rattle.std.proofs.Common.{◌≡◌, map}
use Rattle.flat_code.specs.Shape.{code_of}
use Rattle.flat_code.proofs.Heights.{popped}
use Rattle.flat_code.proofs.flat.FlatKids.pop.Goals as goal

pub returns-clause-some : goal.returns-clause-some
returns-clause-some c =
    let v = c.self.view_is in
    let same : map code_of c.self.inside.items.items ≡ c.args.self.now = cc in
    rw (← same) (popped c.self.inside.items.items c.pop.new.self.items c.pop.result c.pop.ensures.items)
