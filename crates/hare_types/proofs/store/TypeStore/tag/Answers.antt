use Rattle.std.proofs.Common.{nat_eq}
use Rattle.std.specs.Cmp.{unsigned_Decides}
use Rattle.std.proofs.lemmas.List.{map-id}
use Rattle.hare_types.proofs.NumberingLemmas.{position_absent}
use Rattle.hare_types.proofs.store.TypeStore.tag.Goals as goal

pub returns-in-None-clause-none : goal.returns-in-None-clause-none
returns-in-None-clause-none c =
    let nowhere = position_absent (λ t. t) c.args.t (nat_eq c.args.t) (unsigned_Decides c.args.t) c.self.inside.listed.keys
    c.in-None.ensures.index in
    rw (← c.self.view_is) (simp map-id at nowhere)
