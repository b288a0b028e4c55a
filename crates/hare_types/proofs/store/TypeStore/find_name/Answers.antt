use Rattle.std.proofs.Common.{◌≡◌, ℕ, nat_eq, List, Vec, Global}
use Rattle.std.specs.Bool.{Decides}
use Rattle.std.specs.Cmp.{unsigned_Decides}
use Rattle.std.specs.Cmp.Lexicographic.{pointwise, pointwise_decides}
use Rattle.hare_types.proofs.NumberingLemmas.{position_found, position_absent}
use Rattle.hare_types.proofs.store.TypeStore.find_name.Goals as goal

spelled : (x : List ℕ) (v : Vec ℕ Global) → Decides (pointwise nat_eq x v.items) (x ≡ v.items)
spelled x v = pointwise_decides unsigned_Decides x v.items

pub returns-in-Some-clause-found : goal.returns-in-Some-clause-found
returns-in-Some-clause-found c =
    rw (← c.self.view_is) (position_found (λ v. v.items) c.args.spelling.now (λ v. pointwise nat_eq c.args.spelling.now v.items)
    (spelled c.args.spelling.now) c.self.inside.names.keys c.in-Some.place c.in-Some.ensures.index)

pub returns-in-None-clause-none : goal.returns-in-None-clause-none
returns-in-None-clause-none c =
    rw (← c.self.view_is) (position_absent (λ v. v.items) c.args.spelling.now (λ v. pointwise nat_eq c.args.spelling.now v.items)
    (spelled c.args.spelling.now) c.self.inside.names.keys c.in-None.ensures.index)
