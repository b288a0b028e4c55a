use Rattle.std.proofs.Common.{◌≡◌, ℕ, ◌<◌, ◌≤◌, List, true, false, subst}
use Rattle.il_mem.specs.Kept.{covers}
use Rattle.il_mem.specs.Laid.{IsCovered}
use Rattle.il_mem.proofs.StackLists.{of_stack, of_others, of_none, some_also, none_also}
use Rattle.il_mem.proofs.ranges.Ranges.range_of.Goals as goal

pub returns-in-Some-clause-found : goal.returns-in-Some-clause-found
returns-in-Some-clause-found c =
    let f = c.in-Some.ensures.found in (
      f.0,
      f.1,
      λ a l u. subst (λ (rs : List (ℕ × ℕ)). covers rs a ≡ true) c.self.view_is
          (of_stack c.self.inside.stack.items c.self.inside.ends.entries c.self.invariant.0 a
          (subst (λ (rs : List (ℕ × ℕ)). covers rs a ≡ true) c.deref.ensures.value (f.2 a l u))),
    )

pub returns-in-None-clause-found : goal.returns-in-None-clause-found
returns-in-None-clause-found c =
    some_also (λ r. (r.0 ≤ c.args.at) × (c.args.at < r.1) × IsCovered c.self.inside.ends.entries r.0 r.1)
    (λ r. (r.0 ≤ c.args.at) × (c.args.at < r.1) × IsCovered c.args.self.now r.0 r.1) c.range_of.result
    (λ r f. (
      f.0,
      f.1,
      λ a l u. subst (λ (rs : List (ℕ × ℕ)). covers rs a ≡ true) c.self.view_is
          (of_others c.self.inside.stack.items c.self.inside.ends.entries c.self.invariant.0 a (f.2 a l u)),
    ))
    c.range_of.ensures.found

pub returns-in-None-clause-none : goal.returns-in-None-clause-none
returns-in-None-clause-none c =
    let bare = subst (λ (rs : List (ℕ × ℕ)). covers rs c.args.at ≡ false) c.deref.ensures.value c.in-None.ensures.none in
    none_also (covers c.self.inside.ends.entries c.args.at ≡ false) (covers c.args.self.now c.args.at ≡ false) c.range_of.result
    (λ e. subst (λ (rs : List (ℕ × ℕ)). covers rs c.args.at ≡ false) c.self.view_is
    (of_none c.self.inside.stack.items c.self.inside.ends.entries c.self.invariant.0 c.args.at bare e))
    c.range_of.ensures.none
