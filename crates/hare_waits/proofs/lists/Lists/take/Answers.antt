use Rattle.std.proofs.Common.{◌≡◌, [], ap, sym, ◌∙◌, subst, nat_eq}
use Rattle.std.specs.Prelude.{option_map}
use Rattle.std.specs.Map.{lookup}
use Rattle.std.specs.Option.{unwrap_or}
use Rattle.hare_waits.specs.Lists.{pairs_of, Takes}
use Rattle.hare_waits.proofs.ListLemmas.{listing, taken_out}
use Rattle.hare_waits.proofs.lists.Lists.take.Goals as goal
use Rattle.hare_waits.proofs.lists.Lists.take.Goals.{in-Some, in-None}

pub returns : goal.returns
returns c =
    let listed : c.match-swap_remove.result.items ≡
    unwrap_or (option_map (λ v. v.items) (lookup (nat_eq c.args.name) c.self.inside.by_name.entries)) []
    = elim c.match-swap_remove.branch [
      | in-Some w ↦ ap (λ v. v.items) w.result-is ∙ ap (λ o. unwrap_or (option_map (λ v. v.items) o) [])
          (sym w.in-Some.is ∙ c.swap_remove.ensures.value)
      | in-None w ↦ ap (λ v. v.items) w.result-is ∙ w.new.ensures.items ∙ ap (λ o. unwrap_or (option_map (λ v. v.items) o) [])
          (sym w.in-None.is ∙ c.swap_remove.ensures.value)
    ] in
    subst (λ q. Takes q (pairs_of (listing (λ v. v.items) c.swap_remove.new.self.entries)) c.args.name c.match-swap_remove.result.items)
    c.self.view_is
    (taken_out (λ v. v.items) c.self.inside.by_name.entries c.swap_remove.new.self.entries c.args.name c.swap_remove.ensures.updates.0
    c.match-swap_remove.result.items listed)
