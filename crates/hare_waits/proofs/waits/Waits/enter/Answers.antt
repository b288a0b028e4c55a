use Rattle.std.proofs.Common.{◌≡◌, ◌++◌, ap, ◌∙◌, subst}
use Rattle.std.proofs.lemmas.Result.{on_ok_weaker}
use Rattle.hare_seen.specs.Sizes.{nodes_of_types}
use Rattle.hare_waits.specs.Nodes.{unmeasured}
use Rattle.hare_waits.specs.Lists.{Awaits}
use Rattle.hare_waits.proofs.EnterLemmas.{entered-all}
use Rattle.hare_waits.proofs.waits.Waits.enter.Goals as goal

pub returns : goal.returns
returns c =
    let s = c.args.s.now in
    let collected : c.as_slice.result.now ≡ unmeasured s c.args.decl 0 (nodes_of_types c.args.types.now)
    = c.as_slice.ensures.value ∙ c.in_ok-collect.ensures.found
    ∙ ap (λ ws. ws ++ unmeasured s c.args.decl 0 (nodes_of_types c.args.types.now)) c.new-nodes.ensures.items in
    record {
      ok = on_ok_weaker c.wait_each.result (λ each js a.
          entered-all s c.args.decl c.args.types.now c.requires.stands c.requires.fits c.args.self.now c.wait_each.new.lists
          (subst (λ q. Awaits s q c.wait_each.new.lists (unmeasured s c.args.decl 0 (nodes_of_types c.args.types.now))) c.self.view_is
          (subst (Awaits s c.self.inside.lists c.wait_each.new.lists) collected each)) js a) c.wait_each.ensures;
    }
