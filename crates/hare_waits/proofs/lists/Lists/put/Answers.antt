use Rattle.std.proofs.Common.{sym, subst}
use Rattle.hare_waits.specs.Lists.{Takes}
use Rattle.hare_waits.proofs.ListLemmas.{put_back}
use Rattle.hare_waits.proofs.lists.Lists.put.Goals as goal

pub returns : goal.returns
returns c = record {
  ok = put_back (λ v. v.items) c.args.self.now c.self.inside.by_name.entries c.insert.new.self.entries c.args.name c.take-list.result.items
      c.args.node
      c.push.new.self c.in_ok-push.ensures.items
      (subst (λ p. Takes c.args.self.now p c.args.name c.take-list.result.items) (sym c.self.view_is) c.take-list.ensures)
      c.in_ok-insert.ensures.updates.0;
}
