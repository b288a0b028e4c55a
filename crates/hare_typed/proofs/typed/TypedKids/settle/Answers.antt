use Rattle.std.proofs.Common.{◌<◌, ◌≤◌, List, length, ap, ◌∙◌, subst, rules}
use Rattle.hare_typed.specs.Typed.{TypedNode}
use Rattle.hare_typed.specs.Coats.{settled_at}
use Rattle.hare_typed.proofs.CoatLemmas.{tree_settled, settled_at-past}
use Rattle.hare_typed.proofs.typed.TypedKids.settle.Goals.{in-Some, in_default}
use Rattle.hare_typed.proofs.typed.TypedKids.settle.Goals as goal

pub returns : goal.returns
returns c =
    let xs = c.self.inside.trees.items in
    let i = c.args.i in
    elim c.match-get_mut.branch [
      | in-Some w ↦
          let h : i < length xs = search rules in
          ap (λ x. x.trees.items) w.self-inside-is
          ∙ tree_settled xs i w.in-Some.t.now _ c.args.coerce h (search rules) (search rules)
          ∙ ap (settled_at i c.args.coerce) c.self.view_is
      | in_default w ↦
          let h : length xs ≤ i = search rules in
          let l = subst (λ (ts : List TypedNode). length ts ≤ i) c.self.view_is h in
          ap (λ x. x.trees.items) w.self-inside-is
          ∙ c.self.view_is
          ∙ settled_at-past c.args.self.now i c.args.coerce l
    ]
