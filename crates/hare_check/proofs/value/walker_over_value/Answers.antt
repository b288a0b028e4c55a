use Rattle.std.proofs.Common.{◌≡◌, ◌∷◌, ◌++◌, [], List, false, ap, sym, ◌∙◌, subst}
use Rattle.std.specs.Prelude.{replicate}
use Rattle.hare_rules.specs.declared.declared.Local.{Local}
use Rattle.hare_rules.specs.Context.{Later}
use Rattle.hare_rules.specs.Flow.{Flow, flow_at}
use Rattle.hare_walk.specs.Spots.{spot}
use Rattle.hare_whole.specs.Parts.{bindings_of}
use Rattle.hare_check.specs.Walking.{IsWalking}
use Rattle.hare_check.proofs.Walks.Values.{value-start}
use Rattle.hare_check.proofs.value.walker_over_value.Goals as goal

pub returns-clause-walks : goal.returns-clause-walks
returns-clause-walks c s known decls returned hint k =
    let ds = c.args.env.now.decls.now in
    let count = bindings_of c.args.value.now in
    let unknown : Local = record { ty = c.args.never; mutable = false } in
    let told : List Local = replicate count unknown in
    let start : Flow = flow_at (replicate count Later) in
    let seen : c.new-2.result ≡ start = c.new-2.ensures ∙ ap flow_at c.in_ok-bindings.ensures.bindings in
    let begun : c.push.new.self ≡ 0 ∷ [] = c.in_ok-push.ensures.ok ∙ ap (λ ns. ns ++ 0 ∷ []) c.new-begun.ensures in
    let here = spot k 0 ∷ [] in
    subst (λ ns. IsWalking s here ds c.new.result c.new-2.result c.in_ok-bindings.field-0.told ns) (sym begun)
    (subst (λ ls. IsWalking s here ds c.new.result c.new-2.result ls (0 ∷ [])) (sym c.in_ok-bindings.ensures.told)
    (subst (λ f. IsWalking s here ds c.new.result f told (0 ∷ [])) (sym seen)
    (subst (λ st. IsWalking s here ds st start told (0 ∷ [])) (sym c.new.ensures)
    (value-start s k ds c.args.env.now.own c.args.never c.args.hint count
    (record { known = known; decls = decls; returned = returned; hint = hint })))))
