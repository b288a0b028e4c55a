use Rattle.std.proofs.Common.{◌≡◌, ◌∷◌, ◌++◌, [], List, false, ap, sym, ◌∙◌, subst}
use Rattle.std.specs.Prelude.{replicate}
use Rattle.hare_rules.specs.declared.declared.Local.{Local}
use Rattle.hare_rules.specs.Context.{Later}
use Rattle.hare_rules.specs.Flow.{Flow, flow_at}
use Rattle.hare_walk.specs.Spots.{spot}
use Rattle.hare_whole.specs.Parts.{bindings_of}
use Rattle.hare_check.specs.Beginnings.{known_params, told_params}
use Rattle.hare_check.specs.Walking.{IsWalking}
use Rattle.hare_check.proofs.Walks.Steps.{walking-start}
use Rattle.hare_check.proofs.check.walker_over.Goals as goal

pub returns-clause-walks : goal.returns-clause-walks
returns-clause-walks c s known decls ty params k =
    let ds = c.args.env.now.decls.now in
    let d = c.args.d.now in
    let count = bindings_of c.args.body.now in
    let unknown : Local = record { ty = d.ty; mutable = false } in
    let told : List Local = told_params d.params ++ replicate count unknown in
    let start : Flow = flow_at (known_params d.params ++ replicate count Later) in
    let seen : c.new-2.result ≡ start = c.new-2.ensures ∙ ap flow_at c.in_ok-bindings.ensures.bindings in
    let begun : c.push.new.self ≡ 0 ∷ [] = c.in_ok-push.ensures.ok ∙ ap (λ ns. ns ++ 0 ∷ []) c.new-begun.ensures in
    let here = spot k 0 ∷ [] in
    subst (λ ns. IsWalking s here ds c.new.result c.new-2.result c.in_ok-bindings.field-0.told ns) (sym begun)
    (subst (λ ls. IsWalking s here ds c.new.result c.new-2.result ls (0 ∷ [])) (sym c.in_ok-bindings.ensures.told)
    (subst (λ f. IsWalking s here ds c.new.result f told (0 ∷ [])) (sym seen)
    (subst (λ st. IsWalking s here ds st start told (0 ∷ [])) (sym c.new.ensures)
    (walking-start s k ds c.args.env.now.own d.ty c.args.first d.params count
    (record { known = known; decls = decls; gives = ty; params = params })))))
