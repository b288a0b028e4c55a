use Rattle.std.proofs.Common.{◌++◌, [], ◌∷◌, map, refl, ap, ◌∙◌}
use Rattle.hare_modules.specs.Takings.{using, using_of}
use Rattle.hare_modules.proofs.ListLemmas.{map-push}
use Rattle.hare_modules.proofs.CollectLemmas.{one_on}
use Rattle.hare_modules.proofs.claims.take_uses.Goals as goal

pub loop-i-preserved : goal.loop-i-preserved
loop-i-preserved c =
    let t = c.in-Some.tree.now in
    let pushed = ap (map using) c.in_ok-push.ensures.items ∙ map-push using c.loop-i.collected.items _ in
    let numbered = ap (λ n. map using c.loop-i.collected.items ++ record { home = c.args.home; to = n; tree = t } ∷ [])
    c.in_ok-to.ensures in
    one_on (map (using_of c.args.known.now c.args.home)) c.args.uses.now c.loop-i.i t (using_of c.args.known.now c.args.home t ∷ [])
    (map using c.loop-i.collected.items) (map using c.push.new.self.items) _ c.in-Some.ensures.found refl (pushed ∙ numbered)
    c.loop-i.invariant
