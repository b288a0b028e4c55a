use Rattle.std.proofs.Common.{[], ◌∷◌, map, filter, drop, ◌+◌, ap, ◌∙◌}
use Rattle.hare_modules.specs.Uses.{is_name_tree}
use Rattle.hare_modules.specs.Takings.{taking, named}
use Rattle.hare_modules.proofs.CollectLemmas.{one_on, filter-front, map-append}
use Rattle.hare_modules.proofs.claims.take_members.Goals as goal

pub loop-i-preserved : goal.loop-i-preserved
loop-i-preserved c =
    let k = c.in-Some.kid.now in
    let f = named c.args.spot.file c.args.spot.home c.args.taker in
    one_on (λ ts. map f (filter is_name_tree ts)) c.args.kids.now c.loop-i.i k (map f (filter is_name_tree (k ∷ [])))
    (map taking c.loop-i.claims.items) (map taking c.take_name.new.claims.items) _ c.in-Some.ensures.found
    (ap (map f) (filter-front is_name_tree k (drop (c.loop-i.i + 1) c.args.kids.now)) ∙ map-append f (filter is_name_tree (k ∷ [])) _)
    c.in_ok-take_name.ensures c.loop-i.invariant
