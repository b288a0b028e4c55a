use Rattle.std.proofs.Common.{◌++◌, map, not, refl, ap, ◌∙◌}
use Rattle.std.specs.List.{flat_map}
use Rattle.hare_tree.specs.Node.{head}
use Rattle.hare_modules.specs.Uses.{names_brought, is_braced}
use Rattle.hare_modules.specs.Takings.{taking, use_takings, named, import_taker}
use Rattle.hare_modules.proofs.CollectLemmas.{one_on}
use Rattle.hare_modules.proofs.claims.take_imports.Goals as goal

pub loop-i-preserved : goal.loop-i-preserved
loop-i-preserved c =
    let u = c.in-Some.u.now in
    one_on (flat_map (use_takings c.args.known.now c.args.spot.file c.args.spot.home)) c.args.uses.now c.loop-i.i u
    (use_takings c.args.known.now c.args.spot.file c.args.spot.home u) (map taking c.loop-i.claims.items)
    (map taking c.take_names.new.claims.items) _ c.in-Some.ensures.found refl
    (c.in_ok-take_names.ensures ∙ ap (λ n. map taking c.loop-i.claims.items ++ map
    (named c.args.spot.file c.args.spot.home (import_taker n (not (is_braced (head u).kind)))) (names_brought u))
    c.in_ok-number.ensures)
    c.loop-i.invariant
