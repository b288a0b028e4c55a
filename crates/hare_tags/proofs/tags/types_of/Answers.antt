use Rattle.std.proofs.Common.{refl, false, ap, ◌∙◌, ◌++◌}
use Rattle.std.specs.Prelude.{flat_map}
use Rattle.hare_typed.specs.Typed.{typed_nodes}
use Rattle.hare_whole.specs.Tags.{written_among}
use Rattle.hare_tags.specs.Lists.{body_types}
use Rattle.hare_tags.proofs.ListLemmas.{one-more}
use Rattle.hare_tags.proofs.TreeLemmas.{written-all}
use Rattle.hare_tags.proofs.tags.types_of.Goals as goal

pub loop-i-init : goal.loop-i-init
loop-i-init c =
    let s = c.args.s.now in
    let ds = c.args.decls.now in
    ap (λ us. us ++ flat_map (body_types s) ds) (c.in_ok-push_written_among.ensures
    ∙ ap (λ us. us ++ written_among s false (typed_nodes ds)) c.new-types.ensures.items ∙ written-all s ds)

pub loop-i-preserved : goal.loop-i-preserved
loop-i-preserved c =
    let s = c.args.s.now in
    one-more (body_types s) (flat_map (body_types s)) (λ x xs. refl) _ _ _ c.args.decls.now c.loop-i.i c.in-Some.decl.now
    c.in-Some.ensures.found c.in_ok-push_body.ensures c.loop-i.invariant
