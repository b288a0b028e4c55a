use Rattle.std.proofs.Common.{[], ◌∷◌, map, filter, true, sym, ap, ◌∙◌, append-nil}
use Rattle.hare_modules.specs.Uses.{kids, last_of, is_name_tree}
use Rattle.hare_modules.specs.Takings.{taking, named, import_taker}
use Rattle.hare_modules.proofs.Trees.{kids-seen}
use Rattle.hare_modules.proofs.CollectLemmas.{took, whole-is, brought-plain, brought-others}
use Rattle.hare_modules.proofs.claims.take_names.Goals as goal

pub returns-in_default : goal.returns-in_default
returns-in_default c =
    let old = map taking c.args.claims.now.items in
    let seen = ap (λ t. last_of (kids t)) (sym c.path_in-path.ensures) ∙ ap last_of (kids-seen _ _ _ c.path.view_is) ∙
    c.in_default.ensures.none in
    took (λ w. named c.args.spot.file c.args.spot.home (import_taker c.args.number w)) old old c.is_braced-whole.result _ [] _
    (sym (append-nil old))
    (whole-is _ _ _ c.u.view_is c.is_braced-whole.result c.is_braced-whole.ensures)
    (brought-plain _ _ _ c.u.view_is (sym c.is_plain.ensures ∙ c.if-is_plain.true) ∙ seen)

pub returns-then-is_plain : goal.returns-then-is_plain
returns-then-is_plain c =
    let old = map taking c.args.claims.now.items in
    let seen = ap (λ t. last_of (kids t)) (sym c.path_in-path.ensures) ∙ ap last_of (kids-seen _ _ _ c.path.view_is) ∙
    c.in-Some.ensures.found in
    took (λ w. named c.args.spot.file c.args.spot.home (import_taker c.args.number w)) old (map taking c.take.new.claims.items)
    c.is_braced-whole.result _ (c.in-Some.name.now ∷ []) _ c.in_ok-take.ensures
    (whole-is _ _ _ c.u.view_is c.is_braced-whole.result c.is_braced-whole.ensures)
    (brought-plain _ _ _ c.u.view_is (sym c.is_plain.ensures ∙ c.if-is_plain.true) ∙ seen)

pub returns-then-is_braced : goal.returns-then-is_braced
returns-then-is_braced c =
    let old = map taking c.args.claims.now.items in
    took (λ w. named c.args.spot.file c.args.spot.home (import_taker c.args.number w)) old (map taking c.take_members.new.claims.items)
    c.is_braced-whole.result _ (filter is_name_tree c.u.inside.kids) _ c.in_ok-take_members.ensures
    (whole-is _ _ _ c.u.view_is c.is_braced-whole.result c.is_braced-whole.ensures)
    (brought-others _ _ _ c.u.view_is true (sym c.is_plain.ensures ∙ c.if-is_plain.false) (sym c.is_alias.ensures ∙ c.if-is_alias.false)
    (sym c.is_braced.ensures ∙ c.if-is_braced.true) ∙ ap (filter is_name_tree) (kids-seen _ _ _ c.u.view_is))
