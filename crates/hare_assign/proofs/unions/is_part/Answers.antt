use Rattle.std.proofs.Common.{ap, ◌∙◌}
use Rattle.hare_types.specs.Rows.{tree_of, trees}
use Rattle.hare_assign.proofs.MemberLemmas.{IsUnion-type, is_part-subset}
use Rattle.hare_assign.proofs.unions.is_part.Goals as goal

pub subset-requires-clause-first : goal.subset-requires-clause-first
subset-requires-clause-first c = IsUnion-type c.args.s.now c.in-Some.b _ c.in-Some.ensures.within
    (c.row_of.ensures.tree ∙ ap (tree_of (trees c.args.s.now.rows)) c.in-Union.is)

pub returns-in-Union : goal.returns-in-Union
returns-in-Union c =
    is_part-subset c.args.s.now c.args.from.now c.in-Of.f c.in-Some.b c.args.union _ c.subset.result c.in-Of.is c.in-Some.ensures.value
    (c.row_of.ensures.tree ∙ ap (tree_of (trees c.args.s.now.rows)) c.in-Union.is)
    c.in-Some.ensures.within c.requires.union c.subset.ensures
