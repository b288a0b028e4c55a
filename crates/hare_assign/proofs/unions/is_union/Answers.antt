use Rattle.std.proofs.Common.{ap, ◌∙◌}
use Rattle.hare_types.specs.Rows.{tree_of, trees}
use Rattle.hare_assign.proofs.MemberLemmas.{IsUnion-type}
use Rattle.hare_assign.proofs.unions.is_union.Goals as goal

pub joins-requires-clause-union : goal.joins-requires-clause-union
joins-requires-clause-union c = IsUnion-type c.args.s.now c.in-Some.b _ c.in-Some.ensures.within
    (c.row_of.ensures.tree ∙ ap (tree_of (trees c.args.s.now.rows)) c.in-Union.is)
