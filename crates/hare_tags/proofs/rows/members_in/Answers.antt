use Rattle.hare_typed.proofs.GivenLemmas.{base_within}
use Rattle.hare_tags.proofs.rows.members_in.Goals as goal

pub row-requires : goal.row-requires
row-requires c = base_within c.args.s.now _ c.in_ok-b.b c.in_ok-b.ensures.some
