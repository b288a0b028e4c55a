use Rattle.hare_names.specs.Answers.{meaning_in}
use Rattle.hare_declare.proofs.TypesSeen.SeenTrees.{marked-seen}
use Rattle.hare_declare.proofs.seen.+size_seen.Goals as goal

pub returns-in-Some : goal.returns-in-Some
returns-in-Some t c =
    marked-seen c.args.count (meaning_in c.args.names.now) _ _ c.args.t.now _ _ c.t.view_is c.in-TypeError.is c.in-Some.ensures.found
    c.size_seen.ensures
