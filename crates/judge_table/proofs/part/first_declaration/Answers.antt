use Rattle.judge_table.proofs.ShapedLemmas.{first-shaped}
use Rattle.judge_table.proofs.part.first_declaration.Goals as goal

pub returns-in-Some : goal.returns-in-Some
returns-in-Some c = first-shaped c.args.file.now c.in-Some.tree.now c.requires c.in-Some.ensures.found
