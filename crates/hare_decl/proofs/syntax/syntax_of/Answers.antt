use Rattle.std.proofs.Common.{rules, arith, ◌≡◌, ◌≤◌, ◌++◌, drop}
use Rattle.std.proofs.lemmas.Grind.{common_steps}
use Rattle.hare_tree.specs.Grammar.{joined}
use Rattle.hare_automaton.specs.Engine.{Done, run, bottom}
use Rattle.hare_automaton.specs.OneTree.{file_symbols}
use Rattle.hare_parse.specs.Files.{HaveSorts, file_made}
use Rattle.hare_parse.proofs.Kids.Heights.{high}
use Rattle.hare_decl.proofs.SourceTrees.Low.{low_files}
use Rattle.hare_decl.proofs.RunOutcomes.Over.{low_whole}
use Rattle.hare_decl.proofs.syntax.syntax_of.Goals as goal

pub returns-in-Some-clause-value : goal.returns-in-Some-clause-value
returns-in-Some-clause-value c =
    let ts = c.args.tokens.now in
    let uses = c.in-Some.field-0.uses in
    let decls = c.in-Some.field-0.decls in
    let n = c.in-Some.field-0.next in
    let read : run c.args.file (joined ts) file_symbols bottom ≡ Done (joined (drop n ts)) (file_made uses decls) =
    first_of (search rules, grind (arith, common_steps)) in
    let sorts : HaveSorts uses decls = first_of (search rules, grind (arith, common_steps)) in
    let low : high (uses ++ decls) ≤ 256 = first_of (search rules, grind (arith, common_steps)) in
    low_whole c.args.file ts uses decls n (record { run_is = read; sorts = sorts; limits = low_files c.args.file uses decls low })
    (c.is_last_end.ensures c.if-is_last_end.true)
