use Rattle.std.proofs.Common.{rules, arith, ◌≡◌, drop}
use Rattle.std.proofs.lemmas.Grind.{common_steps}
use Rattle.hare_tree.specs.Grammar.{joined}
use Rattle.hare_automaton.specs.Engine.{Done, run, bottom}
use Rattle.hare_automaton.specs.OneTree.{file_symbols}
use Rattle.hare_ll_table.specs.Places.{IsPlace}
use Rattle.hare_ll_table.proofs.SeenTokens.Places.{place_from_start}
use Rattle.hare_parse.proofs.MadeTrees.Made.{holds_file}
use Rattle.hare_parse.proofs.file.read_low_file.Goals as goal

pub low_parts-requires : goal.low_parts-requires
low_parts-requires c =
    let ts = joined c.args.tokens.now in
    let rest = joined (drop c.in-Some-End.next c.args.tokens.now) in
    let e : run c.args.file ts file_symbols bottom ≡ Done rest c.run_low.new.groups =
    first_of (search rules, grind (arith, common_steps)) in
    holds_file c.args.file ts rest c.run_low.new.groups e

pub returns-in-Some-clause-place : goal.returns-in-Some-clause-place
returns-in-Some-clause-place c =
    let p : IsPlace c.args.tokens.now 0 c.in-Some-End.next = first_of (search rules, grind (arith, common_steps)) in
    place_from_start c.args.tokens.now c.in-Some-End.next p
