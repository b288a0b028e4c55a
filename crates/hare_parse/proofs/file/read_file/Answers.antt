use Rattle.std.proofs.Common.{rules, arith, ◌≡◌, drop}
use Rattle.std.proofs.lemmas.Grind.{common_steps}
use Rattle.hare_tree.specs.Grammar.{joined}
use Rattle.hare_automaton.specs.Engine.{Done, run, bottom}
use Rattle.hare_automaton.specs.OneTree.{file_symbols}
use Rattle.hare_parse.proofs.MadeTrees.Made.{holds_file, file_read}
use Rattle.hare_ll_table.proofs.SeenTokens.Places.{place_from_start}
use Rattle.hare_parse.proofs.file.read_file.Goals as goal

pub trees_in-requires : goal.trees_in-requires
trees_in-requires c =
    let ts = joined c.args.tokens.now in
    let rest = joined (drop c.in-End.next c.args.tokens.now) in
    let e : run c.args.file ts file_symbols bottom ≡ Done rest c.run.new.groups = first_of (search rules, grind (arith, common_steps)) in
    holds_file c.args.file ts rest c.run.new.groups e

pub returns-in-End-clause-run : goal.returns-in-End-clause-run
returns-in-End-clause-run c =
    let ts = joined c.args.tokens.now in
    let rest = joined (drop c.in-End.next c.args.tokens.now) in
    let p = c.in_ok-uses-in-End in
    let e : run c.args.file ts file_symbols bottom ≡ Done rest c.run.new.groups = first_of (search rules, grind (arith, common_steps)) in
    (file_read c.args.file ts rest c.run.new.groups p.field-0.uses p.field-0.decls c.trees_in.result.items e c.trees_in.ensures
    p.ensures.uses p.ensures.decls).0

pub returns-in-End-clause-sorts : goal.returns-in-End-clause-sorts
returns-in-End-clause-sorts c =
    let ts = joined c.args.tokens.now in
    let rest = joined (drop c.in-End.next c.args.tokens.now) in
    let p = c.in_ok-uses-in-End in
    let e : run c.args.file ts file_symbols bottom ≡ Done rest c.run.new.groups = first_of (search rules, grind (arith, common_steps)) in
    (file_read c.args.file ts rest c.run.new.groups p.field-0.uses p.field-0.decls c.trees_in.result.items e c.trees_in.ensures
    p.ensures.uses p.ensures.decls).1

pub returns-in-End-clause-place : goal.returns-in-End-clause-place
returns-in-End-clause-place c = place_from_start c.args.tokens.now c.in-End.next (rw c.in-End.is at c.in_ok-next.ensures.place)

pub returns-clause-place : goal.returns-clause-place
returns-clause-place c = place_from_start c.args.tokens.now c.in-Stuck.next (rw c.in-Stuck.is at c.in_ok-next.ensures.place)
