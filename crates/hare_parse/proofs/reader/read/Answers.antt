use Rattle.std.proofs.Common.{rules, arith, ◌≡◌, ◌<◌, ◌≤◌, [], ◌∷◌, length, drop, ap, ◌∙◌, true, false}
use Rattle.std.proofs.lemmas.Bool.Decides.{nat_tests}
use Rattle.std.proofs.lemmas.Grind.{common_steps}
use Rattle.hare_tree.specs.Grammar.{joined}
use Rattle.hare_automaton.specs.Rows.{of}
use Rattle.hare_automaton.specs.Engine.{Done, Fails, run, bottom}
use Rattle.hare_ll_table.specs.Seen.{waited}
use Rattle.hare_nesting.specs.Depth.{closed}
use Rattle.hare_parse.specs.Runs.{outcome_at_end, IsUsedUp}
use Rattle.hare_parse.proofs.MadeTrees.Made.{holds_tree}
use Rattle.hare_parse.proofs.ClosedRun.AtEnd.{done_closed, fails_closed, used_closed, is_used_up}
use Rattle.hare_parse.proofs.reader.read.Goals as goal

pub tree_in-requires : goal.tree_in-requires
tree_in-requires c =
    let e : run c.args.file (joined (drop c.args.at c.args.tokens.now)) (of c.args.sort ∷ []) bottom ≡
    Done (joined (drop c.in-End.next c.args.tokens.now)) c.run.new.groups = first_of (search rules, grind (arith, common_steps)) in
    holds_tree c.args.sort c.args.file (joined (drop c.args.at c.args.tokens.now)) (joined (drop c.in-End.next c.args.tokens.now))
    c.run.new.groups e

pub returns-in-End-clause-run : goal.returns-in-End-clause-run
returns-in-End-clause-run c =
    let e : run c.args.file (joined (drop c.args.at c.args.tokens.now)) (of c.args.sort ∷ []) bottom ≡
    Done (joined (drop c.in-End.next c.args.tokens.now)) c.run.new.groups = first_of (search rules, grind (arith, common_steps)) in
    done_closed c.args.file c.args.tokens.now c.in-End.next (drop c.args.at c.args.tokens.now) (of c.args.sort ∷ []) c.run.new.groups e ∙ ap
    (Done (joined (closed (drop c.in-End.next c.args.tokens.now)))) c.tree_in.ensures

pub returns-in-Stuck-clause-run : goal.returns-in-Stuck-clause-run
returns-in-Stuck-clause-run c =
    let n = c.in-Stuck.next in
    let h : n < length c.args.tokens.now = grind (arith, common_steps, nat_tests) in
    let e : run c.args.file (joined (drop c.args.at c.args.tokens.now)) (of c.args.sort ∷ []) bottom ≡
    Fails (joined (drop n c.args.tokens.now)) = first_of (search rules, grind (arith, common_steps)) in
    fails_closed c.args.file c.args.tokens.now n (drop c.args.at c.args.tokens.now) (of c.args.sort ∷ []) h e

pub returns-then-branch-clause-run : goal.returns-then-branch-clause-run
returns-then-branch-clause-run c =
    let n = c.in-Stuck.next in
    let h : length c.args.tokens.now ≤ n = grind (arith, common_steps, nat_tests) in
    let u : IsUsedUp c.in_ok-next.field-0 c.args.tokens.now = is_used_up c.in_ok-next.field-0 n c.args.tokens.now c.in-Stuck.is h in
    let a : run c.args.file (closed []) (waited c.run.new.stack) c.run.new.groups ≡ outcome_at_end true c.ends.new.groups =
    c.in_ok-ends-in-Stuck-2.ensures ∙ ap (λ b. outcome_at_end b c.ends.new.groups) c.if-branch.true in
    used_closed c.args.file c.args.tokens.now n (drop c.args.at c.args.tokens.now) (of c.args.sort ∷ []) (waited c.run.new.stack)
    c.run.new.groups true c.ends.new.groups h (first_of (search rules, grind (arith, common_steps))) a ∙ ap
    (Done (joined (closed (drop n c.args.tokens.now)))) c.tree_in-then-branch.ensures

pub tree_in-requires-then-branch : goal.tree_in-requires-then-branch
tree_in-requires-then-branch c =
    let n = c.in-Stuck.next in
    let h : length c.args.tokens.now ≤ n = grind (arith, common_steps, nat_tests) in
    let u : IsUsedUp c.in_ok-next.field-0 c.args.tokens.now = is_used_up c.in_ok-next.field-0 n c.args.tokens.now c.in-Stuck.is h in
    let a : run c.args.file (closed []) (waited c.run.new.stack) c.run.new.groups ≡ outcome_at_end true c.ends.new.groups =
    c.in_ok-ends-in-Stuck-2.ensures ∙ ap (λ b. outcome_at_end b c.ends.new.groups) c.if-branch.true in
    let e = used_closed c.args.file c.args.tokens.now n (drop c.args.at c.args.tokens.now) (of c.args.sort ∷ []) (waited c.run.new.stack)
    c.run.new.groups true c.ends.new.groups h (first_of (search rules, grind (arith, common_steps))) a in
    holds_tree c.args.sort c.args.file (joined (closed (drop c.args.at c.args.tokens.now))) (joined (closed (drop n c.args.tokens.now)))
    c.ends.new.groups e

pub returns-clause-run : goal.returns-clause-run
returns-clause-run c =
    let n = c.in-Stuck.next in
    let h : length c.args.tokens.now ≤ n = grind (arith, common_steps, nat_tests) in
    let a : run c.args.file (closed []) (waited c.run.new.stack) c.run.new.groups ≡ outcome_at_end false c.ends.new.groups =
    c.in_ok-ends-in-Stuck-2.ensures ∙ ap (λ b. outcome_at_end b c.ends.new.groups) c.if-branch.false in
    used_closed c.args.file c.args.tokens.now n (drop c.args.at c.args.tokens.now) (of c.args.sort ∷ []) (waited c.run.new.stack)
    c.run.new.groups false c.ends.new.groups h (first_of (search rules, grind (arith, common_steps))) a
