use Rattle.std.proofs.Common.{refl, ap, ◌∙◌, ◌++◌, drop, rules, arith}
use Rattle.std.proofs.lemmas.Grind.{common_steps}
use Rattle.hare_tree.specs.Grammar.{joined}
use Rattle.hare_automaton.specs.Engine.{run}
use Rattle.hare_ll_table.specs.Seen.{waited}
use Rattle.hare_parse.proofs.ClosedRun.Onward.{run_on}
use Rattle.hare_ll_table.proofs.SeenTokens.Joining.{joined_past}
use Rattle.hare_ll_table.proofs.SeenTokens.Places.{place_further}
use Rattle.hare_parse.proofs.run.run.Goals as goal

pub returns-clause-value : goal.returns-clause-value
unfolding run
returns-clause-value c =
    let e = joined_past c.args.tokens.now c.loop-token.at c.in_default.ensures in
    rw (c.loop-token.invariant.same, e) refl

pub loop-token-preserved : goal.loop-token-preserved
unfolding run
loop-token-preserved c =
    let r = c.in_ok-read.ensures in
    record {
      same = first_of (search rules, grind (arith, common_steps));
      place = place_further c.args.tokens.now c.args.from c.loop-token.at c.in_ok-read.read.next r.token c.loop-token.invariant.place
          r.begins;
      onward = λ us. c.loop-token.invariant.onward us ∙ ap (λ y. run c.args.file (y ++ us) (waited c.loop-token.stack) c.loop-token.groups)
          r.begins.joins ∙ run_on c.args.file r.token (joined (drop c.in_ok-read.read.next c.args.tokens.now) ++ us)
          (waited c.loop-token.stack) (waited c.read_at.new.stack) c.loop-token.groups c.read_at.new.groups
          (first_of (search rules, grind (arith, common_steps)));
    }
