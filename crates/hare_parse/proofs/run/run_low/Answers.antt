use Rattle.std.proofs.Common.{refl, rules, arith}
use Rattle.std.proofs.lemmas.Grind.{common_steps}
use Rattle.hare_automaton.specs.Engine.{run}
use Rattle.hare_ll_table.proofs.SeenTokens.Joining.{joined_past}
use Rattle.hare_ll_table.proofs.SeenTokens.Places.{place_further}
use Rattle.hare_parse.proofs.run.run_low.Goals as goal

pub returns-clause-value : goal.returns-clause-value
unfolding run
returns-clause-value c =
    let e = joined_past c.args.tokens.now c.loop-token.at c.in_default.ensures in
    rw (c.loop-token.invariant.same, e) refl

pub loop-token-preserved : goal.loop-token-preserved
unfolding run
loop-token-preserved c =
    let r = c.in_ok-read.ensures in
    record {
      same = first_of (search rules, grind (arith, common_steps));
      place = place_further c.args.tokens.now 0 c.loop-token.at c.in_ok-read.read.next r.token c.loop-token.invariant.place r.begins;
    }
