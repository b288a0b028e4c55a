use Rattle.std.proofs.Common.{refl}
use Rattle.rule_judge.specs.Turns.{context_in}
use Rattle.rule_judge.proofs.YieldLemmas.{end_void}
use Rattle.rule_judge.proofs.yields.end_word.Goals as goal

pub returns-then-is_open : goal.returns-then-is_open
returns-then-is_open c f l = end_void (context_in f c.args.t.now) c.args.t.now.case.now.yields refl c.if-not-is_empty.ensures
    (c.if-is_open.ensures f l)
