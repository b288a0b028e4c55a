use Rattle.std.proofs.Common.{ap, sym, ◌∙◌, ◌++◌, map}
use Rattle.std.proofs.lemmas.Result.{on_ok_weaker}
use Rattle.hare_rules.specs.Control.{block_values}
use Rattle.hare_rules.specs.Settles.{to_type, joined_target}
use Rattle.rule_judge.specs.Turns.{context_in}
use Rattle.rule_judge.proofs.DefinedLemmas.{yields_stay, coercions_stay}
use Rattle.rule_judge.proofs.YieldLemmas.{unhinted}
use Rattle.rule_judge.proofs.yields.add_yields.Goals as goal

pub put_yields-requires-clause-yields : goal.put_yields-requires-clause-yields
put_yields-requires-clause-yields c = yields_stay c.args.s.now c.yield_target.new.s c.declarations-law.ensures.sound
    c.yield_target.ensures.grown.later c.args.t.now.case.now.yields c.requires.turn.yields

pub put_yields-requires-clause-defined : goal.put_yields-requires-clause-defined
put_yields-requires-clause-defined c = coercions_stay c.args.s.now c.yield_target.new.s c.declarations-law.ensures.sound
    c.yield_target.ensures.grown.later c.args.coercions.now c.requires.defined

pub returns-clause-value : goal.returns-clause-value
returns-clause-value c =
    on_ok_weaker c.put_yields.result
    (λ h f l.
    let w = c.args.t.now.case.now in
    let o = joined_target f w.hint (block_values (context_in f c.args.t.now)) in
    h f l ∙ ap (λ p. c.args.coercions.now ++ map (λ y. to_type f y.ty p) w.yields) (c.in_ok-to.ensures.value f l)
    ∙ ap (λ rs. c.args.coercions.now ++ rs) (sym (unhinted f w.hint o w.yields (sym c.if-is_type_hint.ensures))))
    c.put_yields.ensures.value
