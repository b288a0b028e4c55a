use Rattle.std.proofs.Common.{refl, ap, sym, ◌∙◌}
use Rattle.std.proofs.lemmas.Result.{IfOk-weaker}
use Rattle.hare_types.proofs.LaterLemmas.{later_trans}
use Rattle.hare_rules.specs.Words.{word_id}
use Rattle.rule_judge.specs.Turns.{context_in}
use Rattle.rule_judge.proofs.YieldLemmas.{joined_some, joined_none}
use Rattle.rule_judge.proofs.yields.joined_yields.Goals as goal

pub returns-in-Some-clause-value : goal.returns-in-Some-clause-value
returns-in-Some-clause-value c =
    IfOk-weaker c.default_in.result _ _
    (λ o h f l.
    joined_some f (context_in f c.args.t.now) c.args.t.now.case.now.yields refl c.in-Some.a o
    (c.in-Some.ensures.value f (later_trans c.args.s.now c.default_in.new.s f c.default_in.ensures.grown.later l)) (h f l))
    c.default_in.ensures.value

pub returns-in_ok-word-in-None-clause-value : goal.returns-in_ok-word-in-None-clause-value
returns-in_ok-word-in-None-clause-value c f l =
    let before = later_trans c.args.s.now c.word.new.s f c.word.ensures.grown.later l in
    joined_none f (context_in f c.args.t.now) c.args.t.now.case.now.yields refl c.in_ok-word-in-None.field-0
    (c.in-None.ensures.value f before)
    (ap (word_id f) (sym (c.end_word-k.ensures f before)) ∙ c.in_ok-word-in-None.ensures.id f l)
