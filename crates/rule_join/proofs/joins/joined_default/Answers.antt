use Rattle.std.proofs.Common.{ap, sym, ◌∙◌, is_some}
use Rattle.hare_types.proofs.LaterLemmas.{later_trans}
use Rattle.hare_rules.specs.Words.{word_id}
use Rattle.rule_join.proofs.TogetherLemmas.{joined_some, joined_none, there_some, there_none}
use Rattle.rule_join.proofs.joins.joined_default.Goals as goal

pub returns-in_ok-d-in-Some-clause-value : goal.returns-in_ok-d-in-Some-clause-value
returns-in_ok-d-in-Some-clause-value c f l =
    joined_some f c.args.v c.args.t.now c.in-Some.y c.in_ok-d-in-Some.d
    (c.in-Some.ensures.value f (later_trans c.args.s.now c.default_in.new.s f c.default_in.ensures.grown.later l))
    (c.in_ok-d-in-Some.ensures.value f l)

pub returns-in_ok-d-in-Some-clause-there : goal.returns-in_ok-d-in-Some-clause-there
returns-in_ok-d-in-Some-clause-there c f l =
    there_some f c.args.v c.args.t.now c.in-Some.y (is_some c.in_ok-d-in-Some.d)
    (c.in-Some.ensures.value f (later_trans c.args.s.now c.default_in.new.s f c.default_in.ensures.grown.later l))
    c.in_ok-d-in-Some.ensures.there

pub returns-in_ok-made-in-None-clause-value : goal.returns-in_ok-made-in-None-clause-value
returns-in_ok-made-in-None-clause-value c f l =
    let before = later_trans c.args.s.now c.word.new.s f c.word.ensures.grown.later l in
    joined_none f c.args.v c.args.t.now c.in_ok-made-in-None.made (c.in-None.ensures.value f before)
    (ap (word_id f) (sym (c.end_word-k.ensures f before)) ∙ c.in_ok-made-in-None.ensures.id f l)

pub returns-in_ok-made-in-None-clause-there : goal.returns-in_ok-made-in-None-clause-there
returns-in_ok-made-in-None-clause-there c f l =
    there_none f c.args.v c.args.t.now (c.in-None.ensures.value f (later_trans c.args.s.now c.word.new.s f c.word.ensures.grown.later l))
