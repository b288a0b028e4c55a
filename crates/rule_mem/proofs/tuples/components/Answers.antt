use Rattle.std.proofs.Common.{ℕ, List, subst}
use Rattle.std.specs.Prelude.{Contains}
use Rattle.hare_types.proofs.LaterLemmas.{later_trans}
use Rattle.hare_rules.specs.Aggregates.{but_last}
use Rattle.rule_mem.proofs.TupleLemmas.{components-own}
use Rattle.rule_mem.proofs.ItemLemmas.{met-hinted, met-own}
use Rattle.rule_mem.proofs.tuples.components.Goals as goal

pub returns-in_ok-copy-in-Some-clause-defined : goal.returns-in_ok-copy-in-Some-clause-defined
returns-in_ok-copy-in-Some-clause-defined c i h =
    c.in-Some.ensures.defined i (subst (λ (xs : List ℕ). Contains xs i) c.in_ok-copy-in-Some.ensures h)

pub returns-in_ok-own-in-None-clause-value : goal.returns-in_ok-own-in-None-clause-value
returns-in_ok-own-in-None-clause-value c f l =
    components-own f c.args.t.now.case.now.hint (but_last c.args.t.now.kids.now) c.item_count.result c.in_ok-own-in-None.own
    (c.in-None.ensures.value f (later_trans c.args.s.now c.defaults.new.s f c.defaults.ensures.grown.later l)) c.item_count.ensures
    (c.in_ok-own-in-None.ensures.value f l)

pub returns-in_ok-copy-in-Some-clause-there : goal.returns-in_ok-copy-in-Some-clause-there
returns-in_ok-copy-in-Some-clause-there c f l =
    met-hinted f c.args.t.now.case.now.hint c.item_count.result _ c.in-Some.types.now _ (c.in-Some.ensures.value f l) c.item_count.ensures

pub returns-in_ok-own-in-None-clause-there : goal.returns-in_ok-own-in-None-clause-there
returns-in_ok-own-in-None-clause-there c f l =
    met-own f c.args.t.now.case.now.hint c.item_count.result _ _ _ (c.in-None.ensures.value f l) c.item_count.ensures
    c.in_ok-own-in-None.ensures.there
