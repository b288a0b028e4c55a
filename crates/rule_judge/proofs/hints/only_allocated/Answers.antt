use Rattle.std.proofs.Common.{ℕ, sym, ◌∙◌, subst}
use Rattle.std.specs.Prelude.{Option, IfSome}
use Rattle.hare_rules.specs.Words.{is_allocated}
use Rattle.rule_judge.specs.Defined.{IsDefined}
use Rattle.rule_judge.proofs.HintLemmas.{one_with-found, one_with-other}
use Rattle.rule_judge.proofs.hints.only_allocated.Goals as goal
use Rattle.rule_judge.proofs.hints.only_allocated.Goals.{then-is_allocated+in-None, else-is_allocated}

pub is_allocated-requires : goal.is_allocated-requires
is_allocated-requires c = c.requires c.t-item.result (c.loop-t.t-index, c.loop-t-test.true, sym c.t-item.is)

pub loop-t-preserved : goal.loop-t-preserved
loop-t-preserved c =
    elim c.if-is_allocated.branch [
      | then-is_allocated+in-None w ↦ record {
        defined = subst (λ (o : Option ℕ). IfSome o (IsDefined c.args.s.now)) (sym w.found-is)
            (c.requires c.t-item.result (c.loop-t.t-index, c.loop-t-test.true, sym c.t-item.is));
        rest = λ f l.
            one_with-found (is_allocated f) c.args.types.now c.loop-t.t-index c.t-item.result c.loop-t.found _ _ c.loop-t-test.true
            c.t-item.is (sym w.if-is_allocated.true ∙ c.is_allocated.ensures f l) w.in-None.is w.found-is (c.loop-t.invariant.rest f l);
      }
      | else-is_allocated w ↦ record {
        defined = subst (λ (o : Option ℕ). IfSome o (IsDefined c.args.s.now)) (sym w.found-is) c.loop-t.invariant.defined;
        rest = λ f l.
            one_with-other (is_allocated f) c.args.types.now c.loop-t.t-index c.t-item.result c.loop-t.found _ _ c.loop-t-test.true
            c.t-item.is (sym w.if-is_allocated.false ∙ c.is_allocated.ensures f l) w.found-is (c.loop-t.invariant.rest f l);
      }
    ]
