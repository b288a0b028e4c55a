use Rattle.std.proofs.Common.{sym, ◌∙◌}
use Rattle.std.proofs.lemmas.Result.{IfOk-weaker}
use Rattle.hare_rules.specs.Context.{store_of}
use Rattle.rule_judge.proofs.KidLemmas.{own_defined}
use Rattle.hare_find.proofs.BindingsSeen.Known.{valued_binding}
use Rattle.hare_find.proofs.bindings.binding_type.Goals as goal

pub default_in-requires : goal.default_in-requires
default_in-requires c = rw c.type_at-value.ensures (own_defined c.args.s.now c.args.kids.now 1 c.requires)

pub returns-clause-value : goal.returns-clause-value
returns-clause-value c =
    IfOk-weaker c.default_in.result _ _
    (λ o h x l e k.
    valued_binding x c.args.kids.now c.type_at-value.result o e k (sym c.is_there.ensures ∙ c.if-is_there.false) c.type_at-value.ensures
    (h (store_of x) l)) c.default_in.ensures.value

pub returns-then-is_there-clause-defined : goal.returns-then-is_there-clause-defined
returns-then-is_there-clause-defined c =
    c.id_in.ensures.defined c.args.s.now (rw c.type_at-written.ensures (own_defined c.args.s.now c.args.kids.now 0 c.requires))
