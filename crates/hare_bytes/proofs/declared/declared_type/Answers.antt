use Rattle.std.proofs.lemmas.Result.{IfOk-weaker}
use Rattle.hare_bytes.proofs.ByteLemmas.{declared-written, declared-default}
use Rattle.hare_bytes.proofs.declared.declared_type.Goals as goal

pub returns-then-is_there : goal.returns-then-is_there
returns-then-is_there c =
    IfOk-weaker c.written_type.result _ _
    (λ t e. declared-written c.args.s.now _ _ c.decl.inside.kids c.args.decl.now c.decl.view_is c.in-Some.written.now
    c.in-Some-get.value.now c.in-Some.ensures.found c.in-Some-get.ensures.found _ _ _ c.written.view_is
    c.is_there.result c.is_there.ensures t c.if-is_there.true e)
    c.written_type.ensures

pub returns-else-is_there : goal.returns-else-is_there
returns-else-is_there c =
    IfOk-weaker c.default_of.result _ _
    (λ t e. declared-default c.args.s.now _ _ c.decl.inside.kids c.args.decl.now c.decl.view_is c.in-Some.written.now
    c.in-Some-get.value.now c.in-Some.ensures.found c.in-Some-get.ensures.found _ _ _ c.written.view_is
    c.is_there.result c.is_there.ensures t c.if-is_there.false e)
    c.default_of.ensures
