use Rattle.std.proofs.Common.{List, ap, sym, ◌∙◌}
use Rattle.hare_types.specs.declared.coercion.Coercion.{Coercion}
use Rattle.hare_typed.specs.Numbers.{number_of}
use Rattle.hare_rules.specs.Flow.{Flow}
use Rattle.hare_find.specs.Settling.{option_in}
use Rattle.hare_find.proofs.Verdicts.Written.{one_written, option_moves}
use Rattle.hare_find.proofs.settle.settle_kid.Goals as goal

pub returns-then-settling-clause-seen : goal.returns-then-settling-clause-seen
returns-then-settling-clause-seen c =
    let f = c.args.seen.now in
    let k = c.args.settling.now in
    let r : Coercion = k.coercion in
    let w = one_written c.args.kids.now c.args.i c.kid.inside.node c.in-Some.kid.now (option_in k) r f.coercions
    c.in-Some.ensures.found (sym (ap number_of c.kid.view_is)) (option_moves k c.if-settling.true) in
    c.settle.ensures
    ∙ ap (λ (cs : List Coercion). let g : Flow = record { locals = f.locals; yields = f.yields; coercions = cs; late = f.late } in g) w
