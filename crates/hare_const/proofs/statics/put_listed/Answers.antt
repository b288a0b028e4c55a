use Rattle.std.proofs.Common.{◌∙◌, ◌≤◌, ◌++◌, ◌∷◌, [], sym, ap, length, arith}
use Rattle.hare_typed.specs.ConstantValues.{objects_of}
use Rattle.hare_typed.specs.Coherent.{held}
use Rattle.hare_const.proofs.StaticLemmas.{listed_more, listed_all}
use Rattle.hare_const.proofs.statics.put_listed.Goals as goal

pub loop-i-preserved : goal.loop-i-preserved
loop-i-preserved c =
    listed_more c.in-Known.listed c.loop-i.i c.in-Some.o.now c.args.objects.now c.loop-i.objects c.push.new.self (sym c.in-Some.ensures)
    c.loop-i.invariant
    (c.in_ok-push.ensures.ok
    ∙ ap (λ cs. c.loop-i.objects ++ record { object = c.in-Some.o.now.object; cells = cs } ∷ [])
    c.in_ok-cells.ensures)

pub returns : goal.returns
returns c =
    let past : length c.in-Known.listed ≤ c.loop-i.i = omega arith in
    listed_all c.in-Known.listed c.loop-i.i c.args.objects.now c.loop-i.objects past c.loop-i.invariant
    ∙ ap (λ v. c.args.objects.now ++ held (objects_of v)) (sym c.in-Known.is)
