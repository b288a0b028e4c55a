use Rattle.std.proofs.Common.{◌≡◌, ◌+◌, [], ap, sym, ◌∙◌, subst, arith, drop}
use Rattle.hare_types.specs.Rows.{Ascends}
use Rattle.hare_layout.specs.Members.{all_among}
use Rattle.hare_layout.proofs.OrderLemmas.{Ascends-drop, drop-next, drop-past, pass-end}
use Rattle.hare_layout.proofs.members.all_among.Goals as goal

pub loop-u-preserved : goal.loop-u-preserved
loop-u-preserved c =
    let next = drop-next c.loop-u.u-index c.u-item.result c.args.others.now c.loop-u-test.true c.u-item.is in
    let ascend = subst Ascends next (Ascends-drop c.loop-u.u-index c.args.others.now c.requires.others) in
    record {
      within = c.met_with-met.ensures.within;
      value = sym (c.met_with-met.ensures.value (drop (c.loop-u.u-index + 1) c.args.others.now) ascend) ∙ sym
          (ap (all_among (drop c.loop-u.met c.args.types.now)) next) ∙ c.loop-u.invariant.value;
    }

pub returns : goal.returns
returns c =
    let none : drop c.loop-u.u-index c.args.others.now ≡ [] = drop-past c.loop-u.u-index c.args.others.now (omega arith) in
    pass-end c.args.types.now c.loop-u.met c.loop-u.invariant.within ∙ sym (ap (all_among (drop c.loop-u.met c.args.types.now)) none) ∙
    c.loop-u.invariant.value
