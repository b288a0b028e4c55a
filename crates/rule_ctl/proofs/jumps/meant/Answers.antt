use Rattle.std.proofs.Common.{◌≡◌, ◌+◌, ◌-◌, ◌≤◌, length, map, take, ap, sym, ◌∙◌, arith}
use Rattle.hare_types.proofs.ListLemmas.{slice_get_none}
use Rattle.hare_rules.specs.Control.{nearest}
use Rattle.hare_rules.specs.Judged.{open_of}
use Rattle.rule_ctl.specs.Jumps.{may_mean}
use Rattle.rule_ctl.proofs.JumpLemmas.{found, passed}
use Rattle.rule_ctl.proofs.jumps.meant.Goals as goal

pub returns-then-may_mean : goal.returns-then-may_mean
returns-then-may_mean c =
    let p = may_mean c.args.wanted c.args.name.now in
    let ls = c.args.labels.now in
    let next : c.loop-left.left ≡ (c.loop-left.left - 1) + 1 = omega arith in
    sym
    (c.loop-left.invariant.rest ∙ ap (λ k. nearest p (map open_of (take k ls))) next
    ∙ found p ls (c.loop-left.left - 1) c.in-Some.l.now (sym c.in-Some.ensures) (sym c.may_mean.ensures ∙ c.if-may_mean.true))

pub loop-left-preserved-else-may_mean : goal.loop-left-preserved-else-may_mean
loop-left-preserved-else-may_mean c =
    let p = may_mean c.args.wanted c.args.name.now in
    let ls = c.args.labels.now in
    let next : c.loop-left.left ≡ (c.loop-left.left - 1) + 1 = omega arith in
    record {
      within = omega arith;
      rest =
          c.loop-left.invariant.rest ∙ ap (λ k. nearest p (map open_of (take k ls))) next
          ∙ passed p ls (c.loop-left.left - 1) c.in-Some.l.now (sym c.in-Some.ensures) (sym c.may_mean.ensures ∙ c.if-may_mean.false);
    }

pub loop-left-preserved : goal.loop-left-preserved
loop-left-preserved c =
    let past : length c.args.labels.now ≤ c.loop-left.left - 1 =
    slice_get_none c.args.labels.now (c.loop-left.left - 1) (sym c.in_default.ensures) in
    absurd (omega arith)
