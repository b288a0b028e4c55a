use Rattle.std.proofs.Common.{◌≡◌, ◌-◌, length, take, ap, ◌∙◌, sym, arith}
use Rattle.std.specs.Prelude.{slice_get}
use Rattle.std.proofs.lemmas.List.{take_all}
use Rattle.hare_typed.specs.Repeats.{repeated}
use Rattle.hare_typed.proofs.RepeatLemmas.{step_back, proper_at}
use Rattle.hare_typed.proofs.cells.written_place.Goals as goal

pub loop-left-init : goal.loop-left-init
loop-left-init c = record {
  within = omega arith;
  same = λ cs h. ap (λ rs. slice_get (repeated rs cs) c.args.place)
      (sym (take_all (length c.args.repeats.now) c.args.repeats.now (omega arith)));
}

pub source-at-requires : goal.source-at-requires
source-at-requires c = proper_at c.args.repeats.now (c.loop-left.left - 1) _ c.requires.0 (omega arith) c.requires.1

pub loop-left-preserved : goal.loop-left-preserved
loop-left-preserved c = record {
  within = omega arith;
  same = λ cs h. c.loop-left.invariant.same cs h ∙ step_back c.args.repeats.now c.loop-left.left _ cs _ _ (omega arith) (omega arith) h
      c.source-at.ensures;
}

pub returns : goal.returns
returns c cs h =
    let none : c.loop-left.left ≡ 0 = omega arith in
    c.loop-left.invariant.same cs h ∙ ap (λ n. slice_get (repeated (take n c.args.repeats.now) cs) c.loop-left.at) none
