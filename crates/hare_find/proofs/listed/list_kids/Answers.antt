use Rattle.std.proofs.Common.{◌≡◌, ◌<◌, ◌≤◌, ◌++◌, length, map, ap, sym, ◌∙◌, arith, append-nil}
use Rattle.hare_types.proofs.LaterLemmas.{later_here, later_trans}
use Rattle.hare_rules.specs.Judged.{coercions_from}
use Rattle.rule_judge.specs.Turns.{context_in, yields_in}
use Rattle.rule_judge.proofs.TurnLemmas.{grown_trans}
use Rattle.rule_judge.proofs.KidLemmas.{drop_past}
use Rattle.hare_find.specs.Settling.{option_in}
use Rattle.hare_find.specs.Listed.{listed_each, yields_listed}
use Rattle.hare_find.proofs.FoundOfNode.Settled.{length-options, length-listed_each}
use Rattle.hare_find.proofs.Verdicts.Next.{ready_stays, listed_put}
use Rattle.hare_find.proofs.listed.list_kids.Goals as goal

pub list_next-requires-clause-ready : goal.list_next-requires-clause-ready
list_next-requires-clause-ready c =
    ready_stays c.args.s.now c.loop-i.s c.declarations-law.ensures.sound c.loop-i.invariant.grown.later c.args.t.now c.requires.ready

pub loop-i-preserved : goal.loop-i-preserved
loop-i-preserved c =
    let t = c.args.t.now in
    let i = c.loop-i.i in
    let now = c.loop-i.s in
    let new = c.list_next.new.s in
    let inv = c.loop-i.invariant in
    let later = c.list_next.ensures.grown.later in
    let h : i < length t.kids.now = omega arith in
    record {
      within = omega arith;
      count = let n = c.in_ok-count.ensures.count in omega (arith, n);
      grown = grown_trans c.args.s.now now new inv.grown c.list_next.ensures.grown;
      rest = λ f l. c.in_ok-count.ensures.rest f l;
      done = λ f l.
          listed_put (context_in f t) i (map option_in c.loop-i.kids) (map option_in c.list_next.new.kids) (listed_each
          (context_in f t) 0 t.kids.now) h
          (c.in_ok-count.ensures.kids f l) (inv.done f (later_trans now new f later l));
    }

pub returns-clause-kids : goal.returns-clause-kids
returns-clause-kids c f l =
    let t = c.args.t.now in
    let xs = t.kids.now in
    let past : length xs ≤ c.loop-i.i = omega arith in
    sym (append-nil (map option_in c.loop-i.kids))
    ∙ ap (λ ys. map option_in c.loop-i.kids ++ listed_each (context_in f t) c.loop-i.i ys) (sym (drop_past xs c.loop-i.i past))
    ∙ c.loop-i.invariant.done f l

pub returns-clause-many : goal.returns-clause-many
returns-clause-many c =
    let t = c.args.t.now in
    let s = c.loop-i.s in
    let xs = t.kids.now in
    let past : length xs ≤ c.loop-i.i = omega arith in
    let here = later_here s c.loop-i.invariant.grown.later.sound in
    let all : map option_in c.loop-i.kids ≡ listed_each (context_in s t) 0 xs =
    sym (append-nil (map option_in c.loop-i.kids))
    ∙ ap (λ ys. map option_in c.loop-i.kids ++ listed_each (context_in s t) c.loop-i.i ys) (sym (drop_past xs c.loop-i.i past))
    ∙ c.loop-i.invariant.done s here in
    length-options c.loop-i.kids (listed_each (context_in s t) 0 xs) all ∙ length-listed_each (context_in s t) 0 xs

pub returns-clause-yields : goal.returns-clause-yields
returns-clause-yields c f l =
    let t = c.args.t.now in
    let xs = t.kids.now in
    let past : length xs ≤ c.loop-i.i = omega arith in
    c.loop-i.invariant.rest f l
    ∙ ap (λ ys. coercions_from (context_in f t) c.loop-i.i ys ++ yields_listed (context_in f t) (yields_in t))
    (drop_past xs c.loop-i.i past)
