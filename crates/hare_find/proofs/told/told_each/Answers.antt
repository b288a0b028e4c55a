use Rattle.std.proofs.Common.{◌≡◌, ◌<◌, ◌≤◌, ◌++◌, ◌∷◌, [], List, length, take, map, sym, subst, arith, add-one}
use Rattle.hare_told.specs.Told.{AreToldYields}
use Rattle.hare_flow.specs.declared.yields.Handed.{Handed}
use Rattle.hare_flow.specs.Seen.{given_of}
use Rattle.hare_find.specs.Yields.{IsDefinedOption}
use Rattle.hare_find.proofs.YieldsSeen.Told.{told-append, defined-append, given_at, given_more, taken_all}
use Rattle.hare_find.proofs.told.told_each.Goals as goal

pub loop-i-preserved : goal.loop-i-preserved
loop-i-preserved c =
    let i = c.loop-i.i in
    let gs = c.args.gs.now in
    let g = c.index-gs-i.result in
    let y = c.told_yield.result in
    let l : i < length gs = omega arith in
    let e = c.index-gs-i.is in
    let p : c.push.new.self ≡ c.loop-i.told ++ y ∷ [] = c.in_ok-push.ensures.ok in
    record {
      within = omega arith;
      told = λ f v. rw (add-one, given_more gs i g l e, p)
          (told-append f (map given_of (take i gs)) c.loop-i.told (given_of g) y (c.loop-i.invariant.told f v)
          (c.told_yield.ensures.told f v));
      defined = λ s v d. rw p
          (defined-append s c.loop-i.told y (c.loop-i.invariant.defined s v d)
          (c.told_yield.ensures.defined s v (subst (λ (x : Handed). IsDefinedOption s x.ty) (sym e) (given_at s gs i g l d))));
    }

pub returns-clause-told : goal.returns-clause-told
returns-clause-told c f v =
    let gs = c.args.gs.now in
    let past : length gs ≤ c.loop-i.i = omega arith in
    subst (λ (hs : List Handed). AreToldYields f (map given_of hs) c.loop-i.told) (taken_all gs c.loop-i.i past)
    (c.loop-i.invariant.told f v)
