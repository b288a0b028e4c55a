use Rattle.std.proofs.Common.{◌≡◌, ◌<◌, ◌≤◌, length, map, refl, ap, sym, ◌∙◌, arith, add-one}
use Rattle.std.proofs.lemmas.List.{length-map}
use Rattle.hare_rules.specs.Flow.{Flow}
use Rattle.hare_find.specs.Settling.{option_in}
use Rattle.hare_find.proofs.Verdicts.Written.{coated-length, got_option, written_step, coated_step, written_none, coated_all}
use Rattle.hare_find.proofs.settle.settle.Goals as goal

pub loop-i-preserved : goal.loop-i-preserved
loop-i-preserved c =
    let i = c.loop-i.i in
    let xs = c.loop-i.kids in
    let ks = c.args.settlings.now in
    let os = map option_in ks in
    let k = c.index-settlings-i.result in
    let o = option_in k in
    let u = c.loop-i.seen in
    let v = c.settle_kid.new in
    let inv = c.loop-i.invariant in
    let h : i < length xs = omega arith in
    let l : length os ≡ length xs = omega (arith, length-map ks option_in) in
    let e = got_option ks i k c.index-settlings-i.is in
    let w = written_step xs os i o u.coercions h l e in
    let d = coated_step xs os i o h l e in
    let p = c.settle_kid.ensures.kids in
    let q = c.settle_kid.ensures.seen in
    record {
      within = omega arith;
      many = ap length p ∙ coated-length i o xs ∙ inv.many;
      locals = ap (λ (f : Flow). f.locals) q ∙ inv.locals;
      yields = ap (λ (f : Flow). f.yields) q ∙ inv.yields;
      late = ap (λ (f : Flow). f.late) q ∙ inv.late;
      rest = rw (add-one, p, ap (λ (f : Flow). f.coercions) q) (sym w ∙ inv.rest);
      kids = rw (add-one, p) (sym d ∙ inv.kids);
    }

pub returns-clause-seen : goal.returns-clause-seen
returns-clause-seen c =
    let i = c.loop-i.invariant in
    let past : length c.loop-i.kids ≤ c.loop-i.i = omega arith in
    let w = sym (written_none c.loop-i.kids (map option_in c.args.settlings.now) c.loop-i.i c.loop-i.seen.coercions past) ∙ i.rest in
    rw (i.locals, i.yields, i.late, w) refl

pub returns-clause-kids : goal.returns-clause-kids
returns-clause-kids c =
    let i = c.loop-i.invariant in
    let past : length c.loop-i.kids ≤ c.loop-i.i = omega arith in
    sym (coated_all c.loop-i.kids (map option_in c.args.settlings.now) c.loop-i.i past) ∙ i.kids
