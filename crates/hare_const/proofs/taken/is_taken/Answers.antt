use Rattle.std.proofs.Common.{◌≡◌, ◌∙◌, sym, ap, ap₂, ◌≤◌, arith, true}
use Rattle.std.proofs.lemmas.Bool.Decides.{nat_tests}
use Rattle.std.specs.Prelude.{◌-◌, ◌&&◌, nat_lt, nat_le}
use Rattle.hare_typed.specs.Typed.{kids_of}
use Rattle.hare_typed.specs.Weight.{count}
use Rattle.hare_const.specs.NodeValues.{kid_at}
use Rattle.hare_const.specs.Made.{is_taken}
use Rattle.hare_const.proofs.NodeLemmas.{count-kids}
use Rattle.hare_const.proofs.taken.is_taken.Goals as goal

pub returns-in-Components : goal.returns-in-Components
returns-in-Components c =
    let all = count-kids c.args.t.now _ _ c.t.inside.kids c.t.view_is in
    let items : c.saturating_sub.result ≡ count (kids_of c.args.t.now) - 1 = omega arith in
    ap (nat_lt c.args.i) items ∙ ap (λ x. is_taken c.args.t.now x (kid_at 0 c.args.values.now) c.args.i) (sym c.in-Components.is)

pub returns-then-i-ge1 : goal.returns-then-i-ge1
returns-then-i-ge1 c =
    let all = count-kids c.args.t.now _ _ c.t.inside.kids c.t.view_is in
    let items : c.saturating_sub-then-i-ge1.result ≡ count (kids_of c.args.t.now) - 2 = omega arith in
    let behind : 1 ≤ c.args.i = c.if-i-ge1.true in
    let low : true ≡ nat_le 1 c.args.i = grind (arith, nat_tests) in
    ap₂ (λ x n. x && nat_le c.args.i n) low items ∙ ap (λ x. is_taken c.args.t.now x (kid_at 0 c.args.values.now) c.args.i)
    (sym c.in-Fields.is)

pub returns-in-Elements : goal.returns-in-Elements
returns-in-Elements c =
    let all = count-kids c.args.t.now _ _ c.t.inside.kids c.t.view_is in
    let items : c.saturating_sub-in-Elements.result ≡ count (kids_of c.args.t.now) - 2 = omega arith in
    ap (nat_lt c.args.i) items ∙ ap (λ x. is_taken c.args.t.now x (kid_at 0 c.args.values.now) c.args.i) (sym c.in-Elements.is)
