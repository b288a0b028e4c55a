use Rattle.std.proofs.Common.{◌≡◌, ◌-◌, ◌≤◌, ◌++◌, [], List, length, map, take, drop, ap, sym, ◌∙◌, arith, append-nil}
use Rattle.std.proofs.lemmas.List.{length-drop}
use Rattle.hare_types.specs.declared.coercion.Coercion.{Coercion}
use Rattle.rule_judge.proofs.KidLemmas.{drop_past}
use Rattle.hare_told.specs.Settled.{listed_late}
use Rattle.hare_rules.specs.Settles.{Settled}
use Rattle.hare_flow.specs.Seen.{given_of}
use Rattle.hare_find.specs.Late.{settled_in}
use Rattle.hare_find.proofs.Behind.LateSettled.{none_late}
use Rattle.hare_find.proofs.YieldsSeen.Told.{taken_all}
use Rattle.hare_find.proofs.late.late_each.Goals as goal

pub returns-then-from-len : goal.returns-then-from-len
returns-then-from-len c =
    let gs = map given_of c.args.gs.now in
    let past : length c.args.coercions.now ≤ c.args.from = omega arith in
    ap (map settled_in) c.new-late.ensures ∙ sym (ap (listed_late gs) (drop_past c.args.coercions.now c.args.from past) ∙ none_late gs)

pub returns-then-i-rest : goal.returns-then-i-rest
returns-then-i-rest c =
    let gs = c.args.gs.now in
    let xs = c.as_slice.result.now in
    let i = c.loop-i.i in
    let from = c.args.from in
    let rest : List Coercion = take (length xs - from) (drop from xs) in
    let now : List Settled = map settled_in c.loop-i.late in
    let past : length rest ≤ i = omega arith in
    let none : listed_late (map given_of (drop i gs)) (drop i rest) ≡ [] =
    ap (listed_late (map given_of (drop i gs))) (drop_past rest i past) ∙ none_late (map given_of (drop i gs)) in
    let many : length (drop from xs) ≤ length xs - from = omega (arith, length-drop from xs) in
    let whole : rest ≡ drop from c.args.coercions.now = taken_all (drop from xs) (length xs - from) many ∙
    ap (drop from) c.as_slice.ensures in
    sym (append-nil now) ∙ ap (λ ss. now ++ ss) (sym none) ∙ c.loop-i.invariant.rest ∙ ap (listed_late (map given_of gs)) whole
