use Rattle.std.proofs.Common.{◌≡◌, get_or, ap, sym, ◌∙◌}
use Rattle.hare_types.proofs.LaterLemmas.{later_trans}
use Rattle.hare_rules.specs.declared.row_id.RowId.TheVariants as row
use Rattle.hare_tree.specs.Node.{head}
use Rattle.hare_rules.specs.Table.{rows_of}
use Rattle.rule_judge.specs.Asked.{are_asked}
use Rattle.rule_judge.specs.Turns.{context_in, kind_in}
use Rattle.rule_judge.proofs.TurnLemmas.{grown_here, grown_trans, turn_stays}
use Rattle.rule_judge.proofs.WalkLemmas.{failing, left, asked_here, asked_next, no_place, at_site, at_met, at_failed, no_fault}
use Rattle.rule_judge.proofs.walk.own_fault.Goals as goal

pub loop-row-init : goal.loop-row-init
loop-row-init g c =
    let list : c.rows-row-items.result.now ≡ rows_of (kind_in c.args.t.now) =
    c.rows-row-items.ensures.value ∙ ap (λ n. rows_of (head n).kind) c.node.view_is in
    record {
      grown = grown_here c.args.s.now c.declarations-law.ensures.sound;
      asked = ap (are_asked g.R.Rules.asks) list ∙ g.met.R.Rules.rows (kind_in c.args.t.now) c.requires.kind;
      rest = λ f l. sym (ap (failing (context_in f c.args.t.now)) list);
    }

pub returns-then-is_site-clause-value : goal.returns-then-is_site-clause-value
returns-then-is_site-clause-value g c f l =
    let rs = c.rows-row-items.result.now in
    let i = c.loop-row.row-index in
    let x = context_in f c.args.t.now in
    no_fault x (c.loop-row.invariant.rest f l ∙ at_site x rs i (get_or rs i row.NumberFits) (left rs i row.NumberFits c.loop-row-test.true)
    (sym c.if-is_site.ensures))

pub unmet-requires-clause-turn : goal.unmet-requires-clause-turn
unmet-requires-clause-turn g c = turn_stays c.args.s.now c.loop-row.s c.declarations-law.ensures.sound c.loop-row.invariant.grown.later
    c.args.t.now c.requires.turn

pub unmet-requires-clause-row : goal.unmet-requires-clause-row
unmet-requires-clause-row g c =
    let rs = c.rows-row-items.result.now in
    let i = c.loop-row.row-index in
    asked_here g.R.Rules.asks rs i (get_or rs i row.NumberFits) (left rs i row.NumberFits c.loop-row-test.true) (sym c.if-is_site.ensures)
    c.loop-row.invariant.asked

pub returns-in-Some-clause-value : goal.returns-in-Some-clause-value
returns-in-Some-clause-value g c f l =
    let rs = c.rows-row-items.result.now in
    let i = c.loop-row.row-index in
    let x = context_in f c.args.t.now in
    at_failed x rs i (get_or rs i row.NumberFits) (left rs i row.NumberFits c.loop-row-test.true) (sym c.if-is_site.ensures) c.in-Some.place
    (sym c.in-Some.is ∙ c.in_ok-place.ensures.value f l)
    c.number.result c.number.ensures.value (c.loop-row.invariant.rest f
    (later_trans c.loop-row.s c.unmet.new.s f c.unmet.ensures.grown.later l))

pub returns-in-Some-clause-grown : goal.returns-in-Some-clause-grown
returns-in-Some-clause-grown g c = grown_trans c.args.s.now c.loop-row.s c.unmet.new.s c.loop-row.invariant.grown c.unmet.ensures.grown

pub loop-row-preserved : goal.loop-row-preserved
loop-row-preserved g c =
    let rs = c.rows-row-items.result.now in
    let i = c.loop-row.row-index in
    let r = get_or rs i row.NumberFits in
    let step = left rs i row.NumberFits c.loop-row-test.true in
    record {
      grown = grown_trans c.args.s.now c.loop-row.s c.unmet.new.s c.loop-row.invariant.grown c.unmet.ensures.grown;
      asked = asked_next g.R.Rules.asks rs i r step (sym c.if-is_site.ensures) c.loop-row.invariant.asked;
      rest = λ f l.
          let x = context_in f c.args.t.now in
          c.loop-row.invariant.rest f (later_trans c.loop-row.s c.unmet.new.s f c.unmet.ensures.grown.later l)
          ∙ at_met x rs i r step (sym c.if-is_site.ensures)
          (no_place c.in_ok-place.field-0 c.in_default.not-Some ∙ c.in_ok-place.ensures.value f l);
    }
