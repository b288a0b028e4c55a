use Rattle.std.proofs.Common.{◌≡◌, ◌∙◌, ◌≤◌, length, sym, ap, arith, refl}
use Rattle.std.specs.Prelude.{slice_get, Some}
use Rattle.hare_typed.specs.Coherent.{statics_in}
use Rattle.hare_typed.specs.Texts.{cells_found}
use Rattle.hare_const.proofs.TextLemmas.{found_more, found_all, coherent_at}
use Rattle.hare_const.proofs.coherent.are_coherent.Goals as goal

pub loop-i-preserved : goal.loop-i-preserved
loop-i-preserved c =
    let all = statics_in c.args.own c.args.t.now in
    let o = c.in-Some.o.now in
    let there : slice_get all c.loop-i.i ≡ Some o =
    ap (λ os. slice_get os c.loop-i.i) (sym c.in_ok-objects.ensures) ∙ sym c.in-Some.ensures in
    let found : cells_found all o.object ≡ Some o.cells =
    ap (λ os. cells_found os o.object) (sym c.in_ok-statics_of.ensures) ∙ sym (c.in_ok-table.ensures o.object)
    ∙ sym c.in-Some-get.ensures.value
    ∙ ap Some (sym c.cells.ensures ∙ c.is_same.ensures.0 c.if-not-is_same.false ∙ c.cells-in-loop-i.ensures) in
    found_more all c.loop-i.i o there found c.loop-i.invariant

pub returns-then-not-is_same : goal.returns-then-not-is_same
returns-then-not-is_same c = (
  λ e. absurd cc,
  λ h.
      let all = statics_in c.args.own c.args.t.now in
      let o = c.in-Some.o.now in
      let there : slice_get all c.loop-i.i ≡ Some o =
      ap (λ os. slice_get os c.loop-i.i) (sym c.in_ok-objects.ensures) ∙ sym c.in-Some.ensures in
      let same =
      c.in-Some-get.ensures.value ∙ c.in_ok-table.ensures o.object ∙ ap (λ os. cells_found os o.object) c.in_ok-statics_of.ensures
      ∙ coherent_at all c.loop-i.i o there h in
      let held = c.cells.ensures in
      let own = c.cells-in-loop-i.ensures in
      let both = sym c.if-not-is_same.true ∙ c.is_same.ensures.1 cc in
      absurd cc,
)

pub returns : goal.returns
returns c =
    let all = statics_in c.args.own c.args.t.now in
    let ended : length all ≤ c.loop-i.i =
    omega (arith, sym (ap length c.in_ok-objects.ensures), c.len-i-end.ensures, c.loop-i-test.false) in
    (λ e. found_all all c.loop-i.i ended c.loop-i.invariant, λ h. refl)
