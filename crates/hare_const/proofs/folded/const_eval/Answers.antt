use Rattle.std.proofs.Common.{◌≡◌, ◌∙◌, ◌++◌, ap}
use Rattle.hare_typed.specs.Folded.{tagged_by_id}
use Rattle.hare_const.specs.Made.{made_by}
use Rattle.hare_typed.specs.Coherent.{statics_in}
use Rattle.hare_const.specs.Statics.{objects_in, objects_led_to}
use Rattle.hare_const.proofs.FoldedLemmas.{known_later, none_later}
use Rattle.hare_const.proofs.folded.const_eval.Goals as goal

pub returns-in_ok-listed-in-Ok-Some-clause-ok : goal.returns-in_ok-listed-in-Ok-Some-clause-ok
returns-in_ok-listed-in-Ok-Some-clause-ok c =
    let s = c.args.s.now in
    let own = c.args.own in
    let t = c.args.t.now in
    let cells = c.in-Ok-Some.cells in
    let all : c.cells_and_objects.new.objects ≡ objects_in (tagged_by_id s) own t =
    c.in-Ok-Some.ensures.objects
    ∙ ap (λ l. l ++ made_by (tagged_by_id s) own t)
    (c.in_ok-put_statics.ensures ∙ ap (λ l. l ++ statics_in own t) c.new-objects.ensures) in (
      c.in-Ok-Some.ensures.ok.0,
      known_later s own t c.declarations-law.ensures.sound c.requires.settled c.requires.coherent cells
          (c.in-Ok-Some.ensures.ok.1 ∙ c.in-Ok-Some.field-0-is) c.in_ok-listed-in-Ok-Some.listed
          (c.in_ok-listed-in-Ok-Some.ensures ∙ ap (λ os. objects_led_to os cells) all),
    )

pub returns-in-Ok-None-clause-ok : goal.returns-in-Ok-None-clause-ok
returns-in-Ok-None-clause-ok c = (
  c.in-Ok-None.ensures.ok.0,
  none_later c.args.s.now c.args.own c.args.t.now c.declarations-law.ensures.sound c.requires.settled c.requires.coherent
      (c.in-Ok-None.ensures.ok.1 ∙ c.in-Ok-None.field-0-is),
)
