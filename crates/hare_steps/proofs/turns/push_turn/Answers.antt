use Rattle.std.proofs.Common.{◌≡◌, ◌∙◌, ◌++◌, ap, sym, subst, map, Some}
use Rattle.std.proofs.lemmas.Option.{slice_get-get_or}
use Rattle.hare_whole.specs.Turns.{Types}
use Rattle.hare_steps.specs.Plans.{step_of}
use Rattle.hare_steps.specs.Taken.{with_judged, with_all_judged, early_of, own_types, rest_of, turn_of}
use Rattle.hare_steps.proofs.TurnByTurn.Turn.{turn-joined, said-same}
use Rattle.hare_steps.proofs.turns.push_turn.Goals as goal

pub returns : goal.returns
returns c =
    let saids = c.args.saids.now in
    let decl = c.args.decl in
    let said = c.index-saids-decl.result in
    let here = slice_get-get_or saids decl said c.requires.there ∙ ap Some (sym c.index-saids-decl.is) in
    let early = c.in_ok-early.ensures ∙ ap (λ js. early_of saids js said) (c.deref-2.ensures.value ∙ c.set_judged.ensures) in
    let own = c.in_ok-push_own_types.ensures ∙ ap (λ js. map step_of c.args.steps.now.items ++ own_types js decl) c.deref.ensures.value in
    let types = c.in_ok-push_types.ensures ∙ ap (λ gs. map step_of c.push_own_types.new.steps.items ++ map Types gs)
    (c.deref-3.ensures.value ∙ early) in
    let rest = c.in_ok-push_rest.ensures ∙ ap (λ b. map step_of c.push_types.new.steps.items ++ rest_of b decl) c.has_value.ensures in
    let noted = c.set_all_judged.ensures ∙ ap (with_all_judged c.set_judged.new.judged.items) (c.deref-4.ensures.value ∙ early)
    ∙ ap (λ js. with_all_judged js (early_of saids (with_judged c.args.judged.now.items decl) said)) c.set_judged.ensures in
    record {
      steps = λ s e.
          subst (λ s. map step_of c.push_rest.new.steps.items ≡
          map step_of c.args.steps.now.items ++ turn_of saids c.args.judged.now.items decl s)
          (said-same saids decl said s here e) (turn-joined _ _ _ _ _ _ _ own types rest);
      judged = λ s e.
          subst (λ s. c.set_all_judged.new.judged.items ≡
          with_all_judged (with_judged c.args.judged.now.items decl) (early_of saids (with_judged c.args.judged.now.items decl) s))
          (said-same saids decl said s here e) noted;
    }
