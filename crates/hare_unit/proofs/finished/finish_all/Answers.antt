use Rattle.std.proofs.Common.{rules, ◌≡◌, ◌+◌, ◌∙◌, reverse, slice_get, Some, ap, sym, subst, arith}
use Rattle.std.specs.Prelude.{option_copied}
use Rattle.std.proofs.lemmas.List.{reverse-reverse}
use Rattle.hare_types.proofs.LaterLemmas.{later_here}
use Rattle.hare_saids.specs.Saids.{decls}
use Rattle.hare_graph.proofs.Elements.{Contains-none}
use Rattle.hare_depends.proofs.ListLemmas.{Contains-there}
use Rattle.hare_defined.specs.Known.{AreDefined}
use Rattle.hare_walk.proofs.Grows.{grown-refl, grown-trans, later-grown}
use Rattle.hare_unit.specs.Finishing.{AreFinishedTo}
use Rattle.hare_unit.proofs.PhaseByPhase.Finished.{Turn, none-finished, finished-more, all-finished, length-decls}
use Rattle.hare_unit.proofs.finished.finish_all.Goals as goal

pub loop-i-init : goal.loop-i-init
loop-i-init c =
    let parts : c.in_ok-parts.parts ≡ reverse c.args.parts = c.in_ok-parts.ensures in
    let bodies : c.in_ok-bodies.bodies ≡ reverse c.args.bodies = c.in_ok-bodies.ensures in
    record {
      finished =
          none-finished c.args.s.now (decls c.args.files.now) c.args.parts c.args.bodies c.in_ok-parts.parts c.in_ok-bodies.bodies
          c.with_room-finished.result (sym (ap reverse parts ∙ reverse-reverse c.args.parts))
          (sym (ap reverse bodies ∙ reverse-reverse c.args.bodies)) c.with_room-finished.ensures;
      defined = subst (λ xs. AreDefined c.args.s.now xs) (sym c.new-defined.ensures) (λ t k. absurd (Contains-none t k));
      grown = grown-refl c.args.s.now;
      sound = c.declarations-law.ensures.sound;
    }

pub finish_declaration-requires-clause-shaped : goal.finish_declaration-requires-clause-shaped
finish_declaration-requires-clause-shaped c =
    let t = c.in-Some.decl.now in
    let all = decls c.args.files.now in
    let there : slice_get all c.in-Ok.number ≡ Some t = sym c.declaration_at.ensures ∙ ap option_copied c.in-Some.is in
    c.requires.shaped t (Contains-there all c.in-Ok.number t there)

pub returns-in_err-tree-clause-grown : goal.returns-in_err-tree-clause-grown
returns-in_err-tree-clause-grown c =
    grown-trans c.args.s.now c.loop-i.s c.finish_declaration.new.s c.loop-i.invariant.grown c.finish_declaration.ensures.grown

pub returns-in_err-push-clause-grown : goal.returns-in_err-push-clause-grown
returns-in_err-push-clause-grown c =
    grown-trans c.args.s.now c.loop-i.s c.finish_declaration.new.s c.loop-i.invariant.grown c.finish_declaration.ensures.grown

pub loop-i-preserved : goal.loop-i-preserved
loop-i-preserved c =
    let s = c.loop-i.s in
    let r = c.finish_declaration.new.s in
    let all = decls c.args.files.now in
    let t = c.in-Some.decl.now in
    let same : c.in-Ok.number ≡ c.loop-i.i = search (rules, c.in-Ok.ensures) in
    let there : slice_get all c.in-Ok.number ≡ Some t = sym c.declaration_at.ensures ∙ ap option_copied c.in-Some.is in
    let here : slice_get all c.loop-i.i ≡ Some t = subst (λ n. slice_get all n ≡ Some t) same there in
    let q = c.in-Some-pop.field-0 in
    let d = c.in_ok-tree.tree in
    let turn : Turn s r all c.args.parts c.args.bodies c.loop-i.i t q c.in_ok-body.body d c.loop-i.parts c.pop.new.self c.loop-i.bodies
    c.body_of.new.bodies c.loop-i.finished = record {
      before = c.loop-i.invariant.finished;
      there = here;
      part = c.in-Some-pop.ensures.rest;
      takes = c.in_ok-body.ensures;
      later = later-grown s r r c.finish_declaration.ensures.grown (later_here r c.finish_declaration.ensures.sound);
      finished = c.in_ok-tree.ensures.ok;
    } in
    let more = finished-more s r all c.args.parts c.args.bodies c.loop-i.i t q c.in_ok-body.body d c.loop-i.parts c.pop.new.self
    c.loop-i.bodies
    c.body_of.new.bodies c.loop-i.finished turn in
    record {
      finished =
          subst (λ ds. AreFinishedTo r all c.args.parts c.args.bodies (c.loop-i.i + 1) c.pop.new.self c.body_of.new.bodies ds)
          (sym c.in_ok-push.ensures.ok) more;
      defined = c.finish_declaration.ensures.defined;
      grown = grown-trans c.args.s.now s r c.loop-i.invariant.grown c.finish_declaration.ensures.grown;
      sound = c.finish_declaration.ensures.sound;
    }

pub returns-clause-ok : goal.returns-clause-ok
returns-clause-ok c =
    let all = decls c.args.files.now in
    let count = length-decls c.args.files.now c.args.places.now c.requires.places in
    all-finished c.loop-i.s all c.args.parts c.args.bodies c.loop-i.i c.loop-i.parts c.loop-i.bodies c.loop-i.finished
    c.loop-i.invariant.finished
    (omega (arith, count, c.loop-i-test.false)) (search (rules, c.is_empty.ensures, c.if-not-is_empty.false))
    (search (rules, c.is_empty-else-not-is_empty.ensures, c.if-not-is_empty-2.false))
