use Rattle.std.proofs.Common.{List, map, ap, sym, ◌∙◌, subst}
use Rattle.std.proofs.lemmas.Result.{on_ok_weaker}
use Rattle.hare_tree.specs.Node.{head}
use Rattle.hare_types.proofs.LaterLemmas.{later_trans}
use Rattle.hare_typed.specs.Typed.{typed_nodes}
use Rattle.hare_rules.specs.Context.{Entry}
use Rattle.hare_rules.specs.Finished.{bare}
use Rattle.hare_rules.specs.Flow.{Flow, context}
use Rattle.hare_told.specs.Told.{AreToldEntries}
use Rattle.rule_judge.specs.Defined.{AreDefinedTrees}
use Rattle.rule_judge.proofs.DefinedLemmas.{trees_stay}
use Rattle.hare_find.specs.Defined.{AreDefinedYielded}
use Rattle.hare_find.specs.Settling.{option_in}
use Rattle.hare_find.proofs.YieldsSeen.DefinedTypes.{yielded_stay, settlings_stay, coated_defined}
use Rattle.hare_find.proofs.Behind.Closed.{closed, has_kids, later_setting}
use Rattle.hare_find.proofs.closing.close.Goals as goal

pub returns-clause-seen : goal.returns-clause-seen
returns-clause-seen c =
    let h = head c.args.node.now in
    let xs = c.args.kids.now in
    let f = c.args.seen.now in
    let n = c.args.first in
    let v = c.args.levels.now in
    let s = c.bind_behind.new.s in
    on_ok_weaker c.settle_all.result
    (λ settled w a q found l d.
    let z = context (w l) a h (map bare xs) f in
    closed (w l) a h xs f c.bind_behind.new.seen c.pass_yields.new.seen c.settle_all.new.seen n c.args.found.now q.first
    (found l (later_trans c.args.s.now s l c.bind_behind.ensures.grown.later d))
    (c.in_ok-bind_behind.ensures.seen z (later_setting w a h xs f n v s l q d) (has_kids w a h xs f n v l q))
    (c.in_ok-pass_yields.ensures.yields a.inside.labels q.levels) settled) c.settle_all.ensures.seen

pub returns-clause-told : goal.returns-clause-told
returns-clause-told c =
    on_ok_weaker c.settle_all.result
    (λ settled k.
    let same = ap (λ (f : Flow). f.locals) settled ∙ ap (λ (f : Flow). f.locals) c.in_ok-pass_yields.ensures.rest in
    subst (λ (es : List Entry). AreToldEntries es c.bind_behind.new.told) (sym same)
    (c.bind_behind.ensures.told k)) c.settle_all.ensures.seen

pub returns-clause-yields : goal.returns-clause-yields
returns-clause-yields c k =
    let now = c.args.s.now in
    let s = c.bind_behind.new.s in
    let sound = c.declarations-law.ensures.sound in
    let later = c.bind_behind.ensures.grown.later in
    let same = ap (λ (f : Flow). f.yields) c.in_ok-bind_behind.ensures.rest in
    let before = subst (AreDefinedYielded s) (sym same) (yielded_stay now s sound later c.args.seen.now.yields k) in
    let trees = trees_stay now s sound later (typed_nodes c.args.kids.now) c.requires.defined in
    let passed = c.in_ok-pass_yields.ensures.defined s trees before in
    on_ok_weaker c.settle_all.result
    (λ e. subst (AreDefinedYielded s) (sym (ap (λ (f : Flow). f.yields) e)) passed) c.settle_all.ensures.seen

pub returns-clause-types : goal.returns-clause-types
returns-clause-types c k =
    let now = c.args.s.now in
    let s = c.bind_behind.new.s in
    let sound = c.declarations-law.ensures.sound in
    let later = c.bind_behind.ensures.grown.later in
    let os = map option_in c.args.found.now.kids in
    let trees = trees_stay now s sound later (typed_nodes c.args.kids.now) c.requires.defined in
    let coated = coated_defined s c.args.kids.now os trees (settlings_stay now s sound later os k) in
    on_ok_weaker c.settle_all.result (λ e. subst (λ xs. AreDefinedTrees s (typed_nodes xs)) (sym e) coated) c.settle_all.ensures.kids
