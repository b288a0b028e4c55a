use Rattle.std.proofs.Common.{◌+◌, ◌∷◌, ◌++◌, [], length, drop, refl, ap, sym, ◌∙◌, subst}
use Rattle.std.proofs.lemmas.Result.{on_ok_weaker}
use Rattle.hare_tree.specs.Node.{head, nodes_of}
use Rattle.hare_types.proofs.LaterLemmas.{later_here, later_trans}
use Rattle.hare_typed.specs.Typed.{typed_nodes}
use Rattle.rule_judge.proofs.DefinedLemmas.{trees_stay}
use Rattle.hare_walk.specs.Spots.{spot}
use Rattle.hare_above.specs.Asked.{AreDeclared}
use Rattle.hare_above.proofs.ReadyLemmas.{ready_stays}
use Rattle.hare_find.proofs.YieldsSeen.DefinedTypes.{locals_stay}
use Rattle.hare_check.specs.Walking.{program_over, IsWalking}
use Rattle.hare_check.proofs.Kept.Relied.{each-kept, trees-defined}
use Rattle.hare_check.proofs.Walks.Growing.{known_stays}
use Rattle.hare_check.proofs.Walks.Steps.{IsEntered, walking-enter}
use Rattle.hare_check.proofs.walker.WalkerWalk.enter.Goals as goal

pub bind_before-requires : goal.bind_before-requires
bind_before-requires c = trees-defined c.args.s.now c.args.done.now (each-kept c.args.s.now c.args.done.now c.requires.kept)

pub enter-requires-clause-ready : goal.enter-requires-clause-ready
enter-requires-clause-ready c =
    ready_stays c.args.s.now c.bind_before.new.s c.declarations-law.ensures.sound c.bind_before.ensures.grown.later
    c.args.self.now.standing c.requires.ready.1.standing

pub enter-requires-clause-types : goal.enter-requires-clause-types
enter-requires-clause-types c =
    trees_stay c.args.s.now c.bind_before.new.s c.declarations-law.ensures.sound c.bind_before.ensures.grown.later
    (typed_nodes c.args.done.now)
    (trees-defined c.args.s.now c.args.done.now (each-kept c.args.s.now c.args.done.now c.requires.kept))

pub enter-requires-clause-known : goal.enter-requires-clause-known
enter-requires-clause-known c =
    known_stays c.args.s.now c.bind_before.new.s c.declarations-law.ensures.sound c.bind_before.ensures.grown.later
    c.args.self.now.decls.now c.requires.ready.1.known

pub returns-clause-over : goal.returns-clause-over
returns-clause-over c =
    let w = program_over c.args.self.now.names.now c.args.self.now.decls.now in
    let declared : AreDeclared c.args.self.now.decls.now w = record { store = λ s. refl; decls = λ s. refl } in
    on_ok_weaker c.push.result (λ p. c.in_ok-enter.ensures.over w declared) c.push.ensures.ok

pub returns-clause-seen : goal.returns-clause-seen
returns-clause-seen c =
    let w = program_over c.args.self.now.names.now c.args.self.now.decls.now in
    let a = c.args.self.now.standing.above in
    on_ok_weaker c.push.result
    (λ p l later.
    c.in_ok-bind_before.ensures.seen w a (λ s. refl) (sym c.first-first.ensures) l
    (later_trans c.bind_before.new.s c.enter.new.s l c.enter.ensures.types.later later))
    c.push.ensures.ok

pub returns-clause-ready : goal.returns-clause-ready
returns-clause-ready c =
    let start = c.args.s.now in
    let between = c.bind_before.new.s in
    let end = c.enter.new.s in
    let here = c.args.self.now in
    let w = program_over here.names.now here.decls.now in
    let declared : AreDeclared here.decls.now w = record { store = λ s. refl; decls = λ s. refl } in
    let more = c.bind_before.ensures.grown.later in
    let most = c.enter.ensures.types.later in
    let h = head c.args.node.now in
    let xs = c.args.done.now in
    let kid = c.args.kid.now in
    let rest = nodes_of (drop (length xs + 1) c.args.kids.now) in
    on_ok_weaker c.push.result
    (λ pushed ps walks.
    let entered : IsEntered start end (w end) h xs kid rest here.standing c.enter.new.self here.seen c.bind_before.new.seen here.told
    c.bind_before.new.told =
    record {
      sound = c.declarations-law.ensures.sound;
      later = later_trans start between end more most;
      ready = c.in_ok-enter.ensures.ready;
      over = c.in_ok-enter.ensures.over w declared end (later_here end c.enter.ensures.sound);
      outer = c.in_ok-enter.ensures.outer;
      seen = c.in_ok-bind_before.ensures.rest;
      entries = c.in_ok-bind_before.ensures.told walks.entries;
      locals =
          locals_stay between end more.sound most c.bind_before.new.told (c.in_ok-bind_before.ensures.locals walks.locals);
    } in
    subst
    (λ ns.
    IsWalking end (spot (head kid).kind 0 ∷ spot h.kind (length xs) ∷ ps) here.decls.now c.enter.new.self c.bind_before.new.seen
    c.bind_before.new.told ns)
    (sym (pushed ∙ ap (λ n. here.begun ++ n ∷ []) c.yielded.ensures))
    (walking-enter start end (w end) h xs kid rest here.standing c.enter.new.self here.seen c.bind_before.new.seen here.told
    c.bind_before.new.told ps here.decls.now here.begun entered walks))
    c.push.ensures.ok
