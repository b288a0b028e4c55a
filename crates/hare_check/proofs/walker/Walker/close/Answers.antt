use Rattle.std.proofs.Common.{List, refl, sym, subst, ◌∙◌}
use Rattle.hare_tree.specs.Node.{head}
use Rattle.hare_types.specs.Store.{Store}
use Rattle.hare_types.specs.Later.{IsLater}
use Rattle.hare_types.proofs.LaterLemmas.{later_trans}
use Rattle.hare_typed.specs.Typed.{TypedNode, Mark, mark_of}
use Rattle.hare_rules.specs.Flow.{Flow}
use Rattle.rule_judge.specs.Grown.{IsGrown as IsGrownInTypes}
use Rattle.rule_judge.proofs.DefinedLemmas.{hint_stays, ty_stays}
use Rattle.rule_judge.proofs.TurnLemmas.{grown_trans}
use Rattle.hare_walk.specs.Walks.{IsTurned, IsInHand}
use Rattle.hare_find.specs.Closing.{Closes}
use Rattle.hare_find.proofs.YieldsSeen.DefinedTypes.{locals_stay, yielded_stay}
use Rattle.hare_check.specs.Keeps.{IsKeptTree}
use Rattle.hare_check.specs.Nodes.{program_of, above_of}
use Rattle.hare_check.specs.Turned.{context_at}
use Rattle.hare_check.proofs.TurnOfNode.Closed.{IsClosing, own-path, closing-closed, closing-kept, closing-walks}
use Rattle.hare_check.proofs.TurnOfNode.Constants.{finishing-value}
use Rattle.hare_check.proofs.Kept.Relied.{trees-defined}
use Rattle.hare_check.proofs.NodeAtHand.Looking.{none-before}
use Rattle.hare_check.proofs.TurnOfNode.Given.{is_turned, in_hand}
use Rattle.hare_check.proofs.walker.Walker.close.Goals as goal

pub close-requires-clause-defined : goal.close-requires-clause-defined
close-requires-clause-defined c = trees-defined c.args.s.now c.args.kids c.requires.node.kept

pub close-requires-clause-from : goal.close-requires-clause-from
close-requires-clause-from c k =
    let w = c.args.self.now in
    none-before _ _ _ _ _ _ w.seen.yields c.levels-levels.result.from c.levels-levels.result.own c.requires.node.walks.1.spots
    c.levels-levels.ensures.from (sym c.levels-levels.ensures.levels.own)

pub tree-requires-clause-hint : goal.tree-requires-clause-hint
tree-requires-clause-hint c =
    hint_stays c.args.s.now c.close.new.s c.declarations-law.ensures.sound c.in_ok-close.ensures.grown.later (above_of c.args.self.now).hint
    c.requires.node.walks.1.standing.above.hint

pub tree-requires-clause-ty : goal.tree-requires-clause-ty
tree-requires-clause-ty c =
    ty_stays c.args.s.now c.close.new.s c.declarations-law.ensures.sound c.in_ok-close.ensures.grown.later c.args.found.now.ty
    c.requires.found.defined.ty

pub returns-clause-ok : goal.returns-clause-ok
returns-clause-ok c =
    let w = c.args.self.now in
    let n = c.args.node.now in
    let xs : List TypedNode = c.args.kids in
    let x = c.args.found.now in
    let s = c.args.s.now in
    let b = c.close.new.s in
    let r = c.tree.new.s in
    let g : Flow = c.close.new.seen in
    let ys : List TypedNode = c.close.new.kids in
    let u : TypedNode = c.in_ok-tree.tree in
    let m : Mark =
    record {
      node = c.in_ok-number.number;
      ty = x.ty;
      coerce = x.own;
      meaning = c.own_meaning-meaning.result;
      value = (mark_of u).value;
    } in
    let f : Mark =
    record {
      node = c.in_ok-number.number;
      ty = x.ty;
      coerce = x.own;
      meaning = c.path_meaning-meant.result;
      value = c.in_ok-value.value;
    } in
    let closes : Closes (program_of w) (above_of w) (head n) xs w.seen c.first-first.result c.levels-levels.result =
    record {
      store = λ l. refl;
      first = sym c.first-first.ensures;
      levels = c.levels-levels.ensures.levels;
      hand = c.requires.node.hand;
    } in
    let before : (l : Store) → IsLater r l → IsLater b l = λ l d. later_trans b r l c.in_ok-tree.ensures.grown.later d in
    let grown : IsGrownInTypes s r = grown_trans s b r c.in_ok-close.ensures.grown c.in_ok-tree.ensures.grown in
    let q : IsClosing s r w n xs x g m ys =
    record {
      sound = c.declarations-law.ensures.sound;
      grown = grown;
      node = c.requires.node;
      found = c.requires.found;
      flow = λ l d. c.in_ok-close.ensures.seen (program_of w) (above_of w) closes c.requires.found.found l (before l d);
      kids = c.in_ok-close.ensures.kids;
      number = c.in_ok-number.ensures;
      ty = refl;
      own = refl;
      meaning = λ l. c.own_meaning-meaning.ensures (program_of w l) refl;
      value = λ l d.
          let k = c.requires.found.found l (later_trans s r l grown.later d) in
          let o = context_at (program_of w) (above_of w) n xs w.seen l in
          let i = c.own_meaning-meaning.ensures (program_of w l) refl in
          c.in_ok-tree.ensures.value l d
          ∙ finishing-value o x.ty f ys
          (record {
            type = k.type;
            ty = refl;
            node = c.in_ok-number.ensures;
            meaning = c.path_meaning-meant.ensures (program_of w l) refl;
            value = c.in_ok-value.ensures o refl refl (own-path w n xs l c.own_meaning-meaning.result i);
            kids = c.in_ok-close.ensures.kids ∙ sym k.coated;
          });
    } in
    subst (λ (z : TypedNode). IsTurned (program_of w) r (above_of w) (head n) xs w.seen z g) (sym c.in_ok-tree.ensures.tree)
    (is_turned (program_of w) r (above_of w) n xs w.seen g x m ys (closing-closed s r w n xs x g m ys q))

pub returns-clause-hand : goal.returns-clause-hand
returns-clause-hand c =
    let w = c.args.self.now in
    let n = c.args.node.now in
    let xs : List TypedNode = c.args.kids in
    let x = c.args.found.now in
    let s = c.args.s.now in
    let b = c.close.new.s in
    let r = c.tree.new.s in
    let g : Flow = c.close.new.seen in
    let ys : List TypedNode = c.close.new.kids in
    let u : TypedNode = c.in_ok-tree.tree in
    let m : Mark =
    record {
      node = c.in_ok-number.number;
      ty = x.ty;
      coerce = x.own;
      meaning = c.own_meaning-meaning.result;
      value = (mark_of u).value;
    } in
    let f : Mark =
    record {
      node = c.in_ok-number.number;
      ty = x.ty;
      coerce = x.own;
      meaning = c.path_meaning-meant.result;
      value = c.in_ok-value.value;
    } in
    let closes : Closes (program_of w) (above_of w) (head n) xs w.seen c.first-first.result c.levels-levels.result =
    record {
      store = λ l. refl;
      first = sym c.first-first.ensures;
      levels = c.levels-levels.ensures.levels;
      hand = c.requires.node.hand;
    } in
    let before : (l : Store) → IsLater r l → IsLater b l = λ l d. later_trans b r l c.in_ok-tree.ensures.grown.later d in
    let grown : IsGrownInTypes s r = grown_trans s b r c.in_ok-close.ensures.grown c.in_ok-tree.ensures.grown in
    let q : IsClosing s r w n xs x g m ys =
    record {
      sound = c.declarations-law.ensures.sound;
      grown = grown;
      node = c.requires.node;
      found = c.requires.found;
      flow = λ l d. c.in_ok-close.ensures.seen (program_of w) (above_of w) closes c.requires.found.found l (before l d);
      kids = c.in_ok-close.ensures.kids;
      number = c.in_ok-number.ensures;
      ty = refl;
      own = refl;
      meaning = λ l. c.own_meaning-meaning.ensures (program_of w l) refl;
      value = λ l d.
          let k = c.requires.found.found l (later_trans s r l grown.later d) in
          let o = context_at (program_of w) (above_of w) n xs w.seen l in
          let i = c.own_meaning-meaning.ensures (program_of w l) refl in
          c.in_ok-tree.ensures.value l d
          ∙ finishing-value o x.ty f ys
          (record {
            type = k.type;
            ty = refl;
            node = c.in_ok-number.ensures;
            meaning = c.path_meaning-meant.ensures (program_of w l) refl;
            value = c.in_ok-value.ensures o refl refl (own-path w n xs l c.own_meaning-meaning.result i);
            kids = c.in_ok-close.ensures.kids ∙ sym k.coated;
          });
    } in
    subst (IsInHand g) (sym c.in_ok-tree.ensures.tree)
    (in_hand (program_of w) r (above_of w) n xs w.seen g x m ys q.grown.later.sound (closing-closed s r w n xs x g m ys q))

pub returns-clause-walks : goal.returns-clause-walks
returns-clause-walks c ps h =
    let w = c.args.self.now in
    let n = c.args.node.now in
    let xs : List TypedNode = c.args.kids in
    let x = c.args.found.now in
    let s = c.args.s.now in
    let b = c.close.new.s in
    let r = c.tree.new.s in
    let g : Flow = c.close.new.seen in
    let ys : List TypedNode = c.close.new.kids in
    let u : TypedNode = c.in_ok-tree.tree in
    let m : Mark =
    record {
      node = c.in_ok-number.number;
      ty = x.ty;
      coerce = x.own;
      meaning = c.own_meaning-meaning.result;
      value = (mark_of u).value;
    } in
    let f : Mark =
    record {
      node = c.in_ok-number.number;
      ty = x.ty;
      coerce = x.own;
      meaning = c.path_meaning-meant.result;
      value = c.in_ok-value.value;
    } in
    let closes : Closes (program_of w) (above_of w) (head n) xs w.seen c.first-first.result c.levels-levels.result =
    record {
      store = λ l. refl;
      first = sym c.first-first.ensures;
      levels = c.levels-levels.ensures.levels;
      hand = c.requires.node.hand;
    } in
    let before : (l : Store) → IsLater r l → IsLater b l = λ l d. later_trans b r l c.in_ok-tree.ensures.grown.later d in
    let grown : IsGrownInTypes s r = grown_trans s b r c.in_ok-close.ensures.grown c.in_ok-tree.ensures.grown in
    let q : IsClosing s r w n xs x g m ys =
    record {
      sound = c.declarations-law.ensures.sound;
      grown = grown;
      node = c.requires.node;
      found = c.requires.found;
      flow = λ l d. c.in_ok-close.ensures.seen (program_of w) (above_of w) closes c.requires.found.found l (before l d);
      kids = c.in_ok-close.ensures.kids;
      number = c.in_ok-number.ensures;
      ty = refl;
      own = refl;
      meaning = λ l. c.own_meaning-meaning.ensures (program_of w l) refl;
      value = λ l d.
          let k = c.requires.found.found l (later_trans s r l grown.later d) in
          let o = context_at (program_of w) (above_of w) n xs w.seen l in
          let i = c.own_meaning-meaning.ensures (program_of w l) refl in
          c.in_ok-tree.ensures.value l d
          ∙ finishing-value o x.ty f ys
          (record {
            type = k.type;
            ty = refl;
            node = c.in_ok-number.ensures;
            meaning = c.path_meaning-meant.ensures (program_of w l) refl;
            value = c.in_ok-value.ensures o refl refl (own-path w n xs l c.own_meaning-meaning.result i);
            kids = c.in_ok-close.ensures.kids ∙ sym k.coated;
          });
    } in
    let v = c.declarations-closed.ensures.sound in
    let d = c.in_ok-tree.ensures.grown.later in
    closing-walks s r w n xs x g m ys c.close.new.told ps q
    (record {
      entries = c.in_ok-close.ensures.told h.entries;
      locals = locals_stay b r v d c.close.new.told (c.in_ok-close.ensures.locals h.locals);
      yields = yielded_stay b r v d g.yields (c.in_ok-close.ensures.yields h.yields);
    })
    h

pub returns-clause-kept : goal.returns-clause-kept
returns-clause-kept c t h =
    let w = c.args.self.now in
    let n = c.args.node.now in
    let xs : List TypedNode = c.args.kids in
    let x = c.args.found.now in
    let s = c.args.s.now in
    let b = c.close.new.s in
    let r = c.tree.new.s in
    let g : Flow = c.close.new.seen in
    let ys : List TypedNode = c.close.new.kids in
    let u : TypedNode = c.in_ok-tree.tree in
    let m : Mark =
    record {
      node = c.in_ok-number.number;
      ty = x.ty;
      coerce = x.own;
      meaning = c.own_meaning-meaning.result;
      value = (mark_of u).value;
    } in
    let f : Mark =
    record {
      node = c.in_ok-number.number;
      ty = x.ty;
      coerce = x.own;
      meaning = c.path_meaning-meant.result;
      value = c.in_ok-value.value;
    } in
    let closes : Closes (program_of w) (above_of w) (head n) xs w.seen c.first-first.result c.levels-levels.result =
    record {
      store = λ l. refl;
      first = sym c.first-first.ensures;
      levels = c.levels-levels.ensures.levels;
      hand = c.requires.node.hand;
    } in
    let before : (l : Store) → IsLater r l → IsLater b l = λ l d. later_trans b r l c.in_ok-tree.ensures.grown.later d in
    let grown : IsGrownInTypes s r = grown_trans s b r c.in_ok-close.ensures.grown c.in_ok-tree.ensures.grown in
    let q : IsClosing s r w n xs x g m ys =
    record {
      sound = c.declarations-law.ensures.sound;
      grown = grown;
      node = c.requires.node;
      found = c.requires.found;
      flow = λ l d. c.in_ok-close.ensures.seen (program_of w) (above_of w) closes c.requires.found.found l (before l d);
      kids = c.in_ok-close.ensures.kids;
      number = c.in_ok-number.ensures;
      ty = refl;
      own = refl;
      meaning = λ l. c.own_meaning-meaning.ensures (program_of w l) refl;
      value = λ l d.
          let k = c.requires.found.found l (later_trans s r l grown.later d) in
          let o = context_at (program_of w) (above_of w) n xs w.seen l in
          let i = c.own_meaning-meaning.ensures (program_of w l) refl in
          c.in_ok-tree.ensures.value l d
          ∙ finishing-value o x.ty f ys
          (record {
            type = k.type;
            ty = refl;
            node = c.in_ok-number.ensures;
            meaning = c.path_meaning-meant.ensures (program_of w l) refl;
            value = c.in_ok-value.ensures o refl refl (own-path w n xs l c.own_meaning-meaning.result i);
            kids = c.in_ok-close.ensures.kids ∙ sym k.coated;
          });
    } in
    subst (IsKeptTree t) (sym c.in_ok-tree.ensures.tree) (closing-kept s r w n xs x g m ys q t h)
