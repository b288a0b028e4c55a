use Rattle.std.proofs.Common.{◌≡◌, ◌||◌, ◌∷◌, sym, ap, ◌∙◌, subst, length, map, drop, ◌+◌}
use Rattle.hare_tree.specs.Node.{head, nodes_of}
use Rattle.hare_types.specs.Later.{IsLater}
use Rattle.hare_types.proofs.LaterLemmas.{later_trans}
use Rattle.hare_typed.specs.Typed.{typed_nodes}
use Rattle.hare_typed.specs.Copies.{is_defer}
use Rattle.hare_rules.specs.Above.{labels_by, role_of, values_under}
use Rattle.hare_rules.specs.Finished.{bare}
use Rattle.rule_judge.proofs.DefinedLemmas.{trees_stay, hint_stays, defined_stays}
use Rattle.hare_above.specs.Frames.{role_in}
use Rattle.hare_above.specs.Ready.{IsReady}
use Rattle.hare_above.specs.Stands.{inner}
use Rattle.hare_above.proofs.OverLemmas.{over_by, asked-is, over-is, stood}
use Rattle.hare_above.proofs.ReadyLemmas.{above_stays, aboves_stay, opens_stay, labels-defined}
use Rattle.hare_above.proofs.standing.Standing.enter.Goals as goal

pub values_under-requires : goal.values_under-requires
values_under-requires c =
    trees_stay c.args.s.now c.kid_hint.new.s c.declarations-law.ensures.sound c.kid_hint.ensures.grown.later (typed_nodes c.args.done.now)
    c.requires.types

pub returns-clause-over : goal.returns-clause-over
returns-clause-over c w d l p =
    let node = c.args.node.now in
    let kid = c.args.kid.now in
    let xs = c.args.done.now in
    let above = c.args.self.now.above in
    let rest = nodes_of (drop (length xs + 1) c.args.kids.now) in
    let later : IsLater c.values_under.new.s (w l).store = subst (IsLater c.values_under.new.s) (sym (d.store l)) p in
    let before = later_trans c.kid_hint.new.s c.values_under.new.s (w l).store c.values_under.ensures.grown.later later in
    let kind : c.node.inside.kind ≡ (head node).kind = ap (λ t. (head t).kind) c.node.view_is in
    let own : c.kid.inside.kind ≡ (head kid).kind = ap (λ t. (head t).kind) c.kid.view_is in
    let role : role_in c.role_of.result ≡ role_of (head node).kind (length xs) (head kid).kind =
    c.role_of.ensures ∙ ap (λ k. role_of k c.len-i.result c.kid.inside.kind) kind
    ∙ ap (λ i. role_of (head node).kind i c.kid.inside.kind) c.len-i.ensures ∙ ap (role_of (head node).kind (length xs)) own in
    let in_hand = c.asking-q.ensures in
    let asks = c.in_ok-hint.ensures.value (w l) (record { later = before; decls = d.decls l })
    ∙ asked-is (w l) c.asking-q.result above node kid xs c.args.kids.now in_hand.own in_hand.values in_hand.labels in_hand.gives
    in_hand.node in_hand.done
    in_hand.kids in_hand.kid in
    let values = c.in_ok-values.ensures.value (w l) above later ∙ ap (λ k. values_under (w l) above k (map bare xs)) kind in
    let gone = c.in_ok-go_in_to.ensures ∙ ap (inner c.args.self.now (head node) c.args.at.number) c.len-i.ensures in
    ap (λ s. s.above)
    (stood c.args.self.now c.go_in_to.new.self c.stand.new.self (head node) c.args.at.number (length xs) c.in_ok-hint.hint
    c.in_ok-values.values
    (role_in c.role_of.result) c.args.at.first c.args.at.begins gone c.stand.ensures)
    ∙ over-is (w l) above (head node) xs kid rest c.args.at c.in_ok-hint.hint c.in_ok-values.values (role_in c.role_of.result)
    c.requires.at asks values role

pub returns-clause-ready : goal.returns-clause-ready
returns-clause-ready c =
    let node = head c.args.node.now in
    let st = c.args.self.now in
    let start = c.args.s.now in
    let between = c.kid_hint.new.s in
    let end = c.values_under.new.s in
    let sound = c.declarations-law.ensures.sound in
    let more = c.kid_hint.ensures.grown.later in
    let most = c.values_under.ensures.grown.later in
    let later = later_trans start between end more most in
    let was = c.requires.ready in
    let ready : IsReady end (record st {
      above = over_by st.above (st.above.inside.deferred || is_defer node.kind)
          (labels_by st.above node c.args.at.number c.len-i.result node.kind) c.in_ok-hint.hint c.in_ok-values.values
          (role_in c.role_of.result)
          c.args.at.first c.args.at.begins;
      outer = st.above ∷ st.outer;
    }) = record {
      above = record {
        hint = hint_stays between end more.sound most c.in_ok-hint.hint c.in_ok-hint.ensures.defined;
        values = c.in_ok-values.ensures.defined;
        result = defined_stays start end sound later st.above.inside.result was.above.result;
        labels = opens_stay start end sound later _
            (labels-defined start st.above node c.args.at.number c.len-i.result node.kind was.above.labels was.above.hint);
      };
      outer = (above_stays start end sound later st.above was.above, aboves_stay start end sound later st.outer was.outer);
    } in
    subst (IsReady end)
    (sym (stood st c.go_in_to.new.self c.stand.new.self node c.args.at.number c.len-i.result c.in_ok-hint.hint c.in_ok-values.values
    (role_in c.role_of.result) c.args.at.first c.args.at.begins c.in_ok-go_in_to.ensures c.stand.ensures))
    ready
