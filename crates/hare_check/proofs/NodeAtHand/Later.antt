-- What is known of the node at hand stays in later stores, and is what its judge relies on.
use Rattle.std.proofs.Common.{◌≡◌, true, List, length, map, refl, ap, sym, ◌∙◌}
use Rattle.hare_tree.specs.Node.{Node}
use Rattle.hare_types.specs.Store.{Store}
use Rattle.hare_types.specs.Sound.{IsStore}
use Rattle.hare_types.specs.Later.{IsLater}
use Rattle.hare_types.proofs.LaterLemmas.{later_trans}
use Rattle.hare_typed.specs.Typed.{TypedNode}
use Rattle.hare_rules.specs.Context.{Setting, Given}
use Rattle.hare_rules.specs.Finished.{bare}
use Rattle.hare_rules.specs.Flow.{path_meaning, yields_to}
use Rattle.hare_told.specs.Told.{AreToldYields, IsLookedAt, has_judge, told_label}
use Rattle.hare_above.specs.Stands.{Stands, told_case}
use Rattle.rule_judge.specs.declared.turn.Turn.{Turn}
use Rattle.rule_judge.specs.Defined.{AreDefinedYields}
use Rattle.rule_judge.specs.Grown.{IsGrown as IsGrownInTypes}
use Rattle.rule_judge.specs.Meant.{IsMeant}
use Rattle.rule_judge.specs.Turns.{head_in, kind_in}
use Rattle.hare_judge.specs.Kinds.{is_judged_kind}
use Rattle.hare_judge.specs.Needs.{IsReadyTurn}
use Rattle.hare_find.specs.Findings.{IsAtTurn}
use Rattle.hare_check.specs.declared.walker.Walker.{Walker}
use Rattle.hare_check.specs.Nodes.{program_of, above_of, IsAtNode}
use Rattle.hare_check.specs.Turned.{context_at}
use Rattle.hare_check.proofs.Kept.Relied.{each_kept-grown, first-typed, trees-defined}
use Rattle.hare_check.proofs.Kept.Cases.{cases-typed}
use Rattle.hare_check.proofs.NodeAtHand.Ready.{judged-shaped}
use Rattle.hare_check.proofs.Walks.Growing.{grown-types, walking-later}

pub node-grown : (s r : Store) (w : Walker) (n : Node) (xs : List TypedNode) → IsStore s → IsGrownInTypes s r → IsAtNode s w n xs →
    IsAtNode r w n xs
node-grown s r w n xs v g a = record {
  walks = (a.walks.0, walking-later s r v g.later _ w.decls.now w.standing w.seen w.told w.begun a.walks.1);
  part = a.part;
  whole = a.whole;
  inferred = (a.inferred.0, λ l d. a.inferred.1 l (later_trans s r l g.later d));
  hand = a.hand;
  kept = each_kept-grown s r v (grown-types s r g) xs a.kept;
}

-- ---- what a judge relies on

-- A judge is told of the node at hand with what a walker knows, and with these meanings and yields.
pub record IsToldOf (w : Walker) (n : Node) (xs : List TypedNode) (t : Turn) (st : Stands) : Type 0 where
  pub node : t.node.now ≡ n
  pub kids : t.kids.now ≡ xs
  pub decls : t.decls.now ≡ w.decls.now
  pub locals : t.locals.now ≡ w.told
  pub case : t.case.now ≡ told_case st
  pub above : st.above ≡ above_of w

pub ready-turn : (s : Store) (w : Walker) (t : Turn) (st : Stands) → IsAtNode s w t.node.now t.kids.now →
    is_judged_kind (kind_in t) ≡ true → IsToldOf w t.node.now t.kids.now t st → IsMeant s w.decls.now w.told st.meaning →
    AreDefinedYields s st.yields → IsReadyTurn s t
ready-turn s w t st a k q m y =
    let d = a.walks.1 in
    let shaped = judged-shaped t.node.now a.part k in
    let hint : t.case.now.hint ≡ (above_of w).hint = ap (λ c. c.hint) q.case ∙ ap (λ b. b.hint) q.above in
    let result : t.case.now.inside.result ≡ (above_of w).inside.result = ap (λ c. c.inside.result) q.case
    ∙ ap (λ b. b.inside.result) q.above in
    record {
      turn = record {
        shaped = shaped;
        kids = a.whole;
        types = trees-defined s t.kids.now a.kept;
        hint = rw hint d.standing.above.hint;
        yields = rw q.case y;
      };
      ready = record {
        nomem = d.known.nomem;
        meant = rw (q.decls, q.locals, q.case) m;
        result = rw result d.standing.above.result;
        typed = first-typed s t.kids.now a.kept;
        cases = λ e. cases-typed s shaped.0 t.node.now t.kids.now shaped.1 e a.whole a.kept;
      };
    }

-- ---- that its turn has come

pub at-turn : (s : Store) (w : Walker) (t : Turn) (st : Stands) (gs : List Given) → IsAtNode s w t.node.now t.kids.now →
    IsToldOf w t.node.now t.kids.now t st → has_judge (above_of w).inside.role ≡ true →
    ((v : Setting) → v.means ≡ (program_of w s).means → st.meaning ≡ path_meaning v (head_in t) (kind_in t) (map bare t.kids.now)) →
    gs ≡ yields_to (kind_in t) (length (above_of w).inside.labels) w.seen.yields →
    ((l : Store) → IsLater s l → AreToldYields l gs st.yields) →
    ((l : Store) → IsLater s l → IsLookedAt (context_at (program_of w) (above_of w) t.node.now t.kids.now w.seen l)) →
    IsAtTurn (program_of w) s (above_of w) w.seen t gs
at-turn s w t st gs a q role meaning yields given looked =
    record {
      store = λ l. refl;
      decls = λ l. sym q.decls;
      inferred = a.inferred;
      hand = a.hand;
      locals = rw q.locals a.walks.1.entries;
      hint = ap (λ c. c.hint) q.case ∙ ap (λ b. b.hint) q.above;
      own = ap (λ c. c.inside.own) q.case ∙ ap (λ b. b.inside.own) q.above;
      result = ap (λ c. c.inside.result) q.case ∙ ap (λ b. b.inside.result) q.above;
      deferred = ap (λ c. c.inside.deferred) q.case ∙ ap (λ b. b.inside.deferred) q.above;
      body = ap (λ c. c.inside.body) q.case ∙ ap (λ b. b.inside.body) q.above;
      labels = ap (λ c. c.inside.labels) q.case ∙ ap (λ b. map told_label b.inside.labels) q.above;
      role = role;
      meaning = λ l d. ap (λ c. c.meaning) q.case ∙ meaning (program_of w l) refl;
      yields = sym yields;
      given = λ l d. rw q.case (given l d);
      looked = looked;
    }
