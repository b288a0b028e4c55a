use Rattle.std.proofs.Common.{◌≡◌, ℕ, true, map, refl, ap, sym, ◌∙◌, subst}
use Rattle.std.specs.Prelude.{option_map}
use Rattle.hare_tree.specs.declared.kind.Kind.TheVariants as ki
use Rattle.hare_tree.specs.declared.place.Fault.{Fault}
use Rattle.hare_tree.specs.declared.stop.Stop.{Stop}
use Rattle.hare_tree.specs.Node.{head}
use Rattle.hare_types.specs.Store.{Store}
use Rattle.hare_types.specs.Later.{IsLater}
use Rattle.hare_types.proofs.LaterLemmas.{later_trans}
use Rattle.hare_flow.specs.Seen.{entry_of}
use Rattle.hare_rules.specs.declared.row_id.RowId.TheVariants as asked
use Rattle.hare_rules.specs.Context.{Context, store_of}
use Rattle.hare_rules.specs.declared.hint.Hint.{Hint}
use Rattle.hare_rules.specs.Control.{takes_yield, block_meant, hint_of_open}
use Rattle.hare_rules.specs.Finished.{bare}
use Rattle.hare_rules.specs.Flow.{yielded}
use Rattle.hare_typed.specs.Order.{tree_from_front}
use Rattle.hare_rules.specs.Rows.{holds}
use Rattle.hare_told.specs.Told.{IsLookedAt}
use Rattle.hare_find.specs.Looked.{IsVoidTaken, MeansLocal, IsKnownAt, IsRefusedBy, IsYield, MeansInside}
use Rattle.hare_above.proofs.JumpLemmas.{meant-defined}
use Rattle.rule_judge.specs.Defined.{IsDefinedHint}
use Rattle.rule_judge.proofs.TurnLemmas.{grown_here}
use Rattle.hare_check.specs.Nodes.{program_of, above_of, IsStopOf, IsTakenAt}
use Rattle.hare_check.specs.Turned.{context_at}
use Rattle.hare_check.proofs.NodeAtHand.Looking.{looked-local, stop-local, IsToldYieldOf, yield-told, looked-yield, looked-other}
use Rattle.hare_check.proofs.NodeAtHand.Looking.{stop-refused}
use Rattle.hare_check.proofs.FoundOfNode.Answers.{on-map, err-map}
use Rattle.hare_check.proofs.walker.Walker.look.Goals as goal

pub look_at_yield-requires : goal.look_at_yield-requires
look_at_yield-requires c =
    let s = c.args.s.now in
    let w = c.args.self.now in
    subst (IsDefinedHint s) (sym c.yield_hint-hint.ensures)
    (meant-defined s (takes_yield c.bytes.result.now) (above_of w).inside.labels c.requires.node.walks.1.standing.above.labels)

pub returns-in-Local-clause-looked : goal.returns-in-Local-clause-looked
returns-in-Local-clause-looked c =
    let w = c.args.self.now in
    let n = c.args.node.now in
    let xs = c.args.kids.now in
    let i = c.in-Local.n in
    let p = c.node.inside.place in
    let o = option_map entry_of c.binding.result in
    on-map ((d : Context) (j : ℕ) → MeansLocal d j p o → IsKnownAt d j)
    ((l : Store) → IsLater c.args.s.now l → IsLookedAt (context_at (program_of w) (above_of w) n xs w.seen l)) c.look_at_binding.result
    c.look_at_binding.ensures.ok
    (λ k l d. looked-local c.args.s.now w n xs l i p o c.requires.node d
    (record {
      kind = sym (ap (λ t. (head t).kind) c.node.view_is) ∙ c.in-Path.is;
      place = sym (ap (λ t. (head t).place) c.node.view_is);
      role = c.requires.role;
      meaning = sym (c.requires.meaning (program_of w l) refl) ∙ c.in-Local.is;
      entry = c.binding.ensures;
    }) k)

pub returns-in-Local-clause-err : goal.returns-in-Local-clause-err
returns-in-Local-clause-err c =
    let w = c.args.self.now in
    let n = c.args.node.now in
    let xs = c.args.kids.now in
    let i = c.in-Local.n in
    let p = c.node.inside.place in
    let o = option_map entry_of c.binding.result in
    err-map (λ (e : Stop Fault). (d : Context) (j : ℕ) → MeansLocal d j p o → IsRefusedBy d e)
    (λ (e : Stop Fault). IsStopOf c.args.s.now w n xs e) c.look_at_binding.result c.look_at_binding.ensures.err
    (λ e k. stop-local c.args.s.now w n xs i p o e
    (λ l d. record {
      kind = sym (ap (λ t. (head t).kind) c.node.view_is) ∙ c.in-Path.is;
      place = sym (ap (λ t. (head t).place) c.node.view_is);
      role = c.requires.role;
      meaning = sym (c.requires.meaning (program_of w l) refl) ∙ c.in-Local.is;
      entry = c.binding.ensures;
    }) k)

pub returns-in-Yield-clause-looked : goal.returns-in-Yield-clause-looked
returns-in-Yield-clause-looked c =
    let w = c.args.self.now in
    let n = c.args.node.now in
    let xs = c.args.kids.now in
    let q = c.case.result.now in
    let i = c.yield_hint-hint.result in
    let s = c.look_at_yield.new.s in
    let t : IsToldYieldOf w n q i =
    record {
      kind = sym (ap (λ z. (head z).kind) c.node.view_is) ∙ c.in-Yield.is;
      labels = ap (λ z. z.inside.labels) c.case.ensures;
      deferred = ap (λ z. z.inside.deferred) c.case.ensures;
      role = c.requires.role;
      hint =
          c.yield_hint-hint.ensures
          ∙ ap (λ z. hint_of_open (block_meant z (above_of w).inside.labels)) (c.bytes.ensures ∙ ap (λ z. (head z).text) c.node.view_is);
    } in
    on-map ((d : Context) → IsLater s (store_of d) → IsYield d q (head n) xs i → MeansInside d → holds asked.YieldNoValue d ≡ true)
    ((l : Store) → IsLater s l → IsLookedAt (context_at (program_of w) (above_of w) n xs w.seen l)) c.look_at_yield.result
    c.look_at_yield.ensures.value
    (λ k l d. looked-yield c.args.s.now w n xs l q i c.requires.node (later_trans c.args.s.now s l c.look_at_yield.ensures.grown.later d) t
    (λ e f y m. k e (subst (IsLater s) (sym f) d) y m))

pub returns-in-Yield-clause-void : goal.returns-in-Yield-clause-void
returns-in-Yield-clause-void c =
    let w = c.args.self.now in
    let n = c.args.node.now in
    let xs = c.args.kids.now in
    let q = c.case.result.now in
    let i = c.yield_hint-hint.result in
    let s = c.look_at_yield.new.s in
    let t : IsToldYieldOf w n q i =
    record {
      kind = sym (ap (λ z. (head z).kind) c.node.view_is) ∙ c.in-Yield.is;
      labels = ap (λ z. z.inside.labels) c.case.ensures;
      deferred = ap (λ z. z.inside.deferred) c.case.ensures;
      role = c.requires.role;
      hint =
          c.yield_hint-hint.ensures
          ∙ ap (λ z. hint_of_open (block_meant z (above_of w).inside.labels)) (c.bytes.ensures ∙ ap (λ z. (head z).text) c.node.view_is);
    } in
    let given = yielded (head n) (tree_from_front 0 (map bare xs)) in
    on-map ((d : Context) → IsYield d q (head n) xs i → MeansInside d → IsVoidTaken s i given)
    ((head n).kind ≡ ki.Yield → (l : Store) → IsLater s l → MeansInside (context_at (program_of w) (above_of w) n xs w.seen l) →
    IsTakenAt s w n xs)
    c.look_at_yield.result c.look_at_yield.ensures.taken
    (λ k e l d m. subst (λ (z : Hint). IsVoidTaken s z given) t.hint
    (k (context_at (program_of w) (above_of w) n xs w.seen l) (yield-told w n xs l q i c.requires.node.hand t) m))

pub returns-in-Yield-clause-err : goal.returns-in-Yield-clause-err
returns-in-Yield-clause-err c =
    let w = c.args.self.now in
    let n = c.args.node.now in
    let xs = c.args.kids.now in
    let q = c.case.result.now in
    let i = c.yield_hint-hint.result in
    let s = c.look_at_yield.new.s in
    let t : IsToldYieldOf w n q i =
    record {
      kind = sym (ap (λ z. (head z).kind) c.node.view_is) ∙ c.in-Yield.is;
      labels = ap (λ z. z.inside.labels) c.case.ensures;
      deferred = ap (λ z. z.inside.deferred) c.case.ensures;
      role = c.requires.role;
      hint =
          c.yield_hint-hint.ensures
          ∙ ap (λ z. hint_of_open (block_meant z (above_of w).inside.labels)) (c.bytes.ensures ∙ ap (λ z. (head z).text) c.node.view_is);
    } in
    err-map (λ (e : Stop Fault). (d : Context) → IsLater s (store_of d) → IsYield d q (head n) xs i → IsRefusedBy d e)
    (λ (e : Stop Fault). IsStopOf s w n xs e) c.look_at_yield.result c.look_at_yield.ensures.err
    (λ e k l d. stop-refused (program_of w l) (above_of w) (head n) (map bare xs) w.seen e
    (k (context_at (program_of w) (above_of w) n xs w.seen l) d (yield-told w n xs l q i c.requires.node.hand t)))

pub returns-in_default : goal.returns-in_default
returns-in_default c =
    let w = c.args.self.now in
    let n = c.args.node.now in
    let kind = ap (λ t. (head t).kind) c.node.view_is in
    record {
      looked = λ l d.
          looked-other c.args.s.now w n c.args.kids.now l c.requires.node d (λ i e m. absurd (c.in_default.not-Path (kind ∙ e)))
          (λ e. c.in_default.not-Yield (kind ∙ e));
      void = λ e l d m. absurd (c.in_default.not-Yield (kind ∙ e));
      err = tt;
      grown = grown_here c.args.s.now c.declarations-law.ensures.sound;
    }
