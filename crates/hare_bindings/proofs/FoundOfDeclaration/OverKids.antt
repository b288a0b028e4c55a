-- What is found over the kids of a node is found of the declaration.
use Rattle.std.proofs.Common.{◌≡◌, ℕ, List, None, subst}
use Rattle.std.specs.Prelude.{Result, Ok, Err, OnOk, IfErr}
use Rattle.hare_tree.specs.declared.place.Fault.{Fault}
use Rattle.hare_tree.specs.declared.stop.Stop.{Stop}
use Rattle.hare_tree.specs.declared.stop.Stop.TheVariants.{Fault as Refused, Memory}
use Rattle.hare_tree.specs.Node.{Node, head}
use Rattle.hare_types.specs.Store.{Store}
use Rattle.hare_types.specs.Later.{IsLater}
use Rattle.hare_types.proofs.LaterLemmas.{later_trans}
use Rattle.hare_typed.specs.Typed.{TypedNode}
use Rattle.hare_rules.specs.Rows.{first_failing}
use Rattle.hare_whole.specs.Declared.{own_context}
use Rattle.hare_turns.specs.Stages.{over}
use Rattle.hare_bindings.specs.Bindings.{IsBinding, IsBindingStop, FailsAt}
use Rattle.hare_bindings.specs.Own.{AreKidsOf, MeetsRows, IsRowsStop}

pub ok_then : {T E : Type 0} (r : Result T E) (P Q : Type 0) → (P → Q) → OnOk r P → OnOk r Q
ok_then (Ok x) P Q go p = go p
ok_then (Err e) P Q go p = tt

pub ok_always : {T E : Type 0} (r : Result T E) (Q : Type 0) → Q → OnOk r Q
ok_always (Ok x) Q q = q
ok_always (Err e) Q q = tt

pub err_then : {T E : Type 0} (r : Result T E) (P Q : E → Type 0) → ((e : E) → P e → Q e) → IfErr r P → IfErr r Q
err_then (Ok x) P Q go p = tt
err_then (Err e) P Q go p = go e p

module _
    (now later : Store)
    (grown : IsLater now later)
    (n : ℕ)
    (t : Node)
    (ts : List TypedNode)
    (v : TypedNode)
    (xs : List TypedNode)
    (k : AreKidsOf now t ts v xs) where
  pub binding_meets : MeetsRows later n t xs → IsBinding later n t ts v
  binding_meets m p ds f l =
      let w = over p ds f in
      subst (λ (ys : List TypedNode). first_failing (own_context w n (head t) ys) ≡ None) (k w (later_trans now later f grown l)) (m w l)

  pub binding_stops : (q : Stop Fault) → IsRowsStop later n t xs q → IsBindingStop later n t ts v q
  binding_stops Memory m = tt
  binding_stops (Refused e) m =
      λ p ds f l.
      let w = over p ds f in
      subst (λ (ys : List TypedNode). FailsAt (own_context w n (head t) ys) e) (k w (later_trans now later f grown l)) (m w l)
