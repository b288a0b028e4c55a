-- What is said of a value by what is ready is said of it by all that is known.
use Rattle.std.proofs.Common.{ℕ, List, refl}
use Rattle.std.specs.Prelude.{Result, Ok, Err, IfOk, IfErr}
use Rattle.hare_tree.specs.declared.place.Fault.{Fault}
use Rattle.hare_tree.specs.declared.stop.Stop.{Stop}
use Rattle.hare_tree.specs.declared.stop.Stop.TheVariants.{Fault as Refused, Memory}
use Rattle.hare_tree.specs.Node.{Node}
use Rattle.hare_types.specs.Store.{Store}
use Rattle.hare_typed.specs.Typed.{TypedNode}
use Rattle.hare_rules.specs.declared.declared.DeclType.{DeclType}
use Rattle.hare_rules.specs.declared.hint.Hint.{Hint}
use Rattle.hare_agree.specs.Agree.{AgreeOnValues}
use Rattle.hare_agree.specs.Laws.{IsAgreed, ValuesAreEnough}
use Rattle.hare_whole.specs.Declared.{over_value, before_value}
use Rattle.hare_whole.specs.Listing.{Listing}
use Rattle.hare_turns.specs.Stages.{over}
use Rattle.hare_values.specs.Judging.{IsTreeOf, IsStopOf}

module _ (enough : ValuesAreEnough) (p : Listing) (known ready : List DeclType) (s r : Store) (n : ℕ) (h : Hint) (t : Node)
    (same : AgreeOnValues (over p ready s) (over p known s) t) where
  agreed : (f : Store) → IsAgreed (over p ready f) (over p known f) (over_value (over p known f) n h) (before_value t) t
  agreed f =
      enough (over p ready f) (over p known f) (over_value (over p known f) n h) (before_value t) t
      (record { store = refl; means = refl }) same

  stop-known : (e : Stop Fault) → IsStopOf p ready r n h t e → IsStopOf p known r n h t e
  stop-known Memory a = λ f l. tt
  stop-known (Refused e) a = λ f l. ((agreed f).first e).0 (a f l)

  pub trees-known : (q : Result TypedNode (Stop Fault)) → IfOk q (IsTreeOf p ready r n h t) → IfOk q (IsTreeOf p known r n h t)
  trees-known (Ok x) a = λ f l. ((agreed f).tree x).0 (a f l)
  trees-known (Err e) a = tt

  pub stops-known : (q : Result TypedNode (Stop Fault)) → IfErr q (IsStopOf p ready r n h t) → IfErr q (IsStopOf p known r n h t)
  stops-known (Ok x) a = tt
  stops-known (Err e) a = stop-known e a
