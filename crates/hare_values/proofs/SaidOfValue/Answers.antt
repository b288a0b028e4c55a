-- From what is said of a value and of the declaration to what is said of both.
use Rattle.std.proofs.Common.{◌≡◌, ℕ, List, sym, ◌∙◌, subst}
use Rattle.hare_tree.specs.declared.place.Fault.{Fault}
use Rattle.hare_tree.specs.declared.stop.Stop.{Stop}
use Rattle.hare_tree.specs.declared.stop.Stop.TheVariants.{Fault as Refused, Memory}
use Rattle.hare_tree.specs.Node.{Node}
use Rattle.hare_types.specs.Store.{Store}
use Rattle.hare_types.specs.Sound.{IsStore}
use Rattle.hare_types.specs.Later.{IsLater}
use Rattle.hare_types.proofs.LaterLemmas.{later_here, later_trans}
use Rattle.hare_typed.specs.Typed.{TypedNode}
use Rattle.hare_typed.specs.Erased.{erase}
use Rattle.hare_rules.specs.declared.declared.DeclType.{DeclType}
use Rattle.hare_rules.specs.declared.hint.Hint.{Hint}
use Rattle.hare_rules.specs.Finished.{FailsIn, IsWell}
use Rattle.hare_modules.specs.Uses.{kid}
use Rattle.hare_whole.specs.Declared.{over_value, before_value}
use Rattle.hare_whole.specs.Listing.{Listing}
use Rattle.hare_whole.specs.Turns.{hint_by, IsTypedValue, inside, itself}
use Rattle.hare_turns.specs.Stages.{over, AreReadable, IsValueOf}
use Rattle.hare_bindings.specs.Bindings.{IsBinding, IsBindingStop}
use Rattle.hare_values.specs.Judging.{IsTreeOf, IsStopOf}
use Rattle.hare_values.specs.Values.{IsValueStop}

module _ (p : Listing) (ds : List DeclType) (s : Store) (n : ℕ) (t b : Node) (ts : List TypedNode) (h : Hint) (e : b ≡ kid t 3)
    (g : h ≡ hint_by ts) where
  pub erased : IsStore s → (v : TypedNode) → IsTreeOf p ds s n h b v → erase v ≡ kid t 3
  erased sound v a = (a s (later_here s sound)).erases ∙ e

  -- the value of the declaration has this tree
  typed : (v : TypedNode) → IsTreeOf p ds s n h b v → (f : Store) → IsLater s f → IsTypedValue (over p ds f) n t ts v
  typed v a f l = record {
    erases = (a f l).erases ∙ e;
    well =
        subst (λ k. IsWell (over p ds f) (over_value (over p ds f) n (hint_by ts)) (before_value k) v) e
        (subst (λ j. IsWell (over p ds f) (over_value (over p ds f) n j) (before_value b) v) g (a f l).well);
  }

  -- the fault of the value is that of its declaration
  pub stop-inside : (q : Stop Fault) → IsStopOf p ds s n h b q → IsValueStop p ds s n t ts q
  stop-inside Memory a = tt
  stop-inside (Refused q) a = λ f l.
      let w = a f l in
      inside w.row w.at
      (subst (λ k. FailsIn (over p ds f) (over_value (over p ds f) n (hint_by ts)) k (before_value k) w.row w.at) e
      (subst (λ j. FailsIn (over p ds f) (over_value (over p ds f) n j) b (before_value b) w.row w.at) g w.fails))
      w.is

  module _ (r : Store) (later : IsLater s r) (v : TypedNode) (a : IsTreeOf p ds s n h b v) where
    -- the declaration meets its rows
    pub value-of : IsStore s → AreReadable p ds b → IsBinding r n t ts v → IsValueOf p ds r n t ts v
    value-of sound says rows = record {
      typed = λ f l. typed v a f (later_trans s r f later l);
      rows = λ f l. rows p ds f l;
      readable = subst (AreReadable p ds) (sym (a s (later_here s sound)).erases) says;
    }

    -- or it has a fault of its own
    pub stop-itself : (q : Stop Fault) → IsBindingStop r n t ts v q → IsValueStop p ds r n t ts q
    stop-itself Memory k = tt
    stop-itself (Refused q) k = λ f l.
        let w = k p ds f l in itself v w.row (typed v a f (later_trans s r f later l)) w.first w.is
