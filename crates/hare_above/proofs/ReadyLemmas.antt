-- What is relied on stays, as the store grows and as a walk goes in.
use Rattle.std.proofs.Common.{ℕ, zero, suc, List, [], ◌∷◌, ◌++◌, map}
use Rattle.hare_tree.specs.declared.kind.Kind.{Kind}
use Rattle.hare_tree.specs.declared.kind.Kind.TheVariants as ki
use Rattle.hare_tree.specs.Node.{Head}
use Rattle.hare_types.specs.Store.{Store}
use Rattle.hare_types.specs.Sound.{IsStore}
use Rattle.hare_types.specs.Later.{IsLater}
use Rattle.hare_rules.specs.Context.{Open}
use Rattle.hare_rules.specs.Above.{Above, outside, labels_by}
use Rattle.rule_judge.specs.Defined.{IsDefinedHint}
use Rattle.rule_judge.proofs.DefinedLemmas.{defined_stays, hint_stays}
use Rattle.hare_above.specs.Ready.{AreDefinedOpens, IsDefinedAbove, AreDefinedAboves, IsReady}
use Rattle.hare_above.specs.Stands.{Stands}

-- ---- a later store

module _ (now later : Store) (v : IsStore now) (l : IsLater now later) where
  pub opens_stay : (os : List Open) → AreDefinedOpens now os → AreDefinedOpens later os
  opens_stay [] h = tt
  opens_stay (o ∷ os) h = (hint_stays now later v l o.hint h.0, opens_stay os h.1)

  pub above_stays : (a : Above) → IsDefinedAbove now a → IsDefinedAbove later a
  above_stays a h =
      record {
        hint = hint_stays now later v l a.hint h.hint;
        values = hint_stays now later v l a.values h.values;
        result = defined_stays now later v l a.inside.result h.result;
        labels = opens_stay a.inside.labels h.labels;
      }

  pub aboves_stay : (os : List Above) → AreDefinedAboves now os → AreDefinedAboves later os
  aboves_stay [] h = tt
  aboves_stay (a ∷ os) h = (above_stays a h.0, aboves_stay os h.1)

  pub ready_stays : (st : Stands) → IsReady now st → IsReady later st
  ready_stays st h = record { above = above_stays st.above h.above; outer = aboves_stay st.outer h.outer }

-- ---- the labels round a kid

opens-last : (s : Store) (os : List Open) (o : Open) → AreDefinedOpens s os → IsDefinedHint s o.hint → AreDefinedOpens s (os ++ o ∷ [])
opens-last s [] o h d = (d, tt)
opens-last s (u ∷ os) o h d = (h.0, opens-last s os o h.1 d)

opens-outside : (s : Store) (os : List Open) → AreDefinedOpens s os → AreDefinedOpens s (map outside os)
opens-outside s [] h = tt
opens-outside s (o ∷ os) h = (h.0, opens-outside s os h.1)

-- a kid has one label more round it at most, of which the hint is the node's own
pub labels-defined : (s : Store) (a : Above) (h : Head) (n i : ℕ) (k : Kind) → AreDefinedOpens s a.inside.labels → IsDefinedHint s a.hint →
    AreDefinedOpens s (labels_by a h n i k)
labels-defined s a h n i ki.For os d = opens-last s a.inside.labels _ os d
labels-defined s a h n zero ki.ForEach os d = os
labels-defined s a h n (suc i) ki.ForEach os d = opens-last s a.inside.labels _ os d
labels-defined s a h n i ki.Block os d = opens-last s a.inside.labels _ os d
labels-defined s a h n zero ki.Case os d = os
labels-defined s a h n (suc i) ki.Case os d = opens-last s a.inside.labels _ os d
labels-defined s a h n zero ki.SwitchCase os d = os
labels-defined s a h n (suc i) ki.SwitchCase os d = opens-last s a.inside.labels _ os d
labels-defined s a h n i ki.Defer os d = opens-outside s a.inside.labels os
labels-defined s a h n i _ os d = os
