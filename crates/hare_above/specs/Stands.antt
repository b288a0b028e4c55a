-- What a walk stands at: what stands over the tree at hand and over those round it, and what its judge is told beside its kids.
use Rattle.std.specs.Prelude.{ℕ, Bool, false, ◌||◌, List, [], ◌∷◌, map, Option, Some, None}
use Rattle.hare_tree.specs.declared.token.Meaning.{Meaning}
use Rattle.hare_tree.specs.declared.token.Meaning.TheVariants as means
use Rattle.hare_tree.specs.Node.{Head}
use Rattle.hare_typed.specs.Copies.{is_defer}
use Rattle.hare_rules.specs.declared.hint.Hint.{Hint}
use Rattle.hare_rules.specs.declared.hint.Hint.TheVariants as hint
use Rattle.hare_rules.specs.declared.inside.Inside.{Inside as Told}
use Rattle.hare_rules.specs.declared.inside.Target.{Target}
use Rattle.hare_rules.specs.declared.judged.Case.{Case}
use Rattle.hare_rules.specs.declared.judged.Yielded.{Yielded}
use Rattle.hare_rules.specs.Context.{Inside, Open, Role}
use Rattle.hare_rules.specs.Above.{Above, opened, labels_by}
use Rattle.hare_told.specs.Told.{told_label}

pub record Stands : Type 0 where
  pub above : Above
  pub outer : List Above  -- over the trees round it, the innermost first
  pub meaning : Meaning
  pub yields : List Yielded

-- over a whole body, or over the value of a declaration: nothing stands round it
abbrev pub start : (own result : ℕ) → Bool → Role → Hint → (first : ℕ) → Stands
start own result body role h first =
    record {
      above =
          record {
            hint = h;
            values = hint.None;
            inside = record { own = own; result = result; labels = []; deferred = false; body = body; role = role };
            first = first;
            begins = 0;
          };
      outer = [];
      meaning = means.None;
      yields = [];
    }

-- ---- what a judge is told

abbrev pub told_inside : Inside → Told
told_inside i = record { own = i.own; result = i.result; labels = map told_label i.labels; deferred = i.deferred; body = i.body }

abbrev pub told_case : Stands → Case
told_case st = record { hint = st.above.hint; meaning = st.meaning; yields = st.yields; inside = told_inside st.above.inside }

-- ---- a step to a kid

-- the labels round a kid, where it has one more round it or not
abbrev pub labels_with : Above → Head → (number : ℕ) → Option Target → List Open
labels_with a h n None = a.inside.labels
labels_with a h n (Some t) = opened a h n t

-- the node's own `inside`, with the labels and the mark of a deferred expression that its kid number i has round it
abbrev pub inner_inside : Above → Head → (number i : ℕ) → Inside
inner_inside a h n i = record a.inside { labels = labels_by a h n i h.kind; deferred = a.inside.deferred || is_defer h.kind }

abbrev pub inner : Stands → Head → (number i : ℕ) → Stands
inner st h n i =
    record st { above = record st.above { inside = inner_inside st.above h n i }; outer = st.above ∷ st.outer }
