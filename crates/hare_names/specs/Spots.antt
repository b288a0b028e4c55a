-- The paths of a tree with the locals that are visible there, and what the tables of a program note of them. No public clause cites them.
use Rattle.std.specs.Prelude.{ℕ, ◌+◌, List, [], ◌∷◌, ◌++◌, Bool, false, not, ◌&&◌, ◌||◌, if◌then◌else◌}
use Rattle.hare_tree.specs.declared.kind.Kind.{Kind}
use Rattle.hare_tree.specs.declared.place.Place.{Place}
use Rattle.hare_tree.specs.Node.{Head, Node, Nodes, branch, none, more}
use Rattle.hare_tree.specs.Spell.{parts}
use Rattle.hare_modules.specs.Order.{fault, earlier}
use Rattle.hare_modules.specs.Directory.{Directory}
use Rattle.hare_names.specs.declared.notes.Notes.{Notes}
use Rattle.hare_names.specs.declared.verdict.Verdict.{Verdict}
use Rattle.hare_names.specs.declared.verdict.Verdict.TheVariants.{Means, Fails}
use Rattle.hare_names.specs.Scopes.{Local, is_binding, is_for_each, bindings_in, bound_by, bound_itself}
use Rattle.hare_names.specs.Paths.{is_type_path, is_value_path, before_kids}
use Rattle.hare_names.specs.Tables.{verdict, put}

-- a path, and the locals that are visible there, the innermost first
pub record Spot : Type 0 where
  pub place : Place
  pub names : List (List ℕ)
  pub is_type : Bool
  pub locals : List Local

abbrev pub spot_at : Head → List Local → List Spot
spot_at h ls =
    if is_type_path h.kind || is_value_path h.kind then record
    { place = h.place; names = parts h.text; is_type = is_type_path h.kind; locals = ls } ∷ [] else []

-- of a tree that is a path
abbrev pub spot_of : Node → List Local → List Spot
spot_of (branch h ts) ls = spot_at h ls

abbrev mutual
  pub spots_in : ℕ → List Local → Node → List Spot
  spots_in n ls (branch h ts) = spot_at h ls ++ (if is_for_each h.kind then spots_of_loop (before_kids n h.kind) ls ts else spots_among
      (before_kids n h.kind) ls ts)

  pub spots_among : ℕ → List Local → Nodes → List Spot
  spots_among n ls none = []
  spots_among n ls (more t ts) = spots_in n ls t ++ spots_among (n + bindings_in t) (bound_by n t ++ ls) ts

  pub spots_of_loop : ℕ → List Local → Nodes → List Spot
  spots_of_loop n ls none = []
  spots_of_loop n ls (more b none) = spots_in n ls b
  spots_of_loop n ls (more b (more over ts)) =
      spots_in n ls b ++ spots_in (n + bindings_in b) ls over ++ spots_among (n + bindings_in b + bindings_in over)
      (bound_itself n b ++ ls) ts

-- neither a path nor a binding
abbrev pub is_idle_kind : Kind → Bool
is_idle_kind k = not (is_binding k) && not (is_type_path k) && not (is_value_path k)

-- a tree of such a kind without kids
abbrev pub is_idle : Node → Bool
is_idle (branch h none) = is_idle_kind h.kind
is_idle (branch h (more t ts)) = false

-- ---- notes

abbrev pub noted_as : Notes → Place → Verdict → Notes
noted_as n p (Means m) = record n { places = put n.places p m }
noted_as n p (Fails k) = record n { first = earlier n.first (fault k p) }

-- the notes with one path more
abbrev pub noted : Directory → ℕ → Notes → Spot → Notes
noted d f n s = noted_as n s.place (verdict d f s.is_type s.locals s.names)
