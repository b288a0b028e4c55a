-- What the code finds of a spelled type before its size is looked at. No public clause cites it.
use Rattle.std.specs.Prelude.{◌≡◌, ℕ, ◌<◌, List, [], ◌∷◌, length, Some}
use Rattle.hare_tree.specs.declared.place.Place.{Place}
use Rattle.hare_tree.specs.declared.place.Fault.{Fault}
use Rattle.hare_tree.specs.declared.stop.Stop.{Stop}
use Rattle.hare_tree.specs.declared.stop.Stop.TheVariants as stop
use Rattle.hare_types.specs.declared.row.Row.TheVariants as row
use Rattle.hare_types.specs.declared.extent.Extent.{Extent}
use Rattle.hare_types.specs.Trees.{Tree}
use Rattle.hare_types.specs.Layout.{HasExtent}
use Rattle.hare_types.specs.Rows.{tree_in, tree_of, trees, IsWithin, IsReduced}
use Rattle.hare_types.specs.Store.{Store, tree_at}
use Rattle.hare_layout.specs.declared.spelled.Spelled.{Spelled}
use Rattle.hare_layout.specs.declared.reduce.Reduced.{Reduced}
use Rattle.hare_layout.specs.declared.reduce.Reduced.TheVariants.{Known, Fresh}
use Rattle.hare_layout.specs.Reduction.{IsReducedTo}
use Rattle.hare_layout.specs.Admission.{Spreading, Sized, Inhabited, Narrow, IsFirstOf}

-- the spelled type is reduced to this type of the store, or to the one of this row
abbrev pub IsReduction : Store → Spelled → Reduced → Type 0
IsReduction s r (Known t) = (u : Tree) × (tree_at s t ≡ Some u) × IsReducedTo s r u
IsReduction s r (Fresh q) = IsWithin (length s.rows) q × IsReduced s.rows q × IsReducedTo s r (tree_of (trees s.rows) q)

-- this is the type of these members, of which there is at least one
abbrev pub IsOfMembers : List ℕ → Reduced → Type 0
IsOfMembers is (Known t) = is ≡ t ∷ []
IsOfMembers is (Fresh q) = (1 < length is) × (q ≡ row.Union is)

-- the fault of the first check that the spelled type fails, but for that of sizes; want of memory says nothing of it
abbrev pub StopsEarly : Store → Spelled → Place → Stop Fault → Type 0
StopsEarly s r place (stop.Fault f) = IsFirstOf s r place (Spreading ∷ Sized ∷ Inhabited ∷ Narrow ∷ []) f
StopsEarly s r place stop.Memory = Unit {0}

-- ids in it are of the store
abbrev pub IsHere : Store → Reduced → Type 0
IsHere s (Known t) = t < length s.rows
IsHere s (Fresh q) = IsWithin (length s.rows) q

-- the tree of the type
abbrev pub tree_of_reduced : Store → Reduced → Tree
tree_of_reduced s (Known t) = tree_in (trees s.rows) t
tree_of_reduced s (Fresh q) = tree_of (trees s.rows) q

-- the type has more than 67,108,864 bytes
abbrev pub IsLarge : Store → Tree → Type 0
IsLarge s u = (x : Extent) × HasExtent s u x × (67108864 < x.size)
