-- The rows that a crate of judges asks, and the two that all share.
use Rattle.std.specs.Prelude.{ℕ, Bool, true, false, cond, not, ◌&&◌, List, [], ◌∷◌, find, take, drop, suc, Option, Some, None, option_map}
use Rattle.hare_tree.specs.declared.kind.Kind.{Kind}
use Rattle.hare_tree.specs.declared.place.Place.{Place}
use Rattle.hare_tree.specs.declared.place.Fault.{Fault}
use Rattle.hare_types.specs.declared.coercion.Ty.{Ty}
use Rattle.hare_types.specs.declared.coercion.Coercion.{Coercion}
use Rattle.hare_types.specs.Store.{Store}
use Rattle.hare_typed.specs.Typed.{typed_nodes}
use Rattle.hare_typed.specs.Erased.{erase, erase_each}
use Rattle.hare_rules.specs.declared.hint.Hint.{Hint}
use Rattle.hare_rules.specs.declared.hint.Hint.TheVariants as hint
use Rattle.hare_rules.specs.declared.row_id.RowId.{RowId}
use Rattle.hare_rules.specs.declared.row_id.RowId.TheVariants as row
use Rattle.hare_rules.specs.Context.{Context, kid}
use Rattle.hare_rules.specs.Above.{hint_of}
use Rattle.hare_rules.specs.Judged.{is_type_hint, was_hinted}
use Rattle.hare_rules.specs.Settles.{kid_coercion}
use Rattle.hare_rules.specs.Table.{rows_of}
use Rattle.hare_rules.specs.Rows.{holds, stands, is_site, fault_of, fits_hint, may_drop}

-- ---- a kind's own rows

-- the rows of a list before `Site`
abbrev pub own_rows : List RowId → List RowId
own_rows [] = []
own_rows (r ∷ rs) = cond (is_site r) [] (r ∷ own_rows rs)

abbrev pub is_kept_alone : List RowId → Bool
is_kept_alone (row.Kept ∷ []) = true
is_kept_alone _ = false

-- `Site` and then `Kept` end the list, and each row before them is one of these
abbrev pub are_asked : (RowId → Bool) → List RowId → Bool
are_asked p [] = false
are_asked p (r ∷ rs) = cond (is_site r) (is_kept_alone rs) (p r && are_asked p rs)

-- the place of the fault, where the row fails
abbrev pub unmet : RowId → Context → Option Place
unmet r c = cond (holds r c) None (Some (stands r c))

-- the first of the node's own rows that fails
abbrev pub own_failing : Context → Option RowId
own_failing c = find (λ r. not (holds r c)) (own_rows (rows_of c.head.kind))

abbrev pub own_fault : Context → Option Fault
own_fault c = option_map (λ r. fault_of r c) (own_failing c)

-- ---- the rows that all kinds share

-- which of the two fails first at a node of this type
abbrev pub last_failing : Store → Hint → Ty → Option RowId
last_failing s h a = cond (fits_hint s h (Some a)) (cond (may_drop s h (Some a)) None (Some row.Kept)) (Some row.Site)

-- ---- kids

-- a node of this kind would ask its kid number i for a type, where that is an expression or a statement
abbrev pub asks_as : Context → ℕ → Kind → Bool
asks_as c i k =
    is_type_hint
    (hint_of c.setting c.head c.hint hint.None c.inside.labels c.inside.result (take i c.kids) (erase (kid c i))
    (erase_each (typed_nodes (drop (suc i) c.kids))) k)

-- the node itself asks it for a type
abbrev pub asks_type : Context → ℕ → Bool
asks_type c i = asks_as c i c.head.kind

-- the coercion of kid number i, where it was given no hint of a type
abbrev pub listed : Context → ℕ → Option Coercion
listed c i = cond (was_hinted c i) None (Some (kid_coercion c i))
