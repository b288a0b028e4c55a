-- What a path means: the innermost local of its name, or else the one triple of that path that its file admits. Only a path of one name
-- can mean a local.
use Rattle.std.specs.Prelude.{ℕ, List, [], ◌∷◌, Bool, true, false, not, ◌&&◌, Option, Some, None, option_map, if◌then◌else◌}
use Rattle.std.specs.Option.{option_or}
use Rattle.hare_tree.specs.declared.token.Meaning.{Meaning}
use Rattle.hare_tree.specs.declared.token.Meaning.TheVariants as me
use Rattle.hare_tree.specs.declared.place.Fault.{Fault}
use Rattle.hare_modules.specs.Order.{fault}
use Rattle.hare_modules.specs.Modules.{Source}
use Rattle.hare_modules.specs.Uses.{Import}
use Rattle.hare_modules.specs.Declarations.{Item, item_named}
use Rattle.hare_modules.specs.Admitted.{admitted, admitted_module}
use Rattle.hare_names.specs.Scopes.{Scopes, local_named}
use Rattle.hare_names.specs.Paths.{Path}

-- ---- meanings

-- what a path stands for, and whether that is a type
pub record Meant : Type 0 where
  pub is_type : Bool
  pub meaning : Meaning

abbrev pub local_meant : ℕ → Meant
local_meant n = record { is_type = false; meaning = me.Local n }

abbrev pub item_meant : Item → Meant
item_meant i = record { is_type = i.is_type; meaning = i.meaning }

-- the local that a path means, if it has one name and there is such a local
abbrev pub local_of : Scopes → List (List ℕ) → Option ℕ
local_of ss [] = None
local_of ss (x ∷ []) = local_named ss x
local_of ss (x ∷ y ∷ xs) = None

-- what a path of a file means
abbrev pub meant : List Source → Source → Path → Option Meant
meant all s p = option_or (option_map local_meant (local_of p.scopes p.names))
    (option_map (λ t. item_meant t.item) (admitted all s p.names))

-- ---- violations at paths

-- E13: the path means nothing, or no type where a type has to stand
abbrev pub is_unfit : Bool → Option Meant → Bool
is_unfit is_type None = true
is_unfit is_type (Some m) = is_type && not m.is_type

abbrev pub unfit_number : Path → Option Meant → Option ℕ
unfit_number p m = if is_unfit p.is_type m then Some 13 else None

-- behind a module that the file admits: E15, that does not declare the name; E14, that does not export it; else as any path
abbrev pub member_number : Path → Option Meant → Option Item → Option ℕ
member_number p m None = Some 15
member_number p m (Some i) = if i.exported then unfit_number p m else Some 14

-- a path of two names: E13 where the first is no module that the file admits
abbrev pub pair_number : List Source → Path → Option Meant → List ℕ → Option Import → Option ℕ
pair_number all p m x None = Some 13
pair_number all p m x (Some i) = member_number p m (item_named all i.from x)

-- the number of the violation at a path with these names, if there is one; three names and more are E13
abbrev pub number_by : List Source → Source → Path → List (List ℕ) → Option ℕ
number_by all s p [] = Some 13
number_by all s p (x ∷ []) = unfit_number p (meant all s p)
number_by all s p (m ∷ x ∷ []) = pair_number all p (meant all s p) x (admitted_module all s m)
number_by all s p (m ∷ x ∷ y ∷ ys) = Some 13

abbrev pub violation_number : List Source → Source → Path → Option ℕ
violation_number all s p = number_by all s p p.names

abbrev pub path_violation : List Source → Source → Path → Option Fault
path_violation all s p = option_map (λ n. fault n p.place) (violation_number all s p)
