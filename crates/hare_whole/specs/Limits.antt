-- What is looked at when all declarations and bodies have been judged: the function `main`, the frames of functions, and the size of the
-- whole.
use Rattle.std.specs.Prelude.{◌≡◌, ℕ, suc, ◌+◌, ◌<◌, List, [], Bool, true, false, not, ◌&&◌, cond, codes, bytes_eq, length, map, take, filter, position, slice_get, sum_by, Option, Some, None, Contains}
use Rattle.std.specs.List.{list_any}
use Rattle.hare_tree.specs.declared.kind.Kind.{Kind}
use Rattle.hare_tree.specs.declared.kind.Kind.TheVariants as ki
use Rattle.hare_tree.specs.declared.place.Place.{Place}
use Rattle.hare_tree.specs.declared.place.Fault.{Fault}
use Rattle.hare_tree.specs.Node.{Node, head}
use Rattle.hare_tree.specs.Spell.{start_of}
use Rattle.hare_types.specs.Store.{Store}
use Rattle.hare_types.specs.ByIds.{size_at}
use Rattle.hare_typed.specs.Typed.{TypedNode, mark_of}
use Rattle.hare_typed.specs.Erased.{erase}
use Rattle.hare_typed.specs.Evaluated.{makes_slice}
use Rattle.hare_typed.specs.Frame.{frame_bound, copied_weight}
use Rattle.hare_typed.specs.Given.{size_in}
use Rattle.hare_typed.specs.Numbers.{kind_of, numbered}
use Rattle.hare_modules.specs.Order.{fault}
use Rattle.hare_modules.specs.Uses.{kid, kids, text_of, place_of}
use Rattle.hare_modules.specs.Modules.{Module, module_of, same_module}
use Rattle.hare_modules.specs.Declarations.{name_in, is_exported}
use Rattle.hare_whole.specs.Parts.{type_part, value_part, declared_id}

-- ---- the entry

abbrev pub is_function : Kind → Bool
is_function ki.Fn = true
is_function _ = false

-- the module of the file with this number
abbrev pub home_of : List (List ℕ) → ℕ → Module
home_of paths file = path_or (slice_get paths file)
  where
    path_or : Option (List ℕ) → Module
    path_or None = []
    path_or (Some p) = module_of p

-- a function `main` of the first file's module
abbrev pub is_main : List (List ℕ) → Node → Bool
is_main paths t =
    is_function (head t).kind && bytes_eq (text_of (name_in t)) (codes "main")
    && same_module (home_of paths (place_of t).file) (home_of paths 0)

abbrev pub is_param : Kind → Bool
is_param ki.Param = true
is_param _ = false

abbrev pub is_scalar : Kind → Bool
is_scalar ki.TypeScalar = true
is_scalar _ = false

abbrev pub has_params : Node → Bool
has_params t = list_any (λ p. is_param (head p).kind) (kids (kid t 2))

-- its result is written `void`
abbrev pub gives_void : Node → Bool
gives_void t = is_scalar (head (kid t 3)).kind && bytes_eq (text_of (kid t 3)) (codes "void")

-- it reads `export fn main() void`
abbrev pub is_entry_shaped : Node → Bool
is_entry_shaped t = is_exported t && not (has_params t) && gives_void t

-- the number of `main`, if there is one; names differ in a module, so that there are no two
abbrev pub main_of : List (List ℕ) → List Node → Option ℕ
main_of paths ts = position (is_main paths) ts

-- the entry of a program: the number of its `main`, which is shaped as an entry
pub record IsEntry (paths : List (List ℕ)) (ts : List Node) (n : ℕ) : Type 0 where
  pub main : main_of paths ts ≡ Some n
  pub tree : Node
  pub is_there : slice_get ts n ≡ Some tree
  pub shaped : is_entry_shaped tree ≡ true

-- E46, at the name of a `main` that is shaped otherwise, or at the start of the first file where there is none
pub data IsEntryFault (paths : List (List ℕ)) (ts : List Node) (f : Fault) : Type 0 where
  no_main : main_of paths ts ≡ None → f ≡ fault 46 (start_of 0) → IsEntryFault paths ts f
  odd_main : (n : ℕ) (t : Node) → main_of paths ts ≡ Some n → slice_get ts n ≡ Some t → is_entry_shaped t ≡ false →
      f ≡ fault 46 (place_of (name_in t)) → IsEntryFault paths ts f

-- ---- frames

abbrev pub most_of_frame : ℕ
most_of_frame = 16777216

-- the place of the name of a declaration
abbrev pub name_place : TypedNode → Place
name_place d = place_of (name_in (erase d))

-- the frame of a function is at most as large as it may be; of other declarations nothing is asked
abbrev pub IsFramed : Store → TypedNode → Type 0
IsFramed s d = is_function (kind_of d) ≡ true → most_of_frame < frame_bound s d → ⊥

-- the first of some declarations for which it is not so, behind others for which it is
abbrev pub IsFirstOff : {A : Type 0} → (A → Type 0) → List A → ℕ → A → Type 0
IsFirstOff {A} Q xs n x = (slice_get xs n ≡ Some x) × ¬ Q x × ((k : ℕ) (y : A) → k < n → slice_get xs k ≡ Some y → Q y)

-- E47, at the name of the first function whose frame is too large
abbrev pub IsFrameFault : Store → List TypedNode → Fault → Type 0
IsFrameFault s ds f = (n : ℕ) × (d : TypedNode) × IsFirstOff (IsFramed s) ds n d × (f ≡ fault 47 (name_place d))

-- ---- the whole

abbrev pub most_of_weight : ℕ
most_of_weight = 524288

abbrev pub most_of_globals : ℕ
most_of_globals = 16777216

abbrev pub is_global : Kind → Bool
is_global ki.GlobalLet = true
is_global ki.GlobalConst = true
is_global _ = false

-- the arrays in a value that are made slices: no node of a constant is a place, so that each is an object of its own
abbrev pub slices_in : Store → TypedNode → ℕ
slices_in s d = sum_by (λ t. size_in s (mark_of t).ty) (filter (makes_slice s) (numbered d))

-- the bytes of a global, with those of such arrays; of other declarations none
abbrev pub global_bytes : Store → TypedNode → ℕ
global_bytes s d = cond (is_global (kind_of d)) (size_at s (declared_id s (type_part d) (value_part d)) + slices_in s d) 0

-- the copied weight of a function; of other declarations none
abbrev pub function_weight : Store → TypedNode → ℕ
function_weight s d = cond (is_function (kind_of d)) (copied_weight s d) 0

-- so many declarations in front of one, with that one, pass no sum
pub record IsWithin (s : Store) (ds : List TypedNode) (n : ℕ) : Type 0 where
  pub weight : most_of_weight < sum_by (function_weight s) (take n ds) → ⊥
  pub bytes : most_of_globals < sum_by (global_bytes s) (take n ds) → ⊥

-- E48, at the name of the declaration with which a sum passes its limit
pub record IsSumFault (s : Store) (ds : List TypedNode) (f : Fault) : Type 0 where
  pub number : ℕ
  pub decl : TypedNode
  pub is_there : slice_get ds number ≡ Some decl
  pub before : IsWithin s ds number
  pub passes : ¬ IsWithin s ds (suc number)
  pub is : f ≡ fault 48 (name_place decl)

-- no limit is passed, and there is an entry
pub record AreWithinLimits (paths : List (List ℕ)) (s : Store) (ds : List TypedNode) (entry : ℕ) : Type 0 where
  pub entry_is : IsEntry paths (map erase ds) entry
  pub framed : (d : TypedNode) → Contains ds d → IsFramed s d
  pub sums : IsWithin s ds (length ds)

-- the first fault of limits: that of the entry, else of a frame, else of a sum
pub data IsLimitFault (paths : List (List ℕ)) (s : Store) (ds : List TypedNode) (f : Fault) : Type 0 where
  of_entry : IsEntryFault paths (map erase ds) f → IsLimitFault paths s ds f
  of_frame : (n : ℕ) → IsEntry paths (map erase ds) n → IsFrameFault s ds f → IsLimitFault paths s ds f
  of_sum : (n : ℕ) → IsEntry paths (map erase ds) n → ((d : TypedNode) → Contains ds d → IsFramed s d) → IsSumFault s ds f →
      IsLimitFault paths s ds f
