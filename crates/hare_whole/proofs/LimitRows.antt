-- The entry of small programs, and the bytes of globals just at their limit and just past it.
use Rattle.std.proofs.Common.{◌≡◌, ℕ, ◌<◌, ◌≤◌, List, [], ◌∷◌, codes, false, nat_lt, Some, None, refl, lit<, arith}
use Rattle.std.proofs.lemmas.Bool.{ltb-false}
use Rattle.hare_tree.specs.declared.kind.Kind.{Kind}
use Rattle.hare_tree.specs.declared.kind.Kind.TheVariants as ki
use Rattle.hare_tree.specs.Node.{Node, branch}
use Rattle.hare_tree.specs.Spell.{start_of}
use Rattle.hare_types.specs.declared.row.Row.TheVariants as row
use Rattle.hare_types.specs.declared.row.Scalar.TheVariants as keyword
use Rattle.hare_types.specs.Store.{Store}
use Rattle.hare_typed.specs.Typed.{TypedNode}
use Rattle.hare_whole.proofs.TagRows.{tree as typed}
use Rattle.hare_depends.proofs.Samples.{at, tree, leaf, absent, param, type_path, path}
use Rattle.hare_whole.specs.Limits.{main_of, is_entry_shaped, IsEntry, IsEntryFault, no_main, odd_main, global_bytes, IsWithin, IsSumFault, name_place}

abbrev export_word : Node
export_word = leaf ki.Export 1 (codes "")

-- a declaration of this kind and name
abbrev named : Kind → Node → List ℕ → List Node → Node
named k e n ts = tree k 1 [] (e ∷ leaf ki.Name 11 n ∷ ts)

abbrev function : Node → List ℕ → List Node → List ℕ → Node
function e n ps r = named ki.Fn e n (tree ki.Params 15 [] ps ∷ leaf ki.TypeScalar 18 r ∷ leaf ki.Void 25 [] ∷ [])

-- one file, `main.ha`
abbrev paths : List (List ℕ)
paths = codes "main.ha" ∷ []

-- `export fn main() void = void;`
abbrev good : Node
good = function export_word (codes "main") [] (codes "void")

good_entry : IsEntry paths (good ∷ []) 0
good_entry = record { main = refl; tree = good; is_there = refl; shaped = refl }

-- behind others it has another number
abbrev other : Node
other = function export_word (codes "mainly") [] (codes "void")

second_entry : main_of paths (other ∷ good ∷ []) ≡ Some 1
second_entry = refl

-- an empty program has none: E46 at the start of the first file
empty_entry : IsEntryFault paths [] (record { number = 46; place = start_of 0 })
empty_entry = no_main refl refl

-- a global `main` is none
global_main : main_of paths (named ki.GlobalLet absent (codes "main") (absent ∷ path 20 ∷ []) ∷ []) ≡ None
global_main = refl

-- with a parameter, unexported, or with another result: E46 at its name
with_param : IsEntryFault paths (function export_word (codes "main") (param (type_path 1) ∷ []) (codes "void") ∷ [])
    (record { number = 46; place = at 11 })
with_param = odd_main 0 (function export_word (codes "main") (param (type_path 1) ∷ []) (codes "void")) refl refl refl refl

unexported : is_entry_shaped (function absent (codes "main") [] (codes "void")) ≡ false
unexported = refl

other_result : is_entry_shaped (function export_word (codes "main") [] (codes "never")) ≡ false
other_result = refl

-- The same in a file: in another module than the first file's it is not the entry, and in a later file of that module it is.
abbrev in_file : ℕ → Node → Node
in_file f (branch h ts) = branch (record h { place = record { file = f; line = 1; column = 1 } }) ts

other_module : main_of (codes "a/x.ha" ∷ codes "main.ha" ∷ []) (in_file 1 good ∷ []) ≡ None
other_module = refl

later_file : main_of (codes "a/x.ha" ∷ codes "./a/y.ha" ∷ []) (in_file 1 good ∷ []) ≡ Some 0
later_file = refl

-- ---- bytes of globals, just at the limit and just past it

-- u8, and arrays of it
abbrev arrays : Store
arrays =
    record {
      names = [];
      rows = row.Scalar keyword.U8 ∷ row.Array 16777216 0 ∷ row.Array 1 0 ∷ [];
      declared = [];
      listed = [];
    }

abbrev global : ℕ → TypedNode
global t = typed ki.GlobalLet 0 (typed ki.None 0 [] ∷ typed ki.Name 0 [] ∷ typed ki.TypeArray t [] ∷ typed ki.Array t [] ∷ [])

full_bytes : global_bytes arrays (global 1) ≡ 16777216
full_bytes = refl

not-less : (a b : ℕ) → nat_lt a b ≡ false → a < b → ⊥
not-less a b e l = let k : b ≤ a = ltb-false a b e in omega arith

full_within : IsWithin arrays (global 1 ∷ global 2 ∷ []) 1
full_within = record { weight = λ l. not-less 524288 0 refl l; bytes = λ l. not-less 16777216 16777216 refl l }

-- E48 at the name of the second
past_full : IsSumFault arrays (global 1 ∷ global 2 ∷ []) (record { number = 48; place = name_place (global 2) })
past_full = record {
  number = 1;
  decl = global 2;
  is_there = refl;
  before = full_within;
  passes = λ w. let l : 16777216 < 16777217 = lit< tt in w.bytes l;
  is = refl;
}

-- a def has no bytes there
def_bytes : global_bytes arrays (typed ki.Def 0
    (typed ki.None 0 [] ∷ typed ki.Name 0 [] ∷ typed ki.TypeArray 1 [] ∷ typed ki.Array 1 [] ∷ [])) ≡ 0
def_bytes = refl
