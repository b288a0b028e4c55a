-- Small programs: what their paths mean, or their violations. Above each stands its source. Trees stand at the columns of their first
-- tokens, and each declaration on a line of its own.
use Rattle.std.specs.Prelude.{◌≡◌, refl, ℕ, List, [], ◌∷◌, ◌++◌, codes, option_map, true, false}
use Rattle.std.specs.List.{flat_map, filter_map}
use Rattle.hare_tree.specs.declared.kind.Kind.{Kind}
use Rattle.hare_tree.specs.declared.kind.Kind.TheVariants as ki
use Rattle.hare_tree.specs.declared.place.Place.{Place}
use Rattle.hare_tree.specs.declared.place.Fault.{Fault}
use Rattle.hare_tree.specs.declared.token.Suffix.TheVariants as suffix
use Rattle.hare_tree.specs.declared.token.Meaning.{Meaning}
use Rattle.hare_tree.specs.declared.token.Meaning.TheVariants as me
use Rattle.hare_tree.specs.declared.tree.FileTree.{FileTree}
use Rattle.hare_tree.specs.Node.{Node, branch, nodes_of}
use Rattle.hare_modules.specs.Order.{fault, counts_before}
use Rattle.hare_modules.specs.Modules.{Source, sources}
use Rattle.hare_modules.specs.Circles.{there}
use Rattle.hare_modules.specs.Faults.{unknown_modules, repeated_names, runtime_files, unknown_members, IsCircle}
use Rattle.hare_graph.proofs.Elements.{Contains-here}
use Rattle.hare_names.specs.Paths.{paths_of_file}
use Rattle.hare_names.specs.Meanings.{meant, path_violation}
use Rattle.hare_names.specs.Doubled.{doubled_names}

-- ---- trees

abbrev at : ℕ → ℕ → ℕ → Place
at f l c = record { file = f; line = l; column = c }

-- a tree of a file on a line, at a column
abbrev tree : Kind → Place → List ℕ → List Node → Node
tree k p text ts = branch (record { kind = k; place = p; text = text; number = 0; suffix = suffix.None }) (nodes_of ts)

abbrev no : Node
no = tree ki.None (at 0 1 1) [] []

abbrev file : ℕ → List Node → List Node → FileTree
file f us ds = record { file = f; uses = us; decls = ds }

-- `use NAME;`, with the name behind four characters
abbrev use_of : ℕ → ℕ → List ℕ → Node
use_of f l x = tree ki.Use (at f l 1) [] (tree ki.ImportPath (at f l 5) [] (tree ki.Name (at f l 5) x [] ∷ []) ∷ [])

-- a function with these parameters, of which the result is void
abbrev fn_of : Node → Place → List ℕ → Place → List Node → Node → Node
fn_of export p x q params body = tree ki.Fn p [] (export ∷ tree ki.Name q x [] ∷ tree ki.Params q []
    (params ++ no ∷ []) ∷ tree ki.TypeScalar q (codes "void") [] ∷ body ∷ [])

abbrev path_at : Place → List ℕ → Node
path_at p x = tree ki.Path p x []

abbrev type_at : Place → List ℕ → Node
type_at p x = tree ki.TypePath p x []

abbrev let_of : Place → List ℕ → Node → Node → Node
let_of p x type value = tree ki.Let p x (type ∷ value ∷ [])

abbrev void_value : Node
void_value = tree ki.Void (at 0 1 1) [] []

-- ---- what is said of programs

-- the places and meanings of all paths, where a path that means nothing is left out
abbrev means : List Source → List (Place × Meaning)
means ss = flat_map (λ s. filter_map (λ p. option_map (λ m. (p.place, m.meaning)) (meant ss s p)) (paths_of_file s.tree)) ss

-- the violations at equal parameters and fields, and at paths
abbrev violations : List Source → List Fault
violations ss = flat_map (λ s. doubled_names s.tree ++ filter_map (path_violation ss s) (paths_of_file s.tree)) ss

-- ---- two files: `use m;` and `export fn main() void = m::f();` in `main.ha`, and `fn f() void = void;` in `m/f.ha`

abbrev main_file : FileTree
main_file = file 0 (use_of 0 1 (codes "m") ∷ []) (fn_of (tree ki.Export (at 0 2 1) [] []) (at 0 2 1) (codes "main") (at 0 2 11) []
    (tree ki.Call (at 0 2 29) [] (path_at (at 0 2 25) (codes "m::f") ∷ no ∷ [])) ∷ [])

abbrev program : Node → List Source
program export = sources (codes "main.ha" ∷ codes "m/f.ha" ∷ [])
    (main_file ∷ file 1 [] (fn_of export (at 1 1 1) (codes "f") (at 1 1 4) [] void_value ∷ []) ∷ [])

-- the function is not exported: E14 at the path
not_exported : violations (program no) ≡ fault 14 (at 0 2 25) ∷ []
not_exported = refl

-- once it is, the path means the second declaration
exported : (violations (program (tree ki.Export (at 1 1 1) [] [])) ≡ []) ×
    (means (program (tree ki.Export (at 1 1 1) [] [])) ≡ (at 0 2 25, me.Decl 1) ∷ [])
exported = (refl, refl)

-- ---- one file, in the root module

abbrev alone : List Node → List Node → List Source
alone us ds = sources (codes "x.ha" ∷ []) (file 0 us ds ∷ [])

-- `use q;` without such a module: E11 at the name
unknown : unknown_modules (alone (use_of 0 1 (codes "q") ∷ []) []) ≡ fault 11 (at 0 1 5) ∷ []
unknown = refl

-- `type t = int;` and `fn f(t: int, x: t) void = void;`: a parameter is no type, E13 at the second `t`
parameter : violations (alone [] (tree ki.TypeDecl (at 0 1 1) []
    (no ∷ tree ki.Name (at 0 1 6) (codes "t") [] ∷ tree ki.TypeScalar (at 0 1 10) (codes "int") [] ∷ []) ∷ fn_of no (at 0 2 1) (codes "f")
    (at 0 2 4) (tree ki.Param (at 0 2 6) (codes "t") (tree ki.TypeScalar (at 0 2 9) (codes "int") [] ∷ []) ∷ tree ki.Param (at 0 2 14)
    (codes "x") (type_at (at 0 2 17) (codes "t") ∷ []) ∷ []) void_value ∷ []))
    ≡ fault 13 (at 0 2 17) ∷ []
parameter = refl

-- `fn f(x: int, x: int) void = void;`: E12 at the second parameter
two_parameters : violations (alone [] (fn_of no (at 0 1 1) (codes "f") (at 0 1 4)
    (tree ki.Param (at 0 1 6) (codes "x") (tree ki.TypeScalar (at 0 1 9) (codes "int") [] ∷ []) ∷ tree ki.Param (at 0 1 14) (codes "x")
    (tree ki.TypeScalar (at 0 1 17) (codes "int") [] ∷ []) ∷ []) void_value ∷ []))
    ≡ fault 12 (at 0 1 14) ∷ []
two_parameters = refl

-- `type s = struct { a: int, a: int };`: E12 at the second field
two_fields : violations (alone [] (tree ki.TypeDecl (at 0 1 1) []
    (no ∷ tree ki.Name (at 0 1 6) (codes "s") [] ∷ tree ki.TypeStruct (at 0 1 10) []
    (tree ki.StructField (at 0 1 19) (codes "a") (no ∷ []) ∷ tree ki.StructField (at 0 1 27) (codes "a") (no ∷ []) ∷ no ∷ []) ∷ []) ∷ []))
    ≡ fault 12 (at 0 1 27) ∷ []
two_fields = refl

-- a function of this body
abbrev body : List Node → List Source
body ts = alone [] (fn_of no (at 0 1 1) (codes "f") (at 0 1 4) [] (tree ki.Block (at 0 1 9) [] ts) ∷ [])

-- `let t = 1; let x: t = 2;`: a local is no type, E13 at the second `t`
local_type : violations (body (let_of (at 0 2 1) (codes "t") no void_value ∷ let_of (at 0 3 1) (codes "x")
    (type_at (at 0 3 8) (codes "t")) void_value ∷ [])) ≡ fault 13 (at 0 3 8) ∷ []
local_type = refl

-- `for (let x .. x) void`: the binding is not visible in what is gone over, E13 at the second `x`
for_each_over : violations (body (tree ki.ForEach (at 0 2 1) []
    (tree ki.Binding (at 0 2 6) (codes "x") (no ∷ []) ∷ path_at (at 0 2 15) (codes "x") ∷ void_value ∷ []) ∷ [])) ≡ fault 13
    (at 0 2 15) ∷ []
for_each_over = refl

-- `let y = void; for (let x .. y) x;`: in the body it is; y is binding 0, and x binding 1
for_each_body : means (body (let_of (at 0 2 1) (codes "y") no void_value ∷ tree ki.ForEach (at 0 3 1) []
    (tree ki.Binding (at 0 3 6) (codes "x") (no ∷ []) ∷ path_at (at 0 3 15) (codes "y") ∷ path_at (at 0 3 18) (codes "x") ∷ []) ∷ []))
    ≡ (at 0 3 15, me.Local 0) ∷ (at 0 3 18, me.Local 1) ∷ []
for_each_body = refl

-- `let x = void; let x = x; x;`: the value means the first, and what follows the second
shadowed : means (body (let_of (at 0 2 1) (codes "x") no void_value ∷ let_of (at 0 3 1) (codes "x") no
    (path_at (at 0 3 9) (codes "x")) ∷ path_at (at 0 4 1) (codes "x") ∷ []))
    ≡ (at 0 3 9, me.Local 0) ∷ (at 0 4 1, me.Local 1) ∷ []
shadowed = refl

-- `{ let x = void; x; }; x;`: a block ends its names
block_ends : (means (body (tree ki.Block (at 0 2 1) []
    (let_of (at 0 2 3) (codes "x") no void_value ∷ path_at (at 0 2 17) (codes "x") ∷ []) ∷ path_at (at 0 3 1) (codes "x") ∷ [])) ≡
    (at 0 2 17, me.Local 0) ∷ [])
    × (violations (body (tree ki.Block (at 0 2 1) [] (let_of (at 0 2 3) (codes "x") no void_value ∷ path_at (at 0 2 17)
    (codes "x") ∷ []) ∷ path_at (at 0 3 1) (codes "x") ∷ [])) ≡ fault 13 (at 0 3 1) ∷ [])
block_ends = (refl, refl)

-- `for (let i = void; i; i) i; i;`: the `let` of a `for` is visible in all of it behind its value, and not behind it
for_scope : (means (body (tree ki.For (at 0 2 1) []
    (let_of (at 0 2 6) (codes "i") no void_value ∷ path_at (at 0 2 20) (codes "i") ∷ path_at (at 0 2 23) (codes "i") ∷ path_at (at 0 2 26)
    (codes "i") ∷ []) ∷ path_at (at 0 3 1) (codes "i") ∷ [])) ≡ (at 0 2 20, me.Local 0) ∷ (at 0 2 23, me.Local 0) ∷
    (at 0 2 26, me.Local 0) ∷ [])
    × (violations (body (tree ki.For (at 0 2 1) [] (let_of (at 0 2 6) (codes "i") no void_value ∷ path_at (at 0 2 20)
    (codes "i") ∷ path_at (at 0 2 23) (codes "i") ∷ path_at (at 0 2 26) (codes "i") ∷ []) ∷ path_at (at 0 3 1) (codes "i") ∷ [])) ≡
    fault 13 (at 0 3 1) ∷ [])
for_scope = (refl, refl)

-- `match (void) { case let x: int => x; case => x; }`: a pattern's name is visible in its case alone
case_scope : (means (body (tree ki.Match (at 0 2 1) []
    (void_value ∷ tree ki.Case (at 0 3 1) [] (tree ki.PatternLet (at 0 3 6) (codes "x") (no ∷ []) ∷ path_at (at 0 3 20)
    (codes "x") ∷ []) ∷ tree ki.Case (at 0 4 1) [] (no ∷ path_at (at 0 4 9) (codes "x") ∷ []) ∷ []) ∷ [])) ≡ (at 0 3 20, me.Local 0) ∷ [])
    × (violations (body (tree ki.Match (at 0 2 1) [] (void_value ∷ tree ki.Case (at 0 3 1) []
    (tree ki.PatternLet (at 0 3 6) (codes "x") (no ∷ []) ∷ path_at (at 0 3 20) (codes "x") ∷ []) ∷ tree ki.Case (at 0 4 1) []
    (no ∷ path_at (at 0 4 9) (codes "x") ∷ []) ∷ []) ∷ [])) ≡ fault 13 (at 0 4 9) ∷ [])
case_scope = (refl, refl)

-- `use rt;` with `rt::nomem` as a type and as a value, `rt::puts`, and `rt::put`, which is E15
abbrev with_runtime : List Node → List Source
with_runtime ts = alone (use_of 0 1 (codes "rt") ∷ []) (fn_of no (at 0 2 1) (codes "f") (at 0 2 4) [] (tree ki.Block (at 0 2 9) [] ts) ∷ [])

runtime_names : means (with_runtime (let_of (at 0 3 1) (codes "x") (type_at (at 0 3 8) (codes "rt::nomem"))
    (path_at (at 0 3 20) (codes "rt::nomem")) ∷ path_at (at 0 4 1) (codes "rt::puts") ∷ path_at (at 0 5 1) (codes "rt::exit") ∷ []))
    ≡ (at 0 3 8, me.Decl 4294967295) ∷ (at 0 3 20, me.Decl 4294967295) ∷ (at 0 4 1, me.Rt 0) ∷ (at 0 5 1, me.Rt 6) ∷ []
runtime_names = refl

runtime_unknown : violations (with_runtime (path_at (at 0 3 1) (codes "rt::put") ∷ [])) ≡ fault 15 (at 0 3 1) ∷ []
runtime_unknown = refl

-- a function of `rt` where a type has to stand, a module alone, a name of a module that is not imported, and three names: E13
four_sorts : violations (with_runtime (let_of (at 0 3 1) (codes "x") (type_at (at 0 3 8) (codes "rt::puts")) void_value ∷ path_at
    (at 0 4 1) (codes "rt") ∷ path_at (at 0 5 1) (codes "m::x") ∷ path_at (at 0 6 1) (codes "rt::a::b") ∷ []))
    ≡ fault 13 (at 0 3 8) ∷ fault 13 (at 0 4 1) ∷ fault 13 (at 0 5 1) ∷ fault 13 (at 0 6 1) ∷ []
four_sorts = refl

-- `let rt = void; rt::puts;`: the first word of two is never a local
never_local : means (with_runtime (let_of (at 0 3 1) (codes "rt") no void_value ∷ path_at (at 0 4 1) (codes "rt::puts") ∷ [])) ≡
    (at 0 4 1, me.Rt 0) ∷ []
never_local = refl

-- numbers count from the declaration, not from the block: `{ let a = void; }; let b = void; b;`
numbers : means (body (tree ki.Block (at 0 2 1) [] (let_of (at 0 2 3) (codes "a") no void_value ∷ []) ∷ let_of (at 0 3 1)
    (codes "b") no void_value ∷ path_at (at 0 4 1) (codes "b") ∷ [])) ≡ (at 0 4 1, me.Local 1) ∷ []
numbers = refl

-- `fn f() void = f;` and `fn g() void = f;` in two files of one module mean the one declaration
one_module : means (sources (codes "a.ha" ∷ codes "./b.ha" ∷ [])
    (file 0 [] (fn_of no (at 0 1 1) (codes "f") (at 0 1 4) [] (path_at (at 0 1 16) (codes "f")) ∷ []) ∷ file 1 []
    (fn_of no (at 1 1 1) (codes "g") (at 1 1 4) [] (path_at (at 1 1 16) (codes "f")) ∷ []) ∷ []))
    ≡ (at 0 1 16, me.Decl 0) ∷ (at 1 1 16, me.Decl 0) ∷ []
one_module = refl

-- imports hold in their own file: the second file of the module does not admit `rt`
own_file : violations (sources (codes "a.ha" ∷ codes "b.ha" ∷ [])
    (file 0 (use_of 0 1 (codes "rt") ∷ []) [] ∷ file 1 []
    (fn_of no (at 1 1 1) (codes "g") (at 1 1 4) [] (path_at (at 1 1 16) (codes "rt::puts")) ∷ []) ∷ [])) ≡ fault 13 (at 1 1 16) ∷ []
own_file = refl

-- a file of a module `rt`: E12 at its start
runtime_file : runtime_files (sources (codes "rt/a.ha" ∷ []) (file 0 [] [] ∷ [])) ≡ fault 12 (at 0 1 1) ∷ []
runtime_file = refl

-- ---- imports and declarations

-- `use PATH::{NAME};`
abbrev use_name : ℕ → ℕ → List ℕ → ℕ → List ℕ → Node
use_name f l m c x = tree ki.UseNames (at f l 1) []
    (tree ki.ImportPath (at f l 5) [] (tree ki.Name (at f l 5) m [] ∷ []) ∷ tree ki.Name (at f l c) x [] ∷ no ∷ [])

-- `use ALIAS = PATH;`
abbrev use_alias : ℕ → ℕ → List ℕ → ℕ → List ℕ → Node
use_alias f l x c m = tree ki.UseAlias (at f l 1) []
    (tree ki.Name (at f l 5) x [] ∷ tree ki.ImportPath (at f l c) [] (tree ki.Name (at f l c) m [] ∷ []) ∷ [])

-- `fn NAME() void = void;`, with `export` or without
abbrev plain_fn : ℕ → ℕ → List ℕ → Node
plain_fn f l x = fn_of no (at f l 1) x (at f l 4) [] void_value

abbrev exported_fn : ℕ → ℕ → List ℕ → Node
exported_fn f l x = fn_of (tree ki.Export (at f l 1) [] []) (at f l 1) x (at f l 11) [] void_value

-- two declarations of one module in two files: E12 at the later one
two_declarations : repeated_names (sources (codes "a.ha" ∷ codes "b.ha" ∷ [])
    (file 0 [] (plain_fn 0 1 (codes "f") ∷ []) ∷ file 1 [] (plain_fn 1 1 (codes "f") ∷ []) ∷ [])) ≡ fault 12 (at 1 1 4) ∷ []
two_declarations = refl

-- in two modules they are no fault
two_modules : repeated_names (sources (codes "a.ha" ∷ codes "m/b.ha" ∷ [])
    (file 0 [] (plain_fn 0 1 (codes "f") ∷ []) ∷ file 1 [] (plain_fn 1 1 (codes "f") ∷ []) ∷ [])) ≡ []
two_modules = refl

-- `use rt; use rt = rt;`: two imports of one file under one name
two_imports : repeated_names (alone (use_of 0 1 (codes "rt") ∷ use_alias 0 2 (codes "rt") 10 (codes "rt") ∷ []) []) ≡ fault 12
    (at 0 2 5) ∷ []
two_imports = refl

-- `use rt;` in each of two files of one module
imports_of_two_files : repeated_names (sources (codes "a.ha" ∷ codes "b.ha" ∷ [])
    (file 0 (use_of 0 1 (codes "rt") ∷ []) [] ∷ file 1 (use_of 1 1 (codes "rt") ∷ []) [] ∷ [])) ≡ []
imports_of_two_files = refl

-- an import of the first file, and a declaration of the second, of one module: the later one is blamed
import_and_declaration : repeated_names (sources (codes "a.ha" ∷ codes "b.ha" ∷ [])
    (file 0 (use_of 0 1 (codes "rt") ∷ []) [] ∷ file 1 [] (plain_fn 1 1 (codes "rt") ∷ []) ∷ [])) ≡ fault 12 (at 1 1 4) ∷ []
import_and_declaration = refl

-- `use m::{f}; use m::{g}; use m::{h};` of a module with `export fn f` and `fn g`: E14 at `g`, E15 at `h`
between_braces : unknown_members (sources (codes "a.ha" ∷ codes "m/b.ha" ∷ [])
    (file 0 (use_name 0 1 (codes "m") 9 (codes "f") ∷ use_name 0 2 (codes "m") 9 (codes "g") ∷ use_name 0 3 (codes "m") 9
    (codes "h") ∷ []) [] ∷ file 1 [] (exported_fn 1 1 (codes "f") ∷ plain_fn 1 2 (codes "g") ∷ []) ∷ []))
    ≡ fault 14 (at 0 2 9) ∷ fault 15 (at 0 3 9) ∷ []
between_braces = refl

-- a name that is imported by itself means the member, and its module stays unknown to the file
member_imported : (means (sources (codes "a.ha" ∷ codes "m/b.ha" ∷ [])
    (file 0 (use_name 0 1 (codes "m") 9 (codes "f") ∷ [])
    (fn_of no (at 0 2 1) (codes "g") (at 0 2 4) [] (path_at (at 0 2 16) (codes "f")) ∷ []) ∷ file 1 []
    (exported_fn 1 1 (codes "f") ∷ []) ∷ [])) ≡ (at 0 2 16, me.Decl 1) ∷ [])
    × (violations (sources (codes "a.ha" ∷ codes "m/b.ha" ∷ [])
    (file 0 (use_name 0 1 (codes "m") 9 (codes "f") ∷ [])
    (fn_of no (at 0 2 1) (codes "g") (at 0 2 4) [] (path_at (at 0 2 16) (codes "m::f")) ∷ []) ∷ file 1 []
    (exported_fn 1 1 (codes "f") ∷ []) ∷ [])) ≡ fault 13 (at 0 2 16) ∷ [])
member_imported = (refl, refl)

-- an alias admits the module under its name alone
alias : (means (sources (codes "a.ha" ∷ codes "m/b.ha" ∷ [])
    (file 0 (use_alias 0 1 (codes "n") 9 (codes "m") ∷ [])
    (fn_of no (at 0 2 1) (codes "g") (at 0 2 4) [] (path_at (at 0 2 16) (codes "n::f")) ∷ []) ∷ file 1 []
    (exported_fn 1 1 (codes "f") ∷ []) ∷ [])) ≡ (at 0 2 16, me.Decl 1) ∷ [])
    × (violations (sources (codes "a.ha" ∷ codes "m/b.ha" ∷ [])
    (file 0 (use_alias 0 1 (codes "n") 9 (codes "m") ∷ [])
    (fn_of no (at 0 2 1) (codes "g") (at 0 2 4) [] (path_at (at 0 2 16) (codes "m::f")) ∷ []) ∷ file 1 []
    (exported_fn 1 1 (codes "f") ∷ []) ∷ [])) ≡ fault 13 (at 0 2 16) ∷ [])
alias = (refl, refl)

-- files of `a::b` do not make `a` known
not_by_deeper : unknown_modules (sources (codes "x.ha" ∷ codes "a/b/y.ha" ∷ [])
    (file 0 (use_of 0 1 (codes "a") ∷ []) [] ∷ file 1 [] [] ∷ [])) ≡ fault 11 (at 0 1 5) ∷ []
not_by_deeper = refl

-- `use m;` in a file of the module `m`: E16 at the `use`
own_module : IsCircle (sources (codes "m/a.ha" ∷ []) (file 0 (use_of 0 1 (codes "m") ∷ []) [] ∷ [])) (fault 16 (at 0 1 1))
own_module = (
  record { home = codes "m"; tree = file 0 (use_of 0 1 (codes "m") ∷ []) [] },
  Contains-here _ [],
  (use_of 0 1 (codes "m"), Contains-here _ [], there, refl),
)

-- ---- order

-- an earlier file first, then the lesser line and column, and at one place the smaller number
file_first : counts_before (fault 13 (at 0 9 9)) (fault 11 (at 1 1 1)) ≡ true
file_first = refl

line_first : counts_before (fault 16 (at 0 1 9)) (fault 11 (at 0 2 1)) ≡ true
line_first = refl

number_last : (counts_before (fault 12 (at 0 1 5)) (fault 13 (at 0 1 5)) ≡ true) ×
    (counts_before (fault 13 (at 0 1 5)) (fault 12 (at 0 1 5)) ≡ false)
number_last = (refl, refl)

-- ---- scopes entered and left

-- `fn f(x: int) void = void; fn g() void = x;`: a parameter ends with its function
parameter_ends : violations (alone [] (fn_of no (at 0 1 1) (codes "f") (at 0 1 4) (tree ki.Param (at 0 1 6) (codes "x") (no ∷ [])
    ∷ []) void_value
    ∷ fn_of no (at 0 2 1) (codes "g") (at 0 2 4) [] (path_at (at 0 2 16) (codes "x")) ∷ [])) ≡ fault 13 (at 0 2 16) ∷ []
parameter_ends = refl

-- `type t = int; fn f(t: int) t = void;`: it is visible in the result
parameter_in_result : violations (alone [] (tree ki.TypeDecl (at 0 1 1) [] (no ∷ tree ki.Name (at 0 1 6) (codes "t") [] ∷ no ∷ [])
    ∷ tree ki.Fn (at 0 2 1) [] (no ∷ tree ki.Name (at 0 2 4) (codes "f") []
    ∷ tree ki.Params (at 0 2 5) [] (tree ki.Param (at 0 2 6) (codes "t") (no ∷ []) ∷ no ∷ [])
    ∷ type_at (at 0 2 14) (codes "t") ∷ void_value ∷ []) ∷ [])) ≡ fault 13 (at 0 2 14) ∷ []
parameter_in_result = refl

-- `let x = void; { let x = void; x; }; x;`: the inner one hides the outer one, up to the end of its block
hidden_and_back : means (body (let_of (at 0 2 1) (codes "x") no void_value
    ∷ tree ki.Block (at 0 3 1) [] (let_of (at 0 3 3) (codes "x") no void_value ∷ path_at (at 0 3 17) (codes "x") ∷ [])
    ∷ path_at (at 0 4 1) (codes "x") ∷ []))
    ≡ (at 0 3 17, me.Local 1) ∷ (at 0 4 1, me.Local 0) ∷ []
hidden_and_back = refl

-- `const x = void; x;`
constant : means (body (tree ki.Const (at 0 2 1) (codes "x") (no ∷ void_value ∷ []) ∷ path_at (at 0 3 1) (codes "x") ∷ []))
    ≡ (at 0 3 1, me.Local 0) ∷ []
constant = refl

-- `switch (void) { case void => let x = void; x; case => x; }`: a name ends with its case
switch_scope : (means (body (tree ki.Switch (at 0 2 1) [] (void_value
    ∷ tree ki.SwitchCase (at 0 3 1) [] (no ∷ let_of (at 0 3 6) (codes "x") no void_value ∷ path_at (at 0 3 20) (codes "x") ∷ [])
    ∷ tree ki.SwitchCase (at 0 4 1) [] (no ∷ path_at (at 0 4 9) (codes "x") ∷ []) ∷ []) ∷ [])) ≡ (at 0 3 20, me.Local 0) ∷ [])
    × (violations (body (tree ki.Switch (at 0 2 1) [] (void_value
    ∷ tree ki.SwitchCase (at 0 3 1) [] (no ∷ let_of (at 0 3 6) (codes "x") no void_value ∷ path_at (at 0 3 20) (codes "x") ∷ [])
    ∷ tree ki.SwitchCase (at 0 4 1) [] (no ∷ path_at (at 0 4 9) (codes "x") ∷ []) ∷ []) ∷ [])) ≡ fault 13 (at 0 4 9) ∷ [])
switch_scope = (refl, refl)

-- `let n = void; let a: [n]int = void;`: a length may mean a local
length_local : (means (body (let_of (at 0 2 1) (codes "n") no void_value
    ∷ let_of (at 0 3 1) (codes "a") (tree ki.TypeArray (at 0 3 8) [] (path_at (at 0 3 9) (codes "n") ∷ no ∷ [])) void_value ∷ []))
    ≡ (at 0 3 9, me.Local 0) ∷ [])
    × (violations (body (let_of (at 0 2 1) (codes "n") no void_value
    ∷ let_of (at 0 3 1) (codes "a") (tree ki.TypeArray (at 0 3 8) [] (path_at (at 0 3 9) (codes "n") ∷ no ∷ [])) void_value ∷ [])) ≡ [])
length_local = (refl, refl)

-- `let s = void; s { a = s };`: the path of a struct literal is a type
literal_local : violations (body (let_of (at 0 2 1) (codes "s") no void_value
    ∷ tree ki.StructLit (at 0 3 1) [] (type_at (at 0 3 1) (codes "s")
    ∷ tree ki.FieldValue (at 0 3 5) (codes "a") (path_at (at 0 3 9) (codes "s") ∷ []) ∷ no ∷ []) ∷ []))
    ≡ fault 13 (at 0 3 1) ∷ []
literal_local = refl

-- ---- violations that could be confused

-- a module `m` with `fn f`, `export fn g` and `export type t`, and a function of this body in a file that imports it
abbrev beside_m : List Node → List Source
beside_m ts = sources (codes "a.ha" ∷ codes "m/b.ha" ∷ [])
    (file 0 (use_of 0 1 (codes "m") ∷ []) (fn_of no (at 0 2 1) (codes "h") (at 0 2 4) [] (tree ki.Block (at 0 2 9) [] ts) ∷ [])
    ∷ file 1 [] (plain_fn 1 1 (codes "f") ∷ exported_fn 1 2 (codes "g") ∷ tree ki.TypeDecl (at 1 3 1) [] (tree ki.Export (at 1 3 1) [] []
    ∷ tree ki.Name (at 1 3 13) (codes "t") [] ∷ no ∷ []) ∷ []) ∷ [])

-- where a type has to stand: E14 comes before E13 of a function, E15 where nothing is declared, and the type is a type
types_of_m : violations (beside_m (let_of (at 0 3 1) (codes "x") (type_at (at 0 3 8) (codes "m::f")) void_value
    ∷ let_of (at 0 4 1) (codes "x") (type_at (at 0 4 8) (codes "m::g")) void_value
    ∷ let_of (at 0 5 1) (codes "x") (type_at (at 0 5 8) (codes "m::h")) void_value
    ∷ let_of (at 0 6 1) (codes "x") (type_at (at 0 6 8) (codes "m::t")) void_value ∷ []))
    ≡ fault 14 (at 0 3 8) ∷ fault 13 (at 0 4 8) ∷ fault 15 (at 0 5 8) ∷ []
types_of_m = refl

-- as values: E14, a function, E15, a type, and three names of which the first two are a member
values_of_m : violations (beside_m (path_at (at 0 3 1) (codes "m::f") ∷ path_at (at 0 4 1) (codes "m::g")
    ∷ path_at (at 0 5 1) (codes "m::h") ∷ path_at (at 0 6 1) (codes "m::t") ∷ path_at (at 0 7 1) (codes "m::g::x") ∷ []))
    ≡ fault 14 (at 0 3 1) ∷ fault 15 (at 0 5 1) ∷ fault 13 (at 0 7 1) ∷ []
values_of_m = refl

-- what the module declares is not had without its name
member_alone : violations (beside_m (path_at (at 0 3 1) (codes "g") ∷ [])) ≡ fault 13 (at 0 3 1) ∷ []
member_alone = refl

-- a name between braces that is not exported means nothing in the file: E14 at the import, and E13 at the path
unexported_member : (unknown_members (sources (codes "a.ha" ∷ codes "m/b.ha" ∷ []) (file 0 (use_name 0 1 (codes "m") 9 (codes "f")
    ∷ []) (fn_of no (at 0 2 1) (codes "g") (at 0 2 4) [] (path_at (at 0 2 16) (codes "f")) ∷ []) ∷ file 1 [] (plain_fn 1 1 (codes "f")
    ∷ []) ∷ [])) ≡ fault 14 (at 0 1 9) ∷ [])
    × (violations (sources (codes "a.ha" ∷ codes "m/b.ha" ∷ []) (file 0 (use_name 0 1 (codes "m") 9 (codes "f")
    ∷ []) (fn_of no (at 0 2 1) (codes "g") (at 0 2 4) [] (path_at (at 0 2 16) (codes "f")) ∷ []) ∷ file 1 [] (plain_fn 1 1 (codes "f")
    ∷ []) ∷ [])) ≡ fault 13 (at 0 2 16) ∷ [])
unexported_member = (refl, refl)

-- an import of no known module admits nothing: E11 at the import, and E13 at the path
unknown_admits_nothing : (unknown_modules (alone (use_of 0 1 (codes "q")
    ∷ []) (fn_of no (at 0 2 1) (codes "g") (at 0 2 4) [] (path_at (at 0 2 16) (codes "q::x")) ∷ [])) ≡ fault 11 (at 0 1 5) ∷ [])
    × (violations (alone (use_of 0 1 (codes "q")
    ∷ []) (fn_of no (at 0 2 1) (codes "g") (at 0 2 4) [] (path_at (at 0 2 16) (codes "q::x")) ∷ [])) ≡ fault 13 (at 0 2 16) ∷ [])
unknown_admits_nothing = (refl, refl)
