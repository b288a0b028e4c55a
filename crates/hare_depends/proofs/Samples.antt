-- Small declarations, whose places are the columns of one line.
use Rattle.std.proofs.Common.{ℕ, List, [], ◌∷◌, codes}
use Rattle.hare_tree.specs.declared.kind.Kind.{Kind}
use Rattle.hare_tree.specs.declared.kind.Kind.TheVariants as ki
use Rattle.hare_tree.specs.declared.place.Place.{Place}
use Rattle.hare_tree.specs.declared.token.Meaning.{Meaning}
use Rattle.hare_tree.specs.declared.token.Meaning.TheVariants as me
use Rattle.hare_tree.specs.declared.token.Suffix.TheVariants as suffix
use Rattle.hare_tree.specs.Node.{Node, branch, nodes_of}
use Rattle.hare_depends.specs.declared.said.Said.{Said}
use Rattle.hare_depends.specs.declared.said.Sort.{Sort}

abbrev pub at : ℕ → Place
at column = record { file = 0; line = 1; column = column }

abbrev pub tree : Kind → ℕ → List ℕ → List Node → Node
tree k column text ts = branch (record { kind = k; place = at column; text = text; number = 0; suffix = suffix.None }) (nodes_of ts)

abbrev pub leaf : Kind → ℕ → List ℕ → Node
leaf k column text = tree k column text []

abbrev pub absent : Node
absent = leaf ki.None 1 []

-- paths: the column is the number of what is meant
abbrev pub type_path : ℕ → Node
type_path column = leaf ki.TypePath column (codes "t")

abbrev pub path : ℕ → Node
path column = leaf ki.Path column (codes "x")

-- the path at a column means the declaration with that number
abbrev pub by_column : Place → Meaning
by_column p = me.Decl p.column

abbrev pub name : Node
name = leaf ki.Name 9 (codes "n")

abbrev pub type_decl : Node → Node
type_decl t = tree ki.TypeDecl 1 [] (absent ∷ name ∷ t ∷ [])

abbrev pub def : Node → Node → Node
def t v = tree ki.Def 1 [] (absent ∷ name ∷ t ∷ v ∷ [])

abbrev pub global : Node → Node → Node
global t v = tree ki.GlobalLet 1 [] (absent ∷ name ∷ t ∷ v ∷ [])

abbrev pub function : List Node → Node → Node → Node
function ps r b = tree ki.Fn 1 [] (absent ∷ name ∷ tree ki.Params 1 [] ps ∷ r ∷ b ∷ [])

abbrev pub param : Node → Node
param t = tree ki.Param 1 (codes "p") (t ∷ [])

abbrev pub pointer : Node → Node
pointer t = tree ki.TypePointer 1 [] (t ∷ [])

abbrev pub slice : Node → Node
slice t = tree ki.TypeSlice 1 [] (t ∷ [])

abbrev pub array : Node → Node → Node
array n t = tree ki.TypeArray 1 [] (n ∷ t ∷ [])

abbrev pub struct_with : List Node → Node
struct_with ts = tree ki.TypeStruct 1 [] ts

abbrev pub field : Node → Node
field t = tree ki.StructField 1 (codes "f") (t ∷ [])

abbrev pub spread : Node → Node
spread t = tree ki.Spread 1 [] (t ∷ [])

abbrev pub union_with : List Node → Node
union_with ts = tree ki.TypeUnion 1 [] ts

abbrev pub word : Node
word = leaf ki.TypeScalar 1 (codes "int")

-- what a declaration says, with its name at this column
abbrev pub says : Sort → ℕ → (needed named written : List ℕ) → Said
says s column xs ys zs = record { sort = s; place = at column; needed = xs; named = ys; written = zs }
