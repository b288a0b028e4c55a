-- Short words for rows: files as lists of pieces, texts on one line, and trees.
use Rattle.std.specs.Prelude.{ℕ, List, [], ◌∷◌, ◌==◌, bytes_eq, codes, map, take, if◌then◌else◌}
use Rattle.hare_tree.specs.declared.token.Suffix.TheVariants as suffix
use Rattle.hare_tree.specs.declared.kind.Kind.{Kind}
use Rattle.hare_tree.specs.declared.kind.Kind.TheVariants as ki
use Rattle.hare_tree.specs.declared.tree.FileTree.{FileTree}
use Rattle.hare_tree.specs.Node.{Node, branch, nodes_of}
use Rattle.hare_tree.specs.Spell.{start_of}
use Rattle.hare_lines.specs.declared.way.Feeds.{Feeds}
use Rattle.hare_lines.specs.declared.way.Feeds.TheVariants.{Same, Next, Empty}
use Rattle.hare_lines.specs.Read.{Seen}
use Rattle.hare_lines.specs.Layout.{layout}

-- ---- texts, with `@` for a line end, `#` for a tab, `%` for a double quote and `~` for a blank in a comment

abbrev byte_of : ℕ → ℕ
byte_of c = if c == 64 then 10 else if c == 35 then 9 else if c == 37 then 34 else if c == 126 then 32 else c

abbrev pub text : List ℕ → List ℕ
text s = map byte_of s

-- ---- pieces, with a blank between any two; `@` is a line end, and `@@` an empty line

abbrev put : ℕ → List (List ℕ) → List (List ℕ)
put c [] = (c ∷ []) ∷ []
put c (w ∷ ws) = (c ∷ w) ∷ ws

abbrev words : List ℕ → List (List ℕ)
words [] = [] ∷ []
words (c ∷ s) = if c == 32 then [] ∷ words s else put c (words s)

abbrev read : Feeds → List (List ℕ) → List Seen
read f [] = []
read f (w ∷ ws) =
    if bytes_eq w [] then read f ws
    else if bytes_eq w (codes "@") then read Next ws
    else if bytes_eq w (codes "@@") then read Empty ws
    else record { feeds = f; body = text w; comment = bytes_eq (take 2 w) (codes "//") } ∷ read Same ws

abbrev pub pieces : List ℕ → List Seen
pieces s = read Same (words s)

-- ---- trees

-- a tree of the kind with these kids
abbrev pub node : Kind → List Node → Node
node k ts = branch record { kind = k; place = start_of 0; text = []; number = 0; suffix = suffix.None } (nodes_of ts)

-- a tree of the kind with this text and these kids
abbrev pub named : Kind → List ℕ → List Node → Node
named k x ts = branch record { kind = k; place = start_of 0; text = x; number = 0; suffix = suffix.None } (nodes_of ts)

-- what stands in the place of a kid that is not there
abbrev pub none : Node
none = node ki.None []

abbrev pub comma : Node
comma = node ki.TrailingComma []

abbrev pub dots : Node
dots = node ki.Dots []

abbrev pub name : List ℕ → Node
name x = named ki.Name x []

abbrev pub path : List ℕ → Node
path x = named ki.Path x []

abbrev pub a : Node
a = path (codes "a")

abbrev pub b : Node
b = path (codes "b")

abbrev pub c : Node
c = path (codes "c")

abbrev pub number : List ℕ → Node
number x = named ki.Number x []

abbrev pub scalar : List ℕ → Node
scalar x = named ki.TypeScalar x []

abbrev pub int : Node
int = scalar (codes "int")

-- `yield :l`
abbrev pub labelled : Node
labelled = named ki.Yield (codes "l") (none ∷ [])

-- ---- files

abbrev pub file : List Node → List Node → FileTree
file uses decls = record { file = 0; uses = uses; decls = decls }

-- `let x = e;`
abbrev pub set : Node → Node
set e = node ki.GlobalLet (none ∷ name (codes "x") ∷ none ∷ e ∷ [])

-- `type x = t;`
abbrev pub type : Node → Node
type t = node ki.TypeDecl (none ∷ name (codes "x") ∷ t ∷ [])

-- what these pieces with the tree of one declaration are laid out as
abbrev pub laid_out : Node → List ℕ → List ℕ
laid_out t s = layout (file [] (t ∷ [])) (pieces s)
