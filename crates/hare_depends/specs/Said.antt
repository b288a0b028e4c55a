-- What a declaration says of others: the paths in its tree, and which declarations they mean.
use Rattle.std.specs.Prelude.{ℕ, List, [], ◌∷◌, ◌++◌, Bool, true, false, nat_lt, if◌then◌else◌}
use Rattle.std.specs.List.{flat_map}
use Rattle.hare_tree.specs.declared.kind.Kind.{Kind}
use Rattle.hare_tree.specs.declared.kind.Kind.TheVariants as ki
use Rattle.hare_tree.specs.declared.place.Place.{Place}
use Rattle.hare_tree.specs.declared.token.Meaning.{Meaning}
use Rattle.hare_tree.specs.declared.token.Meaning.TheVariants as me
use Rattle.hare_tree.specs.Node.{Node, Nodes, branch, none, more}
use Rattle.hare_modules.specs.Uses.{kid, place_of}
use Rattle.hare_modules.specs.Declarations.{name_in}
use Rattle.hare_depends.specs.declared.said.Said.{Said}
use Rattle.hare_depends.specs.declared.said.Sort.{Sort}
use Rattle.hare_depends.specs.declared.said.Sort.TheVariants as so
use Rattle.hare_depends.specs.Sorts.{sort_of}

-- ---- paths, by their places

-- a path of a type or of an expression
abbrev pub named_here : Kind → Place → List Place
named_here ki.TypePath p = p ∷ []
named_here ki.Path p = p ∷ []
named_here _ p = []

-- all paths that stand in a tree
abbrev mutual
  pub paths_in : Node → List Place
  paths_in (branch h ts) = named_here h.kind h.place ++ paths_among ts

  pub paths_among : Nodes → List Place
  paths_among none = []
  paths_among (more t ts) = paths_in t ++ paths_among ts

-- whether what stands in a type stands behind a pointer or slice, of which its bytes are none; what is spread counts there too
abbrev pub is_behind : Kind → Bool → Bool
is_behind ki.TypePointer behind = true
is_behind ki.TypeNullable behind = true
is_behind ki.TypeSlice behind = true
is_behind ki.Spread behind = false
is_behind _ behind = behind

-- a type that is held by value or spread, or the length of an array
abbrev pub held_here : Kind → Bool → Place → List Place
held_here ki.TypePath true p = []
held_here ki.TypePath false p = p ∷ []
held_here ki.Path behind p = p ∷ []
held_here _ behind p = []

-- The paths of types that a type holds by value or spreads, and of lengths of arrays. Lengths and spreads are so wherever they stand.
abbrev mutual
  pub held_in : Bool → Node → List Place
  held_in behind (branch h ts) = held_here h.kind behind h.place ++ held_among (is_behind h.kind behind) ts

  pub held_among : Bool → Nodes → List Place
  held_among behind none = []
  held_among behind (more t ts) = held_in behind t ++ held_among behind ts

-- ---- declarations that they mean

-- the declaration with this number, of so many; the type `rt::nomem` is none
abbrev pub number_in : ℕ → Meaning → List ℕ
number_in count (me.Decl n) = if nat_lt n count then n ∷ [] else []
number_in count (me.Local n) = []
number_in count (me.Rt n) = []
number_in count me.None = []

abbrev pub numbers_at : ℕ → (Place → Meaning) → List Place → List ℕ
numbers_at count means ps = flat_map (λ p. number_in count (means p)) ps

-- ---- by sorts

-- the parts of a declaration that are looked at before bodies are: of a function its parameters and its result
abbrev pub parts_by : Sort → Node → List Node
parts_by so.Type t = kid t 2 ∷ []
parts_by so.Function t = kid t 2 ∷ kid t 3 ∷ []
parts_by so.Constant t = kid t 2 ∷ kid t 3 ∷ []
parts_by so.Global t = kid t 2 ∷ kid t 3 ∷ []

abbrev pub parts_of : Node → List Node
parts_of t = parts_by (sort_of t) t

-- what a def or a global is written to be
abbrev pub written_by : Sort → Node → List Node
written_by so.Type t = []
written_by so.Function t = []
written_by so.Constant t = kid t 2 ∷ []
written_by so.Global t = kid t 2 ∷ []

-- types and signatures alone hold others by value
abbrev pub held_by : Sort → Node → List Node
held_by so.Type t = parts_by so.Type t
held_by so.Function t = parts_by so.Function t
held_by so.Constant t = []
held_by so.Global t = []

-- what a declaration of so many says of others, where paths mean this
abbrev pub said_of : ℕ → (Place → Meaning) → Node → Said
said_of count means t =
    record {
      sort = sort_of t;
      place = place_of (name_in t);
      needed = numbers_at count means (flat_map (held_in false) (held_by (sort_of t) t));
      named = numbers_at count means (flat_map paths_in (parts_of t));
      written = numbers_at count means (flat_map paths_in (written_by (sort_of t) t));
    }
