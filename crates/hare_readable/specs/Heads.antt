-- What is found of each node of trees.
use Rattle.std.specs.Prelude.{◌≡◌, ℕ, List, Contains, IsSome}
use Rattle.hare_tree.specs.declared.kind.Kind.{Kind}
use Rattle.hare_tree.specs.declared.place.Place.{Place}
use Rattle.hare_tree.specs.declared.token.Meaning.TheVariants as me
use Rattle.hare_tree.specs.Node.{Head, Node, nodes_of}
use Rattle.hare_typed.specs.Erased.{heads, heads_each}
use Rattle.hare_rules.specs.declared.declared.DeclType.{DeclType}
use Rattle.hare_depends.specs.declared.said.Sort.TheVariants as so
use Rattle.hare_depends.specs.Sorts.{sort_of}
use Rattle.hare_whole.specs.Listing.{Listing, IsDecl}
use Rattle.hare_turns.specs.Stages.{known_of, IsReadable}

-- ---- trees

-- each node of the tree is so
abbrev pub InTree : (Head → Type 0) → Node → Type 0
InTree P t = (h : Head) → Contains (heads t) h → P h

-- each node of the trees is so
abbrev pub InKids : (Head → Type 0) → List Node → Type 0
InKids P ts = (h : Head) → Contains (heads_each (nodes_of ts)) h → P h

-- ---- paths

-- the path means no declaration of the program, or one that is known
abbrev pub MeansKnown : Listing → List DeclType → Place → Type 0
MeansKnown p ds q = (n : ℕ) → p.means q ≡ me.Decl n → (t : Node) → IsDecl p n t → IsSome (known_of ds n)

-- the path means no declaration of the program, or a type
abbrev pub MeansType : Listing → Place → Type 0
MeansType p q = (n : ℕ) → p.means q ≡ me.Decl n → (t : Node) → IsDecl p n t → sort_of t ≡ so.Type

-- what a path of this kind at this place says stays as it is when more becomes known
abbrev pub IsReadableAt : Listing → List DeclType → Kind → Place → Type 0
IsReadableAt p ds k q = (n : ℕ) → p.means q ≡ me.Decl n → IsReadable p ds k n

abbrev pub IsReadableHead : Listing → List DeclType → Head → Type 0
IsReadableHead p ds h = IsReadableAt p ds h.kind h.place
