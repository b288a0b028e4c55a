-- What is seen of declarations before any is judged. No public clause cites it.
use Rattle.std.specs.Prelude.{ℕ, List, length, map, Bool, true, false, ◌||◌, bytes_eq, codes, nat_lt, if◌then◌else◌}
use Rattle.hare_tree.specs.declared.kind.Kind.{Kind}
use Rattle.hare_tree.specs.declared.kind.Kind.TheVariants as ki
use Rattle.hare_tree.specs.declared.place.Place.{Place}
use Rattle.hare_tree.specs.declared.token.Meaning.{Meaning}
use Rattle.hare_tree.specs.declared.token.Meaning.TheVariants as me
use Rattle.hare_tree.specs.Node.{Node, Nodes, branch, none, more, head}
use Rattle.hare_modules.specs.Uses.{kid}
use Rattle.hare_whole.specs.Listing.{Listing}
use Rattle.hare_declare.specs.declared.outline.SizeSeen.{SizeSeen}
use Rattle.hare_declare.specs.declared.outline.SizeSeen.TheVariants as seen
use Rattle.hare_declare.specs.declared.outline.Outline.{Outline}

abbrev pub is_type_kind : Kind → Bool
is_type_kind ki.TypeDecl = true
is_type_kind _ = false

-- ---- sizes

abbrev pub seen_in_word : List ℕ → SizeSeen
seen_in_word w = if bytes_eq w (codes "never") || bytes_eq w (codes "opaque") then seen.Lacks else seen.Has

abbrev pub seen_in_meaning : ℕ → Meaning → SizeSeen
seen_in_meaning count (me.Decl n) = if nat_lt n count then seen.ThatOf n else seen.Has
seen_in_meaning count (me.Local n) = seen.Has
seen_in_meaning count (me.Rt n) = seen.Has
seen_in_meaning count me.None = seen.Has

-- of a type by its kind: what its word, its meaning, or what is marked says
abbrev pub seen_by : Kind → (word meaning marked : SizeSeen) → SizeSeen
seen_by ki.TypeScalar w m i = w
seen_by ki.TypePath w m i = m
seen_by ki.TypeError w m i = i
seen_by _ w m i = seen.Has

abbrev mutual
  pub size_seen : ℕ → (Place → Meaning) → Node → SizeSeen
  size_seen count means (branch h ts) =
      seen_by h.kind (seen_in_word h.text) (seen_in_meaning count (means h.place)) (first_seen count means ts)

  -- of the first of some trees
  pub first_seen : ℕ → (Place → Meaning) → Nodes → SizeSeen
  first_seen count means none = seen.Has
  first_seen count means (more t ts) = size_seen count means t

-- ---- declarations

abbrev pub outline_of : ℕ → (Place → Meaning) → Node → Outline
outline_of count means t = record { is_type = is_type_kind (head t).kind; size = size_seen count means (kid t 2) }

-- of all of a program, by their numbers
abbrev pub outlines : Listing → List Outline
outlines p = map (outline_of (length p.decls) p.means) p.decls
