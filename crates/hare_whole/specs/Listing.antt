-- The declarations of a program before they are judged, and what their named types are declared to be.
use Rattle.std.specs.Prelude.{◌≡◌, ◌⊎◌, ℕ, List, [], ◌∷◌, ◌++◌, Bool, true, false, codes, cond, filter, length, map, slice_get, Some}
use Rattle.hare_tree.specs.declared.kind.Kind.{Kind}
use Rattle.hare_tree.specs.declared.kind.Kind.TheVariants as ki
use Rattle.hare_tree.specs.declared.place.Place.{Place}
use Rattle.hare_tree.specs.declared.token.Meaning.{Meaning}
use Rattle.hare_tree.specs.declared.token.Meaning.TheVariants as me
use Rattle.hare_tree.specs.Node.{Node, head}
use Rattle.hare_types.specs.declared.row.Row.TheVariants as row
use Rattle.hare_types.specs.declared.row.Scalar.TheVariants as keyword
use Rattle.hare_types.specs.Store.{Store, sized_of, definition_of}
use Rattle.hare_types.specs.Sound.{IsStore}
use Rattle.hare_types.specs.ByIds.{row_at}
use Rattle.hare_rules.specs.Context.{Role, Ordinary, BindingType}
use Rattle.hare_rules.specs.Words.{nomem}
use Rattle.hare_modules.specs.Uses.{kid, kids, text_of, place_of}
use Rattle.hare_depends.specs.declared.said.Said.{Said}
use Rattle.hare_depends.specs.declared.said.Sort.{Sort}
use Rattle.hare_depends.specs.declared.said.Sort.TheVariants as so
use Rattle.hare_depends.specs.Sorts.{sort_of, has_type}
use Rattle.hare_depends.specs.Said.{said_of}

-- the trees of the declarations of a program, by their numbers, and what paths mean
pub record Listing : Type 0 where
  pub decls : List Node
  pub means : Place → Meaning

-- what they say of one another
abbrev pub saids : Listing → List Said
saids p = map (said_of (length p.decls) p.means) p.decls

-- declaration number n is this tree
abbrev pub IsDecl : Listing → ℕ → Node → Type 0
IsDecl p n t = slice_get p.decls n ≡ Some t

-- ---- the types that are written in a declaration, apart from its value or body

abbrev pub is_param : Kind → Bool
is_param ki.Param = true
is_param _ = false

-- a type, and what it is to what stands above it
abbrev pub Written : Type 0
Written = Role × Node

-- the types of the parameters
abbrev pub param_types : Node → List Written
param_types t = map (λ p. (BindingType, kid p 0)) (filter (λ p. is_param (head p).kind) (kids (kid t 2)))

abbrev pub written_by : Sort → Node → List Written
written_by so.Type t = (Ordinary, kid t 2) ∷ []
written_by so.Function t = param_types t ++ (Ordinary, kid t 3) ∷ []
written_by so.Constant t = cond (has_type t) ((BindingType, kid t 2) ∷ []) []
written_by so.Global t = (BindingType, kid t 2) ∷ []

-- in the order of the source
abbrev pub written_types : Node → List Written
written_types t = written_by (sort_of t) t

-- ---- which named types have a size

abbrev pub names_no_size : Kind → List ℕ → Type 0
names_no_size ki.TypeScalar word = (word ≡ codes "never") ⊎ (word ≡ codes "opaque")
names_no_size _ word = ⊥

abbrev pub is_error : Kind → Bool
is_error ki.TypeError = true
is_error _ = false

abbrev pub is_path : Kind → Bool
is_path ki.TypePath = true
is_path _ = false

-- A type has no size where names and error marks come down to `never` or `opaque`. That is seen before any type is judged.
pub data IsUnsized (p : Listing) : Node → Type 0 where
  word : (t : Node) → names_no_size (head t).kind (text_of t) → IsUnsized p t
  error : (t : Node) → is_error (head t).kind ≡ true → IsUnsized p (kid t 0) → IsUnsized p t
  name : (t : Node) (n : ℕ) (d : Node) → is_path (head t).kind ≡ true → p.means (place_of t) ≡ me.Decl n → IsDecl p n d →
      IsUnsized p (kid d 2) →
      IsUnsized p t

-- The store has each type of the program as declared, with what is seen of its size; and beside them `rt::nomem`, which is `!void`.
pub record IsDeclared (s : Store) (p : Listing) : Type 0 where
  pub sound : IsStore s
  pub sized : (n : ℕ) (t : Node) → IsDecl p n t → sort_of t ≡ so.Type → ¬ IsUnsized p (kid t 2) → sized_of s n ≡ Some true
  pub unsized : (n : ℕ) (t : Node) → IsDecl p n t → sort_of t ≡ so.Type → IsUnsized p (kid t 2) → sized_of s n ≡ Some false
  pub no_other : (n : ℕ) (b : Bool) → sized_of s n ≡ Some b → ((t : Node) × IsDecl p n t × (sort_of t ≡ so.Type)) ⊎ (n ≡ nomem)

-- `rt::nomem` is defined as `!void`
abbrev pub DefinesNomem : Store → Type 0
DefinesNomem s =
    (e v : ℕ) × (definition_of s nomem ≡ Some e) × (row_at s e ≡ Some (row.Error v)) × (row_at s v ≡ Some (row.Scalar keyword.Void))
