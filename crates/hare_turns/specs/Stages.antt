-- What stands when some steps of the third phase have been passed: the store as it is then, what is known of declarations, and what has
-- been judged.
use Rattle.std.specs.Prelude.{◌≡◌, ℕ, true, List, nat_eq, find, Option, Some, None, IsSome, Contains}
use Rattle.hare_tree.specs.declared.kind.Kind.{Kind}
use Rattle.hare_tree.specs.declared.kind.Kind.TheVariants as ki
use Rattle.hare_tree.specs.declared.token.Meaning.TheVariants as me
use Rattle.hare_tree.specs.Node.{Head, Node}
use Rattle.hare_types.specs.Store.{Store, definition_of}
use Rattle.hare_types.specs.Sound.{IsStore}
use Rattle.hare_types.specs.Later.{IsLater}
use Rattle.hare_typed.specs.Typed.{TypedNode}
use Rattle.hare_typed.specs.Erased.{erase, heads}
use Rattle.hare_typed.specs.Order.{tree_from_front}
use Rattle.hare_seen.specs.Sizes.{AllFit, StandIn, IsFirstLarge, too_large}
use Rattle.hare_rules.specs.declared.declared.DeclType.{DeclType}
use Rattle.hare_rules.specs.Context.{Setting}
use Rattle.hare_rules.specs.Rows.{first_failing}
use Rattle.hare_modules.specs.Uses.{place_of}
use Rattle.hare_depends.specs.declared.said.Sort.TheVariants as so
use Rattle.hare_depends.specs.Sorts.{sort_of}
use Rattle.hare_whole.specs.Judged.{IsFinal}
use Rattle.hare_whole.specs.Listing.{Listing, IsDecl, IsDeclared, DefinesNomem, written_types}
use Rattle.hare_whole.specs.Parts.{written_id}
use Rattle.hare_whole.specs.Turns.{Stage, is_seen, typed_at, AreTyped, IsTypesFault, IsTypedValue, context_of}

-- over a store, with what is known of declarations
abbrev pub over : Listing → List DeclType → Store → Setting
over p ds f = record { store = f; decls = ds; means = p.means }

-- a store with which the checking may end, where it goes on from this one
pub record IsEnd (p : Listing) (s l : Store) : Type 0 where
  pub later : IsLater s l
  pub final : IsFinal p l

-- ---- paths

-- what is known of a declaration
abbrev pub known_of : List DeclType → ℕ → Option DeclType
known_of ds n = find (λ d. nat_eq d.decl n) ds

-- What a path says stays as it is when more becomes known: where it means a declaration of the program, that is known already, or in a type
-- is a type. `rt::nomem` is not of the program, and nothing becomes known of it.
abbrev pub IsReadable : Listing → List DeclType → Kind → ℕ → Type 0
IsReadable p ds ki.Path n = (t : Node) → IsDecl p n t → IsSome (known_of ds n)
IsReadable p ds ki.TypePath n = (t : Node) → IsDecl p n t → sort_of t ≡ so.Type
IsReadable p ds _ n = Unit {0}

abbrev pub AreReadable : Listing → List DeclType → Node → Type 0
AreReadable p ds t = (h : Head) (n : ℕ) → Contains (heads t) h → p.means h.place ≡ me.Decl n → IsReadable p ds h.kind n

-- ---- what has been judged

-- The written types of a declaration have these trees: in each later store in which none has turned out to be too large they are well
-- typed, and in each other one the first that has is their fault.
pub record AreTypesOf (p : Listing) (ds : List DeclType) (s : Store) (m : ℕ) (t : Node) (ts : List TypedNode) : Type 0 where
  pub stand : StandIn s ts
  pub typed : (f : Store) → IsLater s f → AllFit f ts → AreTyped (over p ds f) m (written_types t) ts
  pub large : (f : Store) (i : ℕ) (y : TypedNode) → IsLater s f → IsFirstLarge f ts i y →
      IsTypesFault (over p ds f) m (written_types t) (too_large (place_of (erase y)))
  pub readable : (x : TypedNode) → Contains ts x → AreReadable p ds (erase x)

-- the value of a declaration has this tree, in each later store, and the declaration meets its rows
pub record IsValueOf (p : Listing) (ds : List DeclType) (s : Store) (m : ℕ) (t : Node) (ts : List TypedNode) (v : TypedNode) : Type 0 where
  pub typed : (f : Store) → IsLater s f → IsTypedValue (over p ds f) m t ts v
  pub rows : (f : Store) → IsLater s f → first_failing (context_of (over p ds f) m t ts v) ≡ None
  pub readable : AreReadable p ds (erase v)

-- ---- stages

-- Where so much is done, known and typed: the store defines just the types that are done, and what has been judged is so with what is known
-- by now. The values that were judged stand beside the stage, by their declarations.
pub record IsStage (p : Listing) (s : Store) (g : Stage) (vs : List (ℕ × TypedNode)) : Type 0 where
  pub sound : IsStore s
  pub declared : IsDeclared s p
  pub nomem : DefinesNomem s
  pub only : (d t : ℕ) → definition_of s d ≡ Some t → is_seen g.done d ≡ true
  pub done : (n : ℕ) (t : Node) → Contains g.done n → IsDecl p n t → sort_of t ≡ so.Type →
      definition_of s n ≡ Some (written_id (tree_from_front 0 (typed_at g n)))
  pub there : (m : ℕ) (ts : List TypedNode) → Contains g.typed (m, ts) → (t : Node) × IsDecl p m t
  pub types : (m : ℕ) (t : Node) (ts : List TypedNode) → Contains g.typed (m, ts) → IsDecl p m t → AreTypesOf p g.known s m t ts
  pub fit : (m : ℕ) (ts : List TypedNode) → Contains g.typed (m, ts) → AllFit s ts
  pub values : (m : ℕ) (t : Node) (v : TypedNode) → Contains vs (m, v) → IsDecl p m t → IsValueOf p g.known s m t (typed_at g m) v
