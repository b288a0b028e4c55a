-- How one stage follows another as declarations are judged in their turns, and which fault one has that is not passed. Each is said of
-- every store with which the checking may end.
use Rattle.std.specs.Prelude.{◌≡◌, ◌≢◌, ℕ, ◌<◌, List, ◌∷◌, Some, None, Contains}
use Rattle.hare_tree.specs.declared.place.Place.{Place}
use Rattle.hare_tree.specs.declared.place.Fault.{Fault}
use Rattle.hare_tree.specs.Node.{Node}
use Rattle.hare_types.specs.Store.{Store, sized_of, definition_of}
use Rattle.hare_types.specs.Sound.{IsStore}
use Rattle.hare_types.specs.Later.{IsLater}
use Rattle.hare_typed.specs.Typed.{TypedNode}
use Rattle.hare_typed.specs.Order.{tree_from_front}
use Rattle.hare_typed.specs.Erased.{erase}
use Rattle.hare_seen.specs.Seen.{DefinesTheSame, MeasuresTheSame}
use Rattle.hare_seen.specs.Sizes.{AllFit, IsFirstLarge, too_large}
use Rattle.hare_rules.specs.declared.declared.DeclType.{DeclType}
use Rattle.hare_modules.specs.Uses.{place_of}
use Rattle.hare_depends.specs.declared.said.Sort.{Sort}
use Rattle.hare_depends.specs.declared.said.Sort.TheVariants as so
use Rattle.hare_depends.specs.Sorts.{sort_of}
use Rattle.hare_whole.specs.Listing.{Listing, IsDecl, written_types}
use Rattle.hare_whole.specs.Parts.{written_id}
use Rattle.hare_whole.specs.Turns.{Stage, Step, Types, Value, Done, seen, setting_at, typed_at, with_types, with_value, with_done, Passes, Fails, IsTypesFault, IsValueFault}
use Rattle.hare_turns.specs.Stages.{IsEnd, IsStage, over, known_of, AreTypesOf, IsValueOf}

-- ---- from one store to the next

-- the second declares just the names that the first does, and as the first does
abbrev pub DeclaresTheSame : Store → Store → Type 0
DeclaresTheSame s r = (d : ℕ) → sized_of r d ≡ sized_of s d

-- the store has grown in names of fields and in types, and declares and defines what it did
pub record IsGrownTo (s r : Store) : Type 0 where
  pub later : IsLater s r
  pub declared : DeclaresTheSame s r
  pub same : DefinesTheSame s r
  pub sound : IsStore r

-- the store defines one more name, and no other
pub record DefinesOneMore (s r : Store) (n u : ℕ) : Type 0 where
  pub later : IsLater s r
  pub declared : DeclaresTheSame s r
  pub sound : IsStore r
  pub defined : definition_of r n ≡ Some u
  pub others : (d : ℕ) → d ≢ n → definition_of r d ≡ definition_of s d

-- ---- what is seen at a stage of a store with which the checking ends

pub record IsSeenAt (s f : Store) : Type 0 where
  pub later : IsLater s f
  pub same : MeasuresTheSame s f

-- it comes behind the store as it is at that stage, and no more is known of the bytes of types
abbrev pub EndsAreSeen : Type 0
EndsAreSeen =
    (p : Listing) (s l : Store) (g : Stage) (vs : List (ℕ × TypedNode)) → IsStage p s g vs → IsEnd p s l → IsSeenAt s (seen l g.done)

-- a stage stays one while the store grows
abbrev pub StagesStay : Type 0
StagesStay = (p : Listing) (s r : Store) (g : Stage) (vs : List (ℕ × TypedNode)) → IsStage p s g vs → IsGrownTo s r → IsStage p r g vs

-- ---- written types

-- what is known of the declaration by its types, whatever store the checking ends with
abbrev pub AreKnownByTypes : Listing → Store → Stage → ℕ → Node → List TypedNode → Stage → Type 0
AreKnownByTypes p s g n t ts h = (l : Store) → IsEnd p s l → h ≡ with_types l g n t ts

-- nothing is known of the declaration yet, and nothing of it has been judged
pub record IsNewIn (g : Stage) (vs : List (ℕ × TypedNode)) (n : ℕ) : Type 0 where
  pub unknown : known_of g.known n ≡ None
  pub undone : ¬ Contains g.done n
  pub untyped : (ts : List TypedNode) → ¬ Contains g.typed (n, ts)
  pub unvalued : (v : TypedNode) → ¬ Contains vs (n, v)

pub record GoesOn (p : Listing) (s : Store) (g : Stage) (x : Step) (h : Stage) (vs : List (ℕ × TypedNode)) : Type 0 where
  pub passes : (l : Store) → IsEnd p s l → Passes p l g x h
  pub stage : IsStage p s h vs

abbrev pub TypesGoOn : Type 0
TypesGoOn =
    (p : Listing) (s : Store) (g h : Stage) (vs : List (ℕ × TypedNode)) (n : ℕ) (t : Node) (ts : List TypedNode)
    → IsStage p s g vs
    → IsDecl p n t
    → IsNewIn g vs n
    → AreTypesOf p g.known s n t ts
    → AllFit s ts
    → AreKnownByTypes p s g n t ts h
    → GoesOn p s g (Types n) h vs

-- the types have a fault in each later store that knows no more of the bytes of types
abbrev pub AreTypesFaulty : Listing → List DeclType → Store → ℕ → Node → Fault → Type 0
AreTypesFaulty p ds s n t f = (r : Store) → IsLater s r → MeasuresTheSame s r → IsTypesFault (over p ds r) n (written_types t) f

abbrev pub TypesStop : Type 0
TypesStop =
    (p : Listing) (s l : Store) (g : Stage) (vs : List (ℕ × TypedNode)) (n : ℕ) (t : Node) (f : Fault)
    → IsStage p s g vs
    → IsDecl p n t
    → AreTypesFaulty p g.known s n t f
    → IsEnd p s l
    → Fails p l g f (Types n)

-- ---- values

abbrev pub AreKnownByValue : Listing → Store → Stage → ℕ → Node → TypedNode → Stage → Type 0
AreKnownByValue p s g n t v h = (l : Store) → IsEnd p s l → h ≡ with_value (setting_at p l g) l g n t v

-- a def or a global without a type is known by its value: then nothing is known of it before
abbrev pub IsUnknownConstant : Stage → ℕ → Sort → Type 0
IsUnknownConstant g n so.Constant = known_of g.known n ≡ None
IsUnknownConstant g n _ = Unit {0}

abbrev pub ValueGoesOn : Type 0
ValueGoesOn =
    (p : Listing) (s : Store) (g h : Stage) (vs : List (ℕ × TypedNode)) (n : ℕ) (t : Node) (v : TypedNode)
    → IsStage p s g vs
    → IsDecl p n t
    → IsUnknownConstant g n (sort_of t)
    → IsValueOf p g.known s n t (typed_at g n) v
    → AreKnownByValue p s g n t v h
    → GoesOn p s g (Value n) h ((n, v) ∷ vs)

abbrev pub IsValueFaulty : Listing → List DeclType → Store → ℕ → Node → List TypedNode → Fault → Type 0
IsValueFaulty p ds s n t ts f = (r : Store) → IsLater s r → IsValueFault (over p ds r) n t ts f

abbrev pub ValueStops : Type 0
ValueStops =
    (p : Listing) (s l : Store) (g : Stage) (vs : List (ℕ × TypedNode)) (n : ℕ) (t : Node) (f : Fault)
    → IsStage p s g vs
    → IsDecl p n t
    → IsValueFaulty p g.known s n t (typed_at g n) f
    → IsEnd p s l
    → Fails p l g f (Value n)

-- ---- declarations that are done

-- a type is defined as it is written, and all that was judged before is small still
pub record IsDefinedNow (s r : Store) (g : Stage) (n : ℕ) : Type 0 where
  pub more : DefinesOneMore s r n (written_id (tree_from_front 0 (typed_at g n)))
  pub fit : (m : ℕ) (ts : List TypedNode) → Contains g.typed (m, ts) → AllFit r ts

abbrev pub IsDoneBy : Store → Store → Stage → ℕ → Sort → Type 0
IsDoneBy s r g n so.Type = IsDefinedNow s r g n
IsDoneBy s r g n _ = IsGrownTo s r

abbrev pub DoneGoesOn : Type 0
DoneGoesOn =
    (p : Listing) (s r : Store) (g : Stage) (vs : List (ℕ × TypedNode)) (n : ℕ) (t : Node)
    → IsStage p s g vs
    → IsDecl p n t
    → IsDoneBy s r g n (sort_of t)
    → GoesOn p r g (Done n) (with_done g n) vs

-- of the declarations that were judged the first, by number, of which a type has turned out to be too large, at the first of its nodes that
-- has
pub record IsLateOf (r : Store) (g : Stage) (m : ℕ) (at : Place) : Type 0 where
  pub types : List TypedNode
  pub order : ℕ
  pub node : TypedNode
  pub judged : Contains g.typed (m, types)
  pub first : IsFirstLarge r types order node
  pub place : place_of (erase node) ≡ at
  pub before : (k : ℕ) (us : List TypedNode) → k < m → Contains g.typed (k, us) → AllFit r us

abbrev pub DoneStops : Type 0
DoneStops =
    (p : Listing) (s r l : Store) (g : Stage) (vs : List (ℕ × TypedNode)) (n m : ℕ) (t : Node) (at : Place)
    → IsStage p s g vs
    → IsDecl p n t
    → sort_of t ≡ so.Type
    → DefinesOneMore s r n (written_id (tree_from_front 0 (typed_at g n)))
    → IsLateOf r g m at
    → IsEnd p r l
    → Fails p l g (too_large at) (Done n)
