-- The written types of a declaration, judged one behind another.
use Rattle.std.specs.Prelude.{◌≡◌, ℕ, List, [], ◌∷◌, ◌++◌}
use Rattle.std.specs.List.{AllZip}
use Rattle.hare_tree.specs.declared.place.Fault.{Fault}
use Rattle.hare_tree.specs.Node.{Node}
use Rattle.hare_types.specs.Store.{Store}
use Rattle.hare_types.specs.Sound.{IsStore}
use Rattle.hare_types.specs.Later.{IsLater}
use Rattle.hare_typed.specs.Typed.{TypedNode}
use Rattle.hare_typed.specs.Erased.{erase}
use Rattle.hare_seen.specs.Seen.{MeasuresTheSame}
use Rattle.hare_seen.specs.Sizes.{AllFit, StandIn, IsFirstLarge, too_large}
use Rattle.hare_rules.specs.declared.declared.DeclType.{DeclType}
use Rattle.hare_modules.specs.Uses.{place_of}
use Rattle.hare_whole.specs.Listing.{Listing, Written, written_types}
use Rattle.hare_whole.specs.Turns.{IsTyped, IsTypeFault}
use Rattle.hare_turns.specs.Stages.{over, AreReadable, AreTypesOf}
use Rattle.hare_turns.specs.Laws.{IsGrownTo, AreTypesFaulty}

-- ---- one type

-- One written type has this tree: in each later store in which no node of it has turned out to be too large it is well typed, and in each
-- other one the first that has is its fault.
pub record IsTypeOf (p : Listing) (ds : List DeclType) (s : Store) (n : ℕ) (r : Written) (x : TypedNode) : Type 0 where
  pub stand : StandIn s (x ∷ [])
  pub typed : (f : Store) → IsLater s f → AllFit f (x ∷ []) → IsTyped (over p ds f) n r x
  pub large : (f : Store) (i : ℕ) (y : TypedNode) → IsLater s f → IsFirstLarge f (x ∷ []) i y →
      IsTypeFault (over p ds f) n r (too_large (place_of (erase y)))
  pub readable : AreReadable p ds (erase x)

-- the type has a fault in each later store that knows no more of the bytes of types
abbrev pub IsTypeFaulty : Listing → List DeclType → Store → ℕ → Written → Fault → Type 0
IsTypeFaulty p ds s n r e = (f : Store) → IsLater s f → MeasuresTheSame s f → IsTypeFault (over p ds f) n r e

-- ---- some of them

-- these types have these trees, of which no node is too large so far
pub record AreTypesSoFar (p : Listing) (ds : List DeclType) (s : Store) (n : ℕ) (rs : List Written) (xs : List TypedNode) : Type 0 where
  pub each : AllZip (IsTypeOf p ds s n) rs xs
  pub fit : AllFit s xs

-- They are so while the store grows, and with one more; all of a declaration are its types, and the fault of the next is the fault of its
-- types.
pub record AreJudgedInTurn (p : Listing) (ds : List DeclType) (s : Store) (n : ℕ) (rs : List Written) (xs : List TypedNode) : Type 0 where
  pub stay : (f : Store) → IsGrownTo s f → AreTypesSoFar p ds f n rs xs
  pub more : (r : Written) (x : TypedNode) → IsTypeOf p ds s n r x → AllFit s (x ∷ []) →
      AreTypesSoFar p ds s n (rs ++ r ∷ []) (xs ++ x ∷ [])
  pub all : (t : Node) → rs ≡ written_types t → AreTypesOf p ds s n t xs
  pub stop : (t : Node) (r : Written) (qs : List Written) (e : Fault) → rs ++ r ∷ qs ≡ written_types t → IsTypeFaulty p ds s n r e →
      AreTypesFaulty p ds s n t e

abbrev pub TypesAreJudged : Type 0
TypesAreJudged =
    (p : Listing) (ds : List DeclType) (s : Store) (n : ℕ) (rs : List Written) (xs : List TypedNode)
    → IsStore s
    → AreTypesSoFar p ds s n rs xs
    → AreJudgedInTurn p ds s n rs xs

-- before the first there are none
abbrev pub TypesBegin : Type 0
TypesBegin = (p : Listing) (ds : List DeclType) (s : Store) (n : ℕ) → AreTypesSoFar p ds s n [] []
