-- What is known of each declaration that has been judged, by its written types or by its value.
use Rattle.std.specs.Prelude.{◌≡◌, ℕ, List, [], ◌∷◌, Some, Contains}
use Rattle.hare_tree.specs.Node.{Node, head}
use Rattle.hare_types.specs.Store.{Store}
use Rattle.hare_types.specs.Later.{IsLater}
use Rattle.hare_typed.specs.Typed.{TypedNode}
use Rattle.hare_rules.specs.declared.declared.DeclType.{DeclType}
use Rattle.hare_rules.specs.Context.{Setting}
use Rattle.hare_modules.specs.Uses.{kid}
use Rattle.hare_depends.specs.Sorts.{sort_of}
use Rattle.hare_whole.specs.Listing.{Listing, IsDecl}
use Rattle.hare_whole.specs.Turns.{Stage, start, typed_at, known_by_types, known_by_value, type_or_plain, with_done}
use Rattle.hare_turns.specs.Stages.{IsEnd, IsStage, known_of}
use Rattle.hare_turns.specs.Laws.{IsNewIn, AreKnownByTypes, IsUnknownConstant, AreKnownByValue}

-- its types say this of it
abbrev pub IsSaidByTypes : Store → ℕ → Node → List TypedNode → DeclType → Type 0
IsSaidByTypes l n t ts d = Contains (known_by_types l n (head t).kind (sort_of t) ts) d

-- its value says this of it
abbrev pub IsSaidByValue : Store → Setting → ℕ → Node → List TypedNode → TypedNode → DeclType → Type 0
IsSaidByValue l w n t ts v d = Contains (known_by_value l n (head t).kind (sort_of t) (type_or_plain w (kid t 2) ts) v) d

-- it is what its types, or its value, say of it, whatever store the checking ends with
pub record IsKnownAs (p : Listing) (s : Store) (g : Stage) (vs : List (ℕ × TypedNode)) : Type 0 where
  pub types : (l : Store) (n : ℕ) (t : Node) (ts : List TypedNode) (d : DeclType) → IsEnd p s l → Contains g.typed (n, ts) → IsDecl p n t →
      IsSaidByTypes l n t ts d → known_of g.known n ≡ Some d
  pub values : (l : Store) (w : Setting) (n : ℕ) (t : Node) (v : TypedNode) (d : DeclType) → IsEnd p s l → Contains vs (n, v) →
      IsDecl p n t → IsSaidByValue l w n t (typed_at g n) v d → known_of g.known n ≡ Some d

-- ---- from one stage to the next

-- at the first stage nothing has been judged
abbrev pub KnownBegins : Type 0
KnownBegins = (p : Listing) (s : Store) → IsKnownAs p s start []

-- What is known goes on to be that of what has been judged: while the store grows, behind the types of one more declaration and behind its
-- value, and where one is done.
pub record KnownGoesOn (p : Listing) (s : Store) (g : Stage) (vs : List (ℕ × TypedNode)) : Type 0 where
  pub stay : (r : Store) → IsLater s r → IsKnownAs p r g vs
  pub types : (n : ℕ) (t : Node) (ts : List TypedNode) (h : Stage) → IsDecl p n t → IsNewIn g vs n → AreKnownByTypes p s g n t ts h →
      IsKnownAs p s h vs
  pub value : (n : ℕ) (t : Node) (ts : List TypedNode) (v : TypedNode) (h : Stage) → IsDecl p n t → Contains g.typed (n, ts) →
      IsUnknownConstant g n (sort_of t) → AreKnownByValue p s g n t v h → IsKnownAs p s h ((n, v) ∷ vs)
  pub done : (n : ℕ) → IsKnownAs p s (with_done g n) vs

abbrev pub StagesAreKnown : Type 0
StagesAreKnown =
    (p : Listing) (s : Store) (g : Stage) (vs : List (ℕ × TypedNode)) → IsStage p s g vs → IsKnownAs p s g vs → KnownGoesOn p s g vs
