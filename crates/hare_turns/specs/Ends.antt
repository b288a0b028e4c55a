-- What the third and the fourth phase come to, said of every store with which the checking may end.
use Rattle.std.specs.Prelude.{◌≡◌, ◌≢◌, ℕ, suc, ◌<◌, true, List, [], ◌∷◌, length, Contains}
use Rattle.hare_tree.specs.declared.place.Fault.{Fault}
use Rattle.hare_tree.specs.declared.stop.Stop.{Stop}
use Rattle.hare_tree.specs.declared.stop.Stop.TheVariants.{Fault as Refused, Memory}
use Rattle.hare_tree.specs.Node.{Node}
use Rattle.hare_types.specs.Store.{Store}
use Rattle.hare_types.specs.Later.{IsLater}
use Rattle.hare_typed.specs.Typed.{TypedNode}
use Rattle.hare_typed.specs.Erased.{erase}
use Rattle.hare_rules.specs.declared.declared.DeclType.{DeclType}
use Rattle.hare_rules.specs.Finished.{IsWell}
use Rattle.hare_modules.specs.Uses.{kid}
use Rattle.hare_depends.specs.declared.said.Sort.TheVariants as so
use Rattle.hare_depends.specs.Sorts.{sort_of, has_value}
use Rattle.hare_whole.specs.Listing.{Listing, IsDecl}
use Rattle.hare_whole.specs.Declared.{over_body, before_body}
use Rattle.hare_whole.specs.Turns.{Stage, params_in, result_in, AreJudged, IsDeclarationFault, IsFaultOfBody, IsBodyFault}
use Rattle.hare_turns.specs.Stages.{IsEnd, IsStage, over, known_of}
use Rattle.hare_turns.specs.Laws.{IsGrownTo}

-- ---- declarations

-- all declarations have been judged, and all that was typed of them is so by what is known in the end
pub record AreJudgedTo (p : Listing) (s : Store) (g : Stage) (vs : List (ℕ × TypedNode)) : Type 0 where
  pub stage : IsStage p s g vs
  pub judged : (l : Store) → IsEnd p s l → AreJudged p l g
  pub types : (n : ℕ) (t : Node) → IsDecl p n t → (ts : List TypedNode) × Contains g.typed (n, ts)
  pub values : (n : ℕ) (t : Node) → IsDecl p n t → has_value (sort_of t) ≡ true → (v : TypedNode) × Contains vs (n, v)

-- the fault that is told is the first of declarations; of want of memory nothing is said
abbrev pub IsDeclarationStop : Listing → Store → Stop Fault → Type 0
IsDeclarationStop p s Memory = Unit {0}
IsDeclarationStop p s (Refused f) = (l : Store) → IsEnd p s l → IsDeclarationFault p l f

-- ---- bodies

-- the body of a function has this tree, in each later store
pub record IsBodyOf (p : Listing) (ds : List DeclType) (s : Store) (n : ℕ) (t : Node) (x : TypedNode) : Type 0 where
  pub erases : erase x ≡ kid t 4
  pub well :
      (f : Store) → IsLater s f →
      IsWell (over p ds f) (over_body n (result_in (known_of ds n)) (length (params_in (known_of ds n))))
      (before_body (params_in (known_of ds n)) (kid t 4)) x

-- these are the bodies of the functions among these declarations, of which the first has this number
pub data AreBodies (p : Listing) (ds : List DeclType) (s : Store) : ℕ → List Node → List TypedNode → Type 0 where
  none : (n : ℕ) → AreBodies p ds s n [] []
  function : (n : ℕ) (t : Node) (x : TypedNode) (ts : List Node) (xs : List TypedNode) → sort_of t ≡ so.Function → IsBodyOf p ds s n t x →
      AreBodies p ds s (suc n) ts xs → AreBodies p ds s n (t ∷ ts) (x ∷ xs)
  other : (n : ℕ) (t : Node) (ts : List Node) (xs : List TypedNode) → sort_of t ≢ so.Function → AreBodies p ds s (suc n) ts xs →
      AreBodies p ds s n (t ∷ ts) xs

-- the first function whose body has a fault has this one, in each later store
pub record IsFirstOfBodies (p : Listing) (ds : List DeclType) (s : Store) (f : Fault) : Type 0 where
  pub decl : ℕ
  pub tree : Node
  pub is_there : IsDecl p decl tree
  pub function : sort_of tree ≡ so.Function
  pub fault : (r : Store) → IsLater s r → IsFaultOfBody (over p ds r) decl tree f
  pub before : (n : ℕ) (t : Node) → n < decl → IsDecl p n t → sort_of t ≡ so.Function → (x : TypedNode) × IsBodyOf p ds s n t x

abbrev pub IsBodyStop : Listing → List DeclType → Store → Stop Fault → Type 0
IsBodyStop p ds s Memory = Unit {0}
IsBodyStop p ds s (Refused f) = IsFirstOfBodies p ds s f

-- where all declarations have been judged it is the fault of the fourth phase
abbrev pub BodiesStop : Type 0
BodiesStop =
    (p : Listing) (s r l : Store) (g : Stage) (vs : List (ℕ × TypedNode)) (f : Fault)
    → AreJudgedTo p s g vs
    → IsGrownTo s r
    → IsFirstOfBodies p g.known r f
    → IsEnd p r l
    → IsBodyFault p l f
