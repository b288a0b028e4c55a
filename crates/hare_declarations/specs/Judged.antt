-- What stands once all declarations of a program have been judged.
use Rattle.std.specs.Prelude.{◌≡◌, ℕ, true, List, length, slice_get, Some, IsSome, Contains}
use Rattle.hare_tree.specs.Node.{Node}
use Rattle.hare_types.specs.Store.{Store}
use Rattle.hare_typed.specs.Typed.{TypedNode}
use Rattle.hare_depends.specs.Sorts.{sort_of, has_value}
use Rattle.hare_whole.specs.Listing.{Listing, IsDecl}
use Rattle.hare_whole.specs.Turns.{Stage, typed_at}
use Rattle.hare_turns.specs.Ends.{AreJudgedTo}
use Rattle.hare_turns.specs.Known.{IsKnownAs}
use Rattle.hare_declarations.specs.declared.parts.Parts.{Parts}
use Rattle.hare_declarations.specs.declared.parts.Judged.{Judged}

-- of each declaration these are the types and the value that were judged
pub record AreParts (p : Listing) (g : Stage) (vs : List (ℕ × TypedNode)) (qs : List Parts) : Type 0 where
  pub count : length qs ≡ length p.decls
  pub types : (n : ℕ) (q : Parts) → slice_get qs n ≡ Some q → Contains g.typed (n, q.types)
  pub at : (n : ℕ) (q : Parts) → slice_get qs n ≡ Some q → typed_at g n ≡ q.types
  pub value : (n : ℕ) (q : Parts) (v : TypedNode) → slice_get qs n ≡ Some q → q.value ≡ Some v → Contains vs (n, v)
  pub valued : (n : ℕ) (t : Node) (q : Parts) → IsDecl p n t → slice_get qs n ≡ Some q → has_value (sort_of t) ≡ true → IsSome q.value

-- all declarations have been judged, and this is what is known and typed of them
pub record IsJudgedAs (p : Listing) (s : Store) (j : Judged) : Type 0 where
  pub stage : Stage
  pub values : List (ℕ × TypedNode)
  pub judged : AreJudgedTo p s stage values
  pub known : IsKnownAs p s stage values
  pub same : stage.known ≡ j.known
  pub parts : AreParts p stage values j.parts
