-- What holds of the order and of the costs of every tree.
use Rattle.std.specs.Prelude.{◌≡◌, ℕ, ◌<◌, length, map, slice_get, Some, IsSome}
use Rattle.hare_types.specs.Store.{Store}
use Rattle.hare_types.specs.Sound.{IsStore}
use Rattle.hare_types.specs.Later.{IsLater}
use Rattle.hare_types.specs.ByIds.{base_at}
use Rattle.hare_typed.specs.Typed.{TypedNode, head_of, mark_of, kids_of, listed_nodes}
use Rattle.hare_typed.specs.Erased.{erase, heads}
use Rattle.hare_typed.specs.Order.{check_order}
use Rattle.hare_typed.specs.Numbers.{IsNumbered, numbered, number_of}
use Rattle.hare_typed.specs.Given.{TypesIn, given}
use Rattle.hare_typed.specs.Weight.{weight_of}
use Rattle.hare_typed.specs.Copies.{counted}
use Rattle.hare_typed.specs.Frame.{node_size}

-- ---- order

pub record OrdersAgree (t : TypedNode) : Type 0 where
  -- check order is that of the untyped tree
  pub heads_kept : map head_of (check_order t) ≡ heads (erase t)
  -- copies are counted of just the numbered nodes, in their order
  pub all_counted : map (λ x. x.tree) (counted t) ≡ numbered t
  -- in a checked declaration a node's number is how many numbered nodes stand before it
  pub number_is_place : IsNumbered t → (i : ℕ) (u : TypedNode) → slice_get (numbered t) i ≡ Some u → number_of u ≡ i

abbrev pub AllOrdersAgree : Type 0
AllOrdersAgree = (t : TypedNode) → OrdersAgree t

-- ---- stores

-- no type of the store comes to a name that is not defined
abbrev pub HasBases : Store → Type 0
HasBases s = (i : ℕ) → i < length s.rows → IsSome (base_at s i)

-- whatever a store takes in later, a node whose types it has keeps its weight
abbrev pub WeightsStay : Type 0
WeightsStay =
    (now later : Store) → IsStore now → IsLater now later → HasBases now → (t : TypedNode) → TypesIn now t →
    weight_of later t ≡ weight_of now t

-- ---- marks

-- Two trees are one but for their marks, and at the top they have the same types and coercions, and their kids give the same types.
-- Numbers, meanings and constants are not looked at, nor any mark further below.
pub record SameAbove (t u : TypedNode) : Type 0 where
  pub trees : erase t ≡ erase u
  pub types : (mark_of t).ty ≡ (mark_of u).ty
  pub coercions : (mark_of t).coerce ≡ (mark_of u).coerce
  pub kids_give : map given (listed_nodes (kids_of t)) ≡ map given (listed_nodes (kids_of u))

pub record CostsAreOfMarks : Type 0 where
  pub weights : (s : Store) (t u : TypedNode) → SameAbove t u → weight_of s t ≡ weight_of s u
  pub sizes : (s : Store) (t u : TypedNode) → SameAbove t u → node_size s t ≡ node_size s u
  -- copies rest on the untyped tree alone
  pub copies_kept : (t u : TypedNode) → erase t ≡ erase u → map (λ x. x.times) (counted t) ≡ map (λ x. x.times) (counted u)
