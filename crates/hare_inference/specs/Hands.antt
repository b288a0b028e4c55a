-- Trees that have been judged, while others are: what is settled of them stays.
use Rattle.std.specs.Prelude.{◌≡◌, ℕ, ◌<◌, List, length, slice_index_or}
use Rattle.hare_types.specs.declared.coercion.Coercion.{Coercion}
use Rattle.hare_typed.specs.Typed.{TypedNode, TypedNodes, marked, typed_none, typed_more}
use Rattle.hare_typed.specs.Coats.{coat}
use Rattle.hare_rules.specs.Context.{Setting}
use Rattle.hare_rules.specs.Above.{Above}
use Rattle.hare_rules.specs.Flow.{Flow, count}
use Rattle.hare_rules.specs.Finished.{behind, AllCarry}

-- the number of each node of the tree is below this one
abbrev mutual
  pub IsBelow : ℕ → TypedNode → Type 0
  IsBelow n (marked h m ts) = (m.node < n) × AreBelow n ts

  pub AreBelow : ℕ → TypedNodes → Type 0
  AreBelow n typed_none = Unit {0}
  AreBelow n (typed_more t ts) = IsBelow n t × AreBelow n ts

-- While a tree is judged, no coercion is settled of a node before it, so that an earlier tree under the coat of what is settled is the same
-- behind it. The numbers of a tree are below the number of nodes that have been judged behind it; and of two coats the upper one alone
-- shows, where it has a coercion for each node.
pub record EarlierStay (w : Setting) (a : Above) (f : Flow) : Type 0 where
  pub settled : (t : TypedNode) (i : ℕ) (d : Coercion) → AllCarry w a t f → i < count f →
      slice_index_or (behind w a t f).coercions i d ≡ slice_index_or f.coercions i d
  pub coats : (t u : TypedNode) → AllCarry w a t f → IsBelow (count f) u → coat (behind w a t f).coercions u ≡ coat f.coercions u
  pub below : (t : TypedNode) → AllCarry w a t f → IsBelow (count (behind w a t f)) t
  pub upper : (cs ds : List Coercion) (t : TypedNode) → IsBelow (length ds) t → coat ds (coat cs t) ≡ coat ds t

abbrev pub JudgedTreesStay : Type 0
JudgedTreesStay = (w : Setting) (a : Above) (f : Flow) → EarlierStay w a f
