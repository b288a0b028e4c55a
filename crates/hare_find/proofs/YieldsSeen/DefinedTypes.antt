-- That no type of what has been seen mentions a name that is not defined: what stays in later stores, and what comes of what is handed on.
use Rattle.std.proofs.Common.{◌≡◌, ℕ, zero, suc, Bool, true, false, cond, List, [], ◌∷◌, ◌++◌, map, subst, Option, Some, None}
use Rattle.std.specs.Prelude.{filter, slice_set, slice_get}
use Rattle.hare_tree.specs.declared.kind.Kind.{Kind}
use Rattle.hare_types.specs.declared.coercion.Coercion.{Coercion}
use Rattle.hare_types.specs.Store.{Store}
use Rattle.hare_types.specs.Sound.{IsStore}
use Rattle.hare_types.specs.Later.{IsLater}
use Rattle.hare_typed.specs.Typed.{TypedNode, marked, typed_nodes}
use Rattle.hare_typed.specs.Copies.{has_defers as takes_yields}
use Rattle.hare_rules.specs.declared.declared.Local.{Local}
use Rattle.hare_rules.specs.Context.{Given}
use Rattle.hare_rules.specs.Flow.{Yielded, is_at, yields_to}
use Rattle.rule_judge.specs.Defined.{IsDefined, IsDefinedTree, AreDefinedTrees}
use Rattle.rule_judge.proofs.DefinedLemmas.{defined_stays, ty_stays}
use Rattle.hare_find.proofs.YieldsSeen.Told.{option_stays}
use Rattle.hare_find.specs.Defined.{AreDefinedLocals, AreDefinedYielded}
use Rattle.hare_find.specs.Findings.{IsDefinedSettling, AreDefinedSettlings}
use Rattle.hare_find.specs.Listed.{coated_one, coated_each}
use Rattle.hare_find.specs.Yields.{IsDefinedOption, AreDefinedGivens}

-- ---- later stores

module _ (now later : Store) (v : IsStore now) (l : IsLater now later) where
  pub locals_stay : (ls : List Local) → AreDefinedLocals now ls → AreDefinedLocals later ls
  locals_stay [] h = tt
  locals_stay (x ∷ ls) h = (defined_stays now later v l x.ty h.0, locals_stay ls h.1)

  pub yielded_stay : (ys : List Yielded) → AreDefinedYielded now ys → AreDefinedYielded later ys
  yielded_stay [] h = tt
  yielded_stay (y ∷ ys) h = (option_stays now later v l y.given.ty h.0, yielded_stay ys h.1)

  pub settling_stays : (o : Option Coercion) → IsDefinedSettling now o → IsDefinedSettling later o
  settling_stays None h = tt
  settling_stays (Some r) h = ty_stays now later v l r.to h

  pub settlings_stay : (os : List (Option Coercion)) → AreDefinedSettlings now os → AreDefinedSettlings later os
  settlings_stay [] h = tt
  settlings_stay (o ∷ os) h = (settling_stays o h.0, settlings_stay os h.1)

-- ---- locals

-- one local instead of another
pub locals_set : (s : Store) (ls : List Local) (n : ℕ) (x : Local) → IsDefined s x.ty → AreDefinedLocals s ls →
    AreDefinedLocals s (slice_set ls n x)
locals_set s [] zero x h k = k
locals_set s [] (suc n) x h k = k
locals_set s (p ∷ ls) zero x h k = (h, k.1)
locals_set s (p ∷ ls) (suc n) x h k = (k.0, locals_set s ls n x h k.1)

-- one of the locals
pub local_defined : (s : Store) (ls : List Local) (n : ℕ) (x : Local) → slice_get ls n ≡ Some x → AreDefinedLocals s ls → IsDefined s x.ty
local_defined s [] zero x e k = cc
local_defined s [] (suc n) x e k = cc
local_defined s (p ∷ ls) zero x e k = let same : p ≡ x = cc in subst (λ (q : Local). IsDefined s q.ty) same k.0
local_defined s (p ∷ ls) (suc n) x e k = local_defined s ls n x e k.1

-- ---- values that were yielded

yielded_kept : (s : Store) (b : Bool) (y : Yielded) (ys : List Yielded) → IsDefinedOption s y.given.ty → AreDefinedYielded s ys →
    AreDefinedYielded s (cond b (y ∷ ys) ys)
yielded_kept s true y ys h k = (h, k)
yielded_kept s false y ys h k = k

-- some of the values
pub yielded_filter : (s : Store) (p : Yielded → Bool) (ys : List Yielded) → AreDefinedYielded s ys → AreDefinedYielded s (filter p ys)
yielded_filter s p [] h = tt
yielded_filter s p (y ∷ ys) h = yielded_kept s (p y) y (filter p ys) h.0 (yielded_filter s p ys h.1)

-- one value more
pub yielded_append : (s : Store) (ys : List Yielded) (y : Yielded) → AreDefinedYielded s ys → IsDefinedOption s y.given.ty →
    AreDefinedYielded s (ys ++ y ∷ [])
yielded_append s [] y h k = (k, tt)
yielded_append s (z ∷ ys) y h k = (h.0, yielded_append s ys y h.1 k)

givens_of : (s : Store) (ys : List Yielded) → AreDefinedYielded s ys → AreDefinedGivens s (map (λ y. y.given) ys)
givens_of s [] h = tt
givens_of s (y ∷ ys) h = (h.0, givens_of s ys h.1)

givens_where : (s : Store) (b : Bool) (gs : List Given) → AreDefinedGivens s gs → AreDefinedGivens s (cond b gs [])
givens_where s true gs h = h
givens_where s false gs h = tt

-- what was yielded to a node
pub givens_defined : (s : Store) (k : Kind) (n : ℕ) (ys : List Yielded) → AreDefinedYielded s ys → AreDefinedGivens s (yields_to k n ys)
givens_defined s k n ys h =
    givens_where s (takes_yields k) (map (λ y. y.given) (filter (is_at n) ys))
    (givens_of s (filter (is_at n) ys) (yielded_filter s (is_at n) ys h))

-- ---- kids that are settled

one_coated : (s : Store) (x : TypedNode) (o : Option Coercion) → IsDefinedTree s x → IsDefinedSettling s o →
    IsDefinedTree s (coated_one x o)
one_coated s x None h k = h
one_coated s (marked g m ts) (Some r) h k = (h.0, k, h.2)

-- the kids with the coercions that are settled of them
pub coated_defined : (s : Store) (xs : List TypedNode) (os : List (Option Coercion)) → AreDefinedTrees s (typed_nodes xs) →
    AreDefinedSettlings s os →
    AreDefinedTrees s (typed_nodes (coated_each xs os))
coated_defined s [] os h k = tt
coated_defined s (x ∷ xs) [] h k = h
coated_defined s (x ∷ xs) (o ∷ os) h k = (one_coated s x o h.0 k.0, coated_defined s xs os h.1 k.1)
