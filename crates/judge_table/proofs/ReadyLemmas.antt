-- What a judge relies on, of what is tested.
use Rattle.std.proofs.Common.{◌≡◌, ℕ, zero, suc, ◌+◌, ◌<◌, Bool, true, false, List, [], ◌∷◌, length, drop, map, Some, refl, sym, ◌∙◌, arith}
use Rattle.std.specs.Prelude.{slice_get, IsSome}
use Rattle.hare_tree.specs.declared.kind.Kind.{Kind}
use Rattle.hare_tree.specs.declared.kind.Kind.TheVariants as ki
use Rattle.hare_tree.specs.Node.{nodes_of, Nodes}
use Rattle.hare_types.specs.Store.{Store}
use Rattle.hare_typed.specs.Typed.{TypedNode, marked, typed_nodes}
use Rattle.hare_typed.specs.Erased.{erase, erase_each}
use Rattle.hare_typed.specs.Numbers.{kind_of}
use Rattle.hare_typed.specs.Order.{tree_from_front}
use Rattle.hare_typed.proofs.KidLemmas.{nodes_of-map_erase}
use Rattle.hare_rules.specs.declared.judged.Yielded.{Yielded}
use Rattle.hare_rules.specs.Context.{own_type}
use Rattle.hare_rules.specs.Words.{id_in}
use Rattle.rule_judge.specs.Defined.{IsDefinedTree, AreDefinedTrees, AreDefinedYields}
use Rattle.rule_join.specs.Cases.{AreTyped}
use Rattle.rule_mem.specs.Needs.{has_place_form, has_first_form, leads_by}
use Rattle.judge_table.specs.Told.{AreYieldsDefined, AreTreesDefined, AreBehindTyped}

pub trees-defined : (s : Store) (xs : List TypedNode) → AreTreesDefined s xs → AreDefinedTrees s (typed_nodes xs)
trees-defined s [] h = tt
trees-defined s (x ∷ xs) h = (h zero x refl, trees-defined s xs (λ k y e. h (suc k) y e))

pub yields-defined : (s : Store) (ys : List Yielded) → AreYieldsDefined s ys → AreDefinedYields s ys
yields-defined s [] h = tt
yields-defined s (y ∷ ys) h = (h zero y refl, yields-defined s ys (λ k z e. h (suc k) z e))

each-typed : (xs : List TypedNode) → ((k : ℕ) → k < length xs → IsSome (id_in (own_type (tree_from_front k xs)))) → AreTyped xs
each-typed [] h = tt
each-typed (x ∷ xs) h = (h zero (omega arith), each-typed xs (λ k l. h (suc k) (omega (arith, l))))

pub behind-typed : (xs : List TypedNode) → AreBehindTyped xs → AreTyped (drop 1 xs)
behind-typed [] h = tt
behind-typed (x ∷ xs) h = each-typed xs (λ k l. h (suc k) (omega arith) (omega (arith, l)))

-- the kids of a node, with what is told of them
pub kids-erase : (xs : List TypedNode) (ts : Nodes) → nodes_of (map erase xs) ≡ ts → erase_each (typed_nodes xs) ≡ ts
kids-erase xs ts e = sym (nodes_of-map_erase xs) ∙ e

leads : (k : Kind) (b : Bool) → leads_by k b ≡ true → leads_by k true ≡ true
leads ki.Path b h = refl
leads ki.Deref b h = refl
leads ki.Index b h = refl
leads ki.Field b h = refl
leads ki.Paren b h = refl
leads _ b h = absurd cc

-- what is of no kind that may be a place is none
pub no-place : (x : TypedNode) → leads_by (kind_of x) true ≡ false → has_place_form x ≡ true → ⊥
no-place (marked h m ts) f e =
    let t : leads_by h.kind true ≡ true = leads h.kind (has_first_form ts) e in
    absurd cc
