-- What the rules say over a store that lacks a type. Nothing can be asked to have that type, so that a fault is not seen there, or another
-- one is the first. That is why the first fault of a program is one over each store that goes on, and not over one store alone.
use Rattle.std.specs.Prelude.{◌≡◌, refl, pos, true, [], ◌∷◌, Some}
use Rattle.hare_tree.specs.declared.kind.Kind.TheVariants as ki
use Rattle.hare_tree.specs.Shape.{is_shaped, stops, begins_labelled}
use Rattle.hare_types.specs.declared.row.Row.TheVariants as row
use Rattle.hare_types.specs.declared.row.Scalar.TheVariants as keyword
use Rattle.hare_types.specs.Store.{Store}
use Rattle.hare_inference.specs.Inferred.{infer, infer_each}
use Rattle.worked_bodies.proofs.Store.{void}
use Rattle.worked_bodies.proofs.Trees.{rules_say, rules_say_over, Function, Types, Fault, function, form, named, number, word, absent, is, exact}

-- `void`, and `rt::nomem` defined as `!void`: this is all that is asked of a store where a program has no types
abbrev few : Store
few = record {
  names = [];
  rows = row.Scalar keyword.Void ∷ row.Error void ∷ [];
  declared = (4294967295, record { sized = true; definition = Some 1 }) ∷ [];
  listed = [];
}

-- fn() void = assert(1)
abbrev asserts : Function
asserts = function void [] 0 (form ki.Assert 1 (number 8 "1" 1 ∷ absent ∷ []))

asserted : rules_say asserts ≡ Fault 25 8
unfolding infer infer_each is_shaped stops begins_labelled
asserted = refl

-- without `bool` nothing is asked of the operand
asserted_without_bool : rules_say_over few asserts ≡ Types (exact (pos 1) ∷ is void ∷ [])
unfolding infer infer_each is_shaped stops begins_labelled
asserted_without_bool = refl

-- fn() void = { assert(1); let x: void = 1; }
abbrev asserts_and_binds : Function
asserts_and_binds = function void [] 1
    (form ki.Block 1
    (form ki.Assert 3 (number 10 "1" 1 ∷ absent ∷ []) ∷ named ki.Let 14 "x" (word 21 "void" ∷ number 28 "1" 1 ∷ []) ∷ []))

first_of_two : rules_say asserts_and_binds ≡ Fault 25 10
unfolding infer infer_each is_shaped stops begins_labelled
first_of_two = refl

-- so that the second fault is the first
first_without_bool : rules_say_over few asserts_and_binds ≡ Fault 25 28
unfolding infer infer_each is_shaped stops begins_labelled
first_without_bool = refl
