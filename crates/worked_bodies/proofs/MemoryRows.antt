-- Calls, members, aggregates and the heap in small bodies. The nodes of a well-typed body stand in check order, without
-- parts that are left out; of a fault the number is given, and the column, counted from the body's first character.
use Rattle.std.specs.Prelude.{◌≡◌, refl, pos, [], ◌∷◌}
use Rattle.hare_tree.specs.declared.kind.Kind.TheVariants as ki
use Rattle.hare_tree.specs.Shape.{is_shaped, stops, begins_labelled}
use Rattle.hare_inference.specs.Inferred.{infer, infer_each}
use Rattle.worked_bodies.proofs.Store.{void, str, int, u64, size, pointer, ints, three, fallible, tuple, pair, new_int, done}
use Rattle.worked_bodies.proofs.Trees.{rules_say, Types, Fault, function, form, named, unary, binary, component, number, local, declared, type_named, absent, is, goes, number_to}

-- ---- calls and members

-- fn() int = f(1)
call : rules_say (function int [] 0
    (form ki.Call 2 (declared 1 "f" 1 ∷ number 3 "1" 1 ∷ absent ∷ [])))
    ≡ Types (is void ∷ number_to (pos 1) int ∷ is int ∷ [])
unfolding infer infer_each is_shaped stops begins_labelled
call = refl

-- fn() int = f(1,)
call_with_a_comma_behind : rules_say (function int [] 0
    (form ki.Call 2 (declared 1 "f" 1 ∷ number 3 "1" 1 ∷ form ki.TrailingComma 4 [] ∷ [])))
    ≡ Types (is void ∷ number_to (pos 1) int ∷ is void ∷ is int ∷ [])
unfolding infer infer_each is_shaped stops begins_labelled
call_with_a_comma_behind = refl

-- fn() int = f()
call_without_its_argument : rules_say (function int [] 0 (form ki.Call 2 (declared 1 "f" 1 ∷ absent ∷ []))) ≡ Fault 30 2
unfolding infer infer_each is_shaped stops begins_labelled
call_without_its_argument = refl

-- fn(n: int) int = n(1)
call_of_a_binding : rules_say (function int (int ∷ []) 0 (form ki.Call 2 (local 1 "n" 0 ∷ number 3 "1" 1 ∷ absent ∷ []))) ≡ Fault 31 2
unfolding infer infer_each is_shaped stops begins_labelled
call_of_a_binding = refl

-- fn(s: []int) int = s[0]
element : rules_say (function int (ints ∷ []) 0
    (binary ki.Index 2 (local 1 "s" 0) (number 3 "0" 0)))
    ≡ Types (is ints ∷ number_to (pos 0) size ∷ is int ∷ [])
unfolding infer infer_each is_shaped stops begins_labelled
element = refl

-- fn(s: []int, i: u64) int = s[i]
index_of_u64 : rules_say (function int (ints ∷ u64 ∷ []) 0 (binary ki.Index 2 (local 1 "s" 0) (local 3 "i" 1))) ≡ Fault 25 3
unfolding infer infer_each is_shaped stops begins_labelled
index_of_u64 = refl

-- fn(s: [3]int) []int = s[..]
slice_of_array : rules_say (function ints (three ∷ []) 0
    (form ki.Slice 2 (local 1 "s" 0 ∷ absent ∷ absent ∷ [])))
    ≡ Types (is three ∷ is ints ∷ [])
unfolding infer infer_each is_shaped stops begins_labelled
slice_of_array = refl

-- fn(n: int) []int = n[..]
slice_of_int : rules_say (function ints (int ∷ []) 0 (form ki.Slice 2 (local 1 "n" 0 ∷ absent ∷ absent ∷ []))) ≡ Fault 33 2
unfolding infer infer_each is_shaped stops begins_labelled
slice_of_int = refl

-- fn(t: (int, str)) str = t.1
second_component : rules_say (function str (tuple ∷ []) 0 (component 2 "1" 1 (local 1 "t" 0))) ≡ Types (is tuple ∷ is str ∷ [])
unfolding infer infer_each is_shaped stops begins_labelled
second_component = refl

-- fn(t: (int, str)) str = t.2
component_past_the_last : rules_say (function str (tuple ∷ []) 0 (component 2 "2" 2 (local 1 "t" 0))) ≡ Fault 32 2
unfolding infer infer_each is_shaped stops begins_labelled
component_past_the_last = refl

-- fn(s: pair) int = s.x
field : rules_say (function int (pair ∷ []) 0 (named ki.Field 2 "x" (local 1 "s" 0 ∷ []))) ≡ Types (is pair ∷ is int ∷ [])
unfolding infer infer_each is_shaped stops begins_labelled
field = refl

-- fn(n: int) int = n.x
field_of_int : rules_say (function int (int ∷ []) 0 (named ki.Field 2 "x" (local 1 "n" 0 ∷ []))) ≡ Fault 32 2
unfolding infer infer_each is_shaped stops begins_labelled
field_of_int = refl

-- ---- errors

-- fn(x: (int | rt::nomem)) (int | rt::nomem) = x?
rest_of_errors : rules_say (function fallible (fallible ∷ []) 0
    (unary ki.Try 2 (local 1 "x" 0)))
    ≡ Types (is fallible ∷ goes int 9 fallible ∷ [])
unfolding infer infer_each is_shaped stops begins_labelled
rest_of_errors = refl

-- fn(x: (int | rt::nomem)) int = x?
error_that_does_not_fit_the_result : rules_say (function int (fallible ∷ []) 0 (unary ki.Try 2 (local 1 "x" 0))) ≡ Fault 43 2
unfolding infer infer_each is_shaped stops begins_labelled
error_that_does_not_fit_the_result = refl

-- fn(x: (int | rt::nomem)) int = x!
forced : rules_say (function int (fallible ∷ []) 0 (unary ki.Force 2 (local 1 "x" 0))) ≡ Types (is fallible ∷ is int ∷ [])
unfolding infer infer_each is_shaped stops begins_labelled
forced = refl

-- fn(n: int) int = n!
forced_without_errors : rules_say (function int (int ∷ []) 0 (unary ki.Force 2 (local 1 "n" 0))) ≡ Fault 42 2
unfolding infer infer_each is_shaped stops begins_labelled
forced_without_errors = refl

-- ---- aggregates

-- fn() pair = pair { x = 1, y = "a" }
struct_literal : rules_say (function pair [] 0
    (form ki.StructLit 1 (type_named 1 "pair" 7 ∷ named ki.FieldValue 8 "x" (number 12 "1" 1 ∷ []) ∷ named ki.FieldValue 15 "y" (named
    ki.Str 19 "a" [] ∷ []) ∷ absent ∷ [])))
    ≡ Types (is pair ∷ number_to (pos 1) int ∷ is void ∷ is str ∷ is void ∷ is pair ∷ [])
unfolding infer infer_each is_shaped stops begins_labelled
struct_literal = refl

-- fn() pair = pair { x = 1 }
struct_literal_without_a_field : rules_say (function pair [] 0
    (form ki.StructLit 1 (type_named 1 "pair" 7 ∷ named ki.FieldValue 8 "x" (number 12 "1" 1 ∷ []) ∷ absent ∷ [])))
    ≡ Fault 34 1
unfolding infer infer_each is_shaped stops begins_labelled
struct_literal_without_a_field = refl

-- fn() (int, str) = (1, "a")
pair_of_values : rules_say (function tuple [] 0
    (form ki.Tuple 1 (number 2 "1" 1 ∷ named ki.Str 5 "a" [] ∷ absent ∷ [])))
    ≡ Types (number_to (pos 1) int ∷ is str ∷ is tuple ∷ [])
unfolding infer infer_each is_shaped stops begins_labelled
pair_of_values = refl

-- fn() (int, str) = (1, 2)
component_of_another_type : rules_say (function tuple [] 0 (form ki.Tuple 1 (number 2 "1" 1 ∷ number 5 "2" 2 ∷ absent ∷ []))) ≡ Fault 25 5
unfolding infer infer_each is_shaped stops begins_labelled
component_of_another_type = refl

-- fn() [3]int = [1, 2, 3]
array : rules_say (function three [] 0
    (form ki.Array 1 (number 2 "1" 1 ∷ number 5 "2" 2 ∷ number 8 "3" 3 ∷ absent ∷ absent ∷ [])))
    ≡ Types (number_to (pos 1) int ∷ number_to (pos 2) int ∷ number_to (pos 3) int ∷ is three ∷ [])
unfolding infer infer_each is_shaped stops begins_labelled
array = refl

-- fn() [3]int = [1, true, 3]
item_of_another_type : rules_say (function three [] 0
    (form ki.Array 1 (number 2 "1" 1 ∷ named ki.Bool 5 "true" [] ∷ number 11 "3" 3 ∷ absent ∷ absent ∷ [])))
    ≡ Fault 25 5
unfolding infer infer_each is_shaped stops begins_labelled
item_of_another_type = refl

-- ---- the heap

-- fn() (*int | rt::nomem) = alloc(1)
allocation : rules_say (function new_int [] 0
    (form ki.Alloc 1 (number 7 "1" 1 ∷ absent ∷ [])))
    ≡ Types (number_to (pos 1) int ∷ is new_int ∷ [])
unfolding infer infer_each is_shaped stops begins_labelled
allocation = refl

-- fn() void = alloc(5, 3)
capacity_of_int : rules_say (function void [] 0 (form ki.Alloc 1 (number 7 "5" 5 ∷ number 10 "3" 3 ∷ []))) ≡ Fault 33 1
unfolding infer infer_each is_shaped stops begins_labelled
capacity_of_int = refl

-- fn(s: []int) (void | rt::nomem) = append(s, 1)
appended : rules_say (function done (ints ∷ []) 0
    (form ki.Append 1 (local 8 "s" 0 ∷ number 11 "1" 1 ∷ absent ∷ [])))
    ≡ Types (is ints ∷ number_to (pos 1) int ∷ is done ∷ [])
unfolding infer infer_each is_shaped stops begins_labelled
appended = refl

-- fn(s: []int) (void | rt::nomem) = append(s, s...)
appended_slice : rules_say (function done (ints ∷ []) 0
    (form ki.Append 1 (local 8 "s" 0 ∷ local 11 "s" 0 ∷ form ki.Dots 12 [] ∷ [])))
    ≡ Types (is ints ∷ is ints ∷ is void ∷ is done ∷ [])
unfolding infer infer_each is_shaped stops begins_labelled
appended_slice = refl

-- fn(n: int) (void | rt::nomem) = append(n, 1)
appended_to_int : rules_say (function done (int ∷ []) 0 (form ki.Append 1 (local 8 "n" 0 ∷ number 11 "1" 1 ∷ absent ∷ []))) ≡ Fault 33 1
unfolding infer infer_each is_shaped stops begins_labelled
appended_to_int = refl

-- fn(p: *int) void = free(p)
freed : rules_say (function void (pointer ∷ []) 0 (unary ki.Free 1 (local 6 "p" 0))) ≡ Types (is pointer ∷ is void ∷ [])
unfolding infer infer_each is_shaped stops begins_labelled
freed = refl

-- fn() void = free("a")
freed_str : rules_say (function void [] 0 (unary ki.Free 1 (named ki.Str 6 "a" []))) ≡ Fault 27 1
unfolding infer infer_each is_shaped stops begins_labelled
freed_str = refl

-- fn(s: []int) void = delete(s[0])
deleted : rules_say (function void (ints ∷ []) 0
    (unary ki.Delete 1 (binary ki.Index 9 (local 8 "s" 0) (number 10 "0" 0))))
    ≡ Types (is ints ∷ number_to (pos 0) size ∷ is int ∷ is void ∷ [])
unfolding infer infer_each is_shaped stops begins_labelled
deleted = refl

-- fn(n: int) void = delete(n)
deleted_binding : rules_say (function void (int ∷ []) 0 (unary ki.Delete 1 (local 8 "n" 0))) ≡ Fault 28 1
unfolding infer infer_each is_shaped stops begins_labelled
deleted_binding = refl

-- fn(s: []int) size = len(s)
length : rules_say (function size (ints ∷ []) 0 (unary ki.Len 1 (local 5 "s" 0))) ≡ Types (is ints ∷ is size ∷ [])
unfolding infer infer_each is_shaped stops begins_labelled
length = refl

-- fn() size = len(5)
length_of_number : rules_say (function size [] 0 (unary ki.Len 1 (number 5 "5" 5))) ≡ Fault 33 1
unfolding infer infer_each is_shaped stops begins_labelled
length_of_number = refl

-- fn(t: (int, str)) size = offset(t.1)
offset : rules_say (function size (tuple ∷ []) 0
    (unary ki.Offset 1 (component 9 "1" 1 (local 8 "t" 0))))
    ≡ Types (is tuple ∷ is str ∷ is size ∷ [])
unfolding infer infer_each is_shaped stops begins_labelled
offset = refl

-- fn(t: (int, str)) size = offset(t)
offset_of_no_member : rules_say (function size (tuple ∷ []) 0 (unary ki.Offset 1 (local 8 "t" 0))) ≡ Fault 32 1
unfolding infer infer_each is_shaped stops begins_labelled
offset_of_no_member = refl
