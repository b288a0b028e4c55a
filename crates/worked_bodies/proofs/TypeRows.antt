-- Written types in small bodies. The nodes of a well-typed body stand in check order, without
-- parts that are left out; of a fault the number is given, and the column, counted from the body's first character.
use Rattle.std.specs.Prelude.{◌≡◌, refl, pos, [], ◌∷◌}
use Rattle.hare_tree.specs.declared.kind.Kind.TheVariants as ki
use Rattle.hare_tree.specs.Shape.{is_shaped, stops, begins_labelled}
use Rattle.hare_inference.specs.Inferred.{infer, infer_each}
use Rattle.worked_bodies.proofs.Store.{void, str, int, size, pointer, nullable, ints, three, either, tuple, struct, pair, error_int, choice}
use Rattle.worked_bodies.proofs.Trees.{rules_say, Types, Fault, function, form, named, unary, binary, number, local, type_named, word, absent, is, exact}

-- fn() size = size(pair)
named_type : rules_say (function size [] 0 (unary ki.Size 1 (type_named 6 "pair" 7))) ≡ Types (is pair ∷ is size ∷ [])
unfolding infer infer_each is_shaped stops begins_labelled
named_type = refl

-- fn() void = { let x: hidden = abort(); }
named_type_without_size : rules_say (function void [] 1
    (form ki.Block 1 (named ki.Let 3 "x" (type_named 10 "hidden" 8 ∷ form ki.Abort 19 (absent ∷ []) ∷ []) ∷ [])))
    ≡ Fault 17 10
unfolding infer infer_each is_shaped stops begins_labelled
named_type_without_size = refl

-- fn() void = { let x: opaque = abort(); }
word_without_size : rules_say (function void [] 1
    (form ki.Block 1 (named ki.Let 3 "x" (word 10 "opaque" ∷ form ki.Abort 19 (absent ∷ []) ∷ []) ∷ [])))
    ≡ Fault 17 10
unfolding infer infer_each is_shaped stops begins_labelled
word_without_size = refl

-- fn() size = size(*int)
pointer_type : rules_say (function size [] 0
    (unary ki.Size 1 (unary ki.TypePointer 6 (word 7 "int"))))
    ≡ Types (is int ∷ is pointer ∷ is size ∷ [])
unfolding infer infer_each is_shaped stops begins_labelled
pointer_type = refl

-- fn() void = { let p: *int = null; }
null_for_a_written_pointer : rules_say (function void [] 1
    (form ki.Block 1 (named ki.Let 3 "p" (unary ki.TypePointer 10 (word 11 "int") ∷ form ki.Null 17 [] ∷ []) ∷ [])))
    ≡ Fault 25 17
unfolding infer infer_each is_shaped stops begins_labelled
null_for_a_written_pointer = refl

-- fn() size = size(nullable *int)
nullable_type : rules_say (function size [] 0
    (unary ki.Size 1 (unary ki.TypeNullable 6 (word 16 "int"))))
    ≡ Types (is int ∷ is nullable ∷ is size ∷ [])
unfolding infer infer_each is_shaped stops begins_labelled
nullable_type = refl

-- fn() void = { let p: nullable *int = 5; }
number_for_a_written_nullable : rules_say (function void [] 1
    (form ki.Block 1 (named ki.Let 3 "p" (unary ki.TypeNullable 10 (word 20 "int") ∷ number 26 "5" 5 ∷ []) ∷ [])))
    ≡ Fault 25 26
unfolding infer infer_each is_shaped stops begins_labelled
number_for_a_written_nullable = refl

-- fn() size = size([]int)
slice_type : rules_say (function size [] 0 (unary ki.Size 1 (unary ki.TypeSlice 6 (word 8 "int")))) ≡ Types
    (is int ∷ is ints ∷ is size ∷ [])
unfolding infer infer_each is_shaped stops begins_labelled
slice_type = refl

-- fn() size = size([]opaque)
slice_of_opaque : rules_say (function size [] 0 (unary ki.Size 1 (unary ki.TypeSlice 6 (word 8 "opaque")))) ≡ Fault 17 6
unfolding infer infer_each is_shaped stops begins_labelled
slice_of_opaque = refl

-- fn() size = size(!int)
error_type : rules_say (function size [] 0
    (unary ki.Size 1 (unary ki.TypeError 6 (word 7 "int"))))
    ≡ Types (is int ∷ is error_int ∷ is size ∷ [])
unfolding infer infer_each is_shaped stops begins_labelled
error_type = refl

-- fn() void = { let x: !opaque = abort(); }
error_type_without_size : rules_say (function void [] 1
    (form ki.Block 1 (named ki.Let 3 "x" (unary ki.TypeError 10 (word 11 "opaque") ∷ form ki.Abort 20 (absent ∷ []) ∷ []) ∷ [])))
    ≡ Fault 17 10
unfolding infer infer_each is_shaped stops begins_labelled
error_type_without_size = refl

-- fn() size = size([3]int)
array_type : rules_say (function size [] 0
    (unary ki.Size 1 (binary ki.TypeArray 6 (number 7 "3" 3) (word 9 "int"))))
    ≡ Types (exact (pos 3) ∷ is int ∷ is three ∷ is size ∷ [])
unfolding infer infer_each is_shaped stops begins_labelled
array_type = refl

-- fn(n: int) size = size([n]int)
length_that_is_a_parameter : rules_say (function size (int ∷ []) 0
    (unary ki.Size 1 (binary ki.TypeArray 6 (local 7 "n" 0) (word 9 "int"))))
    ≡ Fault 24 7
unfolding infer infer_each is_shaped stops begins_labelled
length_that_is_a_parameter = refl

-- fn() size = size(struct { x: int, y: str })
struct_type : rules_say (function size [] 0
    (unary ki.Size 1 (form ki.TypeStruct 6 (named ki.StructField 15 "x" (word 18 "int" ∷ []) ∷ named ki.StructField 23 "y" (word 26 "str" ∷
    []) ∷ absent ∷ []))))
    ≡ Types (is int ∷ is void ∷ is str ∷ is void ∷ is struct ∷ is size ∷ [])
unfolding infer infer_each is_shaped stops begins_labelled
struct_type = refl

-- fn() size = size(struct { x: opaque })
field_without_size : rules_say (function size [] 0
    (unary ki.Size 1 (form ki.TypeStruct 6 (named ki.StructField 15 "x" (word 18 "opaque" ∷ []) ∷ absent ∷ []))))
    ≡ Fault 17 6
unfolding infer infer_each is_shaped stops begins_labelled
field_without_size = refl

-- fn() size = size((int, str))
tuple_type : rules_say (function size [] 0
    (unary ki.Size 1 (form ki.TypeTuple 6 (word 7 "int" ∷ word 12 "str" ∷ absent ∷ []))))
    ≡ Types (is int ∷ is str ∷ is tuple ∷ is size ∷ [])
unfolding infer infer_each is_shaped stops begins_labelled
tuple_type = refl

-- fn() size = size((int, opaque))
component_without_size : rules_say (function size [] 0
    (unary ki.Size 1 (form ki.TypeTuple 6 (word 7 "int" ∷ word 12 "opaque" ∷ absent ∷ []))))
    ≡ Fault 17 6
unfolding infer infer_each is_shaped stops begins_labelled
component_without_size = refl

-- fn() size = size((int | str))
union_type : rules_say (function size [] 0
    (unary ki.Size 1 (binary ki.TypeUnion 6 (word 7 "int") (word 13 "str"))))
    ≡ Types (is int ∷ is str ∷ is either ∷ is size ∷ [])
unfolding infer infer_each is_shaped stops begins_labelled
union_type = refl

-- fn() size = size((never | never))
union_of_no_member : rules_say (function size [] 0 (unary ki.Size 1 (binary ki.TypeUnion 6 (word 7 "never") (word 15 "never")))) ≡ Fault 19
    6
unfolding infer infer_each is_shaped stops begins_labelled
union_of_no_member = refl

-- fn() size = size((...choice | int))
spread_of_a_union : rules_say (function size [] 0
    (unary ki.Size 1 (binary ki.TypeUnion 6 (unary ki.Spread 7 (type_named 10 "choice" 9)) (word 19 "int"))))
    ≡ Types (is choice ∷ is void ∷ is int ∷ is either ∷ is size ∷ [])
unfolding infer infer_each is_shaped stops begins_labelled
spread_of_a_union = refl

-- fn() size = size((int | ...pair))
spread_of_a_struct : rules_say (function size [] 0
    (unary ki.Size 1 (binary ki.TypeUnion 6 (word 7 "int") (unary ki.Spread 13 (type_named 16 "pair" 7)))))
    ≡ Fault 35 13
unfolding infer infer_each is_shaped stops begins_labelled
spread_of_a_struct = refl
