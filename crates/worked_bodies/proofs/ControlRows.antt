-- Statements and control in small bodies. The nodes of a well-typed body stand in check order, without
-- parts that are left out; of a fault the number is given, and the column, counted from the body's first character.
use Rattle.std.specs.Prelude.{◌≡◌, refl, pos, [], ◌∷◌}
use Rattle.hare_tree.specs.declared.kind.Kind.TheVariants as ki
use Rattle.hare_tree.specs.Shape.{is_shaped, stops, begins_labelled}
use Rattle.hare_inference.specs.Inferred.{infer, infer_each}
use Rattle.worked_bodies.proofs.Store.{void, never, bool, str, int, u8, pointer, nullable, ints, either}
use Rattle.worked_bodies.proofs.Trees.{rules_say, Types, Fault, function, form, named, unary, binary, number, local, word, absent, is, goes, number_to}

-- ---- bindings and statements

-- fn() void = { let x: u8 = 5; }
binding : rules_say (function void [] 1
    (form ki.Block 1 (named ki.Let 3 "x" (word 10 "u8" ∷ number 15 "5" 5 ∷ []) ∷ [])))
    ≡ Types (is u8 ∷ number_to (pos 5) u8 ∷ is void ∷ is void ∷ [])
unfolding infer infer_each is_shaped stops begins_labelled
binding = refl

-- fn() void = { let x: str = 5; }
binding_of_another_type : rules_say (function void [] 1
    (form ki.Block 1 (named ki.Let 3 "x" (word 10 "str" ∷ number 16 "5" 5 ∷ []) ∷ [])))
    ≡ Fault 25 16
unfolding infer infer_each is_shaped stops begins_labelled
binding_of_another_type = refl

-- fn() void = { const c = 5; }
constant_binding : rules_say (function void [] 1
    (form ki.Block 1 (named ki.Const 3 "c" (absent ∷ number 13 "5" 5 ∷ []) ∷ [])))
    ≡ Types (number_to (pos 5) int ∷ is void ∷ is void ∷ [])
unfolding infer infer_each is_shaped stops begins_labelled
constant_binding = refl

-- fn() void = { const c = abort(); }
constant_binding_of_never : rules_say (function void [] 1
    (form ki.Block 1 (named ki.Const 3 "c" (absent ∷ form ki.Abort 13 (absent ∷ []) ∷ []) ∷ [])))
    ≡ Fault 17 3
unfolding infer infer_each is_shaped stops begins_labelled
constant_binding_of_never = refl

-- fn() void = { const c = 5; c = 6; }
assignment_to_constant_binding : rules_say (function void [] 1
    (form ki.Block 1 (named ki.Const 3 "c" (absent ∷ number 13 "5" 5 ∷ []) ∷ binary ki.Assign 18 (local 16 "c" 0) (number 20 "6" 6) ∷ [])))
    ≡ Fault 29 18
unfolding infer infer_each is_shaped stops begins_labelled
assignment_to_constant_binding = refl

-- fn(n: int) void = { defer n = 1; }
deferred_assignment : rules_say (function void (int ∷ []) 0
    (form ki.Block 1 (unary ki.Defer 3 (binary ki.Assign 11 (local 9 "n" 0) (number 13 "1" 1)) ∷ [])))
    ≡ Types (is int ∷ number_to (pos 1) int ∷ is void ∷ is void ∷ is void ∷ [])
unfolding infer infer_each is_shaped stops begins_labelled
deferred_assignment = refl

-- fn() void = { defer return; }
deferred_return : rules_say (function void [] 0 (form ki.Block 1 (unary ki.Defer 3 (form ki.Return 9 (absent ∷ [])) ∷ []))) ≡ Fault 41 9
unfolding infer infer_each is_shaped stops begins_labelled
deferred_return = refl

-- fn() int = abort("a")
abort : rules_say (function int [] 0 (form ki.Abort 1 (named ki.Message 7 "a" [] ∷ []))) ≡ Types (is void ∷ goes never 2 int ∷ [])
unfolding infer infer_each is_shaped stops begins_labelled
abort = refl

-- fn() void = { let x = abort(); }
binding_of_never : rules_say (function void [] 1
    (form ki.Block 1 (named ki.Let 3 "x" (absent ∷ form ki.Abort 11 (absent ∷ []) ∷ []) ∷ [])))
    ≡ Fault 17 3
unfolding infer infer_each is_shaped stops begins_labelled
binding_of_never = refl

-- fn(a: bool) void = assert(a, "b")
assertion : rules_say (function void (bool ∷ []) 0
    (form ki.Assert 1 (local 8 "a" 0 ∷ named ki.Message 11 "b" [] ∷ [])))
    ≡ Types (is bool ∷ is void ∷ is void ∷ [])
unfolding infer infer_each is_shaped stops begins_labelled
assertion = refl

-- fn() void = assert(1)
assertion_of_number : rules_say (function void [] 0 (form ki.Assert 1 (number 8 "1" 1 ∷ absent ∷ []))) ≡ Fault 25 8
unfolding infer infer_each is_shaped stops begins_labelled
assertion_of_number = refl

-- fn() void = { }
empty_block : rules_say (function void [] 0 (form ki.Block 1 [])) ≡ Types (is void ∷ [])
unfolding infer infer_each is_shaped stops begins_labelled
empty_block = refl

-- fn() int = { }
end_that_is_reached : rules_say (function int [] 0 (form ki.Block 1 [])) ≡ Fault 45 1
unfolding infer infer_each is_shaped stops begins_labelled
end_that_is_reached = refl

-- ---- branches, loops and jumps

-- fn(c: bool) int = if (c) 1 else 2
branches : rules_say (function int (bool ∷ []) 0
    (form ki.If 1 (local 5 "c" 0 ∷ number 8 "1" 1 ∷ number 15 "2" 2 ∷ [])))
    ≡ Types (is bool ∷ number_to (pos 1) int ∷ number_to (pos 2) int ∷ is int ∷ [])
unfolding infer infer_each is_shaped stops begins_labelled
branches = refl

-- fn() void = if (1) void
condition_of_int : rules_say (function void [] 0 (form ki.If 1 (number 5 "1" 1 ∷ form ki.Void 8 [] ∷ absent ∷ []))) ≡ Fault 25 5
unfolding infer infer_each is_shaped stops begins_labelled
condition_of_int = refl

-- fn(c: bool) void = for (c) break
loop : rules_say (function void (bool ∷ []) 0
    (form ki.For 1 (absent ∷ local 6 "c" 0 ∷ absent ∷ named ki.Break 9 "" [] ∷ [])))
    ≡ Types (is bool ∷ is never ∷ is void ∷ [])
unfolding infer infer_each is_shaped stops begins_labelled
loop = refl

-- fn() void = for (1) void
loop_on_number : rules_say (function void [] 0 (form ki.For 1 (absent ∷ number 6 "1" 1 ∷ absent ∷ form ki.Void 9 [] ∷ []))) ≡ Fault 25 6
unfolding infer infer_each is_shaped stops begins_labelled
loop_on_number = refl

-- fn(s: []int) void = for (let x .. s) void
loop_over_elements : rules_say (function void (ints ∷ []) 1
    (form ki.ForEach 1 (named ki.Binding 6 "x" (absent ∷ []) ∷ local 15 "s" 0 ∷ form ki.Void 18 [] ∷ [])))
    ≡ Types (is void ∷ is ints ∷ is void ∷ is void ∷ [])
unfolding infer infer_each is_shaped stops begins_labelled
loop_over_elements = refl

-- fn(s: []int) void = for (let x & .. s) *x = 1
loop_over_pointers : rules_say (function void (ints ∷ []) 1
    (form ki.ForEach 1 (named ki.Binding 6 "x" (form ki.ByRef 12 [] ∷ []) ∷ local 17 "s" 0 ∷ binary ki.Assign 23 (unary ki.Deref 20 (local
    21 "x" 1)) (number 25 "1" 1) ∷ [])))
    ≡ Types (is void ∷ is void ∷ is ints ∷ is pointer ∷ is int ∷ number_to (pos 1) int ∷ is void ∷ is void ∷ [])
unfolding infer infer_each is_shaped stops begins_labelled
loop_over_pointers = refl

-- fn(n: int) void = for (let x .. n) void
loop_over_int : rules_say (function void (int ∷ []) 1
    (form ki.ForEach 1 (named ki.Binding 6 "x" (absent ∷ []) ∷ local 15 "n" 0 ∷ form ki.Void 18 [] ∷ [])))
    ≡ Fault 33 1
unfolding infer infer_each is_shaped stops begins_labelled
loop_over_int = refl

-- fn() void = break
break_outside_of_loops : rules_say (function void [] 0 (named ki.Break 1 "" [])) ≡ Fault 40 1
unfolding infer infer_each is_shaped stops begins_labelled
break_outside_of_loops = refl

-- fn(c: bool) void = for (c) continue
continued : rules_say (function void (bool ∷ []) 0
    (form ki.For 1 (absent ∷ local 6 "c" 0 ∷ absent ∷ named ki.Continue 9 "" [] ∷ [])))
    ≡ Types (is bool ∷ is never ∷ is void ∷ [])
unfolding infer infer_each is_shaped stops begins_labelled
continued = refl

-- fn(c: bool) void = for (c) { defer continue; }
continue_out_of_a_defer : rules_say (function void (bool ∷ []) 0
    (form ki.For 1 (absent ∷ local 6 "c" 0 ∷ absent ∷ form ki.Block 9 (unary ki.Defer 11 (named ki.Continue 17 "" []) ∷ []) ∷ [])))
    ≡ Fault 41 17
unfolding infer infer_each is_shaped stops begins_labelled
continue_out_of_a_defer = refl

-- fn() int = return 5
returned : rules_say (function int [] 0 (form ki.Return 1 (number 8 "5" 5 ∷ []))) ≡ Types (number_to (pos 5) int ∷ goes never 2 int ∷ [])
unfolding infer infer_each is_shaped stops begins_labelled
returned = refl

-- fn() int = return "a"
returned_str : rules_say (function int [] 0 (form ki.Return 1 (named ki.Str 8 "a" [] ∷ []))) ≡ Fault 25 8
unfolding infer infer_each is_shaped stops begins_labelled
returned_str = refl

-- fn() int = { yield 5; }
yielded : rules_say (function int [] 0
    (form ki.Block 1 (named ki.Yield 3 "" (number 9 "5" 5 ∷ []) ∷ [])))
    ≡ Types (number_to (pos 5) int ∷ is never ∷ is int ∷ [])
unfolding infer infer_each is_shaped stops begins_labelled
yielded = refl

-- fn() void = yield
yield_outside_of_blocks : rules_say (function void [] 0 (named ki.Yield 1 "" (absent ∷ []))) ≡ Fault 40 1
unfolding infer infer_each is_shaped stops begins_labelled
yield_outside_of_blocks = refl

-- ---- matches and switches

-- fn(p: nullable *int) void = match (p) { case null => void; case *int => void; }
match_of_nullable : rules_say (function void (nullable ∷ []) 0
    (form ki.Match 1 (local 8 "p" 0
    ∷ form ki.Case 13 (form ki.PatternNull 18 [] ∷ form ki.Void 26 [] ∷ [])
    ∷ form ki.Case 32 (unary ki.TypePointer 37 (word 38 "int") ∷ form ki.Void 45 [] ∷ []) ∷ [])))
    ≡ Types (is nullable ∷ is void ∷ is void ∷ is void ∷ is int ∷ is pointer ∷ is void ∷ is void ∷ is void ∷ [])
unfolding infer infer_each is_shaped stops begins_labelled
match_of_nullable = refl

-- fn(x: (int | str)) void = match (x) { case null => void; case => void; }
null_case_of_union : rules_say (function void (either ∷ []) 0
    (form ki.Match 1 (local 8 "x" 0
    ∷ form ki.Case 13 (form ki.PatternNull 18 [] ∷ form ki.Void 26 [] ∷ [])
    ∷ form ki.Case 32 (absent ∷ form ki.Void 40 [] ∷ []) ∷ [])))
    ≡ Fault 36 18
unfolding infer infer_each is_shaped stops begins_labelled
null_case_of_union = refl

-- fn(n: int) void = match (n) { case => void; }
match_of_int : rules_say (function void (int ∷ []) 0
    (form ki.Match 1 (local 8 "n" 0
    ∷ form ki.Case 13 (absent ∷ form ki.Void 21 [] ∷ []) ∷ [])))
    ≡ Fault 35 1
unfolding infer infer_each is_shaped stops begins_labelled
match_of_int = refl

-- fn(x: (int | str)) void = match (x) { case => void; case => void; }
two_defaults : rules_say (function void (either ∷ []) 0
    (form ki.Match 1 (local 8 "x" 0
    ∷ form ki.Case 13 (absent ∷ form ki.Void 21 [] ∷ [])
    ∷ form ki.Case 27 (absent ∷ form ki.Void 35 [] ∷ []) ∷ [])))
    ≡ Fault 38 27
unfolding infer infer_each is_shaped stops begins_labelled
two_defaults = refl

-- fn(x: (int | str)) int = match (x) { case let n: int => yield n; case => yield 0; }
bound_by_a_case : rules_say (function int (either ∷ []) 1
    (form ki.Match 1 (local 8 "x" 0
    ∷ form ki.Case 13 (named ki.PatternLet 18 "n" (word 25 "int" ∷ []) ∷ named ki.Yield 32 "" (local 38 "n" 1 ∷ []) ∷ [])
    ∷ form ki.Case 41 (absent ∷ named ki.Yield 49 "" (number 55 "0" 0 ∷ []) ∷ []) ∷ [])))
    ≡ Types (is either ∷ is int ∷ is void ∷ is int ∷ is never ∷ is int ∷ number_to (pos 0) int ∷ is never ∷ is int ∷ is int ∷ [])
unfolding infer infer_each is_shaped stops begins_labelled
bound_by_a_case = refl

-- fn(x: (int | str)) void = match (x) { case let n: never => void; case => void; }
bound_to_never : rules_say (function void (either ∷ []) 1
    (form ki.Match 1 (local 8 "x" 0
    ∷ form ki.Case 13 (named ki.PatternLet 18 "n" (word 25 "never" ∷ []) ∷ form ki.Void 34 [] ∷ [])
    ∷ form ki.Case 40 (absent ∷ form ki.Void 48 [] ∷ []) ∷ [])))
    ≡ Fault 17 25
unfolding infer infer_each is_shaped stops begins_labelled
bound_to_never = refl

-- fn(s: str) void = switch (s) { case "a" => void; case => void; }
switch_of_str : rules_say (function void (str ∷ []) 0
    (form ki.Switch 1 (local 9 "s" 0
    ∷ form ki.SwitchCase 14 (form ki.Values 19 (named ki.Str 19 "a" [] ∷ absent ∷ []) ∷ form ki.Void 26 [] ∷ [])
    ∷ form ki.SwitchCase 32 (absent ∷ form ki.Void 40 [] ∷ []) ∷ [])))
    ≡ Types (is str ∷ is str ∷ is void ∷ is void ∷ is void ∷ is void ∷ is void ∷ is void ∷ [])
unfolding infer infer_each is_shaped stops begins_labelled
switch_of_str = refl

-- fn(p: *int) void = switch (p) { case => void; }
switch_of_pointer : rules_say (function void (pointer ∷ []) 0
    (form ki.Switch 1 (local 9 "p" 0
    ∷ form ki.SwitchCase 14 (absent ∷ form ki.Void 22 [] ∷ []) ∷ [])))
    ≡ Fault 27 1
unfolding infer infer_each is_shaped stops begins_labelled
switch_of_pointer = refl

-- fn(n: int) void = switch (n) { case n => void; case => void; }
case_without_constant : rules_say (function void (int ∷ []) 0
    (form ki.Switch 1 (local 9 "n" 0
    ∷ form ki.SwitchCase 14 (form ki.Values 19 (local 19 "n" 0 ∷ absent ∷ []) ∷ form ki.Void 24 [] ∷ [])
    ∷ form ki.SwitchCase 30 (absent ∷ form ki.Void 38 [] ∷ []) ∷ [])))
    ≡ Fault 21 19
unfolding infer infer_each is_shaped stops begins_labelled
case_without_constant = refl

-- fn(b: bool) void = switch (b) { case true, true => void; case => void; }
case_twice : rules_say (function void (bool ∷ []) 0
    (form ki.Switch 1 (local 9 "b" 0
    ∷ form ki.SwitchCase 14 (form ki.Values 19 (named ki.Bool 19 "true" [] ∷ named ki.Bool 25 "true" [] ∷ absent ∷ []) ∷ form ki.Void 33
    [] ∷ [])
    ∷ form ki.SwitchCase 39 (absent ∷ form ki.Void 47 [] ∷ []) ∷ [])))
    ≡ Fault 38 25
unfolding infer infer_each is_shaped stops begins_labelled
case_twice = refl

-- fn(b: bool) void = switch (b) { case true => void; }
value_without_case : rules_say (function void (bool ∷ []) 0
    (form ki.Switch 1 (local 9 "b" 0
    ∷ form ki.SwitchCase 14 (form ki.Values 19 (named ki.Bool 19 "true" [] ∷ absent ∷ []) ∷ form ki.Void 27 [] ∷ []) ∷ [])))
    ≡ Fault 37 1
unfolding infer infer_each is_shaped stops begins_labelled
value_without_case = refl
