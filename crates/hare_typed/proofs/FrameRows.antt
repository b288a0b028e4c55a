-- Frame bounds and copied weights of small functions, worked out by hand. A node of weight 1 whose size is at most 16 bytes adds 256 and
-- twice
-- 16, so 288; one of 17 to 32 bytes 320.
use Rattle.std.proofs.Common.{◌≡◌, ℕ, ◌+◌, ◌*◌, [], ◌∷◌, codes, refl}
use Rattle.hare_tree.specs.declared.kind.Kind.TheVariants as kind
use Rattle.hare_typed.specs.Typed.{TypedNode}
use Rattle.hare_typed.specs.Frame.{frame_bound, copied_weight, node_size}
use Rattle.hare_typed.proofs.ExampleTrees.{types, tree, called, made, none, path, call, defer, block, returning, param, type_node, function, void, int, str, bool, u8, size, three, bytes, pair, never, ints}

abbrev frame : TypedNode → ℕ
frame f = frame_bound types f

abbrev weight : TypedNode → ℕ
weight f = copied_weight types f

-- ---- `fn f() void = void;`

abbrev void_literal : TypedNode
void_literal = tree kind.Void void []

abbrev smallest : TypedNode
smallest = function [] void_literal

smallest_frame : frame smallest ≡ 64 + 288
smallest_frame = refl

smallest_weight : weight smallest ≡ 1
smallest_weight = refl

-- ---- `fn f(a: int, b: str) void = { };`: the block, and two parameters, of which one is 24 bytes long

abbrev with_parameters : TypedNode
with_parameters = function (param int ∷ param str ∷ []) (block [])

parameters_frame : frame with_parameters ≡ 64 + 288 + 288 + 320
parameters_frame = refl

parameters_weight : weight with_parameters ≡ 3
parameters_weight = refl

-- ---- `fn f() void = { defer f(); return; };`: the call with its two kids has two copies; beside it stand the defer, the return with its
-- kid, and the block

abbrev with_defer : TypedNode
with_defer = function [] (block (defer call ∷ returning ∷ []))

defer_frame : frame with_defer ≡ 64 + 2 * (3 * 288) + 4 * 288
defer_frame = refl

defer_weight : weight with_defer ≡ 2 * 3 + 4
defer_weight = refl

-- ---- `fn f() void = { let x: str = "a"; };`: the type, the text and the binding have 24 bytes

abbrev with_let : TypedNode
with_let = function [] (block (called kind.Let (codes "x") void (type_node str ∷ tree kind.Str str [] ∷ []) ∷ []))

let_frame : frame with_let ≡ 64 + 3 * 320 + 288
let_frame = refl

let_weight : weight with_let ≡ 4
let_weight = refl

-- ---- `fn f(x: (int | str | !void)) void = match (x) { case let i: int => void; case => void; };`: the operand and the parameter have 32
-- bytes; the match has a weight of 4; seven nodes stand in its cases

abbrev with_match : TypedNode
with_match = function (param three ∷ []) (tree kind.Match void (path three
    ∷ tree kind.Case void (called kind.PatternLet (codes "i") void (type_node int ∷ []) ∷ void_literal ∷ [])
    ∷ tree kind.Case void (none ∷ void_literal ∷ []) ∷ []))

match_frame : frame with_match ≡ 64 + 320 + 7 * 288 + (4 * 256 + 32) + 320
match_frame = refl

match_weight : weight with_match ≡ 1 + 7 + 4 + 1
match_weight = refl

-- ---- `fn f(s: []u8) void = for (let e & .. s) void;`: the binding with its kid, the slice of 24 bytes, the body, the loop, and the
-- parameter

abbrev with_loop : TypedNode → TypedNode
with_loop by_reference = function (param bytes ∷ [])
    (tree kind.ForEach void (called kind.Binding (codes "e") void (by_reference ∷ []) ∷ path bytes ∷ void_literal ∷ []))

loop_frame : frame (with_loop (tree kind.ByRef void [])) ≡ 64 + 2 * 288 + 320 + 288 + (4 * 256 + 32) + 320
loop_frame = refl

loop_weight : weight (with_loop none) ≡ 2 + 1 + 1 + 4 + 1
loop_weight = refl

-- ---- sizes

-- of the type, of what the coercion gives, and of what is bound, the greatest counts
size_of_coercion : node_size types (made 9 three (path int)) ≡ 32
size_of_coercion = refl

size_of_type : node_size types (made 8 u8 (path three)) ≡ 32
size_of_type = refl

size_of_let : node_size types (called kind.Let (codes "x") void (none ∷ made 3 size (path int) ∷ [])) ≡ 8
size_of_let = refl

size_of_const : node_size types (called kind.Const (codes "x") void (type_node pair ∷ path pair ∷ [])) ≡ 8
size_of_const = refl

size_of_pattern : node_size types (called kind.PatternLet (codes "x") void (type_node str ∷ [])) ≡ 24
size_of_pattern = refl

size_of_parameter : node_size types (param pair) ≡ 8
size_of_parameter = refl

abbrev each_of : TypedNode → TypedNode → TypedNode
each_of by_reference over = tree kind.ForEach void (tree kind.Binding void (by_reference ∷ []) ∷ over ∷ void_literal ∷ [])

size_of_element : node_size types (each_of none (path ints)) ≡ 4
size_of_element = refl

size_of_reference : node_size types (each_of (tree kind.ByRef void []) (path ints)) ≡ 8
size_of_reference = refl

-- never has no size
without_size : node_size types (path never) ≡ 0
without_size = refl

-- ---- `fn f(a: bool) void = { defer rt::puts("x"); if (a) return; };`: the call, its callee and the place of a comma twice, the text of 24
-- bytes twice, and eight nodes once

abbrev with_text : TypedNode
with_text = function (param bool ∷ [])
    (block (defer (tree kind.Call void (path void ∷ tree kind.Str str [] ∷ none ∷ [])) ∷ tree kind.If void
    (path bool ∷ returning ∷ none ∷ []) ∷ []))

text_frame : frame with_text ≡ 64 + 14 * 288 + 2 * 320
text_frame = refl

text_weight : weight with_text ≡ 16
text_weight = refl
