-- Weights of one node of each kind, with a union and without one.
use Rattle.std.proofs.Common.{◌≡◌, ℕ, List, [], ◌∷◌, map, refl}
use Rattle.hare_tree.specs.declared.kind.Kind.{Kind}
use Rattle.hare_tree.specs.declared.kind.Kind.TheVariants as kind
use Rattle.hare_types.specs.declared.coercion.Ty.{Ty}
use Rattle.hare_types.specs.declared.coercion.Ty.TheVariants as ty
use Rattle.hare_typed.specs.Typed.{TypedNode}
use Rattle.hare_typed.specs.Weight.{weight_of}
use Rattle.hare_typed.proofs.ExampleTrees.{types, tree, made, none, path, void, int, str, u8, two, three, named_three, bytes, to_bytes, to_to_bytes, nullable, ints, pair, endless}

abbrev weight : TypedNode → ℕ
weight t = weight_of types t

-- the weights of nodes of these kinds, whose kids are of this type
abbrev weights : Ty → List Kind → List ℕ
weights t ks = map (λ k. weight (tree k int (path t ∷ path t ∷ []))) ks

-- the same, where each is made one of `(int | str | !void)`
abbrev weights_in_union : Ty → List Kind → List ℕ
weights_in_union t ks = map (λ k. weight (made 9 three (tree k int (path t ∷ path t ∷ [])))) ks

-- ---- kinds of one unit

abbrev literals : List Kind
literals = kind.Number ∷ kind.Str ∷ kind.RuneLit ∷ kind.Bool ∷ kind.Null ∷ kind.Void ∷ kind.Path ∷ kind.Paren ∷ []

literal_weights : weights int literals ≡ 1 ∷ 1 ∷ 1 ∷ 1 ∷ 1 ∷ 1 ∷ 1 ∷ 1 ∷ []
literal_weights = refl

literals_in_union : weights_in_union int literals ≡ 4 ∷ 4 ∷ 4 ∷ 4 ∷ 4 ∷ 4 ∷ 4 ∷ 4 ∷ []
literals_in_union = refl

abbrev operators : List Kind
operators =
    kind.Neg ∷ kind.Not ∷ kind.Bang ∷ kind.Arith ∷ kind.Shift ∷ kind.Less ∷ kind.Equal ∷ kind.Logic ∷ kind.Cast ∷ kind.Len ∷ kind.Size
    ∷ kind.Align ∷ kind.Offset ∷ kind.Deref ∷ kind.Addr ∷ kind.Assign ∷ kind.OpAssign ∷ []

operator_weights : weights int operators ≡ 1 ∷ 1 ∷ 1 ∷ 1 ∷ 1 ∷ 1 ∷ 1 ∷ 1 ∷ 1 ∷ 1 ∷ 1 ∷ 1 ∷ 1 ∷ 1 ∷ 1 ∷ 1 ∷ 1 ∷ []
operator_weights = refl

operators_in_union : weights_in_union int operators ≡ 4 ∷ 4 ∷ 4 ∷ 4 ∷ 4 ∷ 4 ∷ 4 ∷ 4 ∷ 4 ∷ 4 ∷ 4 ∷ 4 ∷ 4 ∷ 4 ∷ 4 ∷ 4 ∷ 4 ∷ []
operators_in_union = refl

abbrev statements : List Kind
statements =
    kind.Call ∷ kind.Abort ∷ kind.Assert ∷ kind.Let ∷ kind.Const ∷ kind.Defer ∷ kind.If ∷ kind.For ∷ kind.Break ∷ kind.Continue ∷
    kind.Return
    ∷ kind.Yield ∷ kind.Block ∷ kind.Switch ∷ kind.Case ∷ kind.SwitchCase ∷ []

statement_weights : weights int statements ≡ 1 ∷ 1 ∷ 1 ∷ 1 ∷ 1 ∷ 1 ∷ 1 ∷ 1 ∷ 1 ∷ 1 ∷ 1 ∷ 1 ∷ 1 ∷ 1 ∷ 1 ∷ 1 ∷ []
statement_weights = refl

statements_in_union : weights_in_union int statements ≡ 4 ∷ 4 ∷ 4 ∷ 4 ∷ 4 ∷ 4 ∷ 4 ∷ 4 ∷ 4 ∷ 4 ∷ 4 ∷ 4 ∷ 4 ∷ 4 ∷ 4 ∷ 4 ∷ []
statements_in_union = refl

-- parts that are left out, commas, types and parameters are nodes too
abbrev parts : List Kind
parts = kind.None ∷ kind.TrailingComma ∷ kind.Dots ∷ kind.ByRef ∷ kind.Binding ∷ kind.FieldValue ∷ kind.Values ∷ kind.Param ∷
    kind.TypeScalar ∷ kind.PatternLet ∷ []

part_weights : weights int parts ≡ 1 ∷ 1 ∷ 1 ∷ 1 ∷ 1 ∷ 1 ∷ 1 ∷ 1 ∷ 1 ∷ 1 ∷ []
part_weights = refl

-- ---- kinds of four units

abbrev heavy : List Kind
heavy = kind.Slice ∷ kind.ForEach ∷ kind.Alloc ∷ kind.Free ∷ kind.Append ∷ kind.Delete ∷ []

heavy_weights : weights bytes heavy ≡ 4 ∷ 4 ∷ 4 ∷ 4 ∷ 4 ∷ 4 ∷ []
heavy_weights = refl

heavy_in_union : weights_in_union bytes heavy ≡ 7 ∷ 7 ∷ 7 ∷ 7 ∷ 7 ∷ 7 ∷ []
heavy_in_union = refl

equal_on_texts : weights str (kind.Equal ∷ []) ≡ 4 ∷ []
equal_on_texts = refl

equal_on_texts_in_union : weights_in_union str (kind.Equal ∷ []) ≡ 7 ∷ []
equal_on_texts_in_union = refl

equal_on_bytes : weights u8 (kind.Equal ∷ []) ≡ 1 ∷ []
equal_on_bytes = refl

-- ---- what takes a union apart

abbrev takes_apart : List Kind
takes_apart = kind.As ∷ kind.Is ∷ kind.Match ∷ kind.Try ∷ kind.Force ∷ []

unions_of_three : weights three takes_apart ≡ 4 ∷ 4 ∷ 4 ∷ 4 ∷ 4 ∷ []
unions_of_three = refl

unions_of_two : weights two takes_apart ≡ 3 ∷ 3 ∷ 3 ∷ 3 ∷ 3 ∷ []
unions_of_two = refl

-- a name of a union is the union
named_unions : weights named_three takes_apart ≡ 4 ∷ 4 ∷ 4 ∷ 4 ∷ 4 ∷ []
named_unions = refl

-- a nullable pointer has no members
nullable_pointers : weights nullable (kind.As ∷ kind.Is ∷ kind.Match ∷ []) ≡ 1 ∷ 1 ∷ 1 ∷ []
nullable_pointers = refl

-- the union that is taken apart, and the one that comes of the node
two_into_three : weights_in_union two takes_apart ≡ 6 ∷ 6 ∷ 6 ∷ 6 ∷ 6 ∷ []
two_into_three = refl

-- what is taken apart is what the kid's coercion gives
kid_in_union : weight (tree kind.Match void (made 9 three (path int) ∷ [])) ≡ 4
kid_in_union = refl

-- ---- coercions

-- of a union into a wider one: the members of the wider one count
union_into_union : weight (made 9 three (path two)) ≡ 4
union_into_union = refl

union_into_narrower : weight (made 9 two (path three)) ≡ 3
union_into_narrower = refl

into_a_name : weight (made 9 named_three (path int)) ≡ 4
into_a_name = refl

-- a union that only gets another name is not handled
by_name : weight (made 8 named_three (path three)) ≡ 1
by_name = refl

as_it_is : weight (path three) ≡ 1
as_it_is = refl

-- ---- literals with items

struct_of_two : weight (tree kind.StructLit pair (path pair ∷ path int ∷ path u8 ∷ none ∷ [])) ≡ 3
struct_of_two = refl

struct_in_union : weight (made 9 three (tree kind.StructLit pair (path pair ∷ path int ∷ path u8 ∷ none ∷ []))) ≡ 6
struct_in_union = refl

tuple_of_three : weight (tree kind.Tuple pair (path int ∷ path int ∷ path u8 ∷ none ∷ [])) ≡ 4
tuple_of_three = refl

array_of_three : weight (tree kind.Array ints (path int ∷ path int ∷ path int ∷ none ∷ none ∷ [])) ≡ 4
array_of_three = refl

-- `[0...]`: one item is written
array_filled : weight (tree kind.Array ints (path int ∷ tree kind.Dots void [] ∷ none ∷ [])) ≡ 2
array_filled = refl

array_of_none : weight (tree kind.Array ints (none ∷ none ∷ [])) ≡ 1
array_of_none = refl

-- ---- pointers

abbrev through : List Kind
through = kind.Field ∷ kind.Index ∷ kind.Slice ∷ []

no_pointer : weights bytes through ≡ 1 ∷ 1 ∷ 4 ∷ []
no_pointer = refl

one_pointer : weights to_bytes through ≡ 2 ∷ 2 ∷ 5 ∷ []
one_pointer = refl

two_pointers : weights to_to_bytes through ≡ 3 ∷ 3 ∷ 6 ∷ []
two_pointers = refl

-- `type loop = *loop;`: at most 16
sixteen_pointers : weights endless through ≡ 17 ∷ 17 ∷ 20 ∷ []
sixteen_pointers = refl

-- a nullable pointer is not followed
no_nullable : weights nullable through ≡ 1 ∷ 1 ∷ 4 ∷ []
no_nullable = refl

-- nor does any other node follow one
others_follow_none : weights to_bytes (kind.Deref ∷ kind.Len ∷ kind.ForEach ∷ kind.Free ∷ []) ≡ 1 ∷ 1 ∷ 4 ∷ 4 ∷ []
others_follow_none = refl

-- ---- what has no type of the store

without_type : weights ty.Null (kind.Equal ∷ kind.Match ∷ kind.Field ∷ []) ≡ 1 ∷ 1 ∷ 1 ∷ []
without_type = refl
