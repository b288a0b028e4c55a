-- The forms of all kinds: what each kind of node does, as acts.
use Rattle.std.specs.Prelude.{[]}
use Rattle.hare_tree.specs.declared.kind.Kind.{Kind}
use Rattle.hare_tree.specs.declared.kind.Kind.TheVariants as kind
use Rattle.hare_typed.specs.Typed.{TypedNode, TypedNodes, kids_of}
use Rattle.hare_typed.specs.Constants.{own_kind}
use Rattle.hare_typed.specs.Scalars.{Null}
use Rattle.hare_typed.specs.State.{Scope, Mode}
use Rattle.hare_typed.specs.Acts.{Act, Task, Turn, Call, Round, tick}
use Rattle.hare_typed.specs.Interpreter.{Forms}
use Rattle.hare_typed.specs.World.{World}
use Rattle.hare_typed.specs.Evaluated.{ValueForm, PlaceForm, evaluated, ticks_of_value, gives}
use Rattle.hare_typed.specs.ConstantForms.{number_form, bool_form, str_form, path_form, paren_form, neg_form, not_form, bang_form, arith_form, shift_form, less_form, equal_form, logic_form, cast_form, struct_form, field_value_form, tuple_form, array_form, size_form, align_form, offset_form, len_form, addr_form, path_place, paren_place}
use Rattle.hare_meaning.specs.Code.{declaration}
use Rattle.hare_meaning.specs.Places.{deref_place, index_place, field_place, slice_form, reading_form}
use Rattle.hare_meaning.specs.Stores.{assign_form, op_assign_form, let_form}
use Rattle.hare_meaning.specs.Runtime.{abort_form, assert_form}
use Rattle.hare_meaning.specs.Blocks.{block_form, case_form, break_form, continue_form, yield_form, return_form}
use Rattle.hare_meaning.specs.Loops.{for_form, each_form, for_turn, each_turn}
use Rattle.hare_meaning.specs.Choices.{if_form, match_form, switch_form}
use Rattle.hare_meaning.specs.Members.{as_form, is_form, try_form, force_form}
use Rattle.hare_meaning.specs.Heap.{alloc_form, free_form, append_form, delete_form}
use Rattle.hare_meaning.specs.Calls.{call_form, called}

-- gives no cells: void, null, and what is reached and deferred
abbrev pub no_cells : ValueForm
no_cells k = k []

-- what a kind of node gives as a value
abbrev pub value_form : World → TypedNode → Scope → Kind → ValueForm
-- values
value_form w t sc kind.Number k = number_form w t k
value_form w t sc kind.RuneLit k = number_form w t k
value_form w t sc kind.Str k = str_form w t sc k
value_form w t sc kind.Bool k = bool_form t k
value_form w t sc kind.Null k = no_cells k
value_form w t sc kind.Void k = no_cells k
value_form w t sc kind.Path k = path_form w t k
value_form w t sc kind.Paren k = paren_form sc k
value_form w t sc kind.StructLit k = struct_form w t sc k
value_form w t sc kind.FieldValue k = field_value_form sc k
value_form w t sc kind.Tuple k = tuple_form w t sc k
value_form w t sc kind.Array k = array_form w t sc k
-- operators
value_form w t sc kind.Neg k = neg_form w t sc k
value_form w t sc kind.Not k = not_form w t sc k
value_form w t sc kind.Bang k = bang_form sc k
value_form w t sc kind.Arith k = arith_form w t sc k
value_form w t sc kind.Shift k = shift_form w t sc k
value_form w t sc kind.Less k = less_form w t sc k
value_form w t sc kind.Equal k = equal_form w t sc k
value_form w t sc kind.Logic k = logic_form t sc k
value_form w t sc kind.Cast k = cast_form w t sc k
value_form w t sc kind.As k = as_form w t sc k
value_form w t sc kind.Is k = is_form w t sc k
value_form w t sc kind.Size k = size_form w t k
value_form w t sc kind.Align k = align_form w t k
value_form w t sc kind.Offset k = offset_form w t k
value_form w t sc kind.Len k = len_form w t sc k
-- places
value_form w t sc kind.Addr k = addr_form sc k
value_form w t sc kind.Slice k = slice_form w t sc k
value_form w t sc kind.Assign k = assign_form w t sc k
value_form w t sc kind.OpAssign k = op_assign_form w t sc k
value_form w t sc kind.Let k = let_form w t sc k
value_form w t sc kind.Const k = let_form w t sc k
-- calls and the end
value_form w t sc kind.Call k = call_form w t sc k
value_form w t sc kind.Abort k = abort_form w t k
value_form w t sc kind.Assert k = assert_form w t sc k
-- control
value_form w t sc kind.If k = if_form w t sc k
value_form w t sc kind.For k = for_form w t sc k
value_form w t sc kind.ForEach k = each_form w t sc k
value_form w t sc kind.Break k = break_form t k
value_form w t sc kind.Continue k = continue_form t k
value_form w t sc kind.Return k = return_form t sc k
value_form w t sc kind.Yield k = yield_form t sc k
value_form w t sc kind.Block k = block_form w t sc k
value_form w t sc kind.Defer k = no_cells k
value_form w t sc kind.Match k = match_form w t sc k
value_form w t sc kind.Switch k = switch_form w t sc k
-- unions that leave
value_form w t sc kind.Try k = try_form w t sc k
value_form w t sc kind.Force k = force_form w t sc k
-- the heap
value_form w t sc kind.Alloc k = alloc_form w t sc k
value_form w t sc kind.Free k = free_form w t sc k
value_form w t sc kind.Append k = append_form w t sc k
value_form w t sc kind.Delete k = delete_form w t sc k
-- places that are read as values
value_form w t sc kind.Deref k = reading_form w t (deref_place sc) k
value_form w t sc kind.Index k = reading_form w t (index_place w t sc) k
value_form w t sc kind.Field k = reading_form w t (field_place w t sc) k
-- asked by `match` and `switch` alone
value_form w t sc kind.Case k = case_form w t sc k
value_form w t sc kind.SwitchCase k = case_form w t sc k
-- never evaluated
value_form w t sc kind.None k = no_cells k
value_form w t sc kind.Use k = no_cells k
value_form w t sc kind.UseAlias k = no_cells k
value_form w t sc kind.UseNames k = no_cells k
value_form w t sc kind.ImportPath k = no_cells k
value_form w t sc kind.Def k = no_cells k
value_form w t sc kind.GlobalLet k = no_cells k
value_form w t sc kind.GlobalConst k = no_cells k
value_form w t sc kind.TypeDecl k = no_cells k
value_form w t sc kind.Fn k = no_cells k
value_form w t sc kind.Params k = no_cells k
value_form w t sc kind.Param k = no_cells k
value_form w t sc kind.StructField k = no_cells k
value_form w t sc kind.Name k = no_cells k
value_form w t sc kind.Export k = no_cells k
value_form w t sc kind.TrailingComma k = no_cells k
value_form w t sc kind.Dots k = no_cells k
value_form w t sc kind.ByRef k = no_cells k
value_form w t sc kind.TypeScalar k = no_cells k
value_form w t sc kind.TypePath k = no_cells k
value_form w t sc kind.TypePointer k = no_cells k
value_form w t sc kind.TypeNullable k = no_cells k
value_form w t sc kind.TypeSlice k = no_cells k
value_form w t sc kind.TypeError k = no_cells k
value_form w t sc kind.TypeArray k = no_cells k
value_form w t sc kind.TypeStruct k = no_cells k
value_form w t sc kind.TypeTuple k = no_cells k
value_form w t sc kind.TypeUnion k = no_cells k
value_form w t sc kind.Spread k = no_cells k
value_form w t sc kind.Message k = no_cells k
value_form w t sc kind.Binding k = no_cells k
value_form w t sc kind.PatternLet k = no_cells k
value_form w t sc kind.PatternNull k = no_cells k
value_form w t sc kind.Values k = no_cells k

-- where a kind that is a place by form stands; it is asked of no other
abbrev pub place_form : World → TypedNode → Scope → Kind → PlaceForm
place_form w t sc kind.Path k = path_place w t sc k
place_form w t sc kind.Paren k = paren_place sc k
place_form w t sc kind.Deref k = deref_place sc k
place_form w t sc kind.Index k = index_place w t sc k
place_form w t sc kind.Field k = field_place w t sc k
place_form w t sc _ k = k Null

-- the value of a case is coerced by what asks for it, behind the end of its scope
abbrev pub node_by : World → TypedNode → Mode → Scope → Kind → Act
node_by w t mode sc kind.Case = tick (ticks_of_value w.types t) (case_form w t sc gives)
node_by w t mode sc kind.SwitchCase = tick (ticks_of_value w.types t) (case_form w t sc gives)
node_by w t mode sc _ = evaluated w t mode sc (value_form w t sc (own_kind t)) (place_form w t sc (own_kind t))

abbrev pub node_form : World → TypedNode → Mode → Scope → Act
node_form w t mode sc = node_by w t mode sc (own_kind t)

-- ---- with one turn less

abbrev pub turn_of : World → TypedNode → Round → Scope → Kind → Act
turn_of w t r sc kind.ForEach = each_turn w t r sc
turn_of w t r sc _ = for_turn t sc

abbrev pub task_form : World → Task → Scope → Act
task_form w (Turn t r) sc = turn_of w t r sc (own_kind t)
task_form w (Call d cs) sc = called w d cs sc

-- a turn evaluates the kids of its loop, and a call those of its function
abbrev pub task_kids : World → Task → TypedNodes
task_kids w (Turn t r) = kids_of t
task_kids w (Call d cs) = kids_of (declaration w.declarations d)

abbrev pub forms : World → Forms
forms w = record { node = node_form w; task = task_form w; kids = task_kids w }
