-- What each row of the table asks of a node, and where the fault stands when it is not so. No row has to make sense behind one that fails.
use Rattle.std.specs.Prelude.{ℕ, Bool, true, false, not, ◌&&◌, ◌||◌, nat_le, nat_lt, List, [], find, length, slice_get, Option, Some, None, is_some, is_none}
use Rattle.std.specs.List.{list_any}
use Rattle.hare_tree.specs.declared.kind.Kind.{Kind}
use Rattle.hare_tree.specs.declared.place.Place.{Place}
use Rattle.hare_tree.specs.declared.token.Meaning.{Meaning}
use Rattle.hare_tree.specs.declared.token.Meaning.TheVariants as means
use Rattle.hare_types.specs.declared.coercion.Ty.{Ty}
use Rattle.hare_types.specs.declared.coercion.Ty.TheVariants as ty
use Rattle.hare_types.specs.declared.row.Scalar.TheVariants as keyword
use Rattle.hare_types.specs.Store.{Store}
use Rattle.hare_types.specs.ByIds.{has_size_at}
use Rattle.hare_typed.specs.Typed.{mark_of}
use Rattle.hare_rules.specs.declared.row_id.RowId.{RowId}
use Rattle.hare_rules.specs.declared.row_id.RowId.TheVariants as row
use Rattle.hare_rules.specs.declared.hint.Hint.{Hint}
use Rattle.hare_rules.specs.declared.hint.Hint.TheVariants as hint
use Rattle.hare_rules.specs.Words.{is_word, is_tagged, is_integer, has_default, has_error_member, holds_error, fits}
use Rattle.hare_typed.specs.Coercions.{element_of_slice as slice_element}
use Rattle.hare_typed.specs.Given.{base_row, element_in}
use Rattle.hare_rules.specs.Context.{Context, Entry, Odd, Role, Ordinary, Callee, Length, BindingType, CaseValue, DeclaredValue, store_of, kid, place_of, own_type, place_or}
use Rattle.hare_typed.specs.Numbers.{kind_of}
use Rattle.hare_rules.specs.Places.{is_place, is_mutable}
use Rattle.hare_rules.specs.Joined.{first_lacking, first_misfit}
use Rattle.hare_rules.specs.Context.{Given}
use Rattle.hare_rules.specs.Operators.{number_fits, binding_known, names_value, first_seen, second_seen, unary_in_range, pointed, operands_common, in_range, shift_left_has_default, are_ordered, are_equatable, fits_left, written, castable_to, is_member_at, has_size_of}
use Rattle.hare_rules.specs.Aggregates.{function_called, arguments, has_params, reached, member_type, errors_returned, fields_in, field_values, fill, all_sized, each_of, fields_small, array_small, tuple_lacking, tuple_components, array_lacking, dots_fit, item_type, array_count, has_capacity, object_type, is_freeable, is_counted, is_part, deleted_from, behind_pointer_or, is_member_access}
use Rattle.hare_rules.specs.Control.{binding_has_default, binding_type, binding_place, value_kid, is_scalar, declared_type, loop_meant, block_meant, is_inside, return_fits, yield_fits, body_returns, block_values, branches, case_values, each_element, odd_case, place_of_pattern, repeated_pattern, is_matched, cases}
use Rattle.hare_rules.specs.Constants.{length_of, odd_value, repeated_label, switch_labels, place_of_label, is_switched, is_absent_value}
use Rattle.hare_rules.specs.Written.{inner, parts, odd_spread, members_sized, members_left, most_members, left_small}
use Rattle.hare_rules.specs.Types.{type_of}
use Rattle.hare_rules.specs.Values.{inconstant_place}
use Rattle.hare_rules.specs.Table.{rows_of, number_of}
use Rattle.hare_tree.specs.declared.place.Fault.{Fault}

-- ---- what the last rows ask

abbrev pub fits_hint : Store → Hint → Option Ty → Bool
fits_hint s (hint.Of t) (Some a) = fits s a t
fits_hint s _ o = true

abbrev pub may_drop : Store → Hint → Option Ty → Bool
may_drop s hint.Drop (Some a) = not (holds_error s a)
may_drop s _ o = true

abbrev pub is_bound : Role → Bool
is_bound BindingType = true
is_bound _ = false

abbrev pub type_sized : Store → Option Ty → Bool
type_sized s (Some (ty.Of t)) = has_size_at s t
type_sized s _ = true

-- ---- words of rows

abbrev pub first_place : Context → Bool
first_place c = is_place c.setting (kid c 0)

abbrev pub first_mutable : Context → Bool
first_mutable c = is_mutable c.setting c.locals (kid c 0)

abbrev pub place_of_given : Place → Option Given → Place
place_of_given p None = p
place_of_given p (Some g) = g.place

abbrev pub sized_fields : Context → Option (List ℕ) → Bool
sized_fields c = each_of (all_sized (store_of c))

abbrev pub small_fields : Context → Option (List ℕ) → Bool
small_fields c = each_of (fields_small (store_of c))

abbrev pub sized_item : Context → Option ℕ → Bool
sized_item c = each_of (has_size_at (store_of c))

abbrev pub small_item : Context → (count : ℕ) → Option ℕ → Bool
small_item c n = each_of (array_small (store_of c) n)

abbrev pub small_array : Context → Option ℕ → Option ℕ → Bool
small_array c None o = true
small_array c (Some n) o = small_item c n o

-- ---- what a row asks

abbrev pub holds : RowId → Context → Bool
holds row.NumberFits c = number_fits c
holds row.PathBindingKnown c = binding_known c c.meaning
holds row.PathNamed c = names_value c.setting c.meaning
holds row.UnaryInteger c = is_integer (store_of c) (first_seen c)
holds row.UnaryRange c = unary_in_range c.head.kind (first_seen c)
holds row.BangBoolean c = is_word keyword.Bool (base_row (store_of c) (first_seen c))
holds row.DerefPointed c = is_some (pointed (store_of c) (first_seen c))
holds row.AddrPlace c = first_place c
holds row.AddrMutable c = first_mutable c
holds row.ArithCommon c = is_some (operands_common c)
holds row.ArithRange c = in_range c
holds row.ShiftIntegers c = is_integer (store_of c) (first_seen c) && is_integer (store_of c) (second_seen c)
holds row.ShiftRange c = in_range c
holds row.ShiftLeftDefault c = shift_left_has_default c
holds row.LessOrdered c = are_ordered (store_of c) (first_seen c) (second_seen c)
holds row.EqualComparable c = are_equatable (store_of c) (first_seen c) (second_seen c)
holds row.AssignPlace c = first_place c
holds row.AssignMutable c = first_mutable c
holds row.OpAssignPlace c = first_place c
holds row.OpAssignMutable c = first_mutable c
holds row.OpAssignFitting c = fits_left (store_of c) c.head.text (first_seen c) (second_seen c)
holds row.CastCastable c = castable_to (store_of c) (first_seen c) (written c 1)
holds row.TestTagged c = is_tagged (store_of c) (first_seen c)
holds row.TestMember c = is_member_at (store_of c) (first_seen c) (written c 1)
holds row.MeasureHasSize c = has_size_of (store_of c) (written c 0)
holds row.CallCallable c = is_some (function_called c)
holds row.CallArity c = has_params (length (arguments c)) (function_called c)
holds row.IndexIndexable c = is_some (element_in (reached (store_of c) (kid c 0)))
holds row.SliceIndexable c = is_some (element_in (reached (store_of c) (kid c 0)))
holds row.FieldMember c = is_some (member_type c (reached (store_of c) (kid c 0)))
holds row.TryErrors c = has_error_member (store_of c) (first_seen c)
holds row.TryUndeferred c = not c.inside.deferred
holds row.TryReturned c = errors_returned c
holds row.ForceErrors c = has_error_member (store_of c) (first_seen c)
holds row.StructLitFields c = fill (store_of c) (fields_in (base_row (store_of c) (own_type (kid c 0)))) (field_values c)
holds row.TupleDefaults c = is_none (tuple_lacking c)
holds row.TupleHasSize c = sized_fields c (tuple_components c)
holds row.TupleSmall c = small_fields c (tuple_components c)
holds row.ArrayFirstDefault c = is_none (array_lacking c)
holds row.ArrayLong c = dots_fit c
holds row.ArrayHasSize c = sized_item c (item_type c)
holds row.ArraySmall c = small_item c (array_count c) (item_type c)
holds row.AllocDefault c = has_capacity c || has_default (first_seen c)
holds row.AllocHasSize c = has_capacity c || sized_item c (object_type c)
holds row.AllocSequence c = not (has_capacity c) || is_some (element_in (base_row (store_of c) (first_seen c)))
holds row.FreeFreeable c = is_freeable (base_row (store_of c) (first_seen c))
holds row.AppendPlace c = first_place c
holds row.AppendMutable c = first_mutable c
holds row.AppendSequence c = is_some (slice_element (base_row (store_of c) (first_seen c)))
holds row.DeleteKind c = is_part (kind_of (kid c 0))
holds row.DeleteSequence c = is_some (slice_element (reached (store_of c) (deleted_from c)))
holds row.DeletePlace c = behind_pointer_or c (is_place c.setting (deleted_from c))
holds row.DeleteMutable c = behind_pointer_or c (is_mutable c.setting c.locals (deleted_from c))
holds row.LenCounted c = is_counted (base_row (store_of c) (first_seen c))
holds row.OffsetKind c = is_member_access (kind_of (kid c 0))
holds row.BindingDefault c = binding_has_default c
holds row.BindingHasSize c = sized_item c (binding_type c)
holds row.BindingConstant c = not (is_absent_value (mark_of (value_kid c)).value)
holds row.DefScalar c = is_scalar (store_of c) (declared_type c)
holds row.IfFirstDefault c = is_none (first_lacking (store_of c) c.hint (branches c))
holds row.IfRestFits c = is_none (first_misfit (store_of c) c.hint (branches c))
holds row.ForEachSequence c = is_some (each_element (store_of c) (kid c 1))
holds row.JumpTarget c = is_some (loop_meant c.head.text c.inside.labels)
holds row.JumpInside c = is_inside c.inside (loop_meant c.head.text c.inside.labels)
holds row.ReturnUndeferred c = not c.inside.deferred
holds row.ReturnNoValue c = return_fits c
holds row.YieldTarget c = is_some (block_meant c.head.text c.inside.labels)
holds row.YieldInside c = is_inside c.inside (block_meant c.head.text c.inside.labels)
holds row.YieldNoValue c = yield_fits c
holds row.BlockReturns c = body_returns c
holds row.BlockFirstDefault c = is_none (first_lacking (store_of c) c.hint (block_values c))
holds row.BlockRestFits c = is_none (first_misfit (store_of c) c.hint (block_values c))
holds row.CaseFirstDefault c = is_none (first_lacking (store_of c) c.hint (block_values c))
holds row.CaseRestFits c = is_none (first_misfit (store_of c) c.hint (block_values c))
holds row.MatchTagged c = is_tagged (store_of c) (first_seen c)
holds row.MatchPatterns c = is_none (odd_case c)
holds row.MatchDistinct c = is_none (repeated_pattern [] (cases c))
holds row.MatchCovered c = is_matched c
holds row.MatchRestFits c = is_none (first_misfit (store_of c) c.hint (case_values c))
holds row.SwitchScalar c = is_scalar (store_of c) (own_type (kid c 0))
holds row.SwitchConstants c = is_none (odd_value c)
holds row.SwitchDistinct c = is_none (repeated_label [] (switch_labels c))
holds row.SwitchCovered c = is_switched c
holds row.SwitchRestFits c = is_none (first_misfit (store_of c) c.hint (case_values c))
holds row.SliceElementSized c = sized_item c (inner c)
holds row.ArrayLength c = is_some (length_of c.setting (kid c 0))
holds row.ArrayElementSized c = sized_item c (written c 1)
holds row.ArrayTypeSmall c = small_array c (length_of c.setting (kid c 0)) (written c 1)
holds row.FieldsSized c = all_sized (store_of c) (parts c)
holds row.FieldsSmall c = fields_small (store_of c) (parts c)
holds row.UnionSpreads c = is_none (odd_spread (store_of c) c.kids)
holds row.UnionMembersSized c = members_sized (store_of c) c.kids
holds row.UnionLeft c = nat_lt 0 (length (members_left c))
holds row.UnionNarrow c = nat_le (length (members_left c)) most_members
holds row.UnionSmall c = left_small (store_of c) (members_left c)
holds row.Bound c = not (is_bound c.inside.role) || type_sized (store_of c) (type_of c)
holds row.Site c = fits_hint (store_of c) c.hint (type_of c)
holds row.Kept c = may_drop (store_of c) c.hint (type_of c)

-- ---- where it stands

abbrev pub odd_place : Place → Option Entry → Place
odd_place p (Some (Odd q)) = q
odd_place p _ = p

-- the loop over what is no array and no slice, whose binding the path means
abbrev pub binding_place_of : Context → Meaning → Place
binding_place_of c (means.Local n) = odd_place c.head.place (slice_get c.locals n)
binding_place_of c _ = c.head.place

abbrev pub stands : RowId → Context → Place
stands row.PathBindingKnown c = binding_place_of c c.meaning
stands row.TupleDefaults c = place_or c.head.place (tuple_lacking c)
stands row.ArrayFirstDefault c = place_or c.head.place (array_lacking c)
stands row.AllocDefault c = place_of (kid c 0)
stands row.BindingDefault c = place_of (value_kid c)
stands row.BindingHasSize c = binding_place c
stands row.BindingConstant c = inconstant_place c.head.place c
stands row.DefScalar c = place_of (value_kid c)
stands row.IfFirstDefault c = place_of_given c.head.place (first_lacking (store_of c) c.hint (branches c))
stands row.IfRestFits c = place_of_given c.head.place (first_misfit (store_of c) c.hint (branches c))
stands row.BlockFirstDefault c = place_of_given c.head.place (first_lacking (store_of c) c.hint (block_values c))
stands row.BlockRestFits c = place_of_given c.head.place (first_misfit (store_of c) c.hint (block_values c))
stands row.CaseFirstDefault c = place_of_given c.head.place (first_lacking (store_of c) c.hint (block_values c))
stands row.CaseRestFits c = place_of_given c.head.place (first_misfit (store_of c) c.hint (block_values c))
stands row.MatchPatterns c = place_of_pattern c.head.place (odd_case c)
stands row.MatchDistinct c = place_or c.head.place (repeated_pattern [] (cases c))
stands row.MatchRestFits c = place_of_given c.head.place (first_misfit (store_of c) c.hint (case_values c))
stands row.SwitchConstants c = place_or c.head.place (odd_value c)
stands row.SwitchDistinct c = place_of_label c.head.place (repeated_label [] (switch_labels c))
stands row.SwitchRestFits c = place_of_given c.head.place (first_misfit (store_of c) c.hint (case_values c))
stands row.ArrayLength c = place_of (kid c 0)
stands row.UnionSpreads c = place_or c.head.place (odd_spread (store_of c) c.kids)
stands _ c = c.head.place

-- ---- the first row that fails

-- what is called, and the length of an array, are judged by others
abbrev pub rows_in_role : Role → Kind → List RowId
rows_in_role Callee k = []
rows_in_role Length k = []
rows_in_role Ordinary k = rows_of k
rows_in_role BindingType k = rows_of k
rows_in_role CaseValue k = rows_of k
rows_in_role DeclaredValue k = rows_of k

abbrev pub is_site : RowId → Bool
is_site row.Site = true
is_site _ = false

-- whether the hint asks anything of a node: of what has no rows it asks nothing
abbrev pub is_judged : Context → Bool
is_judged c = list_any is_site (rows_in_role c.inside.role c.head.kind)

abbrev pub first_failing : Context → Option RowId
first_failing c = find (λ r. not (holds r c)) (rows_in_role c.inside.role c.head.kind)

-- the fault of a row that fails
abbrev pub fault_of : RowId → Context → Fault
fault_of r c = record { number = number_of r; place = stands r c }
