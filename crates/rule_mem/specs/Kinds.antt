-- The kinds of places, aggregates and the heap, and their rows.
use Rattle.std.specs.Prelude.{Bool, true, false}
use Rattle.hare_tree.specs.declared.kind.Kind.{Kind}
use Rattle.hare_tree.specs.declared.kind.Kind.TheVariants as ki
use Rattle.hare_rules.specs.declared.row_id.RowId.{RowId}
use Rattle.hare_rules.specs.declared.row_id.RowId.TheVariants as row

-- the kinds that are judged here: places, assignments, aggregates, and what is asked of slices, of lengths and of the heap
abbrev pub judges : Kind → Bool
judges ki.Path = true
judges ki.Deref = true
judges ki.Addr = true
judges ki.Assign = true
judges ki.Index = true
judges ki.Slice = true
judges ki.Field = true
judges ki.StructLit = true
judges ki.Tuple = true
judges ki.Array = true
judges ki.Alloc = true
judges ki.Free = true
judges ki.Append = true
judges ki.Delete = true
judges ki.Len = true
judges ki.Offset = true
judges _ = false

-- the rows that they have beside those of all kinds
abbrev pub asks : RowId → Bool
asks row.PathBindingKnown = true
asks row.PathNamed = true
asks row.DerefPointed = true
asks row.AddrPlace = true
asks row.AddrMutable = true
asks row.AssignPlace = true
asks row.AssignMutable = true
asks row.IndexIndexable = true
asks row.SliceIndexable = true
asks row.FieldMember = true
asks row.StructLitFields = true
asks row.TupleDefaults = true
asks row.TupleHasSize = true
asks row.TupleSmall = true
asks row.ArrayFirstDefault = true
asks row.ArrayLong = true
asks row.ArrayHasSize = true
asks row.ArraySmall = true
asks row.AllocDefault = true
asks row.AllocHasSize = true
asks row.AllocSequence = true
asks row.FreeFreeable = true
asks row.AppendPlace = true
asks row.AppendMutable = true
asks row.AppendSequence = true
asks row.DeleteKind = true
asks row.DeleteSequence = true
asks row.DeletePlace = true
asks row.DeleteMutable = true
asks row.LenCounted = true
asks row.OffsetKind = true
asks _ = false
