-- A start state, and a memory in which its objects stand: two globals, a literal to which one of them points, and two arguments.
use Rattle.std.proofs.Common.{◌≡◌, ℕ, zero, suc, ◌+◌, ◌*◌, ◌^◌, List, [], ◌∷◌, ◌++◌, map, Some, codes, refl, subst, arith, rules, length, ◌<◌, true}
use Rattle.std.specs.Prelude.{slice_get, slice_index}
use Rattle.std.proofs.lemmas.Option.{same_Some}
use Rattle.hx_base.specs.Memory.{Memory, empty_memory, write, map_range, le_bytes, bytes_at, all_mapped}
use Rattle.hx_base.specs.Runtime.{World, heap_start, with_arguments}
use Rattle.hx_base.proofs.Memory.Ranges.{all_mapped-each}
use Rattle.hare_tree.specs.declared.kind.Kind.TheVariants as kind
use Rattle.hare_types.specs.declared.coercion.Ty.TheVariants as kept
use Rattle.hare_typed.specs.declared.cell.Cell.{Cell}
use Rattle.hare_typed.specs.declared.cell.Cell.TheVariants as cell
use Rattle.hare_typed.specs.Cells.{byte_cells}
use Rattle.hare_typed.specs.Objects.{Object, Global, Constant}
use Rattle.hare_typed.specs.declared.constant.Const.{Const}
use Rattle.hare_typed.specs.declared.constant.Const.TheVariants as constant
use Rattle.hare_typed.specs.Typed.{TypedNode, marked}
use Rattle.hare_typed.specs.State.{State, Exit}
use Rattle.hare_typed.specs.Unions.{tag_of, union_cells}
use Rattle.hare_typed.specs.Folded.{folded, tagged_by_id}
use Rattle.hare_meaning.specs.Code.{statics_of, cells_of_constant}
use Rattle.hare_meaning.specs.Run.{start}
use Rattle.std.specs.List.{enumerate_from}
use Rattle.hare_meaning.specs.Within.{PointersLeadWithin}
use Rattle.hare_meaning.specs.Ground.{argument_addresses, record_of, records_of, IsGroundOf}
use Rattle.hare_meaning.specs.Related.{At, BytesAre, FragmentIs, Match, Ground, Values, objects_in, Related}
use Rattle.hare_meaning.proofs.Related.Start.{AreLaid, AreBeside, Begins, ground_standing, start_related}
use Rattle.hare_meaning.proofs.Samples.{types, void, u8, int, size, slice, bytes, four_bytes, int_or_bool}
use Rattle.hare_meaning.proofs.Trees.{absent, of_type, node, to, numbered, main, text, n8, num, known, program, exit, index, global, array, outcome}
use Rattle.hare_meaning.proofs.Faulty.{a_union}

-- the cells of a pointer to the first byte of an object
abbrev pointer : ℕ → List Cell
pointer o = map (λ k. cell.Fragment o 0 k) (0 ∷ 1 ∷ 2 ∷ 3 ∷ 4 ∷ 5 ∷ 6 ∷ 7 ∷ [])

-- the number that constants have for node 3 of declaration 2
abbrev literal : ℕ
literal = 3 * 2 ^ 32 + 3

-- the cells of a text of two bytes: where it stands, its length and its capacity
abbrev of_two : ℕ → List Cell
of_two o = pointer o ++ byte_cells (le_bytes 8 2) ++ byte_cells (le_bytes 8 2)

-- `let count: u8 = 5; const greeting: str = "hi";`
abbrev declarations : List TypedNode
declarations =
    main []
    ∷ node kind.GlobalLet [] 0 void (absent ∷ absent ∷ absent ∷ known (cell.Byte 5 ∷ []) (n8 5) ∷ [])
    ∷ node kind.GlobalConst [] 0 void (absent ∷ absent ∷ absent ∷ known (of_two literal) (text 3 (codes "hi")) ∷ [])
    ∷ []

abbrev arguments : List (List ℕ)
arguments = codes "a" ∷ codes "xyz" ∷ []

abbrev begin : State
begin = start (program declarations) arguments (codes "in")

abbrev objects : List Object
objects =
    record { cells = byte_cells (5 ∷ []); kind = Global; align = 1; alive = true }
    ∷ record { cells = of_two 2; kind = Constant; align = 8; alive = true }
    ∷ record { cells = byte_cells (codes "hi"); kind = Constant; align = 1; alive = true }
    ∷ record { cells = byte_cells (codes "a"); kind = Constant; align = 1; alive = true }
    ∷ record { cells = byte_cells (codes "xyz"); kind = Constant; align = 1; alive = true }
    ∷ []

begin_objects : objects_in begin ≡ objects
begin_objects = refl

-- their pointers lead within them
begin_within : PointersLeadWithin objects
begin_within = search rules

-- ---- where they stand

-- those of the globals and the literal, and behind the records of the arguments those of the arguments
abbrev statics : List ℕ
statics = 4096 ∷ 4104 ∷ 4128 ∷ []

abbrev addresses : List ℕ
addresses = statics ++ argument_addresses arguments

-- behind the literal stands the text of an abort
abbrev texts : List (ℕ × List ℕ)
texts = (4200, codes "!") ∷ []

abbrev ground : Ground
ground = record { fill = 170; fixed = records_of arguments ++ texts; standing = enumerate_from 0 addresses; arguments = 2 }

ground_row : IsGroundOf (program declarations) arguments statics texts ground
ground_row = record { every = refl; standing = refl; fixed = refl; arguments = refl }

-- record 0 has the address of the first argument, which is behind both records, and its length of one byte twice; and so on
records_row : records_of arguments
    ≡ (2 ^ 36, le_bytes 8 (2 ^ 36 + 48) ++ le_bytes 8 1 ++ le_bytes 8 1)
    ∷ (2 ^ 36 + 24, le_bytes 8 (2 ^ 36 + 49) ++ le_bytes 8 3 ++ le_bytes 8 3)
    ∷ []
records_row = refl

abbrev memory : Memory
memory =
    let ready = map_range (empty_memory 170) 4096 4096 in
    let numbered = write ready 4096 (5 ∷ []) in
    let pointing = write numbered 4104 (le_bytes 8 4128 ++ le_bytes 8 2 ++ le_bytes 8 2) in
    let spelled = write pointing 4128 (codes "hi") in
    with_arguments (write spelled 4200 (codes "!")) arguments

abbrev world : World
world = record {
  memory = memory;
  heap = record { next = heap_start; blocks = [] };
  input = codes "in";
  output = [];
  arguments = 2;
}

-- a byte of the pointer to the literal
fragment : (k b : ℕ) → b ≡ slice_index (le_bytes 8 4128) k → FragmentIs (map At addresses) 2 0 k b
fragment k b e = record { address = 4128; points = record { from = 4128; at = refl; is = refl }; is = e }

-- the cells of the text: the bytes of its pointer, its length and its capacity
text_cells : Match (map At addresses) (of_two 2) (bytes_at memory 4104 24)
text_cells = (
  fragment 0 32 refl,
  (
    fragment 1 16 refl,
    (
      fragment 2 0 refl,
      (
        fragment 3 0 refl,
        (fragment 4 0 refl, (fragment 5 0 refl, (fragment 6 0 refl, (fragment 7 0 refl, numbers)))),
      ),
    ),
  ),
)
  where
    numbers : Match (map At addresses) (byte_cells (le_bytes 8 2) ++ byte_cells (le_bytes 8 2)) (bytes_at memory 4112 16)
    numbers = (
      refl,
      (
        refl,
        (
          refl,
          (
            refl,
            (
              refl,
              (refl, (refl, (refl, (refl, (refl, (refl, (refl, (refl, (refl, (refl, (refl, tt))))))))))),
            ),
          ),
        ),
      ),
    )

laid : AreLaid (map At addresses) memory 1 addresses objects
laid = (
  record { no_block = λ e. cc; at_least = omega arith; aligned = refl; mapped = refl; cells = (refl, tt) },
  (
    record { no_block = λ e. cc; at_least = omega arith; aligned = refl; mapped = refl; cells = text_cells },
    (
      record { no_block = λ e. cc; at_least = omega arith; aligned = refl; mapped = refl; cells = (refl, (refl, tt)) },
      (
        record { no_block = λ e. cc; at_least = omega arith; aligned = refl; mapped = refl; cells = (refl, tt) },
        (record { no_block = λ e. cc; at_least = omega arith; aligned = refl; mapped = refl; cells = (refl, (refl, (refl, tt))) }, tt),
      ),
    ),
  ),
)

-- what is fixed stands there, and beside the objects
abbrev IsHeld : ℕ × List ℕ → Type 0
IsHeld f = BytesAre memory f.0 f.1 × AreBeside f.0 (length f.1) addresses objects

begins : Begins ground addresses begin world
begins = record {
  laid = laid;
  unnamed = refl;
  none_live = refl;
  none_taken = refl;
  next = refl;
  blocks = refl;
  below = (omega arith, (omega arith, tt));
  standing = ground_standing (program declarations) arguments statics texts ground ground_row;
  fixed = λ i f e. held i f e;
  fill = refl;
  input = refl;
  output = refl;
  arguments = refl;
}
  where
    stands : (at : ℕ) (bs : List ℕ) → bytes_at memory at (length bs) ≡ bs → all_mapped memory at (length bs) ≡ true →
        at + length bs < 2 ^ 64 → BytesAre memory at bs
    stands at bs e m l = record {
      bytes = e;
      mapped = λ k h. all_mapped-each memory at (length bs) (at + k) m (omega arith) (omega (arith, h));
      ends = l;
    }

    held : (i : ℕ) (f : ℕ × List ℕ) → slice_get ground.fixed i ≡ Some f → IsHeld f
    held zero f e =
        subst IsHeld (same_Some (2 ^ 36, record_of (2 ^ 36 + 48) (codes "a")) f e)
        (stands (2 ^ 36) (record_of (2 ^ 36 + 48) (codes "a")) refl refl (omega arith), search rules)
    held (suc zero) f e =
        subst IsHeld (same_Some (2 ^ 36 + 24, record_of (2 ^ 36 + 49) (codes "xyz")) f e)
        (stands (2 ^ 36 + 24) (record_of (2 ^ 36 + 49) (codes "xyz")) refl refl (omega arith), search rules)
    held (suc (suc zero)) f e =
        subst IsHeld (same_Some (4200, codes "!") f e)
        (stands 4200 (codes "!") refl refl (omega arith), search rules)
    held (suc (suc (suc i))) f e = cc

start_row : (value : Values) → Related ground (map At addresses) begin world 0 value
start_row value = start_related ground addresses begin world 0 value begins

-- ---- an empty array that becomes a slice

-- its slice: where it stands, a length and a capacity of 0
abbrev no_items : TypedNode
no_items =
    known (pointer (2 * 2 ^ 32 + 3) ++ byte_cells (le_bytes 8 0) ++ byte_cells (le_bytes 8 0))
    (to 7 slice (numbered 3 (of_type kind.Array [] 0 kept.Empty (absent ∷ absent ∷ []))))

-- `let none: []int = [];`
abbrev of_none : List TypedNode
of_none = main [] ∷ node kind.GlobalLet [] 0 void (absent ∷ absent ∷ absent ∷ no_items ∷ []) ∷ []

-- the array is aligned as an int, and its slice as a pointer
empty_array_row : map (λ s. s.1.align) (statics_of types of_none) ≡ 8 ∷ 4 ∷ []
empty_array_row = refl

-- ---- an array that becomes a slice

-- the array of `let some: []u8 = [1, 2, 3, 4];`, of which the constant has the cells
abbrev some_items : TypedNode
some_items = to 7 bytes (numbered 7 (array four_bytes (n8 1 ∷ n8 2 ∷ n8 3 ∷ n8 4 ∷ [])))

abbrev array_number : ℕ
array_number = 2 * 2 ^ 32 + 7

abbrev constant_of_some : Const
constant_of_some =
    constant.Known (pointer array_number ++ byte_cells (le_bytes 8 4) ++ byte_cells (le_bytes 8 4))
    (record { object = array_number; cells = byte_cells (1 ∷ 2 ∷ 3 ∷ 4 ∷ []) } ∷ [])

abbrev with_constant : Const → TypedNode → TypedNode
with_constant v (marked h m ts) = marked h (record m { value = v }) ts

abbrev of_some : List TypedNode
of_some =
    main (exit (index u8 (global 1 bytes) (num size 2)) ∷ [])
    ∷ node kind.GlobalLet [] 0 void (absent ∷ absent ∷ absent ∷ with_constant constant_of_some some_items ∷ [])
    ∷ []

-- the global's words lead to it, and it may be stored to
some_items_row : map (λ s. s.1) (statics_of types of_some)
    ≡ record { cells = pointer 1 ++ byte_cells (le_bytes 8 4) ++ byte_cells (le_bytes 8 4); kind = Global; align = 8; alive = true }
    ∷ record { cells = byte_cells (1 ∷ 2 ∷ 3 ∷ 4 ∷ []); kind = Global; align = 1; alive = true }
    ∷ []
some_items_row = refl

element_of_some : outcome of_some 0 ≡ Exit 3
element_of_some = refl

-- ---- a value of a union

-- `const either: (int | bool) = 5;`
abbrev of_union : List TypedNode
of_union = main [] ∷ node kind.GlobalConst [] 0 void (absent ∷ absent ∷ absent ∷ a_union ∷ []) ∷ []

-- its object has the tag of int in the finished list
tag_row : map (λ s. s.1.cells) (statics_of types of_union) ≡ union_cells types int_or_bool int (byte_cells (le_bytes 4 5)) ∷ []
tag_row = refl

-- the constant that its tree carries has the one by id
tag_by_id_row : cells_of_constant (folded types 1 a_union) ≡ union_cells (tagged_by_id types) int_or_bool int (byte_cells (le_bytes 4 5))
tag_by_id_row = refl

tags_of_int : (tag_of types int ≡ 1) × (tag_of (tagged_by_id types) int ≡ int + 1)
tags_of_int = (refl, refl)
