-- How the objects of an evaluation stand in flat memory, and in the temporaries of the calls under way. No flat code is named here: what
-- the temporaries hold is a function of the call and the temporary.
use Rattle.std.specs.Prelude.{◌≡◌, ℕ, ◌+◌, ◌*◌, ◌%◌, ◌^◌, ◌<◌, ◌≤◌, pos, Bool, true, List, [], ◌∷◌, length, slice_get, slice_index, Some, None}
use Rattle.std.specs.List.{AllZip}
use Rattle.hx_base.specs.Memory.{Memory as FlatMemory, byte_at, is_mapped, bytes_at, le_bytes}
use Rattle.hx_base.specs.Runtime.{World, heap_start, live_bytes, block_size}
use Rattle.hx_base.specs.Numbers.{residue, wrap}
use Rattle.hare_typed.specs.declared.cell.Cell.{Cell}
use Rattle.hare_typed.specs.declared.cell.Cell.TheVariants as cell
use Rattle.hare_typed.specs.Objects.{Object, Heap, extent_of}
use Rattle.hare_typed.specs.State.{State}

-- ---- where objects stand

-- from an address on, or in a temporary of a call under way, whose value has so many bytes and may have a sign
pub data Standing : Type 0 where
  At : (address : ℕ) → Standing
  Temp : (call temp width : ℕ) (signed : Bool) → Standing

-- where each object stands, by its number; a dead one keeps the place that it had, for the pointers that name it
abbrev pub Places : Type 0
Places = List Standing

-- the object with this number lives
abbrev pub IsLive : List Object → ℕ → Object → Type 0
IsLive objects o x = (slice_get objects o ≡ Some x) × (x.alive ≡ true)

-- the address lies in what a live object covers: as many bytes as it has, and at least one
pub record Covered (ps : Places) (objects : List Object) (o a : ℕ) : Type 0 where
  pub x : Object
  pub from : ℕ
  pub k : ℕ
  pub live : IsLive objects o x
  pub at : slice_get ps o ≡ Some (At from)
  pub within : k < extent_of x
  pub is : a ≡ from + k

-- the temporary of the call holds a live object
pub record Held (ps : Places) (objects : List Object) (o c t : ℕ) : Type 0 where
  pub x : Object
  pub width : ℕ
  pub signed : Bool
  pub live : IsLive objects o x
  pub at : slice_get ps o ≡ Some (Temp c t width signed)

-- ---- cells and bytes

-- the address is that of an offset of an object which stands in memory
pub record Points (ps : Places) (o d a : ℕ) : Type 0 where
  pub from : ℕ
  pub at : slice_get ps o ≡ Some (At from)
  pub is : a ≡ (from + d) % 2 ^ 64

-- the byte is that byte of such an address
pub record FragmentIs (ps : Places) (o d k b : ℕ) : Type 0 where
  pub address : ℕ
  pub points : Points ps o d address
  pub is : b ≡ slice_index (le_bytes 8 address) k

-- a cell agrees with a byte: a byte with itself, a fragment with the byte of its address, and an undefined cell with any
abbrev pub Agrees : Places → Cell → ℕ → Type 0
Agrees ps (cell.Byte v) b = b ≡ v
Agrees ps (cell.Fragment o d k) b = FragmentIs ps o d k b
Agrees ps cell.Undef b = Unit {0}

-- cells agree with bytes, one by one
abbrev pub Match : Places → List Cell → List ℕ → Type 0
Match ps cs bs = AllZip (Agrees ps) cs bs

-- a value of so many bytes as a temporary holds it: extended to 64 bits, by its sign where it has one
abbrev pub IsNormal : (width : ℕ) (signed : Bool) → ℕ → Type 0
IsNormal w signed v = v ≡ residue (2 ^ 64) (wrap (pos v) (8 * w) signed)

-- ---- memory

-- these bytes stand in memory from the address on
pub record BytesAre (m : FlatMemory) (at : ℕ) (bs : List ℕ) : Type 0 where
  pub bytes : bytes_at m at (length bs) ≡ bs
  pub mapped : (k : ℕ) → k < length bs → is_mapped m (at + k) ≡ true
  pub ends : at + length bs < 2 ^ 64

-- a live heap object stands at the address, and covers so many bytes
pub record BlockOf (ps : Places) (objects : List Object) (a n : ℕ) : Type 0 where
  pub o : ℕ
  pub x : Object
  pub live : IsLive objects o x
  pub kind : x.kind ≡ Heap
  pub at : slice_get ps o ≡ Some (At a)
  pub is : n ≡ extent_of x

-- each block begins at an address of its own
abbrev pub AreApart : List (ℕ × ℕ) → Type 0
AreApart [] = Unit {0}
AreApart (b ∷ bs) = (block_size bs b.0 ≡ None) × AreApart bs

-- what a run stands on and does not change
pub record Ground : Type 0 where
  pub fill : ℕ  -- the byte that memory holds where nothing was written
  pub fixed : List (ℕ × List ℕ)  -- bytes that no object covers: the texts of aborts, and the records of arguments
  pub standing : List (ℕ × ℕ)  -- the objects that stand from the start, each with its address
  pub arguments : ℕ  -- how many arguments the program has

-- what the temporaries of the calls under way hold, by the numbers of call and temporary
abbrev pub Values : Type 0
Values = (call temp : ℕ) → ℕ

-- ---- the relation

abbrev pub objects_in : State → List Object
objects_in s = s.memory.objects.made

-- The state of an evaluation stands so in the world, where so many calls wait and temporaries hold these values.
pub record Related (g : Ground) (ps : Places) (s : State) (w : World) (calls : ℕ) (value : Values) : Type 0 where
  -- each object has a place, and all of them are in the list
  pub all : length ps ≡ length (objects_in s)
  pub unnamed : s.memory.objects.named ≡ []
  pub standing : (i : ℕ) (p : ℕ × ℕ) → slice_get g.standing i ≡ Some p → slice_get ps p.0 ≡ Some (At p.1)
  -- what a live object covers is mapped, and covered by no other
  pub mapped : (o a : ℕ) → Covered ps (objects_in s) o a → is_mapped w.memory a ≡ true
  pub apart : (o p a : ℕ) → Covered ps (objects_in s) o a → Covered ps (objects_in s) p a → o ≡ p
  -- The address of an object is not 0, and is aligned, and the address just past its end is below 2^64. So it is of a dead object too: a
  -- pointer that still names it is not null.
  pub placed : (o a : ℕ) (x : Object) → slice_get (objects_in s) o ≡ Some x → slice_get ps o ≡ Some (At a) →
      (0 < a) × (a % x.align ≡ 0) × (a + extent_of x < 2 ^ 64)
  -- the cells of live objects agree with the bytes there, and with those of the values of temporaries
  pub cells : (o a k : ℕ) (x : Object) (c : Cell) → IsLive (objects_in s) o x → slice_get ps o ≡ Some (At a) →
      slice_get x.cells k ≡ Some c → Agrees ps c (byte_at w.memory (a + k))
  pub held_cells : (o c t n : ℕ) (signed : Bool) (x : Object) → IsLive (objects_in s) o x →
      slice_get ps o ≡ Some (Temp c t n signed) → Match ps x.cells (le_bytes n (value c t)) × IsNormal n signed (value c t) × (c ≤ calls)
  -- two live objects have no temporary in common
  pub held_apart : (o p c t : ℕ) → Held ps (objects_in s) o c t → Held ps (objects_in s) p c t → o ≡ p
  -- live heap objects are just the live blocks; the next block begins behind all that was ever taken, and nothing is mapped from there on
  pub heap_next : w.heap.next ≡ heap_start + s.memory.taken
  pub heap_above : (a : ℕ) → is_mapped w.memory a ≡ true → a < w.heap.next
  pub heap_blocks : (o a : ℕ) (x : Object) → IsLive (objects_in s) o x → x.kind ≡ Heap → slice_get ps o ≡ Some (At a) →
      block_size w.heap.blocks a ≡ Some (extent_of x)
  pub heap_places : (o : ℕ) (x : Object) → IsLive (objects_in s) o x → x.kind ≡ Heap → (a : ℕ) × (slice_get ps o ≡ Some (At a))
  pub heap_objects : (a n : ℕ) → block_size w.heap.blocks a ≡ Some n → BlockOf ps (objects_in s) a n
  pub heap_apart : AreApart w.heap.blocks
  pub live : s.memory.live ≡ live_bytes w.heap.blocks
  -- what is fixed holds, and no object covers it
  pub fixed_hold : (i : ℕ) (f : ℕ × List ℕ) → slice_get g.fixed i ≡ Some f → BytesAre w.memory f.0 f.1
  pub fixed_apart : (i k o : ℕ) (f : ℕ × List ℕ) → slice_get g.fixed i ≡ Some f → k < length f.1 →
      ¬ (Covered ps (objects_in s) o (f.0 + k))
  pub fill : w.memory.fill ≡ g.fill
  pub input : s.input ≡ w.input
  pub output : s.output ≡ w.output
  pub arguments : w.arguments ≡ g.arguments
