-- Which stores may come behind one, as a program is read on, and what they go on to say.
use Rattle.std.specs.Prelude.{◌≡◌, ℕ, ◌<◌, Bool, List, [], length, Some, IsSome, Contains}
use Rattle.hare_types.specs.declared.extent.Extent.{Extent}
use Rattle.hare_types.specs.declared.row.Row.{Row}
use Rattle.hare_types.specs.Rows.{AllBelow}
use Rattle.hare_types.specs.Trees.{Tree}
use Rattle.hare_types.specs.Store.{Store, tree_at, Extends}
use Rattle.hare_types.specs.Sound.{IsStore}
use Rattle.hare_types.specs.ByIds.{row_at, base_at, marked_at, is_error_at, sized_at, has_size_at, extent_at, size_at, align_at, parts_at, field_at, fields_at, members_at, offset_at, payload_at}
use Rattle.hare_types.specs.Unions.{id_of, union_of, left_of, reduced_of, values_at, without_errors}

-- Names, rows, sizes and definitions of `now` are continued in `later`, under the same numbers. The list of types that have tags is not
-- looked at: it may be emptied and made anew.
pub record IsLater (now later : Store) : Type 0 where
  pub grows : Extends (record now { listed = [] }) later
  pub sound : IsStore later

-- whether each member of the union that is the base of the type is an error type is known
abbrev pub AreMarksKnown : Store → ℕ → Type 0
AreMarksKnown s t = (is : List ℕ) (i : ℕ) → members_at s t ≡ Some is → Contains is i → IsSome (marked_at s i)

-- What is known of types in `now` is known of them in `later`, and the same. A row tells all of itself at once; what is asked of names is
-- known once they are defined, or of sizes once they are declared.
pub record KeepsTypes (now later : Store) : Type 0 where
  pub row : (t : ℕ) (r : Row) → row_at now t ≡ Some r → row_at later t ≡ Some r
  pub tree : (t : ℕ) (u : Tree) → tree_at now t ≡ Some u → tree_at later t ≡ Some u
  pub base : (t b : ℕ) → base_at now t ≡ Some b → base_at later t ≡ Some b
  pub marked : (t : ℕ) (b : Bool) → marked_at now t ≡ Some b → marked_at later t ≡ Some b
  pub error : (t : ℕ) → IsSome (marked_at now t) → is_error_at later t ≡ is_error_at now t
  pub sized : (t : ℕ) (b : Bool) → sized_at now t ≡ Some b → sized_at later t ≡ Some b
  pub has_size : (t : ℕ) → IsSome (sized_at now t) → has_size_at later t ≡ has_size_at now t
  pub extent : (t : ℕ) (x : Extent) → extent_at now t ≡ Some x → extent_at later t ≡ Some x
  pub size : (t : ℕ) → IsSome (extent_at now t) → size_at later t ≡ size_at now t
  pub align : (t : ℕ) → IsSome (extent_at now t) → align_at later t ≡ align_at now t
  pub parts : (t : ℕ) → t < length now.rows → parts_at later t ≡ parts_at now t
  pub field : (t name : ℕ) → t < length now.rows → field_at later t name ≡ field_at now t name
  pub fields : (t : ℕ) (is : List ℕ) → fields_at now t ≡ Some is → fields_at later t ≡ Some is
  pub members : (t : ℕ) (is : List ℕ) → members_at now t ≡ Some is → members_at later t ≡ Some is
  pub offset : (t k o : ℕ) → offset_at now t k ≡ Some o → offset_at later t k ≡ Some o
  pub payload : (t p : ℕ) → payload_at now t ≡ Some p → payload_at later t ≡ Some p
  pub id : (r : Row) (t : ℕ) → id_of now r ≡ Some t → id_of later r ≡ Some t
  pub union : (is : List ℕ) (t : ℕ) → union_of now is ≡ Some t → union_of later is ≡ Some t
  pub left : (is : List ℕ) → AllBelow (length now.rows) is → left_of later is ≡ left_of now is
  pub reduced : (is : List ℕ) (t : ℕ) → AllBelow (length now.rows) is → reduced_of now is ≡ Some t → reduced_of later is ≡ Some t
  pub values : (t : ℕ) (is : List ℕ) → AreMarksKnown now t → values_at now t ≡ Some is → values_at later t ≡ Some is
  pub without : (t u : ℕ) → AreMarksKnown now t → without_errors now t ≡ Some u → without_errors later t ≡ Some u

abbrev pub TypesStay : Type 0
TypesStay = (now later : Store) → IsStore now → IsLater now later → KeepsTypes now later
