-- Texts whose bytes are told without an evaluation: strings and the constants of defs, in parentheses or not, cast to texts or not.
use Rattle.std.specs.Prelude.{◌≡◌, ◌+◌, ℕ, zero, suc, Bool, ◌||◌, ◌^◌, nat_eq, nat_lt, nat_le, List, [], length, Contains, Option, Some, None, option_map, option_and_then, unwrap_or, IsSome, if◌then◌else◌}
use Rattle.std.specs.Map.{lookup}
use Rattle.hare_tree.specs.Node.{Head}
use Rattle.hare_tree.specs.declared.kind.Kind.{Kind}
use Rattle.hare_tree.specs.declared.kind.Kind.TheVariants as kind
use Rattle.hare_types.specs.Store.{Store}
use Rattle.hare_typed.specs.declared.cell.Cell.{Cell}
use Rattle.hare_typed.specs.declared.constant.Const.{Const}
use Rattle.hare_typed.specs.declared.constant.Const.TheVariants as constant
use Rattle.hare_typed.specs.declared.constant.ConstObject.{ConstObject}
use Rattle.hare_typed.specs.Typed.{TypedNode, TypedNodes, Mark, marked, typed_none, typed_more}
use Rattle.hare_typed.specs.Given.{is_str}
use Rattle.hare_typed.specs.Answers.{Answer, Gives, Aborts, IsUndefined}
use Rattle.hare_typed.specs.Cells.{bytes_of, cells_within}
use Rattle.hare_typed.specs.Scalars.{Pointer, Null, Address}
use Rattle.hare_typed.specs.Words.{Words, words}
use Rattle.hare_typed.specs.ConstantValues.{listed_objects}

-- ---- objects

-- the cells of the first object with this number
abbrev pub cells_found : List ConstObject → ℕ → Option (List Cell)
cells_found os n = option_map (λ o. o.cells) (lookup (nat_eq n) (listed_objects os))

-- objects with one number have the same cells
abbrev pub AreCoherent : List ConstObject → Type 0
AreCoherent os = (o : ConstObject) → Contains os o → cells_found os o.object ≡ Some o.cells

-- ---- texts

-- the bytes that so many cells from an offset on are; none where there are fewer
abbrev pub bytes_behind : (offset n : ℕ) → List Cell → Option (List ℕ)
bytes_behind d n cs = if nat_le (d + n) (length cs) then bytes_of (cells_within d n cs) else None

-- the bytes at a place of one of these objects
abbrev pub bytes_at : List ConstObject → Pointer → (n : ℕ) → Option (List ℕ)
bytes_at os Null n = None
bytes_at os (Address o d) n = option_and_then (bytes_behind d n) (cells_found os o)

abbrev pub text_of_words : List ConstObject → Answer Words → Option (List ℕ)
text_of_words os (Gives w) = bytes_at os w.data_at w.length
text_of_words os (Aborts r) = None
text_of_words os (IsUndefined u) = None

-- the bytes of the text that a constant is, which are those of an object that it lists
abbrev pub text_in : Const → Option (List ℕ)
text_in constant.Absent = None
text_in (constant.Known cs os) = text_of_words os (words cs)

-- the row of a coercion that leaves a text as it is: to its own type, or to one of the same base
abbrev pub keeps_text : ℕ → Bool
keeps_text r = nat_eq r 1 || nat_eq r 8

-- strings are shorter
abbrev pub longest : ℕ
longest = 2 ^ 32

abbrev pub unless_long : List ℕ → Option (List ℕ)
unless_long bs = if nat_lt (length bs) longest then Some bs else None

-- of a node of the kind, where so much is told of its first kid; a cast to a text leaves a text as it is
abbrev pub text_by : Store → Head → Mark → Kind → Option (List ℕ) → Option (List ℕ)
text_by s h m kind.Str o = unless_long h.text
text_by s h m kind.Path o = text_in m.value
text_by s h m kind.Paren o = o
text_by s h m kind.Cast o = if is_str s m.ty then o else None
text_by s h m _ o = None

-- the bytes of the text that a tree is, where it is a string or the name of a def, in parentheses or not, cast to a text or not
abbrev mutual
  pub text_of : Store → TypedNode → Option (List ℕ)
  text_of s (marked h m ts) = if keeps_text m.coerce.row then text_by s h m h.kind (text_of_kid s 0 ts) else None

  pub text_of_kid : Store → ℕ → TypedNodes → Option (List ℕ)
  text_of_kid s n typed_none = None
  text_of_kid s zero (typed_more t ts) = text_of s t
  text_of_kid s (suc n) (typed_more t ts) = text_of_kid s n ts

-- the bytes of a text; none where they are not told
abbrev pub bytes_told : Option (List ℕ) → List ℕ
bytes_told o = unwrap_or o []

-- both operands are texts whose bytes are told
pub record AreTexts (s : Store) (ts : TypedNodes) : Type 0 where
  pub left : IsSome (text_of_kid s 0 ts)
  pub right : IsSome (text_of_kid s 1 ts)
