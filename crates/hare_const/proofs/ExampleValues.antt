-- Trees of constants to look at, over a few types.
use Rattle.std.proofs.Common.{ℕ, pos, List, [], ◌∷◌}
use Rattle.hare_tree.specs.declared.kind.Kind.{Kind}
use Rattle.hare_tree.specs.declared.kind.Kind.TheVariants as kind
use Rattle.hare_tree.specs.declared.token.Meaning.{Meaning}
use Rattle.hare_tree.specs.declared.token.Meaning.TheVariants as meant
use Rattle.hare_tree.specs.declared.token.Suffix.TheVariants as suffix
use Rattle.hare_types.specs.declared.coercion.Ty.{Ty}
use Rattle.hare_types.specs.declared.coercion.Ty.TheVariants as ty
use Rattle.hare_types.specs.declared.row.Row.TheVariants as row
use Rattle.hare_types.specs.declared.row.Scalar.TheVariants as word
use Rattle.hare_types.specs.Store.{Store}
use Rattle.hare_typed.specs.declared.constant.Const.{Const}
use Rattle.hare_typed.specs.declared.constant.Const.TheVariants as constant
use Rattle.hare_typed.specs.Typed.{TypedNode, marked, typed_nodes}

-- 0 is u8, 1 is bool, 2 is str, 3 is i16, 4 is size, 5 is `[3]u8`, 6 is `[]u8`, 7 is a pointer to u8 and 8 is one that may be null
abbrev pub types : Store
types =
    record {
      names = [];
      rows =
          row.Scalar word.U8 ∷ row.Scalar word.Bool ∷ row.Scalar word.Str ∷ row.Scalar word.I16 ∷ row.Scalar word.Size ∷ row.Array 3 0
          ∷ row.Slice 0 ∷ row.Pointer 0 ∷ row.Nullable 0 ∷ [];
      declared = [];
      listed = [];
    }

-- a node at a column with a text, a number, a type, a coercion, a meaning, a constant and kids; its number is its column
abbrev pub node : Kind → (column : ℕ) → List ℕ → ℕ → Ty → ℕ → Ty → Meaning → Const → List TypedNode → TypedNode
node k c x n t r to m v ts =
    marked (record { kind = k; place = record { file = 0; line = 1; column = c }; text = x; number = n; suffix = suffix.None })
    (record { node = c; ty = t; coerce = record { row = r; to = to }; meaning = m; value = v })
    (typed_nodes ts)

-- a node with a type whose coercion gives it as it is
abbrev pub plain : Kind → (column : ℕ) → List ℕ → ℕ → (type : ℕ) → List TypedNode → TypedNode
plain k c x n t ts = node k c x n (ty.Of t) 1 (ty.Of t) meant.None constant.Absent ts

abbrev pub number : (column n type : ℕ) → TypedNode
number c n t = plain kind.Number c [] n t []

-- a whole number without a suffix that becomes one of a type
abbrev pub untyped : (column n type : ℕ) → TypedNode
untyped c n t = node kind.Number c [] n (ty.Iconst (pos n)) 3 (ty.Of t) meant.None constant.Absent []

-- an operator between two trees
abbrev pub between : Kind → (column : ℕ) → List ℕ → (type : ℕ) → TypedNode → TypedNode → TypedNode
between k c x t a b = plain k c x 0 t (a ∷ b ∷ [])

-- a part that is left out, and `...`
abbrev pub left_out : TypedNode
left_out = plain kind.None 0 [] 0 0 []

abbrev pub dots : TypedNode
dots = plain kind.Dots 0 [] 0 0 []

-- `[a...]` as an array of three u8
abbrev pub thrice : (column : ℕ) → TypedNode → TypedNode
thrice c a = plain kind.Array c [] 0 5 (a ∷ dots ∷ left_out ∷ [])

-- a path to a declaration, of a type
abbrev pub path_to : (column declaration type : ℕ) → Const → TypedNode
path_to c d t v = node kind.Path c [] 0 (ty.Of t) 1 (ty.Of t) (meant.Decl d) v []
