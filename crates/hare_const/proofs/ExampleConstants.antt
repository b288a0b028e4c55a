-- Constants to look at, over a few types.
use Rattle.std.proofs.Common.{ℕ, List, [], ◌∷◌, Some, true}
use Rattle.hare_tree.specs.declared.kind.Kind.{Kind}
use Rattle.hare_tree.specs.declared.token.Meaning.TheVariants as meant
use Rattle.hare_tree.specs.declared.token.Suffix.{Suffix}
use Rattle.hare_types.specs.declared.coercion.Ty.{Ty}
use Rattle.hare_types.specs.declared.row.Row.TheVariants as row
use Rattle.hare_types.specs.declared.row.Scalar.TheVariants as word
use Rattle.hare_types.specs.Store.{Store}
use Rattle.hare_typed.specs.declared.constant.Const.{Const}
use Rattle.hare_typed.specs.declared.constant.Const.TheVariants as constant
use Rattle.hare_typed.specs.Typed.{TypedNode, marked, typed_none}
use Rattle.hare_typed.specs.Cells.{byte_cells}

-- 0 is u8, 1 is bool, 2 is str, 3 is i16, 4 is a name for i16, and 5 is rune
abbrev pub types : Store
types =
    record {
      names = [];
      rows = row.Scalar word.U8 ∷ row.Scalar word.Bool ∷ row.Scalar word.Str ∷ row.Scalar word.I16 ∷ row.Named 7 ∷ row.Scalar word.Rune ∷
          [];
      declared = (7, record { sized = true; definition = Some 3 }) ∷ [];
      listed = [];
    }

-- a constant of these bytes
abbrev pub bytes : List ℕ → Const
bytes bs = constant.Known (byte_cells bs) []

-- a node of this kind at column 9, of the type, with this number, suffix and constant
abbrev pub node : Kind → Ty → ℕ → Suffix → Const → TypedNode
node k t n x v =
    marked (record { kind = k; place = record { file = 0; line = 1; column = 9 }; text = []; number = n; suffix = x })
    (record { node = 0; ty = t; coerce = record { row = 1; to = t }; meaning = meant.None; value = v })
    typed_none
