-- Where a constant stands in a checked program: at the value of a def or of a global, at each value of a case of a switch, and at each path
-- to a def, an array's length among them.
use Rattle.std.specs.Prelude.{ℕ, Bool, true, false, ◌&&◌, ◌||◌}
use Rattle.std.specs.Bool.{beq}
use Rattle.hare_tree.specs.declared.kind.Kind.{Kind}
use Rattle.hare_tree.specs.declared.kind.Kind.TheVariants as kind
use Rattle.hare_tree.specs.declared.token.Meaning.{Meaning}
use Rattle.hare_tree.specs.declared.token.Meaning.TheVariants as meant
use Rattle.hare_typed.specs.declared.constant.Const.{Const}
use Rattle.hare_typed.specs.declared.constant.Const.TheVariants as constant
use Rattle.hare_typed.specs.Typed.{TypedNode, TypedNodes, marked, typed_none, typed_more}

abbrev pub is_known : Const → Bool
is_known constant.Absent = false
is_known (constant.Known c os) = true

-- whether a node is a path to a def; `is_def` says which declarations are defs
abbrev pub names_def : (ℕ → Bool) → Kind → Meaning → Bool
names_def is_def kind.Path (meant.Decl d) = is_def d
names_def is_def _ _ = false

-- whether the last kid of a node of this kind is the value of a declaration
abbrev pub has_value : Kind → Bool
has_value kind.Def = true
has_value kind.GlobalLet = true
has_value kind.GlobalConst = true
has_value _ = false

-- whether a kid is one of the values of a case: each kid of Values but what stands for a comma
abbrev pub is_case_value : (above own : Kind) → Bool
is_case_value kind.Values kind.TrailingComma = false
is_case_value kind.Values kind.None = false
is_case_value kind.Values _ = true
is_case_value _ _ = false

abbrev pub own_kind : TypedNode → Kind
own_kind (marked h m ts) = h.kind

-- Whether each node has a constant exactly where one stands. `asked` says whether the place of the node asks for one.
abbrev mutual
  pub constants_stand : (ℕ → Bool) → Bool → TypedNode → Bool
  constants_stand is_def asked (marked h m ts) =
      beq (is_known m.value) (asked || names_def is_def h.kind m.meaning) && kids_stand is_def h.kind ts

  pub kids_stand : (ℕ → Bool) → Kind → TypedNodes → Bool
  kids_stand is_def above typed_none = true
  kids_stand is_def above (typed_more t typed_none) = constants_stand is_def (has_value above || is_case_value above (own_kind t)) t
  kids_stand is_def above (typed_more t (typed_more u us)) =
      constants_stand is_def (is_case_value above (own_kind t)) t && kids_stand is_def above (typed_more u us)
