-- That what typing rules give of a tree is enough to tell its constant.
use Rattle.std.specs.Prelude.{◌≡◌, ◌<◌, ◌^◌, ℕ, true, Some}
use Rattle.hare_tree.specs.declared.kind.Kind.{Kind}
use Rattle.hare_tree.specs.declared.kind.Kind.TheVariants as kind
use Rattle.hare_types.specs.declared.row.Row.TheVariants as row
use Rattle.hare_types.specs.Store.{Store}
use Rattle.hare_types.specs.Sound.{IsStore}
use Rattle.hare_types.specs.ByIds.{row_at}
use Rattle.hare_typed.specs.Typed.{TypedNode, TypedNodes, marked, typed_none, typed_more}
use Rattle.hare_typed.specs.Settled.{PlainKind, IsSettled}
use Rattle.hare_rules.specs.Context.{Setting, declaration}
use Rattle.hare_rules.specs.Operators.{declares_type}
use Rattle.hare_constancy.specs.Measured.{AreMeasured}
use Rattle.hare_constancy.specs.Met.{IsMet}

-- a literal of this kind is below the end of the numbers that whole numbers without a suffix have
abbrev pub IsSmall : Kind → ℕ → Type 0
IsSmall kind.Number n = n < 2 ^ 127
IsSmall kind.RuneLit n = n < 2 ^ 127
IsSmall _ n = Unit {0}

abbrev mutual
  pub HasSmallLiterals : TypedNode → Type 0
  HasSmallLiterals (marked h m ts) = IsSmall h.kind h.number × HaveSmallLiterals ts

  pub HaveSmallLiterals : TypedNodes → Type 0
  HaveSmallLiterals typed_none = Unit {0}
  HaveSmallLiterals (typed_more t ts) = HasSmallLiterals t × HaveSmallLiterals ts

-- a name that a type of the store has is that of a declared type
abbrev pub NamesAreTypes : Setting → Type 0
NamesAreTypes w = (t d : ℕ) → row_at w.store t ≡ Some (row.Named d) → declares_type (declaration w d) d ≡ true

-- the texts are told that a node compares, unless a node of its operands is of no constant kind
abbrev pub IsTextTold : Store → Kind → TypedNodes → Type 0
IsTextTold s kind.Equal ts = PlainKind s kind.Equal ts
IsTextTold s _ ts = Unit {0}

-- the same of each node of the tree
abbrev mutual
  pub TextsAreTold : Store → TypedNode → Type 0
  TextsAreTold s (marked h m ts) = IsTextTold s h.kind ts × EachTextTold s ts

  pub EachTextTold : Store → TypedNodes → Type 0
  EachTextTold s typed_none = Unit {0}
  EachTextTold s (typed_more t ts) = TextsAreTold s t × EachTextTold s ts

-- The constant of a tree can be told that meets its rows, whose types are known, whose literals are small, and of which the texts are told
-- that it compares.
abbrev pub MetTreesAreSettled : Type 0
MetTreesAreSettled =
    (w : Setting) (t : TypedNode) → IsStore w.store → NamesAreTypes w → IsMet w t → AreMeasured w.store t → HasSmallLiterals t
    → TextsAreTold w.store t → IsSettled w.store t
