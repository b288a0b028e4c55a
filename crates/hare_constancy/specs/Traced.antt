-- Trees of which is known where the texts come from that they compare: each node meets its rows, an equality and a cast ask nothing of
-- their operands, and a path has the constant and the type of what it names.
use Rattle.std.specs.Prelude.{◌≡◌, ℕ, Bool, true, false, Some}
use Rattle.hare_tree.specs.declared.kind.Kind.{Kind}
use Rattle.hare_tree.specs.declared.kind.Kind.TheVariants as kind
use Rattle.hare_tree.specs.declared.token.Meaning.TheVariants as meant
use Rattle.hare_typed.specs.Typed.{TypedNode, TypedNodes, marked, typed_none, typed_more, mark_of}
use Rattle.hare_typed.specs.Given.{given}
use Rattle.hare_typed.specs.Numbers.{kind_of}
use Rattle.hare_typed.specs.Constants.{own_kind}
use Rattle.hare_typed.specs.ConstantForms.{own_type}
use Rattle.hare_rules.specs.Aggregates.{is_path}
use Rattle.hare_rules.specs.Context.{Setting, Context, declaration, kid}
use Rattle.hare_rules.specs.Operators.{type_of_declaration}
use Rattle.hare_rules.specs.Values.{value_of_meaning}
use Rattle.hare_constancy.specs.Met.{IsJudged}

-- what compares texts or makes a text of its kid asks it for no type before its own turn
abbrev pub takes_texts : Kind → Bool
takes_texts kind.Equal = true
takes_texts kind.Cast = true
takes_texts _ = false

-- the kinds among whose kids the texts stand that an equality compares
abbrev pub hands_texts : Kind → Bool
hands_texts kind.Equal = true
hands_texts kind.Cast = true
hands_texts kind.Paren = true
hands_texts _ = false

-- the path has the constant of what it means, and the type of the declaration
pub record IsNamed (w : Setting) (x : TypedNode) : Type 0 where
  pub value : (mark_of x).value ≡ value_of_meaning w (mark_of x).meaning
  pub type : (d : ℕ) → (mark_of x).meaning ≡ meant.Decl d → type_of_declaration w (declaration w d) d ≡ Some (own_type x)

-- the node, whose context this is, is judged so
pub record IsTracedNode (c : Context) (t : TypedNode) : Type 0 where
  pub judged : IsJudged c t
  pub alone : (i : ℕ) → takes_texts (own_kind t) ≡ true → given (kid c i) ≡ own_type (kid c i)
  pub named : (i : ℕ) → hands_texts (own_kind t) ≡ true → is_path (kind_of (kid c i)) ≡ true → IsNamed c.setting (kid c i)

-- each node of the tree is so, over this setting
abbrev mutual
  pub IsTraced : Setting → TypedNode → Type 0
  IsTraced w (marked h m ts) = ((c : Context) × (c.setting ≡ w) × IsTracedNode c (marked h m ts)) × AreTraced w ts

  pub AreTraced : Setting → TypedNodes → Type 0
  AreTraced w typed_none = Unit {0}
  AreTraced w (typed_more t ts) = IsTraced w t × AreTraced w ts
