-- That the texts are told which a well-typed value compares.
use Rattle.std.specs.Prelude.{◌≡◌, ◌<◌, ℕ, true, false, List, length, Some, IsSome, IsTrue}
use Rattle.hare_tree.specs.declared.kind.Kind.{Kind}
use Rattle.hare_tree.specs.declared.kind.Kind.TheVariants as kind
use Rattle.hare_tree.specs.Shape.{is_shaped}
use Rattle.hare_types.specs.declared.coercion.Coercion.{Coercion}
use Rattle.hare_types.specs.declared.coercion.Ty.TheVariants as ty
use Rattle.hare_types.specs.Sound.{IsStore}
use Rattle.hare_typed.specs.Typed.{TypedNode, TypedNodes, marked, typed_none, typed_more}
use Rattle.hare_typed.specs.Erased.{erase}
use Rattle.hare_typed.specs.Constants.{own_kind, is_known}
use Rattle.hare_typed.specs.ConstantForms.{own_type}
use Rattle.hare_typed.specs.Given.{is_str}
use Rattle.hare_typed.specs.Texts.{text_in, longest}
use Rattle.hare_rules.specs.declared.declared.DeclType.{DeclType}
use Rattle.hare_rules.specs.Above.{Above}
use Rattle.hare_rules.specs.Context.{Setting, Entry, declaration}
use Rattle.hare_rules.specs.Finished.{AllCarry, IsWell, expression}
use Rattle.hare_rules.specs.Flow.{Flow, flow_at}
use Rattle.hare_rules.specs.Operators.{is_type_decl}
use Rattle.hare_constancy.specs.Laws.{TextsAreTold}
use Rattle.hare_constancy.specs.Measured.{AreMeasured}
use Rattle.hare_constancy.specs.Met.{is_in_role, GoesTo}
use Rattle.hare_constancy.specs.Traced.{IsTraced}
use Rattle.hare_constancy.specs.Well.{asked}

-- ---- strings

-- a string of this kind has fewer than 2^32 bytes
abbrev pub IsShort : Kind → List ℕ → Type 0
IsShort kind.Str x = length x < longest
IsShort _ x = Unit {0}

abbrev mutual
  pub HasShortTexts : TypedNode → Type 0
  HasShortTexts (marked h m ts) = IsShort h.kind h.text × HaveShortTexts ts

  pub HaveShortTexts : TypedNodes → Type 0
  HaveShortTexts typed_none = Unit {0}
  HaveShortTexts (typed_more t ts) = HasShortTexts t × HaveShortTexts ts

-- ---- defs

-- What is known of a declaration that has a constant: it is no type, and where its type is a text, the constant lists the object of which
-- the text has its bytes.
pub record IsToldDef (w : Setting) (d : DeclType) : Type 0 where
  pub value : is_type_decl d.kind ≡ false
  pub text : is_str w.store (ty.Of d.ty) ≡ true → IsSome (text_in d.value)

abbrev pub DefsAreTold : Setting → Type 0
DefsAreTold w = (n : ℕ) (d : DeclType) → declaration w n ≡ Some d → is_known d.value ≡ true → IsToldDef w d

-- ---- the law

-- In a well-typed tree, before which nothing has been judged, it is known where the texts come from that it compares; and so it is in a tree
-- of which the constant is asked for.
abbrev pub WellTreesAreTraced : Type 0
WellTreesAreTraced =
    (w : Setting) (a : Above) (ls : List Entry) (t : TypedNode) → is_in_role a.inside.role (own_kind t) ≡ true → IsWell w a (flow_at ls) t
    → IsTraced w t

abbrev pub AskedTreesAreTraced : Type 0
AskedTreesAreTraced =
    (w : Setting) (a : Above) (f : Flow) (t : TypedNode) (r : Coercion) → is_in_role a.inside.role (own_kind t) ≡ true → AllCarry w a t f
    → GoesTo w.store (own_type t) r → IsTraced w (asked w a f r t)

-- An operand of an equality that is a text, and whose nodes are of constant kinds, is a string or the name of a def, in parentheses or
-- not, cast to a text or not: so its bytes are told.
abbrev pub TracedTextsAreTold : Type 0
TracedTextsAreTold =
    (w : Setting) (t : TypedNode) → IsStore w.store → DefsAreTold w → IsTraced w t → IsTrue (is_shaped expression (erase t)) →
    AreMeasured w.store t → HasShortTexts t → TextsAreTold w.store t
