-- That a well-typed value of a declaration has all that its constant rests on.
use Rattle.std.specs.Prelude.{◌≡◌, ◌≤◌, ◌^◌, ℕ, true, List}
use Rattle.hare_types.specs.declared.coercion.Coercion.{Coercion}
use Rattle.hare_types.specs.Sound.{IsStore}
use Rattle.hare_typed.specs.declared.constant.Const.TheVariants as constant
use Rattle.hare_typed.specs.Typed.{TypedNode, mark_of}
use Rattle.hare_typed.specs.Coats.{with_coercion}
use Rattle.hare_typed.specs.Constants.{own_kind}
use Rattle.hare_typed.specs.ConstantForms.{own_type}
use Rattle.hare_typed.specs.Erased.{erase}
use Rattle.hare_typed.specs.Folded.{folded}
use Rattle.hare_typed.specs.Settled.{IsReady}
use Rattle.hare_rules.specs.Above.{Above, trees_in}
use Rattle.hare_rules.specs.Context.{Setting, DeclaredValue, Entry}
use Rattle.hare_rules.specs.Finished.{IsWell}
use Rattle.hare_rules.specs.Flow.{flow_at}
use Rattle.hare_rules.specs.Values.{declared_coercion}
use Rattle.hare_constancy.specs.Coherent.{DefsAgree, IsStatic, CasesList}
use Rattle.hare_constancy.specs.Laws.{NamesAreTypes}
use Rattle.hare_constancy.specs.Measured.{AreMeasured}
use Rattle.hare_constancy.specs.Met.{is_in_role, GoesTo}
use Rattle.hare_constancy.specs.Texts.{HasShortTexts, DefsAreTold}
use Rattle.hare_constancy.specs.Well.{asked}

-- What is known of the program when the value of this declaration is judged: its types are a store, names of types are those of declared
-- types, and the constants of defs are what values come to.
pub record IsKnownFor (w : Setting) (own : ℕ) : Type 0 where
  pub store : IsStore w.store
  pub names : NamesAreTypes w
  pub told : DefsAreTold w
  pub agree : DefsAgree w own

-- The value is well typed, nothing has been judged before it but bindings, and what stands there may stand in its role. It has no more than
-- 2^32 nodes, its strings are shorter, and the values of cases that stand in it list objects of its strings and of defs.
pub record IsWellValue (w : Setting) (a : Above) (ls : List Entry) (t : TypedNode) : Type 0 where
  pub well : IsWell w a (flow_at ls) t
  pub role : is_in_role a.inside.role (own_kind t) ≡ true
  pub few : trees_in (erase t) ≤ 2 ^ 32
  pub short : HasShortTexts t
  pub cases : CasesList (IsStatic w a.inside.own t) t

-- It is so when the constant is asked for, with any coercion that the value may have, where its types are known and small.
abbrev pub AskedValuesAreReady : Type 0
AskedValuesAreReady =
    (w : Setting) (a : Above) (ls : List Entry) (t : TypedNode) (r : Coercion) → IsKnownFor w a.inside.own → IsWellValue w a ls t →
    GoesTo w.store (own_type t) r → AreMeasured w.store (asked w a (flow_at ls) r t) →
    IsReady w.store a.inside.own (asked w a (flow_at ls) r t)

-- The value of a def or a global carries the constant of such a tree: that with the coercion which it has in the end, to what it is asked for
-- or to its default.
abbrev pub DeclaredValuesAreReady : Type 0
DeclaredValuesAreReady =
    (w : Setting) (a : Above) (ls : List Entry) (t : TypedNode) → IsKnownFor w a.inside.own → IsWellValue w a ls t →
    a.inside.role ≡ DeclaredValue →
    AreMeasured w.store (asked w a (flow_at ls) (declared_coercion w.store a.hint (own_type t)) t) →
    IsReady w.store a.inside.own (asked w a (flow_at ls) (declared_coercion w.store a.hint (own_type t)) t)
    × ((mark_of t).value ≡ folded w.store a.inside.own (asked w a (flow_at ls) (declared_coercion w.store a.hint (own_type t)) t))

-- It is so of the finished value, too, where this has no constant, so that it can be told at which node.
abbrev pub WellValuesAreReady : Type 0
WellValuesAreReady =
    (w : Setting) (a : Above) (ls : List Entry) (t : TypedNode) (r : Coercion) → IsKnownFor w a.inside.own → IsWellValue w a ls t →
    GoesTo w.store (own_type t) r → AreMeasured w.store (with_coercion r t) → (mark_of t).value ≡ constant.Absent →
    IsReady w.store a.inside.own (with_coercion r t)
