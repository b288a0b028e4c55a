-- That well-typed trees meet their rows: when all is settled of them, and when their constants are asked for.
use Rattle.std.specs.Prelude.{◌≡◌, true, List, []}
use Rattle.hare_types.specs.declared.coercion.Coercion.{Coercion}
use Rattle.hare_typed.specs.Typed.{TypedNode, marked}
use Rattle.hare_typed.specs.Constants.{own_kind}
use Rattle.hare_typed.specs.ConstantForms.{own_type}
use Rattle.hare_rules.specs.Above.{Above}
use Rattle.hare_rules.specs.Context.{Setting, Entry}
use Rattle.hare_rules.specs.Finished.{bare_each, behind_each, AllCarry, IsWell}
use Rattle.hare_rules.specs.Flow.{Flow, flow_at, context}
use Rattle.hare_rules.specs.Values.{finished}
use Rattle.hare_constancy.specs.Met.{is_in_role, GoesTo, IsMet}

-- The tree of which the constant is asked for when the turn of its root is over: with this coercion, which it has in the end, over its kids as
-- they are by then.
abbrev pub asked : Setting → Above → Flow → Coercion → TypedNode → TypedNode
asked w a f r (marked h m ts) = finished (context w a h (bare_each ts) (behind_each w a h [] ts f)) m.ty r

-- Each node of a well-typed tree, before which nothing has been judged, meets its rows, where what stands there may stand in its role.
abbrev pub WellTreesAreMet : Type 0
WellTreesAreMet =
    (w : Setting) (a : Above) (ls : List Entry) (t : TypedNode) → is_in_role a.inside.role (own_kind t) ≡ true → IsWell w a (flow_at ls) t
    → IsMet w t

-- So does each node of a tree when its constant is asked for, whatever is judged behind it.
abbrev pub AskedTreesAreMet : Type 0
AskedTreesAreMet =
    (w : Setting) (a : Above) (f : Flow) (t : TypedNode) (r : Coercion) → is_in_role a.inside.role (own_kind t) ≡ true → AllCarry w a t f
    → GoesTo w.store (own_type t) r → IsMet w (asked w a f r t)
