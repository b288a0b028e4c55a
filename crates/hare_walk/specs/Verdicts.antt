-- What a judge's answer comes to at a node's turn.
use Rattle.std.specs.Prelude.{◌≡◌, true, List, [], ◌∷◌, ◌++◌, Ok}
use Rattle.hare_tree.specs.declared.place.Fault.{Fault}
use Rattle.hare_tree.specs.declared.stop.Stop.TheVariants.{Fault as Refused}
use Rattle.hare_tree.specs.Node.{Head}
use Rattle.hare_types.specs.declared.coercion.Ty.{Ty}
use Rattle.hare_typed.specs.Typed.{TypedNode, marked, typed_nodes}
use Rattle.hare_rules.specs.declared.declared.Local.{Local}
use Rattle.hare_rules.specs.declared.declared.DeclType.{DeclType}
use Rattle.hare_rules.specs.declared.judged.Case.{Case}
use Rattle.hare_rules.specs.declared.judged.Verdict.{Verdict}
use Rattle.hare_rules.specs.Context.{Setting, Context}
use Rattle.hare_rules.specs.Above.{Above}
use Rattle.hare_rules.specs.Settles.{settles_kids, settles_late}
use Rattle.hare_rules.specs.Flow.{Flow, locals_after, yields_after, write_each, own_settled, context}
use Rattle.hare_rules.specs.Rows.{is_judged}
use Rattle.hare_rules.specs.Judged.{IsVerdict, IsRefusal}
use Rattle.hare_inference.specs.Inferred.{found, found_kids, mark_found, with_kids}
use Rattle.hare_told.specs.Told.{IsTold, IsLookedAt}
use Rattle.hare_told.specs.Enough.{told}
use Rattle.hare_walk.specs.Walks.{IsStop}

-- what has been seen behind a node of this type
abbrev pub flow_of : Context → Above → Head → List TypedNode → Flow → Ty → Flow
flow_of c a h xs f t =
    record {
      locals = locals_after c h.kind a.first f.locals;
      yields = yields_after h.kind a.inside.labels h xs f.yields;
      coercions = write_each (settles_kids c) (f.coercions ++ own_settled c t ∷ []);
      late = f.late ++ settles_late c h.kind;
    }

-- Where a judge is told of a node, and the walk has looked at the rest, a verdict is that of the node's turn: its type, and where the
-- hint asks something of it its coercion. A refusal is the node's first fault.
pub record IsTurnOf (w : Setting) (a : Above) (h : Head) (xs : List TypedNode) (f : Flow) (ds : List DeclType) (ls : List Local) (q : Case)
    (c : Context) : Type 0 where
  pub accepted : (v : Verdict) → IsVerdict (told c ds ls q) q.yields v →
      with_kids w a h (Ok (found_kids xs f)) ≡ Ok (found (marked h (mark_found c v.ty) (typed_nodes xs)) (flow_of c a h xs f v.ty))
  pub own : (v : Verdict) → IsVerdict (told c ds ls q) q.yields v → is_judged c ≡ true → own_settled c v.ty ≡ v.own
  pub refused : (e : Fault) → IsRefusal (told c ds ls q) e → IsStop (Refused e) (with_kids w a h (Ok (found_kids xs f)))

abbrev pub VerdictsTurn : Type 0
VerdictsTurn =
    (w : Setting) (a : Above) (h : Head) (xs : List TypedNode) (f : Flow) (ds : List DeclType) (ls : List Local) (q : Case)
    → IsTold (context w a h xs f) ds ls q
    → IsLookedAt (context w a h xs f)
    → IsTurnOf w a h xs f ds ls q (context w a h xs f)
