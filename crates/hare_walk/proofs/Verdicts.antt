-- A judge's answer at a node's turn.
use Rattle.std.proofs.Common.{◌≡◌, List, [], ◌∷◌, ◌++◌, refl, ap, sym, ◌∙◌, Ok, Err, Some, None}
use Rattle.hare_tree.specs.Node.{Head}
use Rattle.hare_types.specs.declared.coercion.Ty.{Ty}
use Rattle.hare_typed.specs.Typed.{TypedNode, marked, typed_nodes}
use Rattle.hare_rules.specs.declared.row_id.RowId.{RowId}
use Rattle.hare_rules.specs.Context.{Setting, Context, store_of}
use Rattle.hare_rules.specs.Above.{Above}
use Rattle.hare_rules.specs.Settles.{own_coercion, settles_kids, settles_late}
use Rattle.hare_rules.specs.Flow.{Flow, locals_after, yields_after, write_each, settled_type, context, flow_after}
use Rattle.hare_rules.specs.Types.{type_of}
use Rattle.hare_rules.specs.Rows.{first_failing}
use Rattle.hare_inference.specs.Inferred.{Fails, judged, found, mark_found, with_type}
use Rattle.hare_told.specs.Enough.{told, IsSameVerdict}
use Rattle.hare_told.proofs.Verdicts.{told_is_enough}
use Rattle.hare_walk.specs.Verdicts.{flow_of, VerdictsTurn}

judged_as : (c : Context) (t : Ty) → first_failing c ≡ None → type_of c ≡ Some t → judged c ≡ Ok t
judged_as c t e d = rw (e, d) refl

failed_as : (c : Context) (r : RowId) → first_failing c ≡ Some r → judged c ≡ Err (Fails r c)
failed_as c r e = rw e refl

flow_as : (w : Setting) (a : Above) (h : Head) (xs : List TypedNode) (f : Flow) (t : Ty) → type_of (context w a h xs f) ≡ Some t →
    flow_after w a h xs f ≡ flow_of (context w a h xs f) a h xs f t
flow_as w a h xs f t e =
    let c = context w a h xs f in
    ap
    (λ o. record {
      locals = locals_after c h.kind a.first f.locals;
      yields = yields_after h.kind a.inside.labels h xs f.yields;
      coercions = write_each (settles_kids c) (f.coercions ++ settled_type c o ∷ []);
      late = f.late ++ settles_late c h.kind;
    })
    e

pub verdicts_turn : VerdictsTurn
verdicts_turn w a h xs f ds ls q t k =
    let c = context w a h xs f in
    let s : IsSameVerdict c (told c ds ls q) = told_is_enough c ds ls q t k in
    record {
      accepted = λ v i.
          let e : first_failing c ≡ None = sym s.failing ∙ i.rows in
          let d : type_of c ≡ Some v.ty = sym s.type ∙ i.type in
          ap (with_type w a h xs f) (judged_as c v.ty e d)
          ∙ ap (λ g. Ok (found (marked h (mark_found c v.ty) (typed_nodes xs)) g)) (flow_as w a h xs f v.ty d);
      own = λ v i e. rw e (ap (λ x. own_coercion (store_of c) x v.ty) (sym t.hint) ∙ sym i.own);
      refused = λ e i.
          let r = s.refusal e i in
          (r.row, c, ap (with_type w a h xs f) (failed_as c r.row r.first), sym r.is);
    }
