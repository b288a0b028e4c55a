-- A well-typed value has all that its constant rests on: when its constant is asked for, and when it is finished.
use Rattle.std.proofs.Common.{◌≡◌, ◌∙◌, sym, ap, subst, refl, ℕ, ◌<◌, ◌^◌, true, List, [], arith, Some, None}
use Rattle.hare_tree.specs.Node.{Node}
use Rattle.hare_tree.specs.Shape.{is_shaped}
use Rattle.hare_types.specs.declared.coercion.Coercion.{Coercion}
use Rattle.hare_types.specs.declared.coercion.Ty.{Ty}
use Rattle.hare_types.specs.Store.{Store}
use Rattle.hare_typed.specs.declared.constant.Const.TheVariants as constant
use Rattle.hare_typed.specs.declared.constant.ConstObject.{ConstObject}
use Rattle.hare_typed.specs.Typed.{TypedNode, marked, mark_of}
use Rattle.hare_typed.specs.Coats.{with_coercion}
use Rattle.hare_typed.specs.ConstantForms.{own_type}
use Rattle.hare_typed.specs.Erased.{erase}
use Rattle.hare_typed.specs.Folded.{folded}
use Rattle.hare_typed.specs.Numbers.{number_of}
use Rattle.hare_typed.specs.Settled.{IsSettled}
use Rattle.hare_typed.specs.Coherent.{IsCoherent}
use Rattle.hare_rules.specs.Above.{Above}
use Rattle.hare_rules.specs.declared.hint.Hint.{Hint}
use Rattle.hare_rules.specs.declared.hint.Hint.TheVariants as hint
use Rattle.hare_rules.specs.Context.{Setting, Role, DeclaredValue, Entry}
use Rattle.hare_rules.specs.Finished.{bare_each, behind_each, AllCarry, expression}
use Rattle.hare_rules.specs.Flow.{Flow, flow_at, context}
use Rattle.hare_rules.specs.Values.{value_as, value_by_type, declared_coercion}
use Rattle.hare_rules.specs.Words.{default_in}
use Rattle.hare_inference.proofs.Orders.{number_of-root}
use Rattle.hare_constancy.specs.Coherent.{IsStatic, ListsOnly}
use Rattle.hare_constancy.specs.Measured.{AreMeasured}
use Rattle.hare_constancy.specs.Met.{GoesTo}
use Rattle.hare_constancy.specs.Ready.{IsKnownFor, IsWellValue, AskedValuesAreReady, DeclaredValuesAreReady, WellValuesAreReady}
use Rattle.hare_constancy.specs.Texts.{HasShortTexts}
use Rattle.hare_constancy.specs.Traced.{IsTraced}
use Rattle.hare_constancy.specs.Well.{asked}
use Rattle.hare_constancy.proofs.Coherent.Values.{AllList, lists_none, each_lists, defs_static, tree_coherent, asked_trees_are_coherent}
use Rattle.hare_constancy.proofs.Ready.Heads.{erase-asked, erase-with_coercion, short-asked, short-with_coercion}
use Rattle.hare_constancy.proofs.Ready.Literals.{small_literals}
use Rattle.hare_constancy.proofs.Texts.Told.{traced_texts_are_told}
use Rattle.hare_constancy.proofs.Trees.{met_trees_are_settled}
use Rattle.hare_constancy.proofs.Well.Hands.{recoerced}
use Rattle.hare_constancy.proofs.Well.Numbers.{IsRanged, ranged}
use Rattle.hare_constancy.proofs.Well.Whole.{met, well-traced, asked-traced}

traced_settled : (w : Setting) (own : ℕ) (t : TypedNode) → IsKnownFor w own → IsTraced w t → is_shaped expression (erase t) ≡ true →
    AreMeasured w.store t → HasShortTexts t → IsSettled w.store t
traced_settled w own t k p e a q =
    met_trees_are_settled w t k.store k.names (met w t p) a (small_literals expression t e)
    (traced_texts_are_told w t k.store k.told p e a q)

pub asked_values_are_ready : AskedValuesAreReady
asked_values_are_ready w a ls t r k v g q =
    let f = flow_at ls in
    let traced = asked-traced w a f t r v.role v.well.carries g in
    let shaped : is_shaped expression (erase (asked w a f r t)) ≡ true =
    ap (λ (x : Node). is_shaped expression x) (erase-asked w a f r t) ∙ v.well.shaped in
    record {
      settled = traced_settled w a.inside.own (asked w a f r t) k traced shaped q (short-asked w a f r t v.short);
      coherent = asked_trees_are_coherent w a ls t r v.well.carries k.agree v.cases v.few;
    }

-- ---- the value of a declaration

declared-goes : (s : Store) (g : Hint) (f : Ty) → GoesTo s f (declared_coercion s g f)
declared-goes s hint.None f = (default_in s f, refl)
declared-goes s hint.Drop f = (None, refl)
declared-goes s (hint.Of u) f = (Some u, refl)

-- it carries the constant of the tree that was asked for
carried-asked : (w : Setting) (a : Above) (f : Flow) (t : TypedNode) → AllCarry w a t f → a.inside.role ≡ DeclaredValue →
    (mark_of t).value ≡ folded w.store a.inside.own (asked w a f (declared_coercion w.store a.hint (own_type t)) t)
carried-asked w a f (marked h m ts) k e =
    let c = context w a h (bare_each ts) (behind_each w a h [] ts f) in
    k.1.value ∙ ap (value_by_type c) k.1.type ∙ ap (λ (o : Role). value_as c o m.ty) e

pub declared_values_are_ready : DeclaredValuesAreReady
declared_values_are_ready w a ls t k v e q =
    let goes = declared-goes w.store a.hint (own_type t) in (
      asked_values_are_ready w a ls t (declared_coercion w.store a.hint (own_type t)) k v goes q,
      carried-asked w a (flow_at ls) t v.well.carries e,
    )

-- ---- the finished value

finished_coherent : (w : Setting) (a : Above) (ls : List Entry) (t : TypedNode) (r : Coercion) → IsKnownFor w a.inside.own →
    IsWellValue w a ls t → (mark_of t).value ≡ constant.Absent → IsCoherent w.store a.inside.own (with_coercion r t)
finished_coherent w a ls (marked h m ts) r k v e =
    let f = flow_at ls in
    let t = marked h m ts in
    let P : ConstObject → Type 0 = IsStatic w a.inside.own (with_coercion r t) in
    let kids = each_lists w P (defs_static w a.inside.own (with_coercion r t)) a h [] ts f v.well.carries.0 v.cases in
    let all : AllList P (with_coercion r t) = (subst (ListsOnly P) (sym e) (lists_none P), kids) in
    let place : IsRanged 0 (with_coercion r t) = ranged w a t f v.well.carries in
    let root = number_of-root w a t f v.well.carries in
    let few = v.few in
    let below : number_of (with_coercion r t) < 2 ^ 32 = omega (arith, root, few) in
    λ compares. tree_coherent w a.inside.own (with_coercion r t) k.agree all place below

pub well_values_are_ready : WellValuesAreReady
well_values_are_ready w a ls t r k v g q e =
    let traced = recoerced w t r (well-traced w a ls t v.role v.well) g in
    let shaped : is_shaped expression (erase (with_coercion r t)) ≡ true =
    ap (λ (x : Node). is_shaped expression x) (erase-with_coercion r t) ∙ v.well.shaped in
    record {
      settled = traced_settled w a.inside.own (with_coercion r t) k traced shaped q (short-with_coercion r t v.short);
      coherent = finished_coherent w a ls t r k v e;
    }
