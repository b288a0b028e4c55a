-- A well-typed tree meets its rows, and so does the tree of which a constant is asked for.
use Rattle.std.proofs.Common.{◌≡◌, subst, refl, ℕ, true, List, [], arith}
use Rattle.hare_tree.specs.declared.kind.Kind.TheVariants as kind
use Rattle.hare_types.specs.declared.coercion.Ty.{Ty}
use Rattle.hare_types.specs.declared.coercion.Coercion.{Coercion}
use Rattle.hare_typed.specs.Typed.{TypedNode, TypedNodes, Mark, marked, typed_none, typed_more}
use Rattle.hare_typed.specs.Constants.{own_kind}
use Rattle.hare_typed.specs.ConstantForms.{own_type}
use Rattle.hare_rules.specs.Above.{Above}
use Rattle.hare_rules.specs.Context.{Setting, Entry}
use Rattle.hare_rules.specs.Finished.{bare, bare_each, behind, behind_each, AllCarry, IsWell}
use Rattle.hare_rules.specs.Flow.{Flow, flow_at, all_settled, context}
use Rattle.hare_rules.specs.Values.{value_named}
use Rattle.hare_inference.proofs.Decided.{exact}
use Rattle.hare_constancy.specs.Met.{is_in_role, GoesTo, IsMet, AreMet}
use Rattle.hare_constancy.specs.Traced.{IsTraced, AreTraced}
use Rattle.hare_constancy.specs.Well.{asked, WellTreesAreMet, AskedTreesAreMet}
use Rattle.hare_constancy.proofs.Well.Hands.{hand-traced, kids-in_hand, first-length, node-traced, kids-traced}
use Rattle.hare_constancy.proofs.Well.Numbers.{AreYielded, EachYield, ranged, each-yield, yielded-bare}
use Rattle.hare_constancy.proofs.Well.Late.{flow-behind, left_each-same, left-write_each, recoated_each}

-- ---- what is traced is met

mutual
  pub met : (w : Setting) (t : TypedNode) → IsTraced w t → IsMet w t
  met w (marked h m ts) p = ((p.0.0, p.0.1, p.0.2.judged), met_each w ts p.1)

  pub met_each : (w : Setting) (ts : TypedNodes) → AreTraced w ts → AreMet w ts
  met_each w typed_none p = tt
  met_each w (typed_more t ts) p = (met w t p.0, met_each w ts p.1)

-- ---- a well-typed tree

-- what is said of the numbers of its kids, by a tree that stands in no `yield`
abbrev Yielded : TypedNode → ℕ → Ty → Type 0
Yielded t n a = AreYielded n a kind.None (typed_more (bare t) typed_none)

each-yielded : (w : Setting) (a : Above) (t : TypedNode) (f : Flow) → AllCarry w a t f → EachYield (Yielded t) t
each-yielded w a (marked h m ts) f k =
    let t = marked h m ts in
    each-yield (Yielded t) _ t (ranged w a t f k) (λ n b l u y. (λ z. absurd (omega (arith, z, u)), yielded-bare n b t y, tt))

pub well-traced : (w : Setting) (a : Above) (ls : List Entry) (t : TypedNode) → is_in_role a.inside.role (own_kind t) ≡ true →
    IsWell w a (flow_at ls) t → IsTraced w t
well-traced w a ls t r q =
    let f = flow_at ls in
    let g = behind w a t f in
    let us = typed_more (bare t) typed_none in
    let flow = flow-behind w (Yielded t) a t f (each-yielded w a t f q.carries) (record { yields = tt; late = tt }) in
    let left = left-write_each w.store kind.None us g.late g.coercions g.coercions flow.late
    (left_each-same w.store g.coercions kind.None us) in
    let whole = recoated_each w (all_settled g) g.coercions kind.None us (hand-traced w a t f q.carries r, tt) left in
    subst (IsTraced w) ((exact w a f).of_tree t refl q) whole.0

pub well_trees_are_met : WellTreesAreMet
well_trees_are_met w a ls t r q = met w t (well-traced w a ls t r q)

-- ---- a tree of which the constant is asked for

pub asked-traced : (w : Setting) (a : Above) (f : Flow) (t : TypedNode) (r : Coercion) → is_in_role a.inside.role (own_kind t) ≡ true →
    AllCarry w a t f → GoesTo w.store (own_type t) r → IsTraced w (asked w a f r t)
asked-traced w a f (marked h m ts) r e k g =
    let c = context w a h (bare_each ts) (behind_each w a h [] ts f) in
    let q = kids-in_hand w a h [] ts f k.0 (λ y. first-length w a h m ts f k e y) in
    let n : Mark = record { node = c.node; ty = m.ty; coerce = r; meaning = c.meaning; value = value_named c } in
    ((c, refl, node-traced w a h m ts f k e q n refl g), kids-traced w a h m ts f k q)

pub asked_trees_are_met : AskedTreesAreMet
asked_trees_are_met w a f t r e k g = met w (asked w a f r t) (asked-traced w a f t r e k g)
