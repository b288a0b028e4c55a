-- That the tree and what has been seen behind a node's turn are those that its turn gives.
use Rattle.std.proofs.Common.{◌≡◌, List, [], ◌∷◌, map, refl, ap, sym, ◌∙◌, Option, Some, None, Ok}
use Rattle.hare_tree.specs.Node.{Head, Node, head, kids_of}
use Rattle.hare_types.specs.declared.coercion.Coercion.{Coercion}
use Rattle.hare_types.specs.declared.coercion.Ty.{Ty}
use Rattle.hare_types.specs.Store.{Store}
use Rattle.hare_types.specs.Sound.{IsStore}
use Rattle.hare_types.specs.Later.{IsLater}
use Rattle.hare_types.proofs.LaterLemmas.{later_here}
use Rattle.hare_typed.specs.Typed.{TypedNode, Mark, marked, typed_nodes}
use Rattle.hare_typed.specs.Coats.{coat}
use Rattle.hare_rules.specs.Context.{Setting}
use Rattle.hare_rules.specs.Above.{Above}
use Rattle.hare_rules.specs.Settles.{same, settled_kids}
use Rattle.hare_rules.specs.Flow.{Flow, count, context, meaning_of, flow_after, settled_type}
use Rattle.hare_rules.specs.Values.{value_of}
use Rattle.hare_rules.specs.Types.{type_of}
use Rattle.hare_rules.specs.Rows.{first_failing}
use Rattle.hare_rules.specs.Finished.{bare, bare_each, behind, behind_each}
use Rattle.hare_inference.specs.Inferred.{found, found_kids, mark_found, judged, judged_by, typed_or, with_type, with_kids, infer, infer_each}
use Rattle.hare_inference.specs.Turns.{turned}
use Rattle.hare_inference.proofs.Found.{finds}
use Rattle.hare_inference.proofs.Turns.{turns_settle}
use Rattle.hare_walk.specs.Walks.{IsInHand, IsTurned}
use Rattle.hare_walk.proofs.Steps.{infer_at}
use Rattle.hare_find.specs.declared.finding.Finding.{Finding}
use Rattle.hare_find.specs.Findings.{IsFoundAt}
use Rattle.hare_find.specs.Listed.{coated_one, coated_each}
use Rattle.hare_find.specs.Settling.{option_in}
use Rattle.hare_check.specs.Turned.{context_at, IsClosed}
use Rattle.hare_check.proofs.TurnOfNode.Behind.{kids-behind}

-- ---- kids without their coercions

bare-coated_one : (x : TypedNode) (o : Option Coercion) → bare (coated_one x o) ≡ bare x
bare-coated_one x None = refl
bare-coated_one (marked h m ts) (Some r) = refl

bare-coated : (xs : List TypedNode) (os : List (Option Coercion)) → map bare (coated_each xs os) ≡ map bare xs
bare-coated [] os = refl
bare-coated (x ∷ xs) [] = refl
bare-coated (x ∷ xs) (o ∷ os) = rw (bare-coated_one x o, bare-coated xs os) refl

bare_each-nodes : (xs : List TypedNode) → bare_each (typed_nodes xs) ≡ map bare xs
bare_each-nodes [] = refl
bare_each-nodes (x ∷ xs) = ap (λ ys. bare x ∷ ys) (bare_each-nodes xs)

-- ---- the turn

with_found : (w : Setting) (a : Above) (h : Head) (xs : List TypedNode) (f : Flow) (t : Ty) →
    first_failing (context w a h xs f) ≡ None →
    type_of (context w a h xs f) ≡ Some t →
    with_kids w a h (Ok (found_kids xs f))
    ≡ Ok (found (marked h (mark_found (context w a h xs f) t) (typed_nodes xs)) (flow_after w a h xs f))
with_found w a h xs f t p q =
    let c = context w a h xs f in
    let j : judged c ≡ Ok t = ap (judged_by c) p ∙ ap (typed_or c) q in
    ap (with_type w a h xs f) j

plain_mark : (w : Setting) (a : Above) (h : Head) (xs : List TypedNode) (f : Flow) (m : Mark) → h ≡ h → m.node ≡ count f →
    m.meaning ≡ meaning_of w h → m.value ≡ value_of (context w a h xs f) →
    mark_found (context w a h xs f) m.ty ≡ record m { coerce = same m.ty }
plain_mark w a h xs f m e n i v = cc

turned-at : (w : Store → Setting) (s : Store) (a : Above) (n : Node) (xs : List TypedNode) (f g : Flow) (x : Finding) (m : Mark)
    (ys : List TypedNode) (l : Store) → IsClosed w s a n xs f g x m ys → IsLater s l →
    with_kids (w l) a (head n) (Ok (found_kids (map bare xs) f))
    ≡ Ok (found (bare (marked (head n) m (typed_nodes ys))) g)
turned-at w s a n xs f g x m ys l q d =
    let k : IsFoundAt (context_at w a n xs f l) xs f.coercions x = q.found l d in
    let p = with_found (w l) a (head n) (map bare xs) f m.ty k.failing (k.type ∙ ap Some (sym q.ty)) in
    let e : mark_found (context_at w a n xs f l) m.ty ≡ record m { coerce = same m.ty } =
    plain_mark (w l) a (head n) (map bare xs) f m refl q.node (q.meaning l d) (q.value l d) in
    let kids : map bare xs ≡ bare_each (typed_nodes ys) =
    sym (bare_each-nodes ys ∙ ap (map bare) q.kids ∙ bare-coated xs (map option_in x.kids)) in
    p
    ∙ ap (λ z. Ok (found (marked (head n) z (typed_nodes (map bare xs))) (flow_after (w l) a (head n) (map bare xs) f))) e
    ∙ ap (λ zs. Ok (found (marked (head n) (record m { coerce = same m.ty }) (typed_nodes zs)) (flow_after (w l) a (head n)
    (map bare xs) f))) kids
    ∙ ap (λ z. Ok (found (marked (head n) (record m { coerce = same m.ty }) (typed_nodes (bare_each (typed_nodes ys)))) z)) (sym
    (q.flow l d))

pub is_turned : (w : Store → Setting) (s : Store) (a : Above) (n : Node) (xs : List TypedNode) (f g : Flow) (x : Finding) (m : Mark)
    (ys : List TypedNode) → IsClosed w s a n xs f g x m ys → IsTurned w s a (head n) xs f (marked (head n) m (typed_nodes ys)) g
is_turned w s a n xs f g x m ys q = λ l d. turned-at w s a n xs f g x m ys l q d

-- ---- the tree in hand

bare-bare : (h : Head) (m : Mark) (xs : List TypedNode) → map bare xs ≡ xs →
    bare (marked h (record m { coerce = same m.ty }) (typed_nodes xs)) ≡ marked h (record m { coerce = same m.ty }) (typed_nodes xs)
bare-bare h m xs e =
    ap (λ zs. marked h (record m { coerce = same m.ty }) (typed_nodes zs)) (bare_each-nodes xs ∙ e)

-- a node whose kids have no coercions, over kids that have those that it settles
hand-at : (w : Setting) (a : Above) (t : Node) (xs : List TypedNode) (f0 f g : Flow) (x : Finding) (m : Mark) (ys : List TypedNode) →
    infer_each w a (head t) [] (kids_of t) f0 ≡ Ok (found_kids (map bare xs) f) →
    IsFoundAt (context w a (head t) (map bare xs) f) xs f.coercions x →
    ys ≡ coated_each xs (map option_in x.kids) → m.ty ≡ x.ty → m.coerce ≡ x.own →
    infer w a t f0 ≡ Ok (found (bare (marked (head t) m (typed_nodes ys))) g) →
    IsInHand g (marked (head t) m (typed_nodes ys))
hand-at w a t xs f0 f g x m ys kids k e ty own i =
    let c = context w a (head t) (map bare xs) f in
    let b = kids-behind w a (head t) [] (kids_of t) f0 (found_kids (map bare xs) f) kids in
    let n = record m { coerce = same m.ty } in
    let zs = bare_each (typed_nodes ys) in
    let bares : zs ≡ map bare xs = bare_each-nodes ys ∙ ap (map bare) e ∙ bare-coated xs (map option_in x.kids) in
    let plain : map bare zs ≡ zs = ap (map bare) (bares ∙ b.split) ∙ b.plain ∙ sym (bares ∙ b.split) in
    let d = finds w a t f0 (found (bare (marked (head t) m (typed_nodes ys))) g) i in
    let turn = turns_settle w a (head t) n (typed_nodes zs) f0 d.carries in
    let seen : behind_each w a (head t) [] (typed_nodes zs) f0 ≡ f =
    ap (λ us. behind_each w a (head t) [] (typed_nodes us) f0) (bares ∙ b.split) ∙ b.flow in
    let here : context w a (head t) (bare_each (typed_nodes zs)) (behind_each w a (head t) [] (typed_nodes zs) f0) ≡ c =
    ap (λ us. context w a (head t) us (behind_each w a (head t) [] (typed_nodes zs) f0)) (bare_each-nodes zs ∙ plain ∙ bares)
    ∙ ap (context w a (head t) (map bare xs)) seen in
    let settled : settled_type c (Some m.ty) ≡ m.coerce = ap (λ z. settled_type c (Some z)) ty ∙ k.own ∙ sym own in
    let node : turned c n ≡ marked (head t) m (typed_nodes ys) =
    ap (λ z. marked (head t) (record m { coerce = z }) (typed_nodes (settled_kids c))) settled
    ∙ ap (λ us. marked (head t) m (typed_nodes us)) (k.coated ∙ sym e) in
    sym
    (ap (λ z. coat z.coercions (bare (marked (head t) m (typed_nodes ys)))) (sym d.flow)
    ∙ ap (coat (behind w a (marked (head t) n (typed_nodes zs)) f0).coercions) (sym (bare-bare (head t) m zs plain))
    ∙ turn
    ∙ ap (λ z. turned z n) here
    ∙ node)

pub in_hand : (w : Store → Setting) (s : Store) (a : Above) (n : Node) (xs : List TypedNode) (f g : Flow) (x : Finding) (m : Mark)
    (ys : List TypedNode) → IsStore s → IsClosed w s a n xs f g x m ys → IsInHand g (marked (head n) m (typed_nodes ys))
in_hand w s a n xs f g x m ys v q =
    let l = later_here s v in
    let f0 = q.inferred.0 in
    let kids = q.inferred.1 s l in
    let i : infer (w s) a n f0 ≡ Ok (found (bare (marked (head n) m (typed_nodes ys))) g) =
    infer_at (w s) a n f0 (kids_of n) refl ∙ ap (with_kids (w s) a (head n)) kids ∙ turned-at w s a n xs f g x m ys s q l in
    hand-at (w s) a n xs f0 f g x m ys kids (q.found s l) q.kids q.ty q.own i
