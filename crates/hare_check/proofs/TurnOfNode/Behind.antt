-- What has been seen behind kids that have been inferred.
use Rattle.std.proofs.Common.{◌≡◌, List, [], ◌∷◌, ◌++◌, map, refl, ap, sym, ◌∙◌, subst, append_assoc, Result, Ok, Err}
use Rattle.std.proofs.lemmas.List.{append-nil}
use Rattle.hare_tree.specs.Node.{Head, Node, Nodes, none, more}
use Rattle.hare_typed.specs.Typed.{TypedNode, typed_nodes}
use Rattle.hare_typed.specs.Erased.{erase, erase_each}
use Rattle.hare_rules.specs.Context.{Setting}
use Rattle.hare_rules.specs.Above.{Above, over_kid}
use Rattle.hare_rules.specs.Flow.{Flow, flow_before}
use Rattle.hare_rules.specs.Finished.{bare, behind, behind_each}
use Rattle.hare_inference.specs.Inferred.{Reason, Found, FoundKids, found_kids, then_kids, infer, infer_each}
use Rattle.hare_inference.specs.Laws.{IsFound}
use Rattle.hare_inference.proofs.Found.{finds}

-- These are found behind some: they have no coercions, and this has been seen behind them.
pub record AreBehind (w : Setting) (a : Above) (h : Head) (xs : List TypedNode) (ts : Nodes) (f : Flow) (ys : List TypedNode) (g : Flow) :
    Type 0 where
  pub rest : List TypedNode
  pub split : ys ≡ xs ++ rest
  pub plain : map bare rest ≡ rest
  pub erases : erase_each (typed_nodes rest) ≡ ts
  pub flow : behind_each w a h xs (typed_nodes rest) f ≡ g

behind-more : (w : Setting) (a : Above) (h : Head) (xs : List TypedNode) (t : Node) (ts : Nodes) (f g i : Flow) (x : TypedNode)
    (ys : List TypedNode) → IsFound w (over_kid w a h xs t ts) t (flow_before w a h xs f) x g → AreBehind w a h (xs ++ x ∷ []) ts g ys i →
    AreBehind w a h xs (more t ts) f ys i
behind-more w a h xs t ts f g i x ys p q =
    let b = flow_before w a h xs f in
    let over : over_kid w a h xs (erase x) (erase_each (typed_nodes q.rest)) ≡ over_kid w a h xs t ts =
    ap (λ u. over_kid w a h xs u (erase_each (typed_nodes q.rest))) p.erases ∙ ap (over_kid w a h xs t) q.erases in
    let one : behind w (over_kid w a h xs (erase x) (erase_each (typed_nodes q.rest))) x b ≡ g = ap (λ o. behind w o x b) over ∙ p.flow in
    record {
      rest = x ∷ q.rest;
      split = q.split ∙ append_assoc xs (x ∷ []) q.rest;
      plain = let u = p.plain in let v = q.plain in cc;
      erases = let u = p.erases in let v = q.erases in cc;
      flow =
          ap (λ z. behind_each w a h (xs ++ z ∷ []) (typed_nodes q.rest)
          (behind w (over_kid w a h xs (erase x) (erase_each (typed_nodes q.rest))) x b)) p.plain
          ∙ ap (behind_each w a h (xs ++ x ∷ []) (typed_nodes q.rest)) one
          ∙ q.flow;
    }

behind-then : (w : Setting) (a : Above) (h : Head) (xs : List TypedNode) (t : Node) (ts : Nodes) (f : Flow) (r : FoundKids)
    (s : Result Found Reason) →
    ((q : Found) → s ≡ Ok q → IsFound w (over_kid w a h xs t ts) t (flow_before w a h xs f) q.tree q.flow) →
    ((q : Found) → infer_each w a h (xs ++ q.tree ∷ []) ts q.flow ≡ Ok r → AreBehind w a h (xs ++ q.tree ∷ []) ts q.flow r.trees r.flow) →
    then_kids s (λ x g. infer_each w a h (xs ++ x ∷ []) ts g) ≡ Ok r → AreBehind w a h xs (more t ts) f r.trees r.flow
behind-then w a h xs t ts f r (Err e) k l p = cc
behind-then w a h xs t ts f r (Ok q) k l p = behind-more w a h xs t ts f q.flow r.flow q.tree r.trees (k q refl) (l q p)

pub kids-behind : (w : Setting) (a : Above) (h : Head) (xs : List TypedNode) (ts : Nodes) (f : Flow) (r : FoundKids) →
    infer_each w a h xs ts f ≡ Ok r → AreBehind w a h xs ts f r.trees r.flow
unfolding infer_each
kids-behind w a h xs none f r p =
    let e : r ≡ found_kids xs f = cc in
    subst
    (λ (z : FoundKids). AreBehind w a h xs none f z.trees z.flow)
    (sym e)
    (record { rest = []; split = sym (append-nil xs); plain = refl; erases = refl; flow = refl })
kids-behind w a h xs (more t ts) f r p =
    behind-then w a h xs t ts f r (infer w (over_kid w a h xs t ts) t (flow_before w a h xs f))
    (λ q e. finds w (over_kid w a h xs t ts) t (flow_before w a h xs f) q e)
    (λ q e. kids-behind w a h (xs ++ q.tree ∷ []) ts q.flow r e) p
