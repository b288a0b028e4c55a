-- What is computed of a body is what the definitions say of it.
use Rattle.std.proofs.Common.{◌≡◌, List, Bool, true, false, refl, subst, Result, Ok, Err}
use Rattle.hare_tree.specs.declared.place.Fault.{Fault}
use Rattle.hare_tree.specs.Node.{Node}
use Rattle.hare_tree.specs.Shape.{is_shaped}
use Rattle.hare_typed.specs.Typed.{TypedNode}
use Rattle.hare_typed.specs.Coats.{coat}
use Rattle.hare_rules.specs.Context.{Setting, Entry}
use Rattle.hare_rules.specs.Above.{Above}
use Rattle.hare_rules.specs.Flow.{flow_at, all_settled}
use Rattle.hare_rules.specs.Rows.{fault_of}
use Rattle.hare_rules.specs.Finished.{IsTheTree, IsTheFault, expression}
use Rattle.hare_inference.specs.Inferred.{Reason, Fails, Lacks, Found, infer}
use Rattle.hare_inference.proofs.Decided.{the_tree, the_fault}
use Rattle.worked_bodies.specs.Finding.{Well, Faulty, finding_of, where_shaped, FindingsAreExact}

is_tree : (w : Setting) (a : Above) (ls : List Entry) (t : Node) (b : Bool) (r : Result Found Reason) (u : TypedNode)
    → is_shaped expression t ≡ b
    → infer w a t (flow_at ls) ≡ r
    → where_shaped b (finding_of r) ≡ Well u
    → IsTheTree w a (flow_at ls) t u
is_tree w a ls t true (Ok r) u s i e =
    let p : coat (all_settled r.flow) r.tree ≡ u = cc in
    subst (λ x. IsTheTree w a (flow_at ls) t x) p (the_tree w a t (flow_at ls) r.tree r.flow refl s i)
is_tree w a ls t true (Err (Fails q c)) u s i e = cc
is_tree w a ls t true (Err (Lacks c)) u s i e = cc
is_tree w a ls t false r u s i e = cc

is_fault : (w : Setting) (a : Above) (ls : List Entry) (t : Node) (b : Bool) (r : Result Found Reason) (e : Fault)
    → infer w a t (flow_at ls) ≡ r
    → where_shaped b (finding_of r) ≡ Faulty e
    → IsTheFault w a (flow_at ls) t e
is_fault w a ls t true (Ok r) x i e = cc
is_fault w a ls t true (Err (Fails q c)) x i e =
    let p : fault_of q c ≡ x = cc in
    subst (λ y. IsTheFault w a (flow_at ls) t y) p (the_fault w a t (flow_at ls) q c i)
is_fault w a ls t true (Err (Lacks c)) x i e = cc
is_fault w a ls t false r x i e = cc

pub findings_are_exact : FindingsAreExact
findings_are_exact w a ls t =
    record {
      well = λ u e. is_tree w a ls t (is_shaped expression t) (infer w a t (flow_at ls)) u refl refl e;
      faulty = λ x e. is_fault w a ls t (is_shaped expression t) (infer w a t (flow_at ls)) x refl e;
    }
