-- So there is one well-typed tree, or one first fault, or a type that the store lacks: each is what inference gives, and that is a
-- function.
use Rattle.std.proofs.Common.{◌≡◌, ◌⊎◌, IsTrue, ◌+◌, [], ◌++◌, length, refl, ap, sym, ◌∙◌, subst, Result, Ok, Err, inl, inr, arith}
use Rattle.std.proofs.lemmas.List.{append_cancel_left}
use Rattle.hare_tree.specs.declared.place.Fault.{Fault}
use Rattle.hare_tree.specs.Node.{Node}
use Rattle.hare_tree.specs.Shape.{is_shaped}
use Rattle.hare_typed.specs.Typed.{TypedNode}
use Rattle.hare_typed.specs.Erased.{erase}
use Rattle.hare_typed.specs.Order.{check_order}
use Rattle.hare_rules.specs.declared.row_id.RowId.{RowId}
use Rattle.hare_typed.specs.Coats.{coat}
use Rattle.hare_rules.specs.Context.{Setting, Context}
use Rattle.hare_rules.specs.Above.{Above, trees_in}
use Rattle.hare_rules.specs.Flow.{Flow, count, all_settled}
use Rattle.hare_rules.specs.Rows.{fault_of}
use Rattle.hare_rules.specs.Finished.{bare, behind, coercions, IsWell, FailsIn, IsTheTree, IsTheFault, expression}
use Rattle.hare_inference.specs.Inferred.{Reason, Fails, Lacks, Found, found, infer}
use Rattle.hare_inference.specs.Lacking.{LacksIn}
use Rattle.hare_inference.specs.Laws.{IsOneFault, OneTree, OneFault, TreeOrFault, IsFound, InferenceIsExact}
use Rattle.hare_inference.proofs.Orders.{length-check_order, length-all_settled, count-behind}
use Rattle.hare_inference.proofs.Bares.{by_coercions}
use Rattle.hare_inference.proofs.Coats.{erase-coat, behind-coat, carries-coat, coercions-coat_whole}
use Rattle.hare_inference.proofs.Carried.{carried, faulted, lacked}
use Rattle.hare_inference.proofs.Found.{finds, fails_in, lacks_in}

-- ---- at most one

pub one_tree : OneTree
one_tree w a f t u e h k =
    let p = carried w a t f h.carries in
    let q = carried w a u f k.carries in
    let s : infer w a (erase t) f ≡ infer w a (erase u) f = ap (λ x. infer w a x f) e in
    let r : found (bare t) (behind w a t f) ≡ found (bare u) (behind w a u f) = cc in
    let g : all_settled (behind w a t f) ≡ all_settled (behind w a u f) = ap (λ (x : Found). all_settled x.flow) r in
    let c : coercions t ≡ coercions u = append_cancel_left f.coercions (coercions t) (coercions u) (h.coerced ∙ g ∙ sym k.coerced) in
    by_coercions t u (ap (λ (x : Found). x.tree) r) c

fails_parts : (r q : RowId) (c d : Context) → Fails r c ≡ Fails q d → IsOneFault r q c d
fails_parts r q c d e =
    let i : r ≡ q = cc in
    let j : c ≡ d = cc in
    record { row = i; at = j; fault = ap (λ x. fault_of x c) i ∙ ap (fault_of q) j }

pub one_fault : OneFault
one_fault w a f t r q c d h k =
    let x = faulted w a t f r c h in
    let y = faulted w a t f q d k in
    let e : Fails r c ≡ Fails q d = cc in
    fails_parts r q c d e

tree_or_fault : (w : Setting) (a : Above) (f : Flow) (u : TypedNode) (r : RowId) (c : Context) → IsWell w a f u →
    ¬ FailsIn w a (erase u) f r c
tree_or_fault w a f u r c h k =
    let p = carried w a u f h.carries in
    let q = faulted w a (erase u) f r c k in
    cc

tree_or_lack : (w : Setting) (a : Above) (f : Flow) (u : TypedNode) (c : Context) → IsWell w a f u → ¬ LacksIn w a (erase u) f c
tree_or_lack w a f u c h k =
    let p = carried w a u f h.carries in
    let q = lacked w a (erase u) f c k in
    cc

fault_or_lack : (w : Setting) (a : Above) (f : Flow) (t : Node) (r : RowId) (c d : Context) → FailsIn w a t f r c → ¬ LacksIn w a t f d
fault_or_lack w a f t r c d h k =
    let p = faulted w a t f r c h in
    let q = lacked w a t f d k in
    let e : Fails r c ≡ Lacks d = cc in
    cc

-- ---- what inference gives

-- what is found, with all that is settled, is well typed
well : (w : Setting) (a : Above) (t : Node) (f : Flow) (x : TypedNode) (g : Flow) → f.coercions ≡ [] → IsTrue (is_shaped expression t) →
    IsFound w a t f x g → IsWell w a f (coat (all_settled g) x)
well w a t f x g z s d =
    let cs = all_settled g in
    let e : erase (coat cs x) ≡ t = erase-coat cs x ∙ d.erases in
    let n : length cs ≡ length (check_order x) =
    length-all_settled g ∙ ap count (sym d.flow) ∙ count-behind w a x f ∙ ap (λ rs. length rs + trees_in (erase x)) z
    ∙ omega (arith, length-check_order x) in
    let b : all_settled (behind w a (coat cs x) f) ≡ cs = ap all_settled (behind-coat w cs a x f ∙ d.flow) in
    record {
      shaped = subst (λ (u : Node). IsTrue (is_shaped expression u)) (sym e) s;
      carries = carries-coat w cs a x f d.carries;
      coerced = ap (λ l. l ++ coercions (coat cs x)) z ∙ coercions-coat_whole w a x f cs z d.carries n ∙ sym b;
    }

pub the_tree : (w : Setting) (a : Above) (t : Node) (f : Flow) (x : TypedNode) (g : Flow) →
    f.coercions ≡ [] → IsTrue (is_shaped expression t) → infer w a t f ≡ Ok (found x g) → IsTheTree w a f t (coat (all_settled g) x)
the_tree w a t f x g z s p =
    let d = finds w a t f (found x g) p in
    let e : erase (coat (all_settled g) x) ≡ t = erase-coat (all_settled g) x ∙ d.erases in
    let v = well w a t f x g z s d in
    record { well = v; erases = e; only = λ u h k. one_tree w a f u (coat (all_settled g) x) (h ∙ sym e) k v }

-- a tree that is well typed is what is found with all that is settled
of_tree : (w : Setting) (a : Above) (f : Flow) (u : TypedNode) → f.coercions ≡ [] → IsWell w a f u →
    coat (all_settled (behind w a u f)) (bare u) ≡ u
of_tree w a f u z h =
    let p = carried w a u f h.carries in
    let d = the_tree w a (erase u) f (bare u) (behind w a u f) z h.shaped p in
    sym (d.only u refl h)

pub the_fault : (w : Setting) (a : Above) (t : Node) (f : Flow) (r : RowId) (c : Context) → infer w a t f ≡ Err (Fails r c) →
    IsTheFault w a f t (fault_of r c)
the_fault w a t f r c p =
    let k = fails_in w a t f r c p in
    record {
      row = r;
      at = c;
      fails = k;
      is = refl;
      only = λ q d l. (one_fault w a f t q r d c l k).fault;
      unwell = λ u h v. tree_or_fault w a f u r c v (subst (λ (x : Node). FailsIn w a x f r c) (sym h) k);
    }

pub one : (w : Setting) (a : Above) (f : Flow) (t : Node) → f.coercions ≡ [] → IsTrue (is_shaped expression t) →
    ((u : TypedNode) × IsTheTree w a f t u) ⊎ (((e : Fault) × IsTheFault w a f t e) ⊎ ((c : Context) × LacksIn w a t f c))
one w a f t z s = by_answer (infer w a t f) refl where
  by_answer : (v : Result Found Reason) → infer w a t f ≡ v →
      ((u : TypedNode) × IsTheTree w a f t u) ⊎ (((e : Fault) × IsTheFault w a f t e) ⊎ ((c : Context) × LacksIn w a t f c))
  by_answer (Ok r) p = inl (coat (all_settled r.flow) r.tree, the_tree w a t f r.tree r.flow z s p)
  by_answer (Err (Fails r c)) p = inr (inl (fault_of r c, the_fault w a t f r c p))
  by_answer (Err (Lacks c)) p = inr (inr (c, lacks_in w a t f c p))

pub decided : TreeOrFault
decided w a f =
    record { one = one w a f; tree_or_fault = tree_or_fault w a f; tree_or_lack = tree_or_lack w a f; fault_or_lack = fault_or_lack w a f }

pub exact : InferenceIsExact
exact w a f =
    record {
      finds = λ t x g p. finds w a t f (found x g) p;
      found_by = λ u k. carried w a u f k;
      fails = λ t r c. (faulted w a t f r c, fails_in w a t f r c);
      lacks = λ t c. (lacked w a t f c, lacks_in w a t f c);
      tree = λ t x g. the_tree w a t f x g;
      of_tree = of_tree w a f;
      fault = λ t r c. the_fault w a t f r c;
      of_fault = λ t e k. (k.row, k.at, faulted w a t f k.row k.at k.fails, k.is);
    }
