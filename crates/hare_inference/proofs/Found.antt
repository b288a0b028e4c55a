-- What is inferred carries what it should, and the reason for which nothing is stands where it says.
use Rattle.std.proofs.Common.{◌≡◌, Option, Some, None, List, [], ◌∷◌, ◌++◌, refl, ap, sym, ◌∙◌, subst, Result, Ok, Err, append_assoc, inl, inr}
use Rattle.std.proofs.lemmas.List.{append-nil}
use Rattle.hare_tree.specs.Node.{Head, Node, Nodes, branch, none, more}
use Rattle.hare_types.specs.declared.coercion.Ty.{Ty}
use Rattle.hare_typed.specs.Typed.{TypedNode, TypedNodes, marked, typed_none, typed_more, typed_nodes}
use Rattle.hare_typed.specs.Erased.{erase, erase_each}
use Rattle.hare_rules.specs.declared.row_id.RowId.{RowId}
use Rattle.hare_rules.specs.Context.{Setting, Context}
use Rattle.hare_rules.specs.Above.{Above, over_kid}
use Rattle.hare_rules.specs.Flow.{Flow, flow_before, flow_after, context}
use Rattle.hare_rules.specs.Types.{type_of}
use Rattle.hare_rules.specs.Rows.{first_failing}
use Rattle.hare_rules.specs.Finished.{bare, bare_each, behind, behind_each, Carries, AllCarry, EachCarries, FailsIn, EachFails}
use Rattle.hare_inference.specs.Inferred.{Reason, Fails, Lacks, typed_or, judged_by, judged, mark_found, Found, FoundKids, found, found_kids, with_type, with_kids, then_kids, infer, infer_each}
use Rattle.hare_inference.specs.Lacking.{LacksIn, EachLacks}
use Rattle.hare_inference.specs.Laws.{IsFound}

-- ---- one node

judged_ok : (c : Context) (b : Ty) → judged c ≡ Ok b → (first_failing c ≡ None) × (type_of c ≡ Some b)
judged_ok c b e = by_row (first_failing c) refl e where
  by_type : (o : Option Ty) → type_of c ≡ o → first_failing c ≡ None → typed_or c o ≡ Ok b → (first_failing c ≡ None) × (type_of c ≡ Some b)
  by_type None p q r = cc
  by_type (Some d) p q r = let i : d ≡ b = cc in (q, p ∙ ap Some i)

  by_row : (o : Option RowId) → first_failing c ≡ o → judged_by c o ≡ Ok b → (first_failing c ≡ None) × (type_of c ≡ Some b)
  by_row None p q = by_type (type_of c) refl p q
  by_row (Some r) p q = cc

-- the reason is that of the node with this context
IsReason : Context → Reason → Type 0
IsReason c (Fails r d) = (d ≡ c) × (first_failing d ≡ Some r)
IsReason c (Lacks d) = (d ≡ c) × (first_failing d ≡ None) × (type_of d ≡ None)

judged_err : (c : Context) (e : Reason) → judged c ≡ Err e → IsReason c e
unfolding IsReason
judged_err c e h = by_row (first_failing c) refl h where
  by_type : (o : Option Ty) → type_of c ≡ o → first_failing c ≡ None → typed_or c o ≡ Err e → IsReason c e
  by_type None p q r =
      let i : Lacks c ≡ e = cc in
      subst (λ (x : Reason). IsReason c x) i (refl, q, p)
  by_type (Some d) p q r = cc

  by_row : (o : Option RowId) → first_failing c ≡ o → judged_by c o ≡ Err e → IsReason c e
  by_row None p q = by_type (type_of c) refl p q
  by_row (Some r) p q =
      let i : Fails r c ≡ e = cc in
      subst (λ (x : Reason). IsReason c x) i (refl, p)

-- ---- what is found

-- the kids that are found behind some
record IsFoundEach (w : Setting) (a : Above) (h : Head) (xs : List TypedNode) (ts : Nodes) (f : Flow) (ys : List TypedNode)
    (g : Flow) : Type 0 where
  rest : TypedNodes
  carries : EachCarries w a h xs rest f
  plain : typed_nodes (bare_each rest) ≡ rest
  flow : behind_each w a h xs rest f ≡ g
  erases : erase_each rest ≡ ts
  split : ys ≡ xs ++ bare_each rest

found_node : (w : Setting) (a : Above) (h : Head) (ts : Nodes) (f : Flow) (r : Found) (s : Result FoundKids Reason) →
    ((q : FoundKids) → s ≡ Ok q → IsFoundEach w a h [] ts f q.trees q.flow) → with_kids w a h s ≡ Ok r →
    IsFound w a (branch h ts) f r.tree r.flow
found_node w a h ts f r (Err e) k p = cc
found_node w a h ts f r (Ok q) k p = by_verdict (judged (context w a h q.trees q.flow)) refl p where
  by_verdict : (v : Result Ty Reason) → judged (context w a h q.trees q.flow) ≡ v → with_type w a h q.trees q.flow v ≡ Ok r →
      IsFound w a (branch h ts) f r.tree r.flow
  by_verdict (Err e) i p = cc
  by_verdict (Ok b) i p =
      let d = k q refl in
      let c = context w a h q.trees q.flow in
      let n = mark_found c b in
      let m = judged_ok c b i in
      let z : typed_nodes q.trees ≡ d.rest = ap typed_nodes d.split ∙ d.plain in
      let y : bare_each (typed_nodes q.trees) ≡ q.trees = ap bare_each z ∙ sym d.split in
      let g : behind_each w a h [] (typed_nodes q.trees) f ≡ q.flow = ap (λ l. behind_each w a h [] l f) z ∙ d.flow in
      let own : Carries c n = record { rows = m.0; type = m.1; node = refl; meaning = refl; value = refl } in
      let all : IsFound w a (branch h ts) f (marked h n (typed_nodes q.trees)) (flow_after w a h q.trees q.flow) =
      record {
        carries = (subst (λ (l : TypedNodes). EachCarries w a h [] l f) (sym z) d.carries, rw (y, g) own);
        plain = ap (λ l. marked h n (typed_nodes l)) y;
        flow = rw (y, g) refl;
        erases = ap (branch h) (ap erase_each z ∙ d.erases);
      } in
      let e : r ≡ found (marked h n (typed_nodes q.trees)) (flow_after w a h q.trees q.flow) = cc in
      subst (λ (x : Found). IsFound w a (branch h ts) f x.tree x.flow) (sym e) all

found_more : (w : Setting) (a : Above) (h : Head) (xs : List TypedNode) (t : Node) (ts : Nodes) (f g i : Flow) (x : TypedNode)
    (ys : List TypedNode) →
    IsFound w (over_kid w a h xs t ts) t (flow_before w a h xs f) x g → IsFoundEach w a h (xs ++ x ∷ []) ts g ys i →
    IsFoundEach w a h xs (more t ts) f ys i
found_more w a h xs t ts f g i x ys p q =
    let b = flow_before w a h xs f in
    let o : over_kid w a h xs (erase x) (erase_each q.rest) ≡ over_kid w a h xs t ts =
    ap (λ u. over_kid w a h xs u (erase_each q.rest)) p.erases ∙ ap (over_kid w a h xs t) q.erases in
    let c : AllCarry w (over_kid w a h xs (erase x) (erase_each q.rest)) x b = subst (λ (z : Above). AllCarry w z x b) (sym o) p.carries in
    let d : behind w (over_kid w a h xs (erase x) (erase_each q.rest)) x b ≡ g = ap (λ z. behind w z x b) o ∙ p.flow in
    record {
      rest = typed_more x q.rest;
      carries = (c, rw (p.plain, d) q.carries);
      plain = let u = p.plain in let v = q.plain in cc;
      flow = rw (p.plain, d) q.flow;
      erases = let u = p.erases in let v = q.erases in cc;
      split = rw p.plain (q.split ∙ append_assoc xs (x ∷ []) (bare_each q.rest));
    }

found_then : (w : Setting) (a : Above) (h : Head) (xs : List TypedNode) (t : Node) (ts : Nodes) (f : Flow) (r : FoundKids)
    (s : Result Found Reason) →
    ((q : Found) → s ≡ Ok q → IsFound w (over_kid w a h xs t ts) t (flow_before w a h xs f) q.tree q.flow) →
    ((q : Found) → infer_each w a h (xs ++ q.tree ∷ []) ts q.flow ≡ Ok r → IsFoundEach w a h (xs ++ q.tree ∷ []) ts q.flow r.trees r.flow) →
    then_kids s (λ x g. infer_each w a h (xs ++ x ∷ []) ts g) ≡ Ok r → IsFoundEach w a h xs (more t ts) f r.trees r.flow
found_then w a h xs t ts f r (Err e) k l p = cc
found_then w a h xs t ts f r (Ok q) k l p = found_more w a h xs t ts f q.flow r.flow q.tree r.trees (k q refl) (l q p)

mutual
  unfolding infer infer_each

  pub finds : (w : Setting) (a : Above) (t : Node) (f : Flow) (r : Found) → infer w a t f ≡ Ok r → IsFound w a t f r.tree r.flow
  finds w a (branch h ts) f r p = found_node w a h ts f r (infer_each w a h [] ts f) (λ q i. finds_each w a h [] ts f q i) p

  finds_each : (w : Setting) (a : Above) (h : Head) (xs : List TypedNode) (ts : Nodes) (f : Flow) (r : FoundKids) →
      infer_each w a h xs ts f ≡ Ok r → IsFoundEach w a h xs ts f r.trees r.flow
  finds_each w a h xs none f r p =
      let e : r ≡ found_kids xs f = cc in
      subst
      (λ (z : FoundKids). IsFoundEach w a h xs none f z.trees z.flow)
      (sym e)
      (record { rest = typed_none; carries = tt; plain = refl; flow = refl; erases = refl; split = sym (append-nil xs) })
  finds_each w a h xs (more t ts) f r p =
      let o = over_kid w a h xs t ts in
      let g = flow_before w a h xs f in
      found_then w a h xs t ts f r (infer w o t g) (λ q i. finds w o t g q i) (λ q i. finds_each w a h (xs ++ q.tree ∷ []) ts q.flow r i) p

-- ---- reasons

-- the first node of the tree without a type has this reason
IsIn : Setting → Above → Node → Flow → Reason → Type 0
IsIn w a t f (Fails r c) = FailsIn w a t f r c
IsIn w a t f (Lacks c) = LacksIn w a t f c

IsInEach : Setting → Above → Head → List TypedNode → Nodes → Flow → Reason → Type 0
IsInEach w a h xs ts f (Fails r c) = EachFails w a h xs ts f r c
IsInEach w a h xs ts f (Lacks c) = EachLacks w a h xs ts f c

in_kids : (w : Setting) (a : Above) (h : Head) (ts : Nodes) (f : Flow) (e : Reason) → IsInEach w a h [] ts f e → IsIn w a (branch h ts) f e
unfolding IsIn IsInEach
in_kids w a h ts f (Fails r c) k = inl k
in_kids w a h ts f (Lacks c) k = inl k

in_root : (w : Setting) (a : Above) (h : Head) (xs : TypedNodes) (ts : Nodes) (f : Flow) (e : Reason) → erase_each xs ≡ ts →
    EachCarries w a h [] xs f →
    IsReason (context w a h (bare_each xs) (behind_each w a h [] xs f)) e → IsIn w a (branch h ts) f e
unfolding IsIn IsReason
in_root w a h xs ts f (Fails r c) i k (s, j) = inr (xs, i, k, s, j)
in_root w a h xs ts f (Lacks c) i k (s, j, l) = inr (xs, i, k, s, j, l)

in_kid : (w : Setting) (a : Above) (h : Head) (xs : List TypedNode) (t : Node) (ts : Nodes) (f : Flow) (e : Reason) →
    IsIn w (over_kid w a h xs t ts) t (flow_before w a h xs f) e → IsInEach w a h xs (more t ts) f e
unfolding IsIn IsInEach
in_kid w a h xs t ts f (Fails r c) k = inl k
in_kid w a h xs t ts f (Lacks c) k = inl k

in_next : (w : Setting) (a : Above) (h : Head) (xs : List TypedNode) (t : Node) (ts : Nodes) (f : Flow) (x : TypedNode) (e : Reason) →
    erase x ≡ t →
    AllCarry w (over_kid w a h xs t ts) x (flow_before w a h xs f) →
    IsInEach w a h (xs ++ bare x ∷ []) ts (behind w (over_kid w a h xs t ts) x (flow_before w a h xs f)) e → IsInEach w a h xs
    (more t ts) f e
unfolding IsInEach
in_next w a h xs t ts f x (Fails r c) i k j = inr (x, i, k, j)
in_next w a h xs t ts f x (Lacks c) i k j = inr (x, i, k, j)

stopped_node : (w : Setting) (a : Above) (h : Head) (ts : Nodes) (f : Flow) (e : Reason) (s : Result FoundKids Reason) →
    ((q : FoundKids) → s ≡ Ok q → IsFoundEach w a h [] ts f q.trees q.flow) → (s ≡ Err e → IsInEach w a h [] ts f e) →
    with_kids w a h s ≡ Err e → IsIn w a (branch h ts) f e
stopped_node w a h ts f e (Err d) k l p =
    let i : d ≡ e = cc in
    in_kids w a h ts f e (l (ap Err i))
stopped_node w a h ts f e (Ok q) k l p = by_verdict (judged (context w a h q.trees q.flow)) refl p where
  by_verdict : (v : Result Ty Reason) → judged (context w a h q.trees q.flow) ≡ v → with_type w a h q.trees q.flow v ≡ Err e →
      IsIn w a (branch h ts) f e
  by_verdict (Ok b) i p = cc
  by_verdict (Err d) i p =
      let m = k q refl in
      let j : d ≡ e = cc in
      let c : context w a h q.trees q.flow ≡ context w a h (bare_each m.rest) (behind_each w a h [] m.rest f) =
      ap (λ l. context w a h l q.flow) m.split ∙ ap (context w a h (bare_each m.rest)) (sym m.flow) in
      let n = judged_err (context w a h q.trees q.flow) e (i ∙ ap Err j) in
      in_root w a h m.rest ts f e m.erases m.carries (subst (λ (x : Context). IsReason x e) c n)

stopped_then : (w : Setting) (a : Above) (h : Head) (xs : List TypedNode) (t : Node) (ts : Nodes) (f : Flow) (e : Reason)
    (s : Result Found Reason) →
    ((q : Found) → s ≡ Ok q → IsFound w (over_kid w a h xs t ts) t (flow_before w a h xs f) q.tree q.flow) →
    (s ≡ Err e → IsIn w (over_kid w a h xs t ts) t (flow_before w a h xs f) e) →
    ((q : Found) → infer_each w a h (xs ++ q.tree ∷ []) ts q.flow ≡ Err e → IsInEach w a h (xs ++ q.tree ∷ []) ts q.flow e) →
    then_kids s (λ x g. infer_each w a h (xs ++ x ∷ []) ts g) ≡ Err e → IsInEach w a h xs (more t ts) f e
stopped_then w a h xs t ts f e (Err d) k l m p =
    let i : d ≡ e = cc in
    in_kid w a h xs t ts f e (l (ap Err i))
stopped_then w a h xs t ts f e (Ok q) k l m p =
    let g = k q refl in
    in_next w a h xs t ts f q.tree e g.erases g.carries (rw (g.plain, g.flow) (m q p))

mutual
  unfolding infer infer_each

  stops : (w : Setting) (a : Above) (t : Node) (f : Flow) (e : Reason) → infer w a t f ≡ Err e → IsIn w a t f e
  stops w a (branch h ts) f e p =
      stopped_node w a h ts f e (infer_each w a h [] ts f) (λ q i. finds_each w a h [] ts f q i) (λ i. stops_each w a h [] ts f e i) p

  stops_each : (w : Setting) (a : Above) (h : Head) (xs : List TypedNode) (ts : Nodes) (f : Flow) (e : Reason) →
      infer_each w a h xs ts f ≡ Err e → IsInEach w a h xs ts f e
  stops_each w a h xs none f e p = cc
  stops_each w a h xs (more t ts) f e p =
      let o = over_kid w a h xs t ts in
      let g = flow_before w a h xs f in
      stopped_then w a h xs t ts f e (infer w o t g) (λ q i. finds w o t g q i) (λ i. stops w o t g e i)
      (λ q i. stops_each w a h (xs ++ q.tree ∷ []) ts q.flow e i) p

pub fails_in : (w : Setting) (a : Above) (t : Node) (f : Flow) (r : RowId) (c : Context) → infer w a t f ≡ Err (Fails r c) →
    FailsIn w a t f r c
unfolding IsIn
fails_in w a t f r c p = stops w a t f (Fails r c) p

pub lacks_in : (w : Setting) (a : Above) (t : Node) (f : Flow) (c : Context) → infer w a t f ≡ Err (Lacks c) → LacksIn w a t f c
unfolding IsIn
lacks_in w a t f c p = stops w a t f (Lacks c) p
