-- What a finished tree carries is inferred, and so are the reasons for which there is none.
use Rattle.std.proofs.Common.{◌≡◌, Some, None, List, [], ◌∷◌, ◌++◌, refl, ap, sym, ◌∙◌, subst, Ok, Err, append_assoc, inl, inr}
use Rattle.std.proofs.lemmas.List.{append-nil}
use Rattle.hare_tree.specs.Node.{Head, Node, Nodes, branch, none, more}
use Rattle.hare_typed.specs.Typed.{TypedNode, TypedNodes, Mark, marked, typed_none, typed_more, typed_nodes}
use Rattle.hare_typed.specs.Erased.{erase, erase_each}
use Rattle.hare_rules.specs.declared.row_id.RowId.{RowId}
use Rattle.hare_rules.specs.Context.{Setting, Context}
use Rattle.hare_rules.specs.Above.{Above, over_kid}
use Rattle.hare_rules.specs.Flow.{Flow, flow_before, flow_after, context}
use Rattle.hare_rules.specs.Settles.{same}
use Rattle.hare_rules.specs.Types.{type_of}
use Rattle.hare_rules.specs.Rows.{first_failing}
use Rattle.hare_rules.specs.Finished.{bare, bare_each, behind, behind_each, Carries, AllCarry, EachCarries, FailsIn, EachFails}
use Rattle.hare_inference.specs.Inferred.{Reason, Fails, Lacks, judged, mark_found, found, found_kids, with_type, with_kids, then_kids, infer, infer_each}
use Rattle.hare_inference.specs.Lacking.{LacksIn, EachLacks}
use Rattle.hare_inference.proofs.Bares.{mark-ext}

-- ---- one node

judged-carried : (c : Context) (m : Mark) → Carries c m → judged c ≡ Ok m.ty
judged-carried c m k = rw (k.rows, k.type) refl

judged-failing : (c : Context) (r : RowId) → first_failing c ≡ Some r → judged c ≡ Err (Fails r c)
judged-failing c r e = rw e refl

judged-lacking : (c : Context) → first_failing c ≡ None → type_of c ≡ None → judged c ≡ Err (Lacks c)
judged-lacking c e d = rw (e, d) refl

mark_found-carried : (c : Context) (m : Mark) → Carries c m → mark_found c m.ty ≡ record m { coerce = same m.ty }
mark_found-carried c m k = mark-ext (mark_found c m.ty) (record m { coerce = same m.ty }) (sym k.node) refl refl (sym k.meaning)
    (sym k.value)

-- ---- a tree that carries what it should

mutual
  unfolding infer infer_each

  pub carried : (w : Setting) (a : Above) (t : TypedNode) (f : Flow) → AllCarry w a t f →
      infer w a (erase t) f ≡ Ok (found (bare t) (behind w a t f))
  carried w a (marked h m ts) f k =
      let xs = bare_each ts in
      let g = behind_each w a h [] ts f in
      ap (with_kids w a h) (carried_each w a h [] ts f k.0)
      ∙ ap (with_type w a h xs g) (judged-carried (context w a h xs g) m k.1)
      ∙ ap (λ n. Ok (found (marked h n (typed_nodes xs)) (flow_after w a h xs g))) (mark_found-carried (context w a h xs g) m k.1)

  pub carried_each : (w : Setting) (a : Above) (h : Head) (xs : List TypedNode) (ts : TypedNodes) (f : Flow) → EachCarries w a h xs ts f →
      infer_each w a h xs (erase_each ts) f ≡ Ok (found_kids (xs ++ bare_each ts) (behind_each w a h xs ts f))
  carried_each w a h xs typed_none f k = ap (λ l. Ok (found_kids l f)) (sym (append-nil xs))
  carried_each w a h xs (typed_more t ts) f k =
      let o = over_kid w a h xs (erase t) (erase_each ts) in
      let g = flow_before w a h xs f in
      ap (λ q. then_kids q (λ y i. infer_each w a h (xs ++ y ∷ []) (erase_each ts) i)) (carried w o t g k.0)
      ∙ carried_each w a h (xs ++ bare t ∷ []) ts (behind w o t g) k.1
      ∙ ap (λ l. Ok (found_kids l (behind_each w a h xs (typed_more t ts) f))) (append_assoc xs (bare t ∷ []) (bare_each ts))

-- where a tree with these kids ends, when its own turn has this reason
at_root : (w : Setting) (a : Above) (h : Head) (xs : TypedNodes) (ts : Nodes) (f : Flow) (c : Context) (e : Reason) → erase_each xs ≡ ts →
    EachCarries w a h [] xs f → c ≡ context w a h (bare_each xs) (behind_each w a h [] xs f) → judged c ≡ Err e →
    with_kids w a h (infer_each w a h [] ts f) ≡ Err e
at_root w a h xs ts f c e i k s j =
    let p = carried_each w a h [] xs f k in
    let q = subst (λ (us : Nodes). infer_each w a h [] us f ≡ Ok (found_kids (bare_each xs) (behind_each w a h [] xs f))) i p in
    let v = subst (λ (d : Context). judged d ≡ Err e) s j in
    ap (with_kids w a h) q ∙ ap (with_type w a h (bare_each xs) (behind_each w a h [] xs f)) v

-- behind a kid that carries what it should
at_next : (w : Setting) (a : Above) (h : Head) (xs : List TypedNode) (t : Node) (ts : Nodes) (f : Flow) (x : TypedNode) (e : Reason) →
    erase x ≡ t →
    AllCarry w (over_kid w a h xs t ts) x (flow_before w a h xs f) →
    infer_each w a h (xs ++ bare x ∷ []) ts (behind w (over_kid w a h xs t ts) x (flow_before w a h xs f)) ≡ Err e →
    infer_each w a h xs (more t ts) f ≡ Err e
unfolding infer infer_each
at_next w a h xs t ts f x e i k r =
    let o = over_kid w a h xs t ts in
    let g = flow_before w a h xs f in
    let q = subst (λ (u : Node). infer w o u g ≡ Ok (found (bare x) (behind w o x g))) i (carried w o x g k) in
    ap (λ z. then_kids z (λ y j. infer_each w a h (xs ++ y ∷ []) ts j)) q ∙ r

-- ---- a row that fails

mutual
  unfolding infer infer_each

  pub faulted : (w : Setting) (a : Above) (t : Node) (f : Flow) (r : RowId) (c : Context) → FailsIn w a t f r c →
      infer w a t f ≡ Err (Fails r c)
  faulted w a (branch h ts) f r c (inl k) = ap (with_kids w a h) (faulted_each w a h [] ts f r c k)
  faulted w a (branch h ts) f r c (inr (xs, i, k, s, j)) = at_root w a h xs ts f c (Fails r c) i k s (judged-failing c r j)

  pub faulted_each : (w : Setting) (a : Above) (h : Head) (xs : List TypedNode) (ts : Nodes) (f : Flow) (r : RowId) (c : Context) →
      EachFails w a h xs ts f r c → infer_each w a h xs ts f ≡ Err (Fails r c)
  faulted_each w a h xs none f r c k = absurd k
  faulted_each w a h xs (more t ts) f r c (inl k) =
      ap (λ q. then_kids q (λ y g. infer_each w a h (xs ++ y ∷ []) ts g)) (faulted w (over_kid w a h xs t ts) t
      (flow_before w a h xs f) r c k)
  faulted_each w a h xs (more t ts) f r c (inr (x, i, k, j)) =
      at_next w a h xs t ts f x (Fails r c) i k
      (faulted_each w a h (xs ++ bare x ∷ []) ts (behind w (over_kid w a h xs t ts) x (flow_before w a h xs f)) r c j)

-- ---- a type that the store lacks

mutual
  unfolding infer infer_each

  pub lacked : (w : Setting) (a : Above) (t : Node) (f : Flow) (c : Context) → LacksIn w a t f c → infer w a t f ≡ Err (Lacks c)
  lacked w a (branch h ts) f c (inl k) = ap (with_kids w a h) (lacked_each w a h [] ts f c k)
  lacked w a (branch h ts) f c (inr (xs, i, k, s, j, l)) = at_root w a h xs ts f c (Lacks c) i k s (judged-lacking c j l)

  pub lacked_each : (w : Setting) (a : Above) (h : Head) (xs : List TypedNode) (ts : Nodes) (f : Flow) (c : Context) →
      EachLacks w a h xs ts f c → infer_each w a h xs ts f ≡ Err (Lacks c)
  lacked_each w a h xs none f c k = absurd k
  lacked_each w a h xs (more t ts) f c (inl k) =
      ap (λ q. then_kids q (λ y g. infer_each w a h (xs ++ y ∷ []) ts g)) (lacked w (over_kid w a h xs t ts) t (flow_before w a h xs f) c k)
  lacked_each w a h xs (more t ts) f c (inr (x, i, k, j)) =
      at_next w a h xs t ts f x (Lacks c) i k
      (lacked_each w a h (xs ++ bare x ∷ []) ts (behind w (over_kid w a h xs t ts) x (flow_before w a h xs f)) c j)
