-- What the walk does, step by step, over plain variables.
use Rattle.std.proofs.Common.{◌≡◌, ℕ, zero, suc, ◌+◌, ◌≤◌, List, [], ◌∷◌, ◌++◌, map, length, drop, Some, Result, Ok, Err, refl, ap, sym, ◌∙◌, subst, arith, add-one}
use Rattle.std.specs.Prelude.{slice_get, IfOk, IfErr, IsErrAnd, IsTrue}
use Rattle.std.proofs.lemmas.List.{map-append}
use Rattle.hare_tree.specs.declared.place.Fault.{Fault}
use Rattle.hare_tree.specs.declared.stop.Stop.{Stop}
use Rattle.hare_tree.specs.declared.stop.Stop.TheVariants.{Fault as Refused, Memory}
use Rattle.hare_tree.specs.Node.{Head, Node, Nodes, branch, head, kids_of, nodes_of}
use Rattle.hare_tree.specs.Shape.{is_shaped}
use Rattle.hare_types.specs.Store.{Store}
use Rattle.hare_types.specs.Sound.{IsStore}
use Rattle.hare_types.specs.Later.{IsLater}
use Rattle.hare_types.proofs.LaterLemmas.{later_here}
use Rattle.hare_typed.specs.Typed.{TypedNode, typed_nodes}
use Rattle.hare_typed.specs.Erased.{erase}
use Rattle.hare_typed.specs.Coats.{coat}
use Rattle.hare_rules.specs.Context.{Setting}
use Rattle.hare_rules.specs.Above.{Above, over_kid}
use Rattle.hare_rules.specs.Flow.{Flow, count, flow_before, all_settled}
use Rattle.hare_rules.specs.Finished.{bare, IsTheTree, IsTheFault, expression}
use Rattle.hare_inference.specs.Inferred.{Reason, Found, FoundKids, found, found_kids, with_kids, then_kids, infer, infer_each}
use Rattle.hare_inference.specs.Hands.{IsBelow, AreBelow}
use Rattle.hare_inference.proofs.Orders.{count-behind, length-all_settled}
use Rattle.hare_inference.proofs.Decided.{the_tree, the_fault}
use Rattle.hare_inference.proofs.Bares.{erase-bare}
use Rattle.hare_inference.proofs.Found.{finds}
use Rattle.hare_inference.proofs.Hands.{coats-behind, below-behind, below_each-more, coercions-before, coat-coat}
use Rattle.hare_walk.specs.Grown.{IsGrown}
use Rattle.hare_walk.specs.Walks.{IsInHand, AreInHand, AreInferred, IsStop, IsInferred, IsStopped, IsTurned, IsTurnedBack, IsOver, IsBefore, IsAnswer, IsTheTreeLater, IsAnswerLater}
use Rattle.hare_walk.proofs.Grows.{later-grown}

-- ---- inference over lists of kids

pub each_end : (w : Setting) (a : Above) (h : Head) (xs : List TypedNode) (ts : List Node) (i : ℕ) (f : Flow) → length ts ≤ i →
    infer_each w a h xs (nodes_of (drop i ts)) f ≡ Ok (found_kids xs f)
unfolding infer_each
each_end w a h xs [] zero f e = refl
each_end w a h xs [] (suc i) f e = refl
each_end w a h xs (t ∷ ts) zero f e = absurd (omega arith)
each_end w a h xs (t ∷ ts) (suc i) f e = each_end w a h xs ts i f (omega arith)

pub each_next : (w : Setting) (a : Above) (h : Head) (xs : List TypedNode) (ts : List Node) (i : ℕ) (t : Node) (f : Flow) →
    slice_get ts i ≡ Some t →
    infer_each w a h xs (nodes_of (drop i ts)) f
    ≡ then_kids (infer w (over_kid w a h xs t (nodes_of (drop (i + 1) ts))) t (flow_before w a h xs f))
    (λ y g. infer_each w a h (xs ++ y ∷ []) (nodes_of (drop (i + 1) ts)) g)
unfolding infer_each
each_next w a h xs [] i t f e = cc
each_next w a h xs (u ∷ ts) zero t f e = let s : u ≡ t = cc in rw s refl
each_next w a h xs (u ∷ ts) (suc i) t f e = rw add-one (let k = each_next w a h xs ts i t f e in rw add-one at k)

pub infer_at : (w : Setting) (a : Above) (t : Node) (f : Flow) (ts : Nodes) → kids_of t ≡ ts →
    infer w a t f ≡ with_kids w a (head t) (infer_each w a (head t) [] ts f)
unfolding infer
infer_at w a (branch h us) f ts e = rw (← e) refl

-- ---- stops

pub stop_kids : (w : Setting) (a : Above) (h : Head) (r : Result FoundKids Reason) (e : Stop Fault) → IsStop e r →
    IsStop e (with_kids w a h r)
stop_kids w a h r Memory v = tt
stop_kids w a h r (Refused e) (x, c, i, j) = (x, c, ap (with_kids w a h) i, j)

pub stop_then : (r : Result Found Reason) (go : TypedNode → Flow → Result FoundKids Reason) (e : Stop Fault) → IsStop e r →
    IsStop e (then_kids r go)
stop_then r go Memory v = tt
stop_then r go (Refused e) (x, c, i, j) = (x, c, ap (λ q. then_kids q go) i, j)

pub stop-same : {A : Type 0} (e : Stop Fault) (r q : Result A Reason) → r ≡ q → IsStop e r → IsStop e q
stop-same {A} e r q i = subst (λ (x : Result A Reason). IsStop e x) i

-- ---- trees in hand

-- how a tree that has been inferred leaves the earlier ones
pub record Leaves (f g : Flow) (b : TypedNode) : Type 0 where
  pub coats : (u : TypedNode) → IsBelow (count f) u → coat g.coercions u ≡ coat f.coercions u
  pub below : IsBelow (count g) b
  pub more : count f ≤ count g

pub inferred-leaves : (w : Setting) (a : Above) (t : Node) (f g : Flow) (b : TypedNode) → infer w a t f ≡ Ok (found b g) → Leaves f g b
inferred-leaves w a t f g b e =
    let d = finds w a t f (found b g) e in
    let n = count-behind w a b f in
    subst (λ (i : Flow). Leaves f i b) d.flow
    (record {
      coats = λ u k. coats-behind w a b f u d.carries k;
      below = below-behind w a b f d.carries;
      more = omega (arith, n);
    })

-- the same, where the tree begins behind an operand
pub leaves-before : (w : Setting) (a : Above) (h : Head) (xs : List TypedNode) (f g i : Flow) (b : TypedNode) → g ≡ flow_before w a h xs f →
    Leaves g i b → Leaves f i b
leaves-before w a h xs f g i b e k =
    let c : g.coercions ≡ f.coercions = ap (λ x. x.coercions) e ∙ coercions-before w a h xs f in
    let n : count g ≡ count f = ap length c in
    record {
      coats = λ u l. k.coats u (subst (λ (m : ℕ). IsBelow m u) (sym n) l) ∙ ap (λ cs. coat cs u) c;
      below = k.below;
      more = let m = k.more in omega (arith, m, n);
    }

same_coats : (f g : Flow) (xs : List TypedNode) → ((u : TypedNode) → IsBelow (count f) u → coat g.coercions u ≡ coat f.coercions u) →
    AreBelow (count f) (typed_nodes xs) → map (coat g.coercions) xs ≡ map (coat f.coercions) xs
same_coats f g [] h k = refl
same_coats f g (x ∷ xs) h k = rw (h x k.0, same_coats f g xs h k.1) refl

-- one tree more is in hand
pub hand-more : (f g : Flow) (xs : List TypedNode) (x : TypedNode) → Leaves f g (bare x) → AreInHand f xs →
    AreBelow (count f) (typed_nodes (map bare xs)) →
    IsInHand g x → AreInHand g (xs ++ x ∷ [])
hand-more f g xs x l h k i =
    let a : xs ≡ map (coat g.coercions) (map bare xs) = h ∙ sym (same_coats f g (map bare xs) l.coats k) in
    ap (λ ys. ys ++ x ∷ []) a
    ∙ ap (λ y. map (coat g.coercions) (map bare xs) ++ y ∷ []) i
    ∙ sym (map-append (coat g.coercions) (map bare xs) (bare x ∷ []))
    ∙ ap (map (coat g.coercions)) (sym (map-append bare xs (x ∷ [])))

below-append : (n : ℕ) (xs : List TypedNode) (b : TypedNode) → AreBelow n (typed_nodes xs) → IsBelow n b →
    AreBelow n (typed_nodes (xs ++ b ∷ []))
below-append n [] b h k = (k, tt)
below-append n (x ∷ xs) b h k = (h.0, below-append n xs b h.1 k)

pub each_below-more : (f g : Flow) (xs : List TypedNode) (x : TypedNode) → Leaves f g (bare x) →
    AreBelow (count f) (typed_nodes (map bare xs)) →
    AreBelow (count g) (typed_nodes (map bare (xs ++ x ∷ [])))
each_below-more f g xs x l k =
    let h = below-append (count g) (map bare xs) (bare x) (below_each-more (count f) (count g) (typed_nodes
    (map bare xs)) l.more k) l.below in
    rw (map-append bare xs (x ∷ [])) h

-- ---- one kid

-- what the walk knows when a kid has been judged
pub record IsKid (w : Store → Setting) (s : Store) (a o : Above) (h : Head) (xs : List TypedNode) (ts : List Node) (t : Node) (f b g : Flow)
    (x : TypedNode) : Type 0 where
  pub next : slice_get ts (length xs) ≡ Some t
  pub over : IsOver w s a h xs t (nodes_of (drop (length xs + 1) ts)) o
  pub before : IsBefore w s a h xs f b
  pub inferred : IsInferred w s o t b x g

pub kid-rest : (w : Store → Setting) (s : Store) (a o : Above) (h : Head) (xs : List TypedNode) (ts : List Node) (t : Node) (f b g : Flow)
    (x : TypedNode) (l : Store) → IsKid w s a o h xs ts t f b g x → IsLater s l →
    infer_each (w l) a h (map bare xs) (nodes_of (drop (length xs) ts)) f
    ≡ infer_each (w l) a h (map bare (xs ++ x ∷ [])) (nodes_of (drop (length xs + 1) ts)) g
kid-rest w s a o h xs ts t f b g x l k e =
    let go = λ (y : TypedNode) (i : Flow). infer_each (w l) a h (map bare xs ++ y ∷ []) (nodes_of (drop (length xs + 1) ts)) i in
    let p = ap (λ q. infer (w l) q t b) (sym (k.over l e)) in
    let q = ap (infer (w l) (over_kid (w l) a h (map bare xs) t (nodes_of (drop (length xs + 1) ts))) t) (sym (k.before l e)) in
    each_next (w l) a h (map bare xs) ts (length xs) t f k.next
    ∙ ap (λ r. then_kids r go) (q ∙ p ∙ k.inferred l e)
    ∙ ap (λ ys. infer_each (w l) a h ys (nodes_of (drop (length xs + 1) ts)) g) (sym (map-append bare xs (x ∷ [])))

pub kid-leaves : (w : Store → Setting) (s : Store) (a o : Above) (h : Head) (xs : List TypedNode) (ts : List Node) (t : Node) (f b g : Flow)
    (x : TypedNode) → IsKid w s a o h xs ts t f b g x → IsStore s → Leaves f g (bare x)
kid-leaves w s a o h xs ts t f b g x k i =
    let l = later_here s i in
    leaves-before (w s) a h (map bare xs) f b g (bare x) (k.before s l) (inferred-leaves (w s) o t b g (bare x) (k.inferred s l))

-- a kid that stops the walk
pub kid-stopped : (w : Store → Setting) (s : Store) (a o : Above) (h : Head) (xs : List TypedNode) (ts : List Node) (t : Node) (f b : Flow)
    (e : Stop Fault) (l : Store) → slice_get ts (length xs) ≡ Some t → IsOver w s a h xs t (nodes_of (drop (length xs + 1) ts)) o →
    IsBefore w s a h xs f b → IsStopped w s o t b e → IsLater s l →
    IsStop e (infer_each (w l) a h (map bare xs) (nodes_of (drop (length xs) ts)) f)
kid-stopped w s a o h xs ts t f b e l n over before stopped k =
    let go = λ (y : TypedNode) (i : Flow). infer_each (w l) a h (map bare xs ++ y ∷ []) (nodes_of (drop (length xs + 1) ts)) i in
    let p = ap (λ q. infer (w l) q t b) (over l k) in
    let q = ap (infer (w l) (over_kid (w l) a h (map bare xs) t (nodes_of (drop (length xs + 1) ts))) t) (before l k) in
    let r = stop-same e (infer (w l) o t b) _ (p ∙ q) (stopped l k) in
    let v = stop_then _ go e r in
    stop-same e _ _ (sym (each_next (w l) a h (map bare xs) ts (length xs) t f n)) v

-- ---- answers

-- an error that is handed on
pub err_same : {T E : Type 0} (r : Result T E) (e : E) (P : E → Type 0) → IsErrAnd r (λ y. y ≡ e) → P e → IfErr r P
err_same (Ok x) e P h k = tt
err_same (Err y) e P h k = subst P (sym h) k

pub turn-inferred : (w v : Store → Setting) (s r : Store) (a b : Above) (t : Node) (ts : Nodes) (xs : List TypedNode) (f g i : Flow)
    (q : Result TypedNode (Stop Fault)) → kids_of t ≡ ts → v ≡ w → b ≡ a → IsGrown s r →
    ((l : Store) → IsLater s l → infer_each (w l) a (head t) [] ts f ≡ Ok (found_kids (map bare xs) g)) →
    IfOk q (λ x. IsTurned v r b (head t) xs g x i) → IfOk q (λ x. IsInferred w r a t f x i)
turn-inferred w v s r a b t ts xs f g i (Err e) k m n o p h = tt
turn-inferred w v s r a b t ts xs f g i (Ok x) k m n o p h =
    let moved = subst (λ (z : Store → Setting). IsTurned z r b (head t) xs g x i) m h in
    let turned = subst (λ (z : Above). IsTurned w r z (head t) xs g x i) n moved in
    λ l e. infer_at (w l) a t f ts k ∙ ap (with_kids (w l) a (head t)) (p l (later-grown s r l o e)) ∙ turned l e

pub turn-stopped : (w v : Store → Setting) (s r : Store) (a b : Above) (t : Node) (ts : Nodes) (xs : List TypedNode) (f g : Flow)
    (q : Result TypedNode (Stop Fault)) → kids_of t ≡ ts → v ≡ w → b ≡ a → IsGrown s r →
    ((l : Store) → IsLater s l → infer_each (w l) a (head t) [] ts f ≡ Ok (found_kids (map bare xs) g)) →
    IfErr q (λ e. IsTurnedBack v r b (head t) xs g e) → IfErr q (λ e. IsStopped w r a t f e)
turn-stopped w v s r a b t ts xs f g (Ok x) k m n o p h = tt
turn-stopped w v s r a b t ts xs f g (Err e) k m n o p h =
    let moved = subst (λ (z : Store → Setting). IsTurnedBack z r b (head t) xs g e) m h in
    let turned = subst (λ (z : Above). IsTurnedBack w r z (head t) xs g e) n moved in
    λ l d. stop-same e _ _ (sym (infer_at (w l) a t f ts k ∙ ap (with_kids (w l) a (head t)) (p l (later-grown s r l o d)))) (turned l d)

pub kids-inferred : (w v : Store → Setting) (s : Store) (a b : Above) (t : Node) (ts : Nodes) (xs : List TypedNode) (f g : Flow) →
    kids_of t ≡ ts → v ≡ w → b ≡ a →
    ((l : Store) → IsLater s l → infer_each (w l) a (head t) [] ts f ≡ Ok (found_kids (map bare xs) g)) →
    AreInferred v s b (head t) (kids_of t) xs g
kids-inferred w v s a b t ts xs f g k m n p =
    let q : AreInferred w s a (head t) (kids_of t) xs g =
    (f, λ l e. ap (λ us. infer_each (w l) a (head t) [] us f) k ∙ p l e) in
    let r = subst (λ (z : Store → Setting). AreInferred z s a (head t) (kids_of t) xs g) (sym m) q in
    subst (λ (z : Above). AreInferred v s z (head t) (kids_of t) xs g) (sym n) r

pub kids-stopped : (w : Store → Setting) (s : Store) (a : Above) (t : Node) (ts : Nodes) (f : Flow) (e : Stop Fault) → kids_of t ≡ ts →
    ((l : Store) → IsLater s l → IsStop e (infer_each (w l) a (head t) [] ts f)) → IsStopped w s a t f e
kids-stopped w s a t ts f e k h =
    λ l d. stop-same e _ _ (sym (infer_at (w l) a t f ts k)) (stop_kids (w l) a (head t) (infer_each (w l) a (head t) [] ts f) e (h l d))

-- ---- the same in a store that has grown, under equal names

pub over-moved : (v w : Store → Setting) (s r : Store) (a b : Above) (h : Head) (xs : List TypedNode) (t : Node) (rest : Nodes)
    (o : Above) →
    v ≡ w → a ≡ b → IsGrown s r → IsOver v s a h xs t rest o → IsOver w r b h xs t rest o
over-moved v w s r a b h xs t rest o m n k p =
    let q = subst (λ (z : Store → Setting). IsOver z s a h xs t rest o) m p in
    let i = subst (λ (z : Above). IsOver w s z h xs t rest o) n q in
    λ l e. i l (later-grown s r l k e)

pub before-moved : (v w : Store → Setting) (s r : Store) (a b : Above) (h : Head) (xs : List TypedNode) (f g : Flow) → v ≡ w → a ≡ b →
    IsGrown s r → IsBefore v s a h xs f g → IsBefore w r b h xs f g
before-moved v w s r a b h xs f g m n k p =
    let q = subst (λ (z : Store → Setting). IsBefore z s a h xs f g) m p in
    let i = subst (λ (z : Above). IsBefore w s z h xs f g) n q in
    λ l e. i l (later-grown s r l k e)

pub inferred-moved : (v w : Store → Setting) (s : Store) (o : Above) (t : Node) (f g : Flow) (x : TypedNode) → v ≡ w →
    IsInferred v s o t f x g → IsInferred w s o t f x g
inferred-moved v w s o t f g x m p = subst (λ (z : Store → Setting). IsInferred z s o t f x g) m p

pub stopped-moved : (v w : Store → Setting) (s : Store) (o : Above) (t : Node) (f : Flow) (e : Stop Fault) → v ≡ w →
    IsStopped v s o t f e → IsStopped w s o t f e
stopped-moved v w s o t f e m p = subst (λ (z : Store → Setting). IsStopped z s o t f e) m p

-- ---- the loop over kids

pub next_at : (ts : List Node) (n i : ℕ) (t : Node) → n ≡ i → slice_get ts i ≡ Some t → slice_get ts n ≡ Some t
next_at ts n i t e h = ap (slice_get ts) e ∙ h

pub rest_at : (w : Store → Setting) (a : Above) (h : Head) (xs ys : List TypedNode) (ts : List Node) (n i : ℕ) (f g : Flow) (l : Store) →
    n ≡ i → infer_each (w l) a h xs (nodes_of (drop n ts)) f ≡ infer_each (w l) a h ys (nodes_of (drop (n + 1) ts)) g →
    infer_each (w l) a h xs (nodes_of (drop i ts)) f ≡ infer_each (w l) a h ys (nodes_of (drop (i + 1) ts)) g
rest_at w a h xs ys ts n i f g l e k =
    subst (λ (m : ℕ). infer_each (w l) a h xs (nodes_of (drop m ts)) f ≡ infer_each (w l) a h ys (nodes_of (drop (m + 1) ts)) g) e k

pub stop_at : (w : Store → Setting) (a : Above) (h : Head) (xs : List TypedNode) (ts : List Node) (n i : ℕ) (f : Flow) (l : Store)
    (e : Stop Fault) → n ≡ i → IsStop e (infer_each (w l) a h xs (nodes_of (drop n ts)) f) →
    IsStop e (infer_each (w l) a h xs (nodes_of (drop i ts)) f)
stop_at w a h xs ts n i f l e d k = subst (λ (m : ℕ). IsStop e (infer_each (w l) a h xs (nodes_of (drop m ts)) f)) d k

-- ---- what a tree is of

pub inferred-erases : (w : Store → Setting) (s : Store) (a : Above) (t : Node) (f g : Flow) (x : TypedNode) → IsInferred w s a t f x g →
    IsStore s →
    erase x ≡ t
inferred-erases w s a t f g x h i =
    let d = finds (w s) a t f (found (bare x) g) (h s (later_here s i)) in
    sym (erase-bare x) ∙ d.erases

pub turn-erases : (w : Store → Setting) (s : Store) (a : Above) (t : Node) (f g : Flow) (q : Result TypedNode (Stop Fault)) →
    IfOk q (λ x. IsInferred w s a t f x g) → IsStore s → IfOk q (λ x. erase x ≡ t)
turn-erases w s a t f g (Err e) h i = tt
turn-erases w s a t f g (Ok x) h i = inferred-erases w s a t f g x h i

-- ---- the whole walk

pub answered : (w : Setting) (a : Above) (f : Flow) (t : Node) (e : Stop Fault) → IsStop e (infer w a t f) → IsAnswer w a f t e
answered w a f t Memory h = tt
answered w a f t (Refused e) (r, c, i, j) = subst (λ (x : Fault). IsTheFault w a f t x) (sym j) (the_fault w a t f r c i)

pub finished : (w : Setting) (a : Above) (f g : Flow) (t : Node) (x : TypedNode) → f.coercions ≡ [] → IsTrue (is_shaped expression t) →
    infer w a t f ≡ Ok (found (bare x) g) → IsInHand g x → IsTheTree w a f t (coat (all_settled g) x)
finished w a f g t x z s p h =
    let l = inferred-leaves w a t f g (bare x) p in
    let b : IsBelow (length (all_settled g)) (bare x) = subst (λ (n : ℕ). IsBelow n (bare x)) (sym (length-all_settled g)) l.below in
    let c : coat (all_settled g) x ≡ coat (all_settled g) (bare x) =
    ap (coat (all_settled g)) h ∙ coat-coat g.coercions (all_settled g) (bare x) b in
    subst (λ (y : TypedNode). IsTheTree w a f t y) (sym c) (the_tree w a t f (bare x) g z s p)

-- ---- the same in each later store

pub answered_later : (w : Store → Setting) (s : Store) (a : Above) (f : Flow) (t : Node) (e : Stop Fault) → IsStopped w s a t f e →
    IsAnswerLater w s a f t e
answered_later w s a f t e h = λ l k. answered (w l) a f t e (h l k)

pub finished_later : (w : Store → Setting) (s : Store) (a : Above) (f g : Flow) (t : Node) (x : TypedNode) → f.coercions ≡ [] →
    IsTrue (is_shaped expression t) → IsInferred w s a t f x g → IsInHand g x → IsTheTreeLater w s a f t (coat (all_settled g) x)
finished_later w s a f g t x z k p h = λ l e. finished (w l) a f g t x z k (p l e) h
