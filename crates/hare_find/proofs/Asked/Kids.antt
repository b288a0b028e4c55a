-- What has been found of the kids of a node when its turn comes: their numbers, their coercions and their types.
use Rattle.std.proofs.Common.{◌≡◌, ℕ, zero, suc, ◌+◌, ◌<◌, ◌≤◌, Bool, true, false, cond, List, [], ◌∷◌, ◌++◌, length, refl, ap, sym, ◌∙◌, subst, append_assoc, Some, Result, Ok, Err, arith}
use Rattle.std.specs.Prelude.{slice_get, slice_index_or}
use Rattle.std.proofs.lemmas.List.{append-nil}
use Rattle.hare_tree.specs.Node.{Head, Node, Nodes, branch, none, more}
use Rattle.hare_types.specs.declared.coercion.Coercion.{Coercion}
use Rattle.hare_types.specs.declared.coercion.Ty.{Ty}
use Rattle.hare_typed.specs.Typed.{TypedNode, marked, typed_nodes, head_of, mark_of}
use Rattle.hare_typed.specs.Erased.{erase, erase_each}
use Rattle.hare_typed.specs.Numbers.{number_of}
use Rattle.hare_rules.specs.declared.hint.Hint.{Hint}
use Rattle.hare_rules.specs.declared.hint.Hint.TheVariants as hint
use Rattle.hare_rules.specs.Context.{Setting, Context, own_type, store_of}
use Rattle.hare_rules.specs.Above.{Above, over_kid, trees_in}
use Rattle.hare_rules.specs.Settles.{same, own_coercion}
use Rattle.hare_rules.specs.Judged.{is_type_hint}
use Rattle.hare_rules.specs.Types.{type_of}
use Rattle.hare_rules.specs.Rows.{is_judged}
use Rattle.hare_rules.specs.Flow.{Flow, count, context, flow_before, own_settled}
use Rattle.hare_rules.specs.Finished.{bare_each, behind, behind_each, AllCarry}
use Rattle.hare_inference.specs.Inferred.{Reason, Found, FoundKids, found_kids, then_kids, infer, infer_each}
use Rattle.hare_inference.specs.Laws.{IsFound}
use Rattle.hare_inference.proofs.Orders.{number_of-root, count-flow_before, count-behind}
use Rattle.hare_inference.proofs.Hands.{coercions-before, settled-behind}
use Rattle.hare_inference.proofs.Found.{finds}
use Rattle.hare_inference.proofs.Turns.{turns_settle}
use Rattle.hare_told.specs.Settled.{HasNone, AreApart}

-- ---- numbers

-- Each has a greater number than the one before it, and the first none below this one.
abbrev pub IsRising : ℕ → List TypedNode → Type 0
IsRising n [] = Unit {0}
IsRising n (x ∷ xs) = (n ≤ number_of x) × IsRising (suc (number_of x)) xs

rising-none : (n m : ℕ) (xs : List TypedNode) → n < m → IsRising m xs → HasNone n xs
rising-none n m [] h k = tt
rising-none n m (x ∷ xs) h k =
    let q = k.0 in
    (λ e. omega (arith, q, h, e), rising-none n (suc (number_of x)) xs (omega (arith, q, h)) k.1)

pub rising-apart : (n : ℕ) (xs : List TypedNode) → IsRising n xs → AreApart xs
rising-apart n [] k = tt
rising-apart n (x ∷ xs) k =
    (rising-none (number_of x) (suc (number_of x)) xs (omega arith) k.1, rising-apart (suc (number_of x)) xs k.1)

one_tree : (t : Node) → 0 < trees_in t
one_tree (branch h ts) = omega arith

-- ---- a kid

-- what holds of each of the kids behind some, and of what stands over it
abbrev pub EachOver : (Above → TypedNode → Type 0) → Setting → Above → Head → List TypedNode → List TypedNode → Type 0
EachOver P w a h xs [] = Unit {0}
EachOver P w a h xs (y ∷ ys) = P (over_kid w a h xs (erase y) (erase_each (typed_nodes ys))) y × EachOver P w a h (xs ++ y ∷ []) ys

-- the type of the tree is that of its context, whatever its own kids and what had been seen
pub record HasType (w : Setting) (o : Above) (y : TypedNode) : Type 0 where
  pub kids : List TypedNode
  pub flow : Flow
  pub type : type_of (context w o (head_of y) kids flow) ≡ Some (own_type y)

-- The tree over which this stands, among these coercions: where it was asked for no type it stays as it is.
pub record IsKidFound (w : Setting) (cs : List Coercion) (o : Above) (y : TypedNode) : Type 0 where
  pub stays : is_type_hint o.hint ≡ false → slice_get cs (number_of y) ≡ Some (same (own_type y))
  pub typed : HasType w o y

has_type : (w : Setting) (o : Above) (y : TypedNode) (f : Flow) → AllCarry w o y f → HasType w o y
has_type w o (marked h m ts) f k = record { kids = bare_each ts; flow = behind_each w o h [] ts f; type = k.1.type }

own-unhinted : (c : Context) (b : Ty) → is_type_hint c.hint ≡ false → own_settled c b ≡ same b
own-unhinted c b e = by_judge (is_judged c) c.hint e where
  by_judge : (j : Bool) (h : Hint) → is_type_hint h ≡ false → cond j (own_coercion (store_of c) h b) (same b) ≡ same b
  by_judge false h e = refl
  by_judge true hint.None e = refl
  by_judge true hint.Drop e = refl
  by_judge true (hint.Of t) e = cc

root-unhinted : (w : Setting) (o : Above) (y : TypedNode) (f g : Flow) → AllCarry w o y f → behind w o y f ≡ g →
    is_type_hint o.hint ≡ false →
    slice_index_or g.coercions (number_of y) (same (own_type y)) ≡ same (own_type y)
root-unhinted w o (marked h m ts) f g k e u =
    ap (λ (z : Flow). slice_index_or z.coercions m.node (same m.ty)) (sym e)
    ∙ ap (λ (y : TypedNode). (mark_of y).coerce) (turns_settle w o h m ts f k)
    ∙ own-unhinted (context w o h (bare_each ts) (behind_each w o h [] ts f)) m.ty u

get_within : (cs : List Coercion) (n : ℕ) (d : Coercion) → n < length cs → slice_get cs n ≡ Some (slice_index_or cs n d)
get_within [] n d h = absurd (omega arith)
get_within (c ∷ cs) zero d h = refl
get_within (c ∷ cs) (suc n) d h = get_within cs n d (omega arith)

-- ---- kids

-- These are found behind some.
pub record AreKidsFound (w : Setting) (a : Above) (h : Head) (xs : List TypedNode) (ts : Nodes) (f : Flow) (ys : List TypedNode)
    (g : Flow) :
    Type 0 where
  pub rest : List TypedNode
  pub split : ys ≡ xs ++ rest
  pub erases : erase_each (typed_nodes rest) ≡ ts
  pub rising : IsRising (count f) rest
  pub each : EachOver (IsKidFound w g.coercions) w a h xs rest
  pub kept : (i : ℕ) (d : Coercion) → i < count f → slice_index_or g.coercions i d ≡ slice_index_or f.coercions i d
  pub more : count f ≤ count g

kids-more : (w : Setting) (a : Above) (h : Head) (xs : List TypedNode) (t : Node) (ts : Nodes) (f g i : Flow) (x : TypedNode)
    (ys : List TypedNode) →
    IsFound w (over_kid w a h xs t ts) t (flow_before w a h xs f) x g → AreKidsFound w a h (xs ++ x ∷ []) ts g ys i →
    AreKidsFound w a h xs (more t ts) f ys i
kids-more w a h xs t ts f g i x ys p q =
    let o = over_kid w a h xs t ts in
    let b = flow_before w a h xs f in
    let before : count b ≡ count f = count-flow_before w a h xs f in
    let number : suc (number_of x) ≡ count b + trees_in (erase x) = number_of-root w o x b p.carries in
    let behind_it : count g ≡ count b + trees_in (erase x) = ap count (sym p.flow) ∙ count-behind w o x b in
    let next : count g ≡ suc (number_of x) = behind_it ∙ sym number in
    let one = one_tree (erase x) in
    let all = q.more in
    let inside : number_of x < length i.coercions = omega (arith, next, all) in
    let over : over_kid w a h xs (erase x) (erase_each (typed_nodes q.rest)) ≡ o =
    ap (λ u. over_kid w a h xs u (erase_each (typed_nodes q.rest))) p.erases ∙ ap (over_kid w a h xs t) q.erases in
    let d = same (own_type x) in
    let kid : IsKidFound w i.coercions o x =
    record {
      stays = λ u.
          get_within i.coercions (number_of x) d inside
          ∙ ap Some (q.kept (number_of x) d (omega (arith, next)) ∙ root-unhinted w o x b g p.carries p.flow u);
      typed = has_type w o x b p.carries;
    } in
    record {
      rest = x ∷ q.rest;
      split = q.split ∙ append_assoc xs (x ∷ []) q.rest;
      erases = let u = p.erases in let v = q.erases in cc;
      rising = (omega (arith, before, number, one), subst (λ (n : ℕ). IsRising n q.rest) next q.rising);
      each = (subst (λ (z : Above). IsKidFound w i.coercions z x) (sym over) kid, q.each);
      kept = λ j e l.
          q.kept j e (omega (arith, l, before, behind_it))
          ∙ ap (λ (z : Flow). slice_index_or z.coercions j e) (sym p.flow)
          ∙ settled-behind w o x b j e p.carries (omega (arith, l, before))
          ∙ ap (λ cs. slice_index_or cs j e) (coercions-before w a h xs f);
      more = omega (arith, before, behind_it, all);
    }

kids-then : (w : Setting) (a : Above) (h : Head) (xs : List TypedNode) (t : Node) (ts : Nodes) (f : Flow) (r : FoundKids)
    (s : Result Found Reason) →
    ((q : Found) → s ≡ Ok q → IsFound w (over_kid w a h xs t ts) t (flow_before w a h xs f) q.tree q.flow) →
    ((q : Found) → infer_each w a h (xs ++ q.tree ∷ []) ts q.flow ≡ Ok r →
    AreKidsFound w a h (xs ++ q.tree ∷ []) ts q.flow r.trees r.flow) →
    then_kids s (λ x g. infer_each w a h (xs ++ x ∷ []) ts g) ≡ Ok r → AreKidsFound w a h xs (more t ts) f r.trees r.flow
kids-then w a h xs t ts f r (Err e) k l p = cc
kids-then w a h xs t ts f r (Ok q) k l p = kids-more w a h xs t ts f q.flow r.flow q.tree r.trees (k q refl) (l q p)

pub kids-found : (w : Setting) (a : Above) (h : Head) (xs : List TypedNode) (ts : Nodes) (f : Flow) (r : FoundKids) →
    infer_each w a h xs ts f ≡ Ok r → AreKidsFound w a h xs ts f r.trees r.flow
unfolding infer_each
kids-found w a h xs none f r p =
    let e : r ≡ found_kids xs f = cc in
    subst
    (λ (z : FoundKids). AreKidsFound w a h xs none f z.trees z.flow)
    (sym e)
    (record { rest = []; split = sym (append-nil xs); erases = refl; rising = tt; each = tt; kept = λ i d l. refl; more = omega arith })
kids-found w a h xs (more t ts) f r p =
    let o = over_kid w a h xs t ts in
    let b = flow_before w a h xs f in
    kids-then w a h xs t ts f r (infer w o t b) (λ q e. finds w o t b q e) (λ q e. kids-found w a h (xs ++ q.tree ∷ []) ts q.flow r e) p
