-- Deaths of local objects: of one, and of those that a scope made.
use Rattle.std.proofs.Common.{◌≡◌, ◌≢◌, ℕ, zero, suc, ◌+◌, List, [], ◌∷◌, length, Some, refl, ap, sym, ◌∙◌, subst, Bool, true, false, cond}
use Rattle.std.specs.Prelude.{slice_get, slice_set}
use Rattle.hx_base.specs.Runtime.{World}
use Rattle.hare_typed.specs.Objects.{Object, Local, Heap}
use Rattle.hare_typed.specs.State.{State}
use Rattle.hare_meaning.specs.Related.{Places, IsLive, Covered, Held, BlockOf, Ground, Values, objects_in, Related}
use Rattle.hare_meaning.proofs.Related.Cells.{get_set_other, length_set, Found, found_changed, found_before, found_set, Now, changed, as_before, after_set, placed-same}
use Rattle.hare_typed.specs.Objects.{killed, is_local, killed_local, locals_killed_from}
use Rattle.hare_meaning.proofs.Related.Store.{with_made}

-- an object of the same length and alignment has the number
pub record Alike (objs : List Object) (o : ℕ) (y : Object) : Type 0 where
  pub x : Object
  pub there : slice_get objs o ≡ Some x
  pub count : length y.cells ≡ length x.cells
  pub align : y.align ≡ x.align

-- No object is more alive than it was, heap objects live on, and each object, also one that died, keeps its length and alignment.
pub record IsFewer (objs objs' : List Object) : Type 0 where
  pub count : length objs' ≡ length objs
  pub was : (o : ℕ) (x : Object) → IsLive objs' o x → IsLive objs o x
  pub heap : (o : ℕ) (x : Object) → IsLive objs o x → x.kind ≡ Heap → IsLive objs' o x
  pub alike : (o : ℕ) (y : Object) → slice_get objs' o ≡ Some y → Alike objs o y

module _ (ground : Ground) where
  pub fewer_related : (ps : Places) (s : State) (w : World) (calls : ℕ) (value : Values) (objs' : List Object) →
      Related ground ps s w calls value → IsFewer (objects_in s) objs' → Related ground ps (with_made s objs') w calls value
  fewer_related ps s w calls value objs' r h = record {
    all = r.all ∙ sym h.count;
    unnamed = r.unnamed;
    standing = r.standing;
    mapped = λ o a c. r.mapped o a (back o a c);
    apart = λ o p a c d. r.apart o p a (back o a c) (back p a d);
    placed = λ o a x e at. let k = h.alike o x e in placed-same a k.x x k.count k.align (r.placed o a k.x k.there at);
    cells = λ o a k x c l at e. r.cells o a k x c (h.was o x l) at e;
    held_cells = λ o c t n signed x l at. r.held_cells o c t n signed x (h.was o x l) at;
    held_apart = λ o p c t f g. r.held_apart o p c t (held o c t f) (held p c t g);
    heap_next = r.heap_next;
    heap_above = r.heap_above;
    heap_blocks = λ o a x l e at. r.heap_blocks o a x (h.was o x l) e at;
    heap_places = λ o x l e. r.heap_places o x (h.was o x l) e;
    heap_objects = λ a n e. block a n (r.heap_objects a n e);
    heap_apart = r.heap_apart;
    live = r.live;
    fixed_hold = r.fixed_hold;
    fixed_apart = λ i k o f e l c. r.fixed_apart i k o f e l (back o (f.0 + k) c);
    fill = r.fill;
    input = r.input;
    output = r.output;
    arguments = r.arguments;
  }
    where
      back : (o a : ℕ) → Covered ps objs' o a → Covered ps (objects_in s) o a
      back o a c = record { x = c.x; from = c.from; k = c.k; live = h.was o c.x c.live; at = c.at; within = c.within; is = c.is }

      held : (o c t : ℕ) → Held ps objs' o c t → Held ps (objects_in s) o c t
      held o c t g = record { x = g.x; width = g.width; signed = g.signed; live = h.was o g.x g.live; at = g.at }

      block : (a n : ℕ) → BlockOf ps (objects_in s) a n → BlockOf ps objs' a n
      block a n b = record { o = b.o; x = b.x; live = h.heap b.o b.x b.live b.kind; kind = b.kind; at = b.at; is = b.is }

-- ---- a death

pub dies : (objs : List Object) (o : ℕ) (x : Object) → slice_get objs o ≡ Some x → x.kind ≡ Local →
    IsFewer objs (slice_set objs o (killed x))
dies objs o x there local = record {
  count = length_set objs o (killed x);
  was = λ p y l. before_it p y l (after_set objs o x (killed x) p y there l);
  heap = λ p y l e.
      let apart : p ≢ o = λ q.
      let here : slice_get objs o ≡ Some y = subst (λ z. slice_get objs z ≡ Some y) q l.0 in
      let same : x ≡ y = cc in
      let never : Local ≡ Heap = sym local ∙ ap (λ v. v.kind) same ∙ e in cc
      in
      (get_set_other objs o p (killed x) (λ q. apart (sym q)) ∙ l.0, l.1);
  alike = λ p y e. alike p y (found_set objs o x (killed x) p y there e);
}
  where
    alike : (p : ℕ) (y : Object) → Found objs o (killed x) p y → Alike objs p y
    alike p y (found_changed e f) =
        record {
          x = x;
          there = subst (λ z. slice_get objs z ≡ Some x) (sym e) there;
          count = ap (λ v. length v.cells) f;
          align = ap (λ v. v.align) f;
        }
    alike p y (found_before n e) = record { x = y; there = e; count = refl; align = refl }

    before_it : (p : ℕ) (y : Object) → IsLive (slice_set objs o (killed x)) p y → Now objs o (killed x) p y → IsLive objs p y
    before_it p y l (changed e f) = absurd (let never : false ≡ true = ap (λ v. v.alive) (sym f) ∙ l.1 in cc)
    before_it p y l (as_before n g) = g

-- ---- the end of a scope

killed_local-heap : (x : Object) → x.kind ≡ Heap → killed_local x ≡ x
killed_local-heap x e = rw (ap is_local e) refl

killed_local-live : (x y : Object) → killed_local x ≡ y → y.alive ≡ true → x ≡ y
killed_local-live x y e l = by (is_local x.kind) e
  where
    by : (b : Bool) → cond b (killed x) x ≡ y → x ≡ y
    by true f = absurd (let never : false ≡ true = ap (λ v. v.alive) f ∙ l in cc)
    by false f = f

killed_local-same : (x y : Object) → killed_local x ≡ y → (length y.cells ≡ length x.cells) × (y.align ≡ x.align)
killed_local-same x y e = by (is_local x.kind) e
  where
    by : (b : Bool) → cond b (killed x) x ≡ y → (length y.cells ≡ length x.cells) × (y.align ≡ x.align)
    by true f = (ap (λ v. length v.cells) (sym f), ap (λ v. v.align) (sym f))
    by false f = (ap (λ v. length v.cells) (sym f), ap (λ v. v.align) (sym f))

pub scope_ends : (n : ℕ) (objs : List Object) → IsFewer objs (locals_killed_from n objs)
scope_ends n objs = record {
  count = count n objs;
  was = λ o x l. (was n objs o x l.0 l.1, l.1);
  heap = λ o x l e. (heap n objs o x l.0 e, l.1);
  alike = alike n objs;
}
  where
    count : (n : ℕ) (objs : List Object) → length (locals_killed_from n objs) ≡ length objs
    count n [] = refl
    count zero (x ∷ objs) = ap suc (count zero objs)
    count (suc n) (x ∷ objs) = ap suc (count n objs)

    was : (n : ℕ) (objs : List Object) (o : ℕ) (y : Object) → slice_get (locals_killed_from n objs) o ≡ Some y → y.alive ≡ true →
        slice_get objs o ≡ Some y
    was n [] o y e l = cc
    was zero (x ∷ objs) zero y e l = let f : killed_local x ≡ y = cc in ap Some (killed_local-live x y f l)
    was zero (x ∷ objs) (suc o) y e l = was zero objs o y e l
    was (suc n) (x ∷ objs) zero y e l = e
    was (suc n) (x ∷ objs) (suc o) y e l = was n objs o y e l

    heap : (n : ℕ) (objs : List Object) (o : ℕ) (y : Object) → slice_get objs o ≡ Some y → y.kind ≡ Heap →
        slice_get (locals_killed_from n objs) o ≡ Some y
    heap n [] o y e h = cc
    heap zero (x ∷ objs) zero y e h =
        let f : x ≡ y = cc in
        ap Some (killed_local-heap x (ap (λ v. v.kind) f ∙ h) ∙ f)
    heap zero (x ∷ objs) (suc o) y e h = heap zero objs o y e h
    heap (suc n) (x ∷ objs) zero y e h = e
    heap (suc n) (x ∷ objs) (suc o) y e h = heap n objs o y e h

    further : (x : Object) (objs : List Object) (o : ℕ) (y : Object) → Alike objs o y → Alike (x ∷ objs) (suc o) y
    further x objs o y k = record { x = k.x; there = k.there; count = k.count; align = k.align }

    alike : (n : ℕ) (objs : List Object) (o : ℕ) (y : Object) → slice_get (locals_killed_from n objs) o ≡ Some y → Alike objs o y
    alike n [] o y e = cc
    alike zero (x ∷ objs) zero y e =
        let f : killed_local x ≡ y = cc in
        let same = killed_local-same x y f in
        record { x = x; there = refl; count = same.0; align = same.1 }
    alike zero (x ∷ objs) (suc o) y e = further x objs o y (alike zero objs o y e)
    alike (suc n) (x ∷ objs) zero y e = record { x = y; there = e; count = refl; align = refl }
    alike (suc n) (x ∷ objs) (suc o) y e = further x objs o y (alike n objs o y e)
