-- A new local object in memory.
use Rattle.std.proofs.Common.{◌≡◌, ◌≢◌, ℕ, ◌+◌, ◌<◌, ◌≤◌, List, [], ◌∷◌, ◌++◌, length, Some, ap, sym, ◌∙◌, subst, arith, length-append, ◌⊎◌, inl, inr, Bool, true}
use Rattle.std.specs.Prelude.{slice_get}
use Rattle.std.proofs.lemmas.Option.{slice_get_within}
use Rattle.hx_base.specs.Memory.{le_bytes, byte_at, is_mapped}
use Rattle.hx_base.specs.Runtime.{World, block_size}
use Rattle.hare_typed.specs.declared.cell.Cell.{Cell}
use Rattle.hare_typed.specs.Objects.{Object, Local, Heap, extent_of}
use Rattle.hare_typed.specs.State.{State}
use Rattle.hare_meaning.specs.Related.{Standing, At, Temp, Places, IsLive, Covered, Held, Agrees, Match, IsNormal, Ground, Values, objects_in, Related}
use Rattle.hare_meaning.proofs.Related.Cells.{get_more, get_front, get_end, IsFront, agrees_on, match_on, IsPlaced}
use Rattle.hare_meaning.proofs.Related.Store.{with_made}

-- what an object is in a list with one more
pub data Newer (objs : List Object) (x : Object) (p : ℕ) (y : Object) : Type 0 where
  newest : p ≡ length objs → y ≡ x → Newer objs x p y
  older : IsLive objs p y → Newer objs x p y

pub after_more : (objs : List Object) (x : Object) (p : ℕ) (y : Object) → IsLive (objs ++ x ∷ []) p y → Newer objs x p y
after_more objs x p y l = pick (get_more objs x p y l.0)
  where
    pick : (slice_get objs p ≡ Some y) ⊎ ((p ≡ length objs) × (y ≡ x)) → Newer objs x p y
    pick (inl e) = older (e, l.1)
    pick (inr e) = newest e.0 e.1

pub front_more : (ps : Places) (p : Standing) → IsFront ps (ps ++ p ∷ [])
front_more ps p = λ o q e. get_front ps (p ∷ []) o q e

-- an address of an old object or of the newest
data WhichOf (ps : Places) (objs : List Object) (x : Object) (b o a : ℕ) : Type 0 where
  old_one : Covered ps objs o a → WhichOf ps objs x b o a
  new_one : o ≡ length objs → (i : ℕ) → i < extent_of x → a ≡ b + i → WhichOf ps objs x b o a

module _ (ground : Ground) where
  -- what a range is that a new object may stand on
  pub record IsFree (ps : Places) (s : State) (w : World) (b : ℕ) (x : Object) : Type 0 where
    pub alive : x.alive ≡ true
    pub local : x.kind ≡ Local
    pub mapped : (i : ℕ) → i < extent_of x → is_mapped w.memory (b + i) ≡ true
    pub free : (o i : ℕ) → i < extent_of x → ¬ (Covered ps (objects_in s) o (b + i))
    pub clear : (i l n : ℕ) (f : ℕ × List ℕ) → slice_get ground.fixed i ≡ Some f → l < length f.1 → n < extent_of x → f.0 + l ≢ b + n
    pub stands : IsPlaced b x
    pub holds : (i : ℕ) (c : Cell) → slice_get x.cells i ≡ Some c → Agrees ps c (byte_at w.memory (b + i))

  pub new_related : (ps : Places) (s : State) (w : World) (calls : ℕ) (value : Values) (b : ℕ) (x : Object) →
      Related ground ps s w calls value → IsFree ps s w b x →
      Related ground (ps ++ At b ∷ []) (with_made s (objects_in s ++ x ∷ [])) w calls value
  new_related ps s w calls value b x r h = record {
    all = length-append ps (At b ∷ []) ∙ ap (λ z. z + 1) r.all ∙ sym (length-append (objects_in s) (x ∷ []));
    unnamed = r.unnamed;
    standing = λ i p e. front_more ps (At b) p.0 (At p.1) (r.standing i p e);
    mapped = λ o a c. mapped_at o a (which o a c);
    apart = λ o p a c d. apart_at o p a (which o a c) (which p a d);
    placed = λ o a y e at. placed_at o a y (get_more (objects_in s) x o y e) at;
    cells = λ o a i y c l at g. agrees_on ps ps' c (byte_at w.memory (a + i)) (front_more ps (At b))
        (cells_at o a i y c (after_more (objects_in s) x o y l) at g);
    held_cells = λ o c t n signed y l at. held_at o c t n signed y (after_more (objects_in s) x o y l) at;
    held_apart = λ o p c t f g. r.held_apart o p c t (held_old o c t f) (held_old p c t g);
    heap_next = r.heap_next;
    heap_above = r.heap_above;
    heap_blocks = λ o a y l e at. blocks o a y e (after_more (objects_in s) x o y l) at;
    heap_objects = λ a n e. let g = r.heap_objects a n
        e in record {
          o = g.o;
          x = g.x;
          live = (get_front (objects_in s) (x ∷ []) g.o g.x g.live.0, g.live.1);
          kind = g.kind;
          at =
              front_more ps (At b) g.o (At a) g.at;
          is = g.is;
        };
    heap_places = λ o y l e. heap_at o y e (after_more (objects_in s) x o y l);
    heap_apart = r.heap_apart;
    live = r.live;
    fill = r.fill;
    fixed_hold = r.fixed_hold;
    fixed_apart = λ i l o f e g c. text i l o f e g (which o (f.0 + l) c);
    input = r.input;
    output = r.output;
    arguments = r.arguments;
  }
    where
      ps' : List Standing
      ps' = ps ++ At b ∷ []

      place_old : (o : ℕ) (p : Standing) (y : Object) → slice_get (objects_in s) o ≡ Some y → slice_get ps' o ≡ Some p →
          slice_get ps o ≡ Some p
      place_old o p y live e = pick (get_more ps (At b) o p e)
        where
          pick : (slice_get ps o ≡ Some p) ⊎ ((o ≡ length ps) × (p ≡ At b)) → slice_get ps o ≡ Some p
          pick (inl g) = g
          pick (inr g) = absurd (omega (arith, g.0, r.all, slice_get_within (objects_in s) o y live))

      place_new : (o : ℕ) (p : Standing) → o ≡ length (objects_in s) → slice_get ps' o ≡ Some p → p ≡ At b
      place_new o p e g = let z : slice_get ps' o ≡ Some (At b) = rw (e ∙ sym r.all) (get_end ps (At b)) in cc

      which : (o a : ℕ) → Covered ps' (objects_in s ++ x ∷ []) o a → WhichOf ps (objects_in s) x b o a
      which o a c = pick (after_more (objects_in s) x o c.x c.live)
        where
          pick : Newer (objects_in s) x o c.x → WhichOf ps (objects_in s) x b o a
          pick (newest e f) =
              let z : c.from ≡ b = let g = place_new o (At c.from) e c.at in cc in
              new_one e c.k (subst (λ y. c.k < extent_of y) f c.within) (c.is ∙ ap (λ y. y + c.k) z)
          pick (older l) = old_one record {
            x = c.x;
            from = c.from;
            k = c.k;
            live = l;
            at = place_old o (At c.from) c.x l.0 c.at;
            within =
                c.within;
            is = c.is;
          }

      mapped_at : (o a : ℕ) → WhichOf ps (objects_in s) x b o a → is_mapped w.memory a ≡ true
      mapped_at o a (old_one c) = r.mapped o a c
      mapped_at o a (new_one e i l f) = rw f (h.mapped i l)

      apart_at : (o p a : ℕ) → WhichOf ps (objects_in s) x b o a → WhichOf ps (objects_in s) x b p a → o ≡ p
      apart_at o p a (old_one c) (old_one d) = r.apart o p a c d
      apart_at o p a (old_one c) (new_one e i l f) = absurd (h.free o i l (subst (λ z. Covered ps (objects_in s) o z) f c))
      apart_at o p a (new_one e i l f) (old_one d) = absurd (h.free p i l (subst (λ z. Covered ps (objects_in s) p z) f d))
      apart_at o p a (new_one e i l f) (new_one g n m q) = e ∙ sym g

      placed_at : (o a : ℕ) (y : Object) → (slice_get (objects_in s) o ≡ Some y) ⊎ ((o ≡ length (objects_in s)) × (y ≡ x)) →
          slice_get ps' o ≡ Some (At a) → IsPlaced a y
      placed_at o a y (inl e) at = r.placed o a y e (place_old o (At a) y e at)
      placed_at o a y (inr e) at = let z : a ≡ b = let g = place_new o (At a) e.0 at in cc in rw (z, e.1) h.stands

      cells_at : (o a i : ℕ) (y : Object) (c : Cell) → Newer (objects_in s) x o y → slice_get ps' o ≡ Some (At a) →
          slice_get y.cells i ≡ Some c → Agrees ps c (byte_at w.memory (a + i))
      cells_at o a i y c (newest e f) at g =
          let z : a ≡ b = let q = place_new o (At a) e at in cc in
          rw z (h.holds i c (ap (λ v. slice_get v.cells i) (sym f) ∙ g))
      cells_at o a i y c (older l) at g = r.cells o a i y c l (place_old o (At a) y l.0 at) g

      held_at : (o c t n : ℕ) (signed : Bool) (y : Object) → Newer (objects_in s) x o y → slice_get ps' o ≡ Some (Temp c t n signed) →
          Match ps' y.cells (le_bytes n (value c t)) × IsNormal n signed (value c t) × (c ≤ calls)
      held_at o c t n signed y (newest e f) at = absurd (let g = place_new o (Temp c t n signed) e at in cc)
      held_at o c t n signed y (older l) at =
          let g = r.held_cells o c t n signed y l (place_old o (Temp c t n signed) y l.0 at) in
          (match_on ps ps' y.cells (le_bytes n (value c t)) (front_more ps (At b)) g.0, g.1, g.2)

      held_old : (o c t : ℕ) → Held ps' (objects_in s ++ x ∷ []) o c t → Held ps (objects_in s) o c t
      held_old o c t g = pick (after_more (objects_in s) x o g.x g.live)
        where
          pick : Newer (objects_in s) x o g.x → Held ps (objects_in s) o c t
          pick (newest e f) = absurd (let z = place_new o (Temp c t g.width g.signed) e g.at in cc)
          pick (older l) = record {
            x = g.x;
            width = g.width;
            signed = g.signed;
            live = l;
            at = place_old o (Temp c t g.width g.signed) g.x
                l.0 g.at;
          }

      blocks : (o a : ℕ) (y : Object) → y.kind ≡ Heap → Newer (objects_in s) x o y → slice_get ps' o ≡ Some (At a) →
          block_size w.heap.blocks a ≡ Some (extent_of y)
      blocks o a y e (newest g f) at = absurd (let z : Local ≡ Heap = sym h.local ∙ ap (λ v. v.kind) (sym f) ∙ e in cc)
      blocks o a y e (older l) at = r.heap_blocks o a y l e (place_old o (At a) y l.0 at)

      heap_at : (o : ℕ) (y : Object) → y.kind ≡ Heap → Newer (objects_in s) x o y → (a : ℕ) × (slice_get ps' o ≡ Some (At a))
      heap_at o y e (newest g f) = absurd (let z : Local ≡ Heap = sym h.local ∙ ap (λ v. v.kind) (sym f) ∙ e in cc)
      heap_at o y e (older l) = let g = r.heap_places o y l e in (g.0, front_more ps (At b) o (At g.0) g.1)

      text : (i l o : ℕ) (f : ℕ × List ℕ) → slice_get ground.fixed i ≡ Some f → l < length f.1 →
          WhichOf ps (objects_in s) x b o (f.0 + l) → ⊥
      text i l o f e g (old_one c) = r.fixed_apart i l o f e g c
      text i l o f e g (new_one q n m z) = h.clear i l n f e g m z
