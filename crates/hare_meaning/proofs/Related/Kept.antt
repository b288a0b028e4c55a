-- Objects that are kept in temporaries: one made, and one that gets a value.
use Rattle.std.proofs.Common.{◌≡◌, ◌≢◌, ℕ, ◌+◌, ◌≤◌, List, [], ◌∷◌, ◌++◌, length, Some, ap, sym, ◌∙◌, subst, arith, length-append, ◌⊎◌, inl, inr, Bool, true}
use Rattle.std.specs.Prelude.{slice_get, slice_set}
use Rattle.std.proofs.lemmas.Option.{slice_get_within}
use Rattle.hx_base.specs.Memory.{le_bytes, byte_at}
use Rattle.hx_base.specs.Runtime.{World}
use Rattle.hare_typed.specs.declared.cell.Cell.{Cell}
use Rattle.hare_typed.specs.Objects.{Object, Local, Heap}
use Rattle.hare_typed.specs.State.{State}
use Rattle.hare_meaning.specs.Related.{Standing, At, Temp, Places, IsLive, Covered, Held, Match, IsNormal, BlockOf, Ground, Values, objects_in, Related}
use Rattle.hare_meaning.proofs.Related.Cells.{Same, same, other, is_same, get_set_other, length_set, get_more, get_front, get_end, agrees_on, match_on, Found, found_changed, found_before, found_set, Now, changed, as_before, after_set, IsPlaced, held_back}
use Rattle.hare_meaning.proofs.Related.Store.{with_made}
use Rattle.hare_meaning.proofs.Related.New.{Newer, newest, older, after_more, front_more}

-- two temporaries that are not the same
abbrev pub Differ : (c t d u : ℕ) → Type 0
Differ c t d u = (d ≢ c) ⊎ (u ≢ t)

module _ (ground : Ground) where
  -- a kept binding gets a value: of all temporaries one is changed
  pub kept_assigned : (ps : Places) (s : State) (w : World) (calls : ℕ) (value value' : Values) (o c t n v : ℕ) (sign : Bool) (x : Object)
      (cs : List Cell) → Related ground ps s w calls value → IsLive (objects_in s) o x → slice_get ps o ≡ Some (Temp c t n sign) →
      value' c t ≡ v → ((d u : ℕ) → Differ c t d u → value' d u ≡ value d u) → Match ps cs (le_bytes n v) → IsNormal n sign v →
      Related ground ps (with_made s (slice_set (objects_in s) o (record x { cells = cs }))) w calls value'
  kept_assigned ps s w calls value value' o c t n v sign x cs r live at is rest ma nv = record {
    all = r.all ∙ sym (length_set (objects_in s) o x');
    unnamed = r.unnamed;
    standing = r.standing;
    mapped = λ p a h. r.mapped p a (back p a h);
    apart = λ p q a g h. r.apart p q a (back p a g) (back q a h);
    placed = λ p a y e g. placed_at p a y g (found_set (objects_in s) o x x' p y live.0 e);
    cells = λ p a i y d l g e. r.cells p a i y d (mem p a y g (after_set (objects_in s) o x x' p y live.0 l)) g e;
    held_cells = λ p d u z zs y l g. held p d u z zs y g (after_set (objects_in s) o x x' p y live.0 l);
    held_apart = λ p q d u f g. r.held_apart p q d u (held_back ps (objects_in s) o x x' live p d u f)
        (held_back ps (objects_in s) o x x' live q d u g);
    heap_next = r.heap_next;
    heap_above = r.heap_above;
    heap_blocks = λ p a y l e g. r.heap_blocks p a y (mem p a y g (after_set (objects_in s) o x x' p y live.0 l)) e g;
    heap_objects = λ a z e. objects a z (r.heap_objects a z e);
    heap_places = λ p y l e. stands p y e (after_set (objects_in s) o x x' p y live.0 l);
    heap_apart = r.heap_apart;
    live = r.live;
    fill = r.fill;
    fixed_hold = r.fixed_hold;
    fixed_apart = λ i l p f e h g. r.fixed_apart i l p f e h (back p (f.0 + l) g);
    input = r.input;
    output = r.output;
    arguments = r.arguments;
  }
    where
      x' : Object
      x' = record x { cells = cs }

      -- an object in memory is another one
      mem : (p a : ℕ) (y : Object) → slice_get ps p ≡ Some (At a) → Now (objects_in s) o x' p y → IsLive (objects_in s) p y
      mem p a y g (changed e f) = absurd (let h : slice_get ps o ≡ Some (At a) = ap (slice_get ps) (sym e) ∙ g in cc)
      mem p a y g (as_before m l) = l

      placed_at : (p a : ℕ) (y : Object) → slice_get ps p ≡ Some (At a) → Found (objects_in s) o x' p y → IsPlaced a y
      placed_at p a y g (found_changed e f) = absurd (let h : slice_get ps o ≡ Some (At a) = ap (slice_get ps) (sym e) ∙ g in cc)
      placed_at p a y g (found_before m e) = r.placed p a y e g

      back : (p a : ℕ) → Covered ps (slice_set (objects_in s) o x') p a → Covered ps (objects_in s) p a
      back p a g = record {
        x = g.x;
        from = g.from;
        k = g.k;
        live = mem p g.from g.x g.at
            (after_set (objects_in s) o x x' p g.x live.0 g.live);
        at = g.at;
        within = g.within;
        is = g.is;
      }

      -- a live heap object stands in memory, and so is another one
      stands : (p : ℕ) (y : Object) → y.kind ≡ Heap → Now (objects_in s) o x' p y → (a : ℕ) × (slice_get ps p ≡ Some (At a))
      stands p y e (changed h f) =
          let mine = r.heap_places o x live (ap (λ v. v.kind) (sym f) ∙ e) in
          (mine.0, subst (λ z. slice_get ps z ≡ Some (At mine.0)) (sym h) mine.1)
      stands p y e (as_before m l) = r.heap_places p y l e

      objects : (a z : ℕ) → BlockOf ps (objects_in s) a z → BlockOf ps (slice_set (objects_in s) o x') a z
      objects a z b =
          let m : b.o ≢ o = λ e. let h : slice_get ps o ≡ Some (At a) = ap (slice_get ps) (sym e) ∙ b.at in cc in
          record {
            o = b.o;
            x = b.x;
            live = (get_set_other (objects_in s) o b.o x' (λ e. m (sym e)) ∙ b.live.0, b.live.1);
            kind = b.kind;
            at = b.at;
            is = b.is;
          }

      held : (p d u z : ℕ) (zs : Bool) (y : Object) → slice_get ps p ≡ Some (Temp d u z zs) → Now (objects_in s) o x' p y →
          Match ps y.cells (le_bytes z (value' d u)) × IsNormal z zs (value' d u) × (d ≤ calls)
      held p d u z zs y g (changed e f) =
          let h : slice_get ps o ≡ Some (Temp d u z zs) = ap (slice_get ps) (sym e) ∙ g in
          let ed : d ≡ c = cc in
          let eu : u ≡ t = cc in
          let ez : z ≡ n = cc in
          let es : zs ≡ sign = cc in
          let val : value' d u ≡ v = rw (ed, eu) is in
          let below = (r.held_cells o c t n sign x live at).2 in
          rw (val, ez, es, f) (ma, nv, subst (λ q. q ≤ calls) (sym ed) below)
      held p d u z zs y g (as_before m l) =
          let h = r.held_cells p d u z zs y l g in
          let far : Differ c t d u = differs (is_same d c) in
          rw (rest d u far) h
        where
          differs : Same d c → Differ c t d u
          differs (same e) = inr (λ f. m (r.held_apart p o d u (record { x = y; width = z; signed = zs; live = l; at = g })
              (record { x = x; width = n; signed = sign; live = live; at = rw (e, f) at })))
          differs (other e) = inl e

  -- a kept binding is made: the value stands in the temporary already
  pub kept_made : (ps : Places) (s : State) (w : World) (calls : ℕ) (value : Values) (c t n : ℕ) (sign : Bool) (x : Object) →
      Related ground ps s w calls value → x.alive ≡ true → x.kind ≡ Local → c ≤ calls → ((o : ℕ) → ¬ (Held ps (objects_in s) o c t)) →
      Match ps x.cells (le_bytes n (value c t)) → IsNormal n sign (value c t) →
      Related ground (ps ++ Temp c t n sign ∷ []) (with_made s (objects_in s ++ x ∷ [])) w calls value
  kept_made ps s w calls value c t n sign x r live local cc_le free ma nv = record {
    all = length-append ps (new ∷ []) ∙ ap (λ z. z + 1) r.all ∙ sym (length-append (objects_in s) (x ∷ []));
    unnamed = r.unnamed;
    standing = λ i p e. front_more ps new p.0 (At p.1) (r.standing i p e);
    mapped = λ o a h. r.mapped o a (back o a h);
    apart = λ o p a g h. r.apart o p a (back o a g) (back p a h);
    placed = λ o a y e at. placed_at o a y (get_more (objects_in s) x o y e) at;
    cells = λ o a i y d l at g. let l' = mem o a y at (after_more (objects_in s) x o y l) in agrees_on ps ps' d (byte_at w.memory (a + i))
        (front_more ps new) (r.cells o a i y d l' (place_old o (At a) y l'.0 at) g);
    held_cells = λ o d u z zs y l at. held o d u z zs y (after_more (objects_in s) x o y l) at;
    held_apart = λ o p d u f g. apart o p d u f g (after_more (objects_in s) x o f.x f.live) (after_more (objects_in s) x p g.x g.live);
    heap_next = r.heap_next;
    heap_above = r.heap_above;
    heap_blocks = λ o a y l e at. let l' = mem o a y at (after_more (objects_in s) x o y l) in r.heap_blocks o a y l' e
        (place_old o (At a) y l'.0 at);
    heap_objects = λ a z e. let g = r.heap_objects a z
        e in record {
          o = g.o;
          x = g.x;
          live = (get_front (objects_in s) (x ∷ []) g.o g.x g.live.0, g.live.1);
          kind = g.kind;
          at =
              front_more ps new g.o (At a) g.at;
          is = g.is;
        };
    heap_places = λ o y l e. heap_at o y e (after_more (objects_in s) x o y l);
    heap_apart = r.heap_apart;
    live = r.live;
    fill = r.fill;
    fixed_hold = r.fixed_hold;
    fixed_apart = λ i l o f e h g. r.fixed_apart i l o f e h (back o (f.0 + l) g);
    input = r.input;
    output = r.output;
    arguments = r.arguments;
  }
    where
      new : Standing
      new = Temp c t n sign

      ps' : List Standing
      ps' = ps ++ new ∷ []

      place_old : (o : ℕ) (p : Standing) (y : Object) → slice_get (objects_in s) o ≡ Some y → slice_get ps' o ≡ Some p →
          slice_get ps o ≡ Some p
      place_old o p y live e = pick (get_more ps new o p e)
        where
          pick : (slice_get ps o ≡ Some p) ⊎ ((o ≡ length ps) × (p ≡ new)) → slice_get ps o ≡ Some p
          pick (inl h) = h
          pick (inr h) = absurd (omega (arith, h.0, r.all, slice_get_within (objects_in s) o y live))

      place_new : (o : ℕ) (p : Standing) → o ≡ length (objects_in s) → slice_get ps' o ≡ Some p → p ≡ Temp c t n sign
      place_new o p e g = let h : slice_get ps' o ≡ Some new = rw (e ∙ sym r.all) (get_end ps new) in cc

      mem : (o a : ℕ) (y : Object) → slice_get ps' o ≡ Some (At a) → Newer (objects_in s) x o y → IsLive (objects_in s) o y
      mem o a y at (newest e f) = absurd (let h = place_new o (At a) e at in cc)
      mem o a y at (older l) = l

      placed_at : (o a : ℕ) (y : Object) → (slice_get (objects_in s) o ≡ Some y) ⊎ ((o ≡ length (objects_in s)) × (y ≡ x)) →
          slice_get ps' o ≡ Some (At a) → IsPlaced a y
      placed_at o a y (inl e) at = r.placed o a y e (place_old o (At a) y e at)
      placed_at o a y (inr e) at = absurd (let h = place_new o (At a) e.0 at in cc)

      back : (o a : ℕ) → Covered ps' (objects_in s ++ x ∷ []) o a → Covered ps (objects_in s) o a
      back o a g =
          let l = mem o g.from g.x g.at (after_more (objects_in s) x o g.x g.live) in record
          { x = g.x; from = g.from; k = g.k; live = l; at = place_old o (At g.from) g.x l.0 g.at; within = g.within; is = g.is }

      held : (o d u z : ℕ) (zs : Bool) (y : Object) → Newer (objects_in s) x o y → slice_get ps' o ≡ Some (Temp d u z zs) →
          Match ps' y.cells (le_bytes z (value d u)) × IsNormal z zs (value d u) × (d ≤ calls)
      held o d u z zs y (newest e f) at =
          let h = place_new o (Temp d u z zs) e at in
          let ed : d ≡ c = cc in
          let eu : u ≡ t = cc in
          let ez : z ≡ n = cc in
          let es : zs ≡ sign = cc in
          rw (ed, eu, ez, es, f) (match_on ps ps' x.cells (le_bytes n (value c t)) (front_more ps new) ma, nv, cc_le)
      held o d u z zs y (older l) at =
          let h = r.held_cells o d u z zs y l (place_old o (Temp d u z zs) y l.0 at) in
          (match_on ps ps' y.cells (le_bytes z (value d u)) (front_more ps new) h.0, h.1, h.2)

      heap_at : (o : ℕ) (y : Object) → y.kind ≡ Heap → Newer (objects_in s) x o y → (a : ℕ) × (slice_get ps' o ≡ Some (At a))
      heap_at o y e (newest g f) = absurd (let z : Local ≡ Heap = sym local ∙ ap (λ v. v.kind) (sym f) ∙ e in cc)
      heap_at o y e (older l) = let g = r.heap_places o y l e in (g.0, front_more ps new o (At g.0) g.1)

      was : (o d u : ℕ) → Held ps' (objects_in s ++ x ∷ []) o d u → (y : Object) → IsLive (objects_in s) o y → (z : ℕ) (zs : Bool) →
          slice_get ps' o ≡ Some (Temp d u z zs) → Held ps (objects_in s) o d u
      was o d u h y l z zs at = record { x = y; width = z; signed = zs; live = l; at = place_old o (Temp d u z zs) y l.0 at }

      newly : (o p d u z : ℕ) (zs : Bool) → o ≡ length (objects_in s) → slice_get ps' o ≡ Some (Temp d u z zs) →
          Held ps (objects_in s) p d u → ⊥
      newly o p d u z zs e at h =
          let g = place_new o (Temp d u z zs) e at in
          let ed : d ≡ c = cc in
          let eu : u ≡ t = cc in
          let h' : Held ps (objects_in s) p c t =
          subst (λ q. Held ps (objects_in s) p q t) ed (subst (λ q. Held ps (objects_in s) p d q) eu h) in
          free p h'

      apart : (o p d u : ℕ) (f : Held ps' (objects_in s ++ x ∷ []) o d u) (g : Held ps' (objects_in s ++ x ∷ []) p d u) →
          Newer (objects_in s) x o f.x → Newer (objects_in s) x p g.x → o ≡ p
      apart o p d u f g (newest e a) (newest h b) = e ∙ sym h
      apart o p d u f g (newest e a) (older l) = absurd (newly o p d u f.width f.signed e f.at (was p d u g g.x l g.width g.signed g.at))
      apart o p d u f g (older l) (newest h b) = absurd (newly p o d u g.width g.signed h g.at (was o d u f f.x l f.width f.signed f.at))
      apart o p d u f g (older l) (older k) =
          r.held_apart o p d u (was o d u f f.x l f.width f.signed f.at) (was p d u g g.x k g.width g.signed g.at)
