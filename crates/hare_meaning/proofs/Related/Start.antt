-- The start of a run: objects that are laid out one behind another.
use Rattle.std.proofs.Common.{◌≡◌, ◌≢◌, ℕ, zero, suc, ◌+◌, ◌-◌, ◌%◌, ◌^◌, ◌<◌, ◌≤◌, List, [], ◌∷◌, ◌++◌, map, length, Option, Some, None, refl, ap, sym, ◌∙◌, subst, arith, ◌⊎◌, inl, inr, Bool, true}
use Rattle.std.specs.Prelude.{slice_get}
use Rattle.std.proofs.lemmas.Option.{slice_get_within}
use Rattle.std.proofs.lemmas.Bool.{cases_lt}
use Rattle.hx_base.specs.Memory.{Memory, Mapping, byte_at, is_mapped, last_mapped, all_mapped, bytes_at}
use Rattle.hx_base.specs.Runtime.{World, heap_start, live_bytes, block_size}
use Rattle.hx_base.proofs.Memory.Ranges.{all_mapped-each, slice_get-bytes_at, in_range-outside}
use Rattle.hare_typed.specs.declared.cell.Cell.{Cell}
use Rattle.hare_typed.specs.Objects.{Object, Heap, extent_of}
use Rattle.hare_typed.specs.State.{State}
use Rattle.std.specs.List.{enumerate_from}
use Rattle.hare_meaning.specs.Code.{Code}
use Rattle.hare_meaning.specs.Ground.{argument_addresses, IsGroundOf}
use Rattle.hare_meaning.specs.Related.{Standing, At, Temp, Places, IsLive, Covered, Agrees, Match, BytesAre, Ground, Values, objects_in, Related}
use Rattle.hare_meaning.proofs.Related.Cells.{Inside, inside, before, behind, inside_of, match_get, IsPlaced}

-- so many bytes stand beside each of some objects
abbrev pub AreBeside : (at bytes : ℕ) → List ℕ → List Object → Type 0
AreBeside b n [] xs = Unit {0}
AreBeside b n (a ∷ ats) [] = Unit {0}
AreBeside b n (a ∷ ats) (x ∷ xs) = ((b + n ≤ a) ⊎ (a + extent_of x ≤ b)) × AreBeside b n ats xs

pub beside_at : (b n : ℕ) (ats : List ℕ) (xs : List Object) (o a : ℕ) (x : Object) → AreBeside b n ats xs →
    slice_get ats o ≡ Some a → slice_get xs o ≡ Some x → (b + n ≤ a) ⊎ (a + extent_of x ≤ b)
beside_at b n [] xs o a x h e f = cc
beside_at b n (c ∷ ats) [] o a x h e f = cc
beside_at b n (c ∷ ats) (y ∷ xs) zero a x h e f = let p : c ≡ a = cc in let q : y ≡ x = cc in rw (← p, ← q) h.0
beside_at b n (c ∷ ats) (y ∷ xs) (suc o) a x h e f = beside_at b n ats xs o a x h.1 e f

-- an object stands at an address, which is at least so much
pub record StandsAt (ps : Places) (m : Memory) (low a : ℕ) (x : Object) : Type 0 where
  pub no_block : x.kind ≢ Heap
  pub at_least : low ≤ a
  pub aligned : a % x.align ≡ 0
  pub mapped : all_mapped m a (extent_of x) ≡ true
  pub cells : Match ps x.cells (bytes_at m a (length x.cells))

-- objects stand at addresses, each behind the one before it
abbrev pub AreLaid : Places → Memory → ℕ → List ℕ → List Object → Type 0
AreLaid ps m low [] [] = Unit {0}
AreLaid ps m low [] (x ∷ xs) = ⊥
AreLaid ps m low (a ∷ ats) [] = ⊥
AreLaid ps m low (a ∷ ats) (x ∷ xs) = StandsAt ps m low a x × AreLaid ps m (a + extent_of x) ats xs

pub laid_lengths : (ps : Places) (m : Memory) (low : ℕ) (ats : List ℕ) (xs : List Object) → AreLaid ps m low ats xs → length ats ≡ length xs
laid_lengths ps m low [] [] h = refl
laid_lengths ps m low [] (x ∷ xs) h = absurd h
laid_lengths ps m low (a ∷ ats) [] h = absurd h
laid_lengths ps m low (a ∷ ats) (x ∷ xs) h = ap suc (laid_lengths ps m (a + extent_of x) ats xs h.1)

pub laid_at : (ps : Places) (m : Memory) (low : ℕ) (ats : List ℕ) (xs : List Object) (o a : ℕ) (x : Object) → AreLaid ps m low ats xs →
    slice_get ats o ≡ Some a → slice_get xs o ≡ Some x → StandsAt ps m low a x
laid_at ps m low [] xs o a x h e f = cc
laid_at ps m low (b ∷ ats) [] o a x h e f = cc
laid_at ps m low (b ∷ ats) (y ∷ xs) zero a x h e f = let p : b ≡ a = cc in let q : y ≡ x = cc in rw (← p, ← q) h.0
laid_at ps m low (b ∷ ats) (y ∷ xs) (suc o) a x h e f =
    let g = laid_at ps m (b + extent_of y) ats xs o a x h.1 e f in
    record {
      no_block = g.no_block;
      at_least = let l = h.0.at_least in let k = g.at_least in omega (arith, l, k);
      aligned = g.aligned;
      mapped = g.mapped;
      cells = g.cells;
    }

pub laid_low : (ps : Places) (m : Memory) (low : ℕ) (ats : List ℕ) (xs : List Object) (o a : ℕ) → AreLaid ps m low ats xs →
    slice_get ats o ≡ Some a → low ≤ a
laid_low ps m low [] xs o a h e = cc
laid_low ps m low (b ∷ ats) [] o a h e = absurd h
laid_low ps m low (b ∷ ats) (y ∷ xs) zero a h e = let p : b ≡ a = cc in let l = h.0.at_least in omega (arith, p, l)
laid_low ps m low (b ∷ ats) (y ∷ xs) (suc o) a h e =
    let l = h.0.at_least in
    let k = laid_low ps m (b + extent_of y) ats xs o a h.1 e in
    omega (arith, l, k)

-- an earlier one ends before a later one begins
pub laid_apart : (ps : Places) (m : Memory) (low : ℕ) (ats : List ℕ) (xs : List Object) (o p a b : ℕ) (x : Object) →
    AreLaid ps m low ats xs → o < p → slice_get ats o ≡ Some a → slice_get xs o ≡ Some x → slice_get ats p ≡ Some b → a + extent_of x ≤ b
laid_apart ps m low [] xs o p a b x h l e f g = cc
laid_apart ps m low (c ∷ ats) [] o p a b x h l e f g = cc
laid_apart ps m low (c ∷ ats) (y ∷ xs) o zero a b x h l e f g = absurd (omega arith)
laid_apart ps m low (c ∷ ats) (y ∷ xs) zero (suc p) a b x h l e f g =
    let q : c ≡ a = cc in
    let r : y ≡ x = cc in
    rw (← q, ← r) (laid_low ps m (c + extent_of y) ats xs p b h.1 g)
laid_apart ps m low (c ∷ ats) (y ∷ xs) (suc o) (suc p) a b x h l e f g =
    laid_apart ps m (c + extent_of y) ats xs o p a b x h.1 (omega arith) e f g

pub get_none : {A : Type 0} (xs : List A) (i : ℕ) → slice_get xs i ≡ None → length xs ≤ i
get_none [] i e = omega arith
get_none (x ∷ xs) zero e = cc
get_none (x ∷ xs) (suc i) e = let l = get_none xs i e in omega (arith, l)

-- a place by the addresses
pub at_map : (ats : List ℕ) (o : ℕ) (p : Standing) → slice_get (map At ats) o ≡ Some p → (a : ℕ) × (slice_get ats o ≡ Some a) × (p ≡ At a)
at_map [] o p e = cc
at_map (a ∷ ats) zero p e = (a, refl, cc)
at_map (a ∷ ats) (suc o) p e = at_map ats o p e

pub map_at : (ats : List ℕ) (o a : ℕ) → slice_get ats o ≡ Some a → slice_get (map At ats) o ≡ Some (At a)
map_at [] o a e = cc
map_at (b ∷ ats) zero a e = cc
map_at (b ∷ ats) (suc o) a e = map_at ats o a e

-- ranges that were mapped end so low
abbrev pub EndBelow : ℕ → List Mapping → Type 0
EndBelow n [] = Unit {0}
EndBelow n (r ∷ rs) = (r.at + r.bytes ≤ n) × EndBelow n rs

pub mapped_below : (n : ℕ) (rs : List Mapping) (a : ℕ) → EndBelow n rs → last_mapped rs a ≡ true → a < n
mapped_below n [] a h e = cc
mapped_below n (r ∷ rs) a h e = pick (inside_of r.at r.bytes a) (mapped_below n rs a h.1)
  where
    pick : Inside r.at r.bytes a → (last_mapped rs a ≡ true → a < n) → a < n
    pick (inside k l f) go = let b = h.0 in omega (arith, b)
    pick (before l) go = go (let f = rw (in_range-outside r.at r.bytes a (inl l)) at e in f)
    pick (behind l) go = go (let f = rw (in_range-outside r.at r.bytes a (inr l)) at e in f)

-- what is numbered, by its number
pub enumerated : (n i : ℕ) (xs : List ℕ) (p : ℕ × ℕ) → slice_get (enumerate_from n xs) i ≡ Some p →
    (p.0 ≡ n + i) × (slice_get xs i ≡ Some p.1)
enumerated n i [] p e = cc
enumerated n zero (x ∷ xs) p e = let f : (n, x) ≡ p = cc in subst (λ q. (q.0 ≡ n + 0) × (Some x ≡ Some q.1)) f (omega arith, refl)
enumerated n (suc i) (x ∷ xs) p e = let h = enumerated (n + 1) i xs p e in let f = h.0 in (omega (arith, f), h.1)

-- objects that stand from the start, by their numbers
pub ground_standing : (c : Code) (args : List (List ℕ)) (statics : List ℕ) (texts : List (ℕ × List ℕ)) (g : Ground) →
    IsGroundOf c args statics texts g → (i : ℕ) (p : ℕ × ℕ) → slice_get g.standing i ≡ Some p →
    slice_get (statics ++ argument_addresses args) p.0 ≡ Some p.1
ground_standing c args statics texts g h i p e =
    let f = enumerated 0 i (statics ++ argument_addresses args) p (rw (← h.standing) e) in
    let m = f.0 in
    let n : p.0 ≡ i = omega (arith, m) in
    rw n f.1

module _ (ground : Ground) where
  -- a run begins: nothing was taken from the heap, and what is fixed lies beside the objects
  pub record Begins (ats : List ℕ) (s : State) (w : World) : Type 0 where
    pub laid : AreLaid (map At ats) w.memory 1 ats (objects_in s)
    pub unnamed : s.memory.objects.named ≡ []
    pub none_live : s.memory.live ≡ 0
    pub none_taken : s.memory.taken ≡ 0
    pub next : w.heap.next ≡ heap_start
    pub blocks : w.heap.blocks ≡ []
    pub below : EndBelow heap_start w.memory.mappings
    pub standing : (i : ℕ) (p : ℕ × ℕ) → slice_get ground.standing i ≡ Some p → slice_get ats p.0 ≡ Some p.1
    pub fixed : (i : ℕ) (f : ℕ × List ℕ) → slice_get ground.fixed i ≡ Some f →
        BytesAre w.memory f.0 f.1 × AreBeside f.0 (length f.1) ats (objects_in s)
    pub fill : w.memory.fill ≡ ground.fill
    pub input : s.input ≡ w.input
    pub output : s.output ≡ w.output
    pub arguments : w.arguments ≡ ground.arguments

  pub start_related : (ats : List ℕ) (s : State) (w : World) (calls : ℕ) (value : Values) → Begins ats s w →
      Related ground (map At ats) s w calls value
  start_related ats s w calls value h = record {
    all = length_places ats ∙ laid_lengths ps w.memory 1 ats (objects_in s) h.laid;
    unnamed = h.unnamed;
    standing = λ i p e. map_at ats p.0 p.1 (h.standing i p e);
    mapped = λ o a c. mapped_at o a c (at_map ats o (At c.from) c.at);
    apart = λ o p a c d. apart_at o p a c d (at_map ats o (At c.from) c.at) (at_map ats p (At d.from) d.at);
    placed = λ o a x e at. placed_at o a x e (at_map ats o (At a) at);
    cells = λ o a k x c l at e. cell_at o a k x c l e (at_map ats o (At a) at);
    held_cells = λ o c t n signed x l at. absurd (no_temporary o c t n signed at);
    held_apart = λ o p c t f g. absurd (no_temporary o c t f.width f.signed f.at);
    heap_next = h.next ∙ ap (λ z. heap_start + z) (sym h.none_taken);
    heap_above = λ a e. subst (λ z. a < z) (sym h.next) (mapped_below heap_start w.memory.mappings a h.below e);
    heap_blocks = λ o a x l e at. absurd (no_block o a x l e (at_map ats o (At a) at));
    heap_places = λ o x l e. absurd (no_heap o x l e);
    heap_objects = λ a n e. absurd (let none : block_size [] a ≡
        Some n = subst (λ z. block_size z a ≡ Some n) h.blocks e in let never : None ≡ Some n = none in cc);
    heap_apart = rw h.blocks tt;
    live = h.none_live ∙ ap live_bytes (sym h.blocks);
    fixed_hold = λ i f e. (h.fixed i f e).0;
    fixed_apart = λ i k o f e l c. beside_all k o f l (h.fixed i f e).1 c (at_map ats o (At c.from) c.at);
    fill = h.fill;
    input = h.input;
    output = h.output;
    arguments = h.arguments;
  }
    where
      ps : Places
      ps = map At ats

      length_places : (bs : List ℕ) → length (map At bs) ≡ length bs
      length_places [] = refl
      length_places (b ∷ bs) = ap suc (length_places bs)

      stands : (o a : ℕ) (x : Object) → slice_get (objects_in s) o ≡ Some x → slice_get ats o ≡ Some a → StandsAt ps w.memory 1 a x
      stands o a x there e = laid_at ps w.memory 1 ats (objects_in s) o a x h.laid e there

      address_of : (o a : ℕ) → (b : ℕ) × (slice_get ats o ≡ Some b) × (At a ≡ At b) → slice_get ats o ≡ Some a
      address_of o a b = let e : a ≡ b.0 = let f = b.2 in cc in rw e b.1

      mapped_at : (o a : ℕ) (c : Covered ps (objects_in s) o a) → (b : ℕ) × (slice_get ats o ≡ Some b) × (At c.from ≡ At b) →
          is_mapped w.memory a ≡ true
      mapped_at o a c b =
          let g = stands o c.from c.x c.live.0 (address_of o c.from b) in
          let l = c.within in
          rw c.is (all_mapped-each w.memory c.from (extent_of c.x) (c.from + c.k) g.mapped (omega arith) (omega (arith, l)))

      apart_at : (o p a : ℕ) (c : Covered ps (objects_in s) o a) (d : Covered ps (objects_in s) p a) →
          (b : ℕ) × (slice_get ats o ≡ Some b) × (At c.from ≡ At b) → (b : ℕ) × (slice_get ats p ≡ Some b) × (At d.from ≡ At b) → o ≡ p
      apart_at o p a c d b e = pick (cases_lt o p) (cases_lt p o)
        where
          first : slice_get ats o ≡ Some c.from
          first = address_of o c.from b

          second : slice_get ats p ≡ Some d.from
          second = address_of p d.from e

          pick : (o < p) ⊎ (p ≤ o) → (p < o) ⊎ (o ≤ p) → o ≡ p
          pick (inl l) r =
              let far = laid_apart ps w.memory 1 ats (objects_in s) o p c.from d.from c.x h.laid l first c.live.0 second in
              let i = c.is in let j = d.is in let k = c.within in
              absurd (omega (arith, far, i, j, k))
          pick (inr l) (inl r) =
              let far = laid_apart ps w.memory 1 ats (objects_in s) p o d.from c.from d.x h.laid r second d.live.0 first in
              let i = c.is in let j = d.is in let k = d.within in
              absurd (omega (arith, far, i, j, k))
          pick (inr l) (inr r) = omega arith

      -- the last byte of an object is mapped, and so low
      ends : (o a : ℕ) (x : Object) → StandsAt ps w.memory 1 a x → a + extent_of x < 2 ^ 64
      ends o a x g =
          let last = all_mapped-each w.memory a (extent_of x) (a + (extent_of x - 1)) g.mapped (omega arith) (omega arith) in
          let low = mapped_below heap_start w.memory.mappings (a + (extent_of x - 1)) h.below last in
          omega (arith, low)

      placed_at : (o a : ℕ) (x : Object) → slice_get (objects_in s) o ≡ Some x →
          (b : ℕ) × (slice_get ats o ≡ Some b) × (At a ≡ At b) → IsPlaced a x
      placed_at o a x there b =
          let g = stands o a x there (address_of o a b) in
          let low = g.at_least in
          (omega (arith, low), g.aligned, ends o a x g)

      cell_at : (o a k : ℕ) (x : Object) (c : Cell) → IsLive (objects_in s) o x → slice_get x.cells k ≡ Some c →
          (b : ℕ) × (slice_get ats o ≡ Some b) × (At a ≡ At b) → Agrees ps c (byte_at w.memory (a + k))
      cell_at o a k x c l e b =
          let g = stands o a x l.0 (address_of o a b) in
          let m = match_get ps x.cells (bytes_at w.memory a (length x.cells)) k c g.cells e in
          let f = slice_get-bytes_at w.memory a (length x.cells) k (slice_get_within x.cells k c e) in
          let v : m.0 ≡ byte_at w.memory (a + k) = let u = m.1 in cc in
          rw (← v) m.2

      no_temporary : (o c t n : ℕ) (signed : Bool) → slice_get ps o ≡ Some (Temp c t n signed) → ⊥
      no_temporary o c t n signed e = let b = at_map ats o (Temp c t n signed) e in let f = b.2 in cc

      no_block : (o a : ℕ) (x : Object) → IsLive (objects_in s) o x → x.kind ≡ Heap →
          (b : ℕ) × (slice_get ats o ≡ Some b) × (At a ≡ At b) → ⊥
      no_block o a x l e b = (stands o a x l.0 (address_of o a b)).no_block e

      -- an object has an address
      no_heap : (o : ℕ) (x : Object) → IsLive (objects_in s) o x → x.kind ≡ Heap → ⊥
      no_heap o x l e = pick (slice_get ats o) refl
        where
          lengths : length ats ≡ length (objects_in s)
          lengths = laid_lengths ps w.memory 1 ats (objects_in s) h.laid

          pick : (b : Option ℕ) → slice_get ats o ≡ b → ⊥
          pick (Some a) f = (stands o a x l.0 f).no_block e
          pick None f =
              let low = slice_get_within (objects_in s) o x l.0 in
              let high = get_none ats o f in
              omega (arith, low, high, lengths)

      beside_all : (k o : ℕ) (f : ℕ × List ℕ) → k < length f.1 → AreBeside f.0 (length f.1) ats (objects_in s) →
          (c : Covered ps (objects_in s) o (f.0 + k)) → (b : ℕ) × (slice_get ats o ≡ Some b) × (At c.from ≡ At b) → ⊥
      beside_all k o f l h c b = pick (beside_at f.0 (length f.1) ats (objects_in s) o c.from c.x h (address_of o c.from b) c.live.0)
        where
          pick : (f.0 + length f.1 ≤ c.from) ⊎ (c.from + extent_of c.x ≤ f.0) → ⊥
          pick (inl m) = let i = c.is in omega (arith, m, l, i)
          pick (inr m) = let i = c.is in let j = c.within in omega (arith, m, i, j)
