-- Lists, and the cells of objects.
use Rattle.std.proofs.Common.{◌≡◌, ◌≢◌, ℕ, zero, suc, ◌+◌, ◌-◌, ◌%◌, ◌^◌, ◌<◌, ◌≤◌, List, [], ◌∷◌, ◌++◌, length, drop, Some, refl, ap, sym, ◌∙◌, subst, arith, ◌⊎◌, inl, inr, true, false, eqb}
use Rattle.std.specs.Prelude.{slice_get, slice_set}
use Rattle.std.proofs.lemmas.Bool.{cases_lt}
use Rattle.std.proofs.lemmas.Bool.Decides.{eqb_tells}
use Rattle.std.proofs.lemmas.List.{length-take, length-drop}
use Rattle.hx_base.specs.Memory.{Memory, byte_at, bytes_at}
use Rattle.hare_typed.specs.declared.cell.Cell.{Cell}
use Rattle.hare_typed.specs.declared.cell.Cell.TheVariants as cell
use Rattle.hare_typed.specs.Cells.{with_cells, cells_within}
use Rattle.hare_typed.specs.Objects.{Object, extent_of}
use Rattle.hare_meaning.specs.Related.{Standing, At, Places, IsLive, Covered, Held, Points, Agrees, Match}

-- ---- numbers

pub data Same (a b : ℕ) : Type 0 where
  same : a ≡ b → Same a b
  other : a ≢ b → Same a b

pub is_same : (a b : ℕ) → Same a b
is_same a b = pick (eqb_tells a b)
  where
    pick : ((eqb a b ≡ true) × (a ≡ b)) ⊎ ((eqb a b ≡ false) × (a ≢ b)) → Same a b
    pick (inl x) = same x.1
    pick (inr x) = other x.1

-- whether a number is one of so many from a start, and by how much it is past it
pub data Inside (at n a : ℕ) : Type 0 where
  inside : (k : ℕ) → k < n → a ≡ at + k → Inside at n a
  before : a < at → Inside at n a
  behind : at + n ≤ a → Inside at n a

pub inside_of : (at n a : ℕ) → Inside at n a
inside_of at n a = pick (cases_lt a at) (cases_lt a (at + n))
  where
    pick : (a < at) ⊎ (at ≤ a) → (a < at + n) ⊎ (at + n ≤ a) → Inside at n a
    pick (inl l) r = before l
    pick (inr l) (inl r) = inside (a - at) (omega arith) (omega arith)
    pick (inr l) (inr r) = behind r

-- ---- lists

pub get_set : {A : Type 0} (xs : List A) (i : ℕ) (v w : A) → slice_get xs i ≡ Some w → slice_get (slice_set xs i v) i ≡ Some v
get_set [] i v w e = cc
get_set (x ∷ xs) zero v w e = refl
get_set (x ∷ xs) (suc i) v w e = get_set xs i v w e

pub get_set_other : {A : Type 0} (xs : List A) (i j : ℕ) (v : A) → i ≢ j → slice_get (slice_set xs i v) j ≡ slice_get xs j
get_set_other [] i j v h = refl
get_set_other (x ∷ xs) zero zero v h = absurd (h refl)
get_set_other (x ∷ xs) zero (suc j) v h = refl
get_set_other (x ∷ xs) (suc i) zero v h = refl
get_set_other (x ∷ xs) (suc i) (suc j) v h = get_set_other xs i j v (λ e. h (ap suc e))

pub length_set : {A : Type 0} (xs : List A) (i : ℕ) (v : A) → length (slice_set xs i v) ≡ length xs
length_set [] i v = refl
length_set (x ∷ xs) zero v = refl
length_set (x ∷ xs) (suc i) v = ap suc (length_set xs i v)

pub get_more : {A : Type 0} (xs : List A) (x : A) (i : ℕ) (y : A) → slice_get (xs ++ x ∷ []) i ≡ Some y →
    (slice_get xs i ≡ Some y) ⊎ ((i ≡ length xs) × (y ≡ x))
get_more [] x zero y e = inr (refl, cc)
get_more [] x (suc i) y e = cc
get_more (a ∷ xs) x zero y e = inl e
get_more (a ∷ xs) x (suc i) y e = next (get_more xs x i y e)
  where
    next : (slice_get xs i ≡ Some y) ⊎ ((i ≡ length xs) × (y ≡ x)) → (slice_get xs i ≡ Some y) ⊎ ((suc i ≡ length (a ∷ xs)) × (y ≡ x))
    next (inl h) = inl h
    next (inr h) = inr (ap suc h.0, h.1)

pub get_front : {A : Type 0} (xs ys : List A) (i : ℕ) (v : A) → slice_get xs i ≡ Some v → slice_get (xs ++ ys) i ≡ Some v
get_front [] ys i v e = cc
get_front (x ∷ xs) ys zero v e = e
get_front (x ∷ xs) ys (suc i) v e = get_front xs ys i v e

pub get_end : {A : Type 0} (xs : List A) (y : A) → slice_get (xs ++ y ∷ []) (length xs) ≡ Some y
get_end [] y = refl
get_end (x ∷ xs) y = get_end xs y

-- ---- cells written over others

pub with_cells-length : (xs : List Cell) (d : ℕ) (cs : List Cell) → length (with_cells d cs xs) ≡ length xs
with_cells-length xs zero [] = refl
with_cells-length [] zero (c ∷ cs) = refl
with_cells-length (x ∷ xs) zero (c ∷ cs) = ap suc (with_cells-length xs zero cs)
with_cells-length [] (suc d) cs = refl
with_cells-length (x ∷ xs) (suc d) cs = ap suc (with_cells-length xs d cs)

pub with_cells-before : (xs : List Cell) (d : ℕ) (cs : List Cell) (k : ℕ) → k < d → slice_get (with_cells d cs xs) k ≡ slice_get xs k
with_cells-before xs zero cs k l = absurd (omega arith)
with_cells-before [] (suc d) cs k l = refl
with_cells-before (x ∷ xs) (suc d) cs zero l = refl
with_cells-before (x ∷ xs) (suc d) cs (suc k) l = with_cells-before xs d cs k (omega arith)

pub with_cells-behind : (xs : List Cell) (d : ℕ) (cs : List Cell) (k : ℕ) → d + length cs ≤ k →
    slice_get (with_cells d cs xs) k ≡ slice_get xs k
with_cells-behind xs zero [] k l = refl
with_cells-behind [] zero (c ∷ cs) k l = refl
with_cells-behind (x ∷ xs) zero (c ∷ cs) zero l = absurd (omega arith)
with_cells-behind (x ∷ xs) zero (c ∷ cs) (suc k) l = with_cells-behind xs zero cs k (omega arith)
with_cells-behind [] (suc d) cs k l = refl
with_cells-behind (x ∷ xs) (suc d) cs zero l = absurd (omega arith)
with_cells-behind (x ∷ xs) (suc d) cs (suc k) l = with_cells-behind xs d cs k (omega arith)

pub with_cells-at : (xs : List Cell) (d : ℕ) (cs : List Cell) (k : ℕ) → k < length cs → d + length cs ≤ length xs →
    slice_get (with_cells d cs xs) (d + k) ≡ slice_get cs k
with_cells-at xs zero [] k l b = absurd (omega arith)
with_cells-at [] zero (c ∷ cs) k l b = absurd (omega arith)
with_cells-at (x ∷ xs) zero (c ∷ cs) zero l b = refl
with_cells-at (x ∷ xs) zero (c ∷ cs) (suc k) l b =
    let e : 0 + suc k ≡ suc (0 + k) = omega arith in
    let f : slice_get (c ∷ with_cells zero cs xs) (suc (0 + k)) ≡ slice_get cs k = with_cells-at xs zero cs k (omega arith) (omega arith) in
    rw e f
with_cells-at [] (suc d) cs k l b = absurd (omega arith)
with_cells-at (x ∷ xs) (suc d) cs k l b =
    let e : suc d + k ≡ suc (d + k) = omega arith in
    let f : slice_get (x ∷ with_cells d cs xs) (suc (d + k)) ≡ slice_get cs k = with_cells-at xs d cs k l (omega arith) in
    rw e f

-- so many cells from a place on
pub cells_within-at : (xs : List Cell) (d n k : ℕ) → k < n → d + n ≤ length xs → slice_get (cells_within d n xs) k ≡ slice_get xs (d + k)
cells_within-at xs d zero k l b = absurd (omega arith)
cells_within-at [] d (suc n) k l b = absurd (omega arith)
cells_within-at (x ∷ xs) zero (suc n) zero l b = refl
cells_within-at (x ∷ xs) zero (suc n) (suc k) l b =
    let e : 0 + suc k ≡ suc (0 + k) = omega arith in
    let f : slice_get (cells_within zero n xs) k ≡ slice_get (x ∷ xs) (suc (0 + k)) =
    cells_within-at xs zero n k (omega arith) (omega arith) in
    rw e f
cells_within-at (x ∷ xs) (suc d) (suc n) k l b =
    let e : suc d + k ≡ suc (d + k) = omega arith in
    let f : slice_get (cells_within d (suc n) xs) k ≡ slice_get (x ∷ xs) (suc (d + k)) = cells_within-at xs d (suc n) k l (omega arith) in
    rw e f

pub length-cells_within : (xs : List Cell) (d n : ℕ) → d + n ≤ length xs → length (cells_within d n xs) ≡ n
length-cells_within xs d n b = omega (arith, length-take n (drop d xs), length-drop d xs)

-- ---- cells and bytes

-- places that go on with more
abbrev pub IsFront : Places → Places → Type 0
IsFront ps ps' = (o : ℕ) (p : Standing) → slice_get ps o ≡ Some p → slice_get ps' o ≡ Some p

pub points_on : (ps ps' : Places) (o d a : ℕ) → IsFront ps ps' → Points ps o d a → Points ps' o d a
points_on ps ps' o d a f p = record { from = p.from; at = f o (At p.from) p.at; is = p.is }

pub agrees_on : (ps ps' : Places) (c : Cell) (b : ℕ) → IsFront ps ps' → Agrees ps c b → Agrees ps' c b
agrees_on ps ps' (cell.Byte v) b f h = h
agrees_on ps ps' (cell.Fragment o d k) b f h = record { address = h.address; points = points_on ps ps' o d h.address f h.points; is = h.is }
agrees_on ps ps' cell.Undef b f h = tt

pub match_on : (ps ps' : Places) (cs : List Cell) (bs : List ℕ) → IsFront ps ps' → Match ps cs bs → Match ps' cs bs
match_on ps ps' [] [] f m = m
match_on ps ps' [] (b ∷ bs) f m = m
match_on ps ps' (c ∷ cs) [] f m = m
match_on ps ps' (c ∷ cs) (b ∷ bs) f m = (agrees_on ps ps' c b f m.0, match_on ps ps' cs bs f m.1)

pub match_length : (ps : Places) (cs : List Cell) (bs : List ℕ) → Match ps cs bs → length cs ≡ length bs
match_length ps [] [] m = refl
match_length ps [] (b ∷ bs) m = absurd m
match_length ps (c ∷ cs) [] m = absurd m
match_length ps (c ∷ cs) (b ∷ bs) m = ap suc (match_length ps cs bs m.1)

pub match_get : (ps : Places) (cs : List Cell) (bs : List ℕ) (k : ℕ) (c : Cell) → Match ps cs bs → slice_get cs k ≡ Some c →
    (b : ℕ) × (slice_get bs k ≡ Some b) × Agrees ps c b
match_get ps [] bs k c m e = cc
match_get ps (x ∷ cs) [] k c m e = absurd m
match_get ps (x ∷ cs) (b ∷ bs) zero c m e = let i : x ≡ c = cc in (b, refl, subst (λ y. Agrees ps y b) i m.0)
match_get ps (x ∷ cs) (b ∷ bs) (suc k) c m e = match_get ps cs bs k c m.1 e

-- cells that agree with the bytes of a range
pub match_bytes : (ps : Places) (m : Memory) (cs : List Cell) (at : ℕ) →
    ((k : ℕ) (c : Cell) → slice_get cs k ≡ Some c → Agrees ps c (byte_at m (at + k))) → Match ps cs (bytes_at m at (length cs))
match_bytes ps m [] at h = tt
match_bytes ps m (c ∷ cs) at h = (
  subst (λ x. Agrees ps c (byte_at m x)) (omega arith) (h 0 c refl),
  match_bytes ps m cs (suc at) (λ k d e. subst (λ x. Agrees ps d (byte_at m x)) (omega arith) (h (suc k) d e)),
)

-- ---- objects

-- what an object is, dead or alive, once one of them has changed
pub data Found (objs : List Object) (o : ℕ) (x' : Object) (p : ℕ) (y : Object) : Type 0 where
  found_changed : p ≡ o → y ≡ x' → Found objs o x' p y
  found_before : p ≢ o → slice_get objs p ≡ Some y → Found objs o x' p y

pub found_set : (objs : List Object) (o : ℕ) (x x' : Object) (p : ℕ) (y : Object) → slice_get objs o ≡ Some x →
    slice_get (slice_set objs o x') p ≡ Some y → Found objs o x' p y
found_set objs o x x' p y g e = pick (is_same p o)
  where
    pick : Same p o → Found objs o x' p y
    pick (same f) =
        let h : slice_get (slice_set objs o x') o ≡ Some x' = get_set objs o x' x g in
        let k : slice_get (slice_set objs o x') o ≡ Some y = subst (λ q. slice_get (slice_set objs o x') q ≡ Some y) f e in
        found_changed f cc
    pick (other n) = found_before n (sym (get_set_other objs o p x' (λ f. n (sym f))) ∙ e)

-- what is so of a live object once one of them has changed
pub data Now (objs : List Object) (o : ℕ) (x' : Object) (p : ℕ) (y : Object) : Type 0 where
  changed : p ≡ o → y ≡ x' → Now objs o x' p y
  as_before : p ≢ o → IsLive objs p y → Now objs o x' p y

pub after_set : (objs : List Object) (o : ℕ) (x x' : Object) (p : ℕ) (y : Object) → slice_get objs o ≡ Some x →
    IsLive (slice_set objs o x') p y → Now objs o x' p y
after_set objs o x x' p y g l = pick (found_set objs o x x' p y g l.0)
  where
    pick : Found objs o x' p y → Now objs o x' p y
    pick (found_changed e f) = changed e f
    pick (found_before n e) = as_before n (e, l.1)

pub at_is : (a b : ℕ) → Some (At a) ≡ Some (At b) → a ≡ b
at_is a b e = cc

pub live_covers : (ps : Places) (objs : List Object) (o a k : ℕ) (x : Object) → IsLive objs o x → slice_get ps o ≡ Some (At a) →
    k < length x.cells → Covered ps objs o (a + k)
live_covers ps objs o a k x l at h = record { x = x; from = a; k = k; live = l; at = at; within = omega arith; is = refl }

pub extent-same : (x x' : Object) → length x'.cells ≡ length x.cells → extent_of x' ≡ extent_of x
extent-same x x' e = rw e refl

-- the address is not 0, and is aligned for the object, and the one just past its end is below 2^64
abbrev pub IsPlaced : ℕ → Object → Type 0
IsPlaced a x = (0 < a) × (a % x.align ≡ 0) × (a + extent_of x < 2 ^ 64)

-- and so it is for an object of the same length and alignment
pub placed-same : (a : ℕ) (x x' : Object) → length x'.cells ≡ length x.cells → x'.align ≡ x.align → IsPlaced a x → IsPlaced a x'
placed-same a x x' e f h = (h.0, rw f h.1, rw (extent-same x x' e) h.2)

-- the changed object is placed as it was, where it keeps its length and alignment
pub placed_set : (ps : Places) (objs : List Object) (o : ℕ) (x x' : Object) → slice_get objs o ≡ Some x →
    length x'.cells ≡ length x.cells → x'.align ≡ x.align →
    ((p q : ℕ) (y : Object) → slice_get objs p ≡ Some y → slice_get ps p ≡ Some (At q) → IsPlaced q y) → (p q : ℕ) (y : Object) →
    slice_get (slice_set objs o x') p ≡ Some y → slice_get ps p ≡ Some (At q) → IsPlaced q y
placed_set ps objs o x x' there len al was p q y e at = pick (found_set objs o x x' p y there e)
  where
    pick : Found objs o x' p y → IsPlaced q y
    pick (found_changed f g) =
        let before = was p q x (subst (λ z. slice_get objs z ≡ Some x) (sym f) there) at in
        placed-same q x y (ap (λ v. length v.cells) g ∙ len) (ap (λ v. v.align) g ∙ al) before
    pick (found_before n f) = was p q y f at

-- an object that keeps its extent covers what it covered
pub covered_back : (ps : Places) (objs : List Object) (o : ℕ) (x x' : Object) → IsLive objs o x → extent_of x' ≡ extent_of x → (p q : ℕ) →
    Covered ps (slice_set objs o x') p q → Covered ps objs p q
covered_back ps objs o x x' live same_extent p q c = pick (after_set objs o x x' p c.x live.0 c.live)
  where
    pick : Now objs o x' p c.x → Covered ps objs p q
    pick (changed e f) =
        record {
          x = x;
          from = c.from;
          k = c.k;
          live = subst (λ z. IsLive objs z x) (sym e) live;
          at = c.at;
          within = subst (λ z. c.k < z) (ap extent_of f ∙ same_extent) c.within;
          is = c.is;
        }
    pick (as_before n l) = record { x = c.x; from = c.from; k = c.k; live = l; at = c.at; within = c.within; is = c.is }

pub held_back : (ps : Places) (objs : List Object) (o : ℕ) (x x' : Object) → IsLive objs o x → (p c t : ℕ) →
    Held ps (slice_set objs o x') p c t → Held ps objs p c t
held_back ps objs o x x' live p c t h = pick (after_set objs o x x' p h.x live.0 h.live)
  where
    pick : Now objs o x' p h.x → Held ps objs p c t
    pick (changed e f) =
        record { x = x; width = h.width; signed = h.signed; live = subst (λ z. IsLive objs z x) (sym e) live; at = h.at }
    pick (as_before n l) = record { x = h.x; width = h.width; signed = h.signed; live = l; at = h.at }
