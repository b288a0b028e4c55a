-- What is kept beside the rows of a store, and the rows that wait for others: where nothing is known of the extent of a row yet, it stands
-- in the list of a row that it needs. The lists are linked through what is kept.
use Rattle.std.specs.Prelude.{◌≡◌, ℕ, zero, suc, ◌+◌, ◌<◌, ◌==◌, cond, ◌⊎◌, nat_eq, List, [], ◌∷◌, ◌++◌, length, map, set, slice_get, slice_index_or, Some, None, Option, IsSome, IfSome}
use Rattle.hare_types.specs.declared.declared.Declared.{Declared}
use Rattle.hare_types.specs.declared.extent.Extent.{Extent}
use Rattle.hare_types.specs.declared.kept.Kept.{Kept}
use Rattle.hare_types.specs.declared.root.Root.{Root}
use Rattle.hare_types.specs.declared.row.Row.{Row}
use Rattle.hare_types.specs.declared.row.Row.TheVariants as row
use Rattle.hare_types.specs.Rows.{IsWithin}
use Rattle.hare_types.specs.Store.{Store}
use Rattle.hare_types.specs.Sound.{IsStore}
use Rattle.hare_types.specs.Kept.{parts_of, known, defined, extent_over, IsBounded, IsInert, KeepsExtents, unknown}
use Rattle.hare_types.specs.Roots.{known_root, root_over, KeepsRoots, TellsAll, TellsMore}
use Rattle.hare_types.specs.Packed.{base_in}

-- ---- what is kept

-- the number of no row
abbrev pub nowhere : ℕ
nowhere = 4294967295

abbrev pub blank : Kept
blank = record { extent = None; root = None; first = nowhere; last = nowhere; next = nowhere; seen = 0 }

abbrev pub kept_at : List Kept → ℕ → Kept
kept_at ks i = slice_index_or ks i blank

abbrev pub extents : List Kept → List (Option Extent)
extents ks = map (λ k. k.extent) ks

abbrev pub roots : List Kept → List (Option Root)
roots ks = map (λ k. k.root) ks

abbrev pub bases : List Kept → List (Option ℕ)
bases ks = map base_in (roots ks)

-- the extent and the root that are kept of an id
abbrev pub extent_at : List Kept → ℕ → Option Extent
extent_at ks i = known (extents ks) i

abbrev pub root_at : List Kept → ℕ → Option Root
root_at ks i = known_root (roots ks) i

-- ---- linked lists

-- i is one of these
abbrev pub Among : List ℕ → ℕ → Type 0
Among [] i = ⊥
Among (x ∷ xs) i = (x ≡ i) ⊎ Among xs i

abbrev pub AreDistinct : List ℕ → Type 0
AreDistinct [] = Unit {0}
AreDistinct (x ∷ xs) = ¬ Among xs x × AreDistinct xs

-- z is the last of these, where there is one
abbrev pub EndsWith : List ℕ → ℕ → Type 0
EndsWith [] z = Unit {0}
EndsWith (x ∷ []) z = x ≡ z
EndsWith (x ∷ y ∷ xs) z = EndsWith (y ∷ xs) z

-- these rows are linked one to the next, and h is the first
abbrev pub Chain : List Kept → ℕ → List ℕ → Type 0
Chain ks h [] = h ≡ nowhere
Chain ks h (x ∷ xs) = (h ≡ x) × (x < length ks) × Chain ks (kept_at ks x).next xs

-- List 0 holds the rows that are to be looked at, and list t + 1 those that wait for row t. This is the first of a list.
abbrev pub first_of : List Kept → ℕ → ℕ → ℕ
first_of ks pile zero = pile
first_of ks pile (suc t) = (kept_at ks t).first

-- these are the lists, and each row stands at most once in them
pub record AreLinked (ks : List Kept) (pile : ℕ) (lists : ℕ → List ℕ) : Type 0 where
  pub chains : (n : ℕ) → Chain ks (first_of ks pile n) (lists n)
  pub ends : (t : ℕ) → EndsWith (lists (suc t)) (kept_at ks t).last
  pub distinct : (n : ℕ) → AreDistinct (lists n)
  pub once : (m n i : ℕ) → Among (lists m) i → Among (lists n) i → m ≡ n

-- ---- what waits

-- the extent of the row rests on that of p
abbrev pub NeedsRow : List (ℕ × Declared) → Row → ℕ → Type 0
NeedsRow es (row.Array n j) p = j ≡ p
NeedsRow es (row.Error j) p = j ≡ p
NeedsRow es (row.Named d) p = defined es d ≡ Some p
NeedsRow es (row.Struct fs) p = (k : ℕ) × (slice_get (parts_of (row.Struct fs)) k ≡ Some p)
NeedsRow es (row.Tuple js) p = (k : ℕ) × (slice_get js k ≡ Some p)
NeedsRow es (row.Union js) p = (k : ℕ) × (slice_get js k ≡ Some p)
NeedsRow es _ p = ⊥

abbrev pub Needs : List Row → List (ℕ × Declared) → ℕ → ℕ → Type 0
Needs rows es i p = (r : Row) → slice_get rows i ≡ Some r → NeedsRow es r p

-- no extent is kept of rows in lists, and rows wait for what they need
pub record AreWaiting (rows : List Row) (es : List (ℕ × Declared)) (ks : List Kept) (pile : ℕ) (lists : ℕ → List ℕ) : Type 0 where
  pub links : AreLinked ks pile lists
  pub unknown : (n i : ℕ) → Among (lists n) i → extent_at ks i ≡ None
  pub needs : (p i : ℕ) → Among (lists (suc p)) i → Needs rows es i p

-- no root follows for row i that tells more than the one that is kept
abbrev pub HasRoot : List (ℕ × Declared) → List Kept → ℕ → Row → Type 0
HasRoot es ks i r = TellsAll (root_at ks i) (root_over (defined es) (root_at ks) i r)

-- where no extent is kept of row i, its root is kept, and the row is inert, or waits for one of which no extent is kept
abbrev pub IsAtRest : List Row → List (ℕ × Declared) → List Kept → (ℕ → List ℕ) → ℕ → Type 0
IsAtRest rows es ks lists i =
    (r : Row) → slice_get rows i ≡ Some r → extent_at ks i ≡ None
    → HasRoot es ks i r × (IsInert es r ⊎ ((p : ℕ) × Among (lists (suc p)) i × (extent_at ks p ≡ None)))

-- where an extent is kept, a base is
abbrev pub HaveRoots : List Kept → Type 0
HaveRoots ks = (i : ℕ) → IsSome (extent_at ks i) → IsSome (base_in (root_at ks i))

-- of the parts of a row that were seen an extent is kept
abbrev pub AreSeen : List Row → List Kept → Type 0
AreSeen rows ks = (i k p : ℕ) (r : Row) → slice_get rows i ≡ Some r → k < (kept_at ks i).seen → slice_get (parts_of r) k ≡ Some p →
    IsSome (extent_at ks p)

-- each row that is not in list 0 is at rest
pub record AreSettling (rows : List Row) (es : List (ℕ × Declared)) (ks : List Kept) (pile : ℕ) (lists : ℕ → List ℕ) : Type 0 where
  pub waiting : AreWaiting rows es ks pile lists
  pub rest : (i : ℕ) → IsAtRest rows es ks lists i ⊎ Among (lists 0) i

-- the same, but for row `at`, which is in no list
pub record AreSettlingBut (at : ℕ) (rows : List Row) (es : List (ℕ × Declared)) (ks : List Kept) (pile : ℕ) (lists : ℕ → List ℕ) : Type
    0 where
  pub waiting : AreWaiting rows es ks pile lists
  pub out : (n : ℕ) → ¬ Among (lists n) at
  pub rest : (i : ℕ) → (at ≡ i) ⊎ (IsAtRest rows es ks lists i ⊎ Among (lists 0) i)

-- what is kept is sound over the store, and each row is at rest
pub record AreKept (s : Store) (ks : List Kept) : Type 0 where
  pub store : IsStore s
  pub extents : KeepsExtents s (extents ks)
  pub roots : KeepsRoots s (roots ks)
  pub rooted : HaveRoots ks
  pub seen : AreSeen s.rows ks
  pub lists : ℕ → List ℕ
  pub settled : AreSettling s.rows s.declared ks nowhere lists

-- the rows are those of a store, or r was taken in behind them, of which nothing is kept yet
pub record IsTakenIn (s : Store) (ks : List Kept) (r : Row) (rows : List Row) : Type 0 where
  pub kept : AreKept s ks
  pub within : IsWithin (length s.rows) r
  pub grows : (rows ≡ s.rows) ⊎ (rows ≡ s.rows ++ r ∷ [])
  pub sound : IsStore (record s { rows = rows })

-- ---- changes of what is kept

abbrev pub with_next : List Kept → ℕ → ℕ → List Kept
with_next ks i n = set ks i (record (kept_at ks i) { next = n })

abbrev pub with_ends : List Kept → ℕ → ℕ → ℕ → List Kept
with_ends ks t first last = set ks t (record (kept_at ks t) { first = first; last = last })

-- more is found of row i
abbrev pub with_found : List Kept → ℕ → Option Extent → Option Root → List Kept
with_found ks i extent root = set ks i (record (kept_at ks i) { extent = extent; root = root })

-- more is seen of row i
abbrev pub with_seen : List Kept → ℕ → ℕ → List Kept
with_seen ks i seen = set ks i (record (kept_at ks i) { seen = seen })

-- what follows for row i is found
pub record IsFound (es : List (ℕ × Declared)) (old new : List Kept) (i : ℕ) (r : Row) : Type 0 where
  pub extent : Option Extent
  pub root : Option Root
  pub new_is : new ≡ with_found old i extent root
  pub extent_is : extent ≡ extent_over (defined es) (known (extents old)) r
  pub root_is : root ≡ root_over (defined es) (root_at old) i r
  pub bounded : IfSome extent (λ x. IsBounded x)
  pub rooted : IsSome root
  pub based : IsSome extent → IsSome (base_in root)
  pub more : IsSome extent ⊎ TellsMore (root_at old i) root

-- no more follows for row i
abbrev pub NoneFollows : List (ℕ × Declared) → List Kept → ℕ → Row → Type 0
NoneFollows es ks i r = (extent_over (defined es) (known (extents ks)) r ≡ None) × HasRoot es ks i r

-- how many extents, roots and bases are not kept
abbrev pub unknowns : List Kept → ℕ
unknowns ks = unknown (extents ks) + unknown (roots ks) + unknown (bases ks)

-- the type whose extent is looked at next, where the first k parts were seen
abbrev pub needed_at : (ℕ → Option ℕ) → Row → ℕ → Option ℕ
needed_at definition (row.Array n j) k = Some j
needed_at definition (row.Error j) k = Some j
needed_at definition (row.Named d) k = definition d
needed_at definition (row.Struct fs) k = slice_get (parts_of (row.Struct fs)) k
needed_at definition (row.Tuple js) k = slice_get js k
needed_at definition (row.Union js) k = slice_get js k
needed_at definition _ k = None

-- what rows need is in the store
abbrev pub NeedsAreWithin : List Row → List (ℕ × Declared) → Type 0
NeedsAreWithin rows es = (i p : ℕ) (r : Row) → slice_get rows i ≡ Some r → NeedsRow es r p → p < length rows

-- as many steps as there are in a list, but at most n
abbrev pub steps : List Kept → ℕ → ℕ → ℕ
steps ks zero h = 0
steps ks (suc n) h = cond (h == nowhere) 0 (suc (steps ks n (kept_at ks h).next))

-- what is found of the rows is kept as it was
pub record KeepsFound (old new : List Kept) : Type 0 where
  pub extents : extents new ≡ extents old
  pub roots : roots new ≡ roots old
  pub as_many : length new ≡ length old

-- what was seen of the rows is kept as it was
abbrev pub KeepsSeen : List Kept → List Kept → Type 0
KeepsSeen old new = (i : ℕ) → (kept_at new i).seen ≡ (kept_at old i).seen

-- the lists, where list n is another
abbrev pub with_list : (ℕ → List ℕ) → ℕ → List ℕ → ℕ → List ℕ
with_list lists n xs m = cond (nat_eq n m) xs (lists m)

-- row i waits for row t
abbrev pub linked : (ℕ → List ℕ) → ℕ → ℕ → ℕ → List ℕ
linked lists t i = with_list lists (suc t) (i ∷ lists (suc t))

-- the rows that waited for row t are put before those that are to be looked at
abbrev pub released : (ℕ → List ℕ) → ℕ → ℕ → List ℕ
released lists t = with_list (with_list lists (suc t) []) 0 (lists (suc t) ++ lists 0)

-- more is known, or as much is, and the rows that are to be looked at stay
abbrev pub IsLess : List Kept → List Kept → (ℕ → List ℕ) → (ℕ → List ℕ) → Type 0
IsLess old new lists after = (unknowns new < unknowns old) ⊎ ((unknowns new ≡ unknowns old) × (after 0 ≡ lists 0))

-- each row is at rest but that of the name d, which stands in no list, and of which no extent is kept
pub record AreSettlingButName (d : ℕ) (rows : List Row) (es : List (ℕ × Declared)) (ks : List Kept) (lists : ℕ → List ℕ) : Type 0 where
  pub waiting : AreWaiting rows es ks nowhere lists
  pub out : (i : ℕ) → slice_get rows i ≡ Some (row.Named d) → (extent_at ks i ≡ None) × ((n : ℕ) → ¬ Among (lists n) i)
  pub rest : (i : ℕ) → (slice_get rows i ≡ Some (row.Named d)) ⊎ (IsAtRest rows es ks lists i ⊎ Among (lists 0) i)
