-- Lists of cells with repetitions.
use Rattle.std.proofs.Common.{◌≡◌, ℕ, zero, suc, ◌+◌, ◌-◌, ◌*◌, ◌/◌, ◌%◌, ◌<◌, ◌≤◌, List, [], ◌∷◌, ◌++◌, length, map, take, drop, get_or, set, Some, None, refl, ap, ◌∙◌, sym, subst, arith, append_assoc, length-append, length-drop, Contains, ◌⊎◌, inl, inr}
use Rattle.std.proofs.Math.Nat.{mul_comm, mul-le-mul_right}
use Rattle.std.specs.Prelude.{slice_get}
use Rattle.std.proofs.lemmas.List.{take-append-le, drop-append-le, length-take-le, take-append-drop, take_more, take_all, drop_all, append-nil, get_or_default, map_more, take_more_set}
use Rattle.std.proofs.lemmas.List.Elements.{Contains-append_left, Contains-append_right, Contains-append_cases}
use Rattle.hare_types.proofs.ListLemmas.{slice_get_front, slice_get_none}
use Rattle.hare_typed.proofs.KidLemmas.{take-get}
use Rattle.hare_typed.specs.declared.cell.Cell.{Cell}
use Rattle.hare_typed.specs.declared.cells.Repeat.{Repeat}
use Rattle.hare_typed.specs.Repeats.{again, with_repeat, repeated, FitIn, moved}

-- ---- one repetition

pub length-again : (n : ℕ) (c : List Cell) → length (again n c) ≡ n * length c
length-again zero c = omega arith
length-again (suc n) c = omega (arith, length-append c (again n c), length-again n c)

pub length-with_repeat : (r : Repeat) (cs : List Cell) → r.to ≤ length cs → length (with_repeat r cs) ≡ length cs + r.more * (r.to - r.from)
length-with_repeat r cs h =
    let part = drop r.from (take r.to cs) in
    let a = length-append (take r.to cs) (again r.more part ++ drop r.to cs) in
    let b = length-append (again r.more part) (drop r.to cs) in
    let c = length-again r.more part in
    let d = length-take-le r.to cs h in
    let e : length part ≡ r.to - r.from = length-drop r.from (take r.to cs) ∙ ap (λ n. n - r.from) d in
    let f = length-drop r.to cs in
    let g : r.more * length part ≡ r.more * (r.to - r.from) = ap (λ n. r.more * n) e in
    omega arith

-- cells that come behind stay behind
pub with_repeat-append : (r : Repeat) (cs ds : List Cell) → r.to ≤ length cs → with_repeat r (cs ++ ds) ≡ with_repeat r cs ++ ds
with_repeat-append r cs ds h =
    let a : take r.to (cs ++ ds) ≡ take r.to cs = take-append-le r.to cs ds h in
    let b : drop r.to (cs ++ ds) ≡ drop r.to cs ++ ds = drop-append-le r.to cs ds h in
    let P : List Cell → List Cell → List Cell = λ x y. x ++ (again r.more (drop r.from x) ++ y) in
    ap (λ x. P x (drop r.to (cs ++ ds))) a
    ∙ ap (P (take r.to cs)) b
    ∙ ap (λ y. take r.to cs ++ y) (sym (append_assoc (again r.more (drop r.from (take r.to cs))) (drop r.to cs) ds))
    ∙ sym (append_assoc (take r.to cs) (again r.more (drop r.from (take r.to cs)) ++ drop r.to cs) ds)

take-behind : (xs cs : List Cell) (n k : ℕ) → length xs ≡ n → take (n + k) (xs ++ cs) ≡ xs ++ take k cs
take-behind [] cs n k e = ap (λ i. take i cs) (omega arith)
take-behind (x ∷ xs) cs zero k e = absurd (omega arith)
take-behind (x ∷ xs) cs (suc n) k e =
    let l : suc n + k ≡ suc (n + k) = omega arith in
    ap (λ i. take i ((x ∷ xs) ++ cs)) l ∙ ap (λ ys. x ∷ ys) (take-behind xs cs n k (omega arith))

drop-behind : (xs cs : List Cell) (n k : ℕ) → length xs ≡ n → drop (n + k) (xs ++ cs) ≡ drop k cs
drop-behind [] cs n k e = ap (λ i. drop i cs) (omega arith)
drop-behind (x ∷ xs) cs zero k e = absurd (omega arith)
drop-behind (x ∷ xs) cs (suc n) k e =
    let l : suc n + k ≡ suc (n + k) = omega arith in
    ap (λ i. drop i ((x ∷ xs) ++ cs)) l ∙ drop-behind xs cs n k (omega arith)

-- the same behind other cells
pub with_repeat-moved : (n : ℕ) (r : Repeat) (xs cs : List Cell) → length xs ≡ n →
    with_repeat (moved n r) (xs ++ cs) ≡ xs ++ with_repeat r cs
with_repeat-moved n r xs cs e =
    let a : take (n + r.to) (xs ++ cs) ≡ xs ++ take r.to cs = take-behind xs cs n r.to e in
    let b : drop (n + r.to) (xs ++ cs) ≡ drop r.to cs = drop-behind xs cs n r.to e in
    let d : drop (n + r.from) (xs ++ take r.to cs) ≡ drop r.from (take r.to cs) = drop-behind xs (take r.to cs) n r.from e in
    let P : List Cell → List Cell → List Cell = λ x y. x ++ (again r.more (drop (n + r.from) x) ++ y) in
    ap (λ x. P x (drop (n + r.to) (xs ++ cs))) a
    ∙ ap (P (xs ++ take r.to cs)) b
    ∙ ap (λ y. (xs ++ take r.to cs) ++ (again r.more y ++ drop r.to cs)) d
    ∙ append_assoc xs (take r.to cs) (again r.more (drop r.from (take r.to cs)) ++ drop r.to cs)

-- ---- a cell behind a repetition

slice_get_behind : (xs ys : List Cell) (k : ℕ) → slice_get (xs ++ ys) (length xs + k) ≡ slice_get ys k
slice_get_behind [] ys k = ap (slice_get ys) (omega arith)
slice_get_behind (x ∷ xs) ys k =
    let l : length (x ∷ xs) + k ≡ suc (length xs + k) = omega arith in
    ap (slice_get ((x ∷ xs) ++ ys)) l ∙ slice_get_behind xs ys k

slice_get_at : (xs ys : List Cell) (i k : ℕ) → i ≡ length xs + k → slice_get (xs ++ ys) i ≡ slice_get ys k
slice_get_at xs ys i k e = ap (slice_get (xs ++ ys)) e ∙ slice_get_behind xs ys k

again-within : (n q k : ℕ) (c ds : List Cell) → q < n → k < length c → slice_get (again n c ++ ds) (q * length c + k) ≡ slice_get c k
again-within zero q k c ds h l = absurd (omega arith)
again-within (suc n) zero k c ds h l =
    let i : 0 * length c + k ≡ k = omega arith in
    ap (slice_get ((c ++ again n c) ++ ds)) i
    ∙ ap (λ xs. slice_get xs k) (append_assoc c (again n c) ds)
    ∙ slice_get_front c (again n c ++ ds) k l
again-within (suc n) (suc q) k c ds h l =
    let i : suc q * length c + k ≡ length c + (q * length c + k) = omega arith in
    ap (λ xs. slice_get xs (suc q * length c + k)) (append_assoc c (again n c) ds)
    ∙ slice_get_at c (again n c ++ ds) (suc q * length c + k) (q * length c + k) i
    ∙ again-within n q k c ds (omega arith) l

pub get_before : (r : Repeat) (cs : List Cell) (at : ℕ) → at < r.to → r.to ≤ length cs → slice_get (with_repeat r cs) at ≡ slice_get cs at
get_before r cs at l h =
    let part = drop r.from (take r.to cs) in
    let d = length-take-le r.to cs h in
    let a = slice_get_front (take r.to cs) (again r.more part ++ drop r.to cs) at (omega arith) in
    let b = slice_get_front (take r.to cs) (drop r.to cs) at (omega arith) in
    a ∙ sym b ∙ ap (λ xs. slice_get xs at) (take-append-drop r.to cs)

pub get_within : (r : Repeat) (cs : List Cell) (at q k : ℕ) → r.from < r.to → r.to ≤ length cs → q < r.more → k < r.to - r.from →
    at ≡ r.to + (q * (r.to - r.from) + k) → slice_get (with_repeat r cs) at ≡ slice_get cs (r.from + k)
get_within r cs at q k f h l m e =
    let front = take r.to cs in
    let part = drop r.from front in
    let d = length-take-le r.to cs h in
    let p : length part ≡ r.to - r.from = length-drop r.from front ∙ ap (λ n. n - r.from) d in
    let i : q * (r.to - r.from) + k ≡ q * length part + k = ap (λ n. q * n + k) (sym p) in
    let a = slice_get_at front (again r.more part ++ drop r.to cs) at (q * length part + k) (omega arith) in
    let b = again-within r.more q k part (drop r.to cs) l (omega arith) in
    let s : take r.from front ++ part ≡ front = take-append-drop r.from front in
    let t = length-take-le r.from front (omega arith) in
    let u : slice_get front (r.from + k) ≡ slice_get part k =
    ap (λ xs. slice_get xs (r.from + k)) (sym s) ∙ slice_get_at (take r.from front) part (r.from + k) k (omega arith) in
    let v = slice_get_front front (drop r.to cs) (r.from + k) (omega arith) in
    a ∙ b ∙ sym u ∙ sym v ∙ ap (λ xs. slice_get xs (r.from + k)) (take-append-drop r.to cs)

pub get_beyond : (r : Repeat) (cs : List Cell) (at k : ℕ) → r.from < r.to → r.to ≤ length cs → at ≡ r.to + (r.more * (r.to - r.from) + k) →
    slice_get (with_repeat r cs) at ≡ slice_get cs (r.to + k)
get_beyond r cs at k f h e =
    let front = take r.to cs in
    let part = drop r.from front in
    let d = length-take-le r.to cs h in
    let p : length part ≡ r.to - r.from = length-drop r.from front ∙ ap (λ n. n - r.from) d in
    let g = length-again r.more part in
    let i : r.more * length part ≡ r.more * (r.to - r.from) = ap (λ n. r.more * n) p in
    let a = slice_get_at front (again r.more part ++ drop r.to cs) at (r.more * (r.to - r.from) + k) (omega arith) in
    let b = slice_get_at (again r.more part) (drop r.to cs) (r.more * (r.to - r.from) + k) k (omega arith) in
    let v = slice_get_at front (drop r.to cs) (r.to + k) k (omega arith) in
    a ∙ b ∙ sym v ∙ ap (λ xs. slice_get xs (r.to + k)) (take-append-drop r.to cs)

-- ---- repetitions one after another

pub repeated-append : (rs : List Repeat) (cs ds : List Cell) → FitIn rs cs → repeated rs (cs ++ ds) ≡ repeated rs cs ++ ds
repeated-append [] cs ds h = refl
repeated-append (r ∷ rs) cs ds h =
    ap (repeated rs) (with_repeat-append r cs ds h.1) ∙ repeated-append rs (with_repeat r cs) ds h.2

pub fit-append : (rs : List Repeat) (cs ds : List Cell) → FitIn rs cs → FitIn rs (cs ++ ds)
fit-append [] cs ds h = tt
fit-append (r ∷ rs) cs ds h =
    let l : r.to ≤ length (cs ++ ds) = omega (arith, length-append cs ds, h.1) in
    (h.0, l, subst (FitIn rs) (sym (with_repeat-append r cs ds h.1)) (fit-append rs (with_repeat r cs) ds h.2))

pub repeated-both : (rs ss : List Repeat) (cs : List Cell) → repeated (rs ++ ss) cs ≡ repeated ss (repeated rs cs)
repeated-both [] ss cs = refl
repeated-both (r ∷ rs) ss cs = repeated-both rs ss (with_repeat r cs)

pub fit-both : (rs ss : List Repeat) (cs : List Cell) → FitIn rs cs → FitIn ss (repeated rs cs) → FitIn (rs ++ ss) cs
fit-both [] ss cs h k = k
fit-both (r ∷ rs) ss cs h k = (h.0, h.1, fit-both rs ss (with_repeat r cs) h.2 k)

pub repeated-moved : (n : ℕ) (rs : List Repeat) (xs cs : List Cell) → length xs ≡ n →
    repeated (map (moved n) rs) (xs ++ cs) ≡ xs ++ repeated rs cs
repeated-moved n [] xs cs e = refl
repeated-moved n (r ∷ rs) xs cs e =
    ap (repeated (map (moved n) rs)) (with_repeat-moved n r xs cs e) ∙ repeated-moved n rs xs (with_repeat r cs) e

pub fit-moved : (n : ℕ) (rs : List Repeat) (xs cs : List Cell) → length xs ≡ n → FitIn rs cs → FitIn (map (moved n) rs) (xs ++ cs)
fit-moved n [] xs cs e h = tt
fit-moved n (r ∷ rs) xs cs e h =
    let a : n + r.from < n + r.to = omega (arith, h.0) in
    let b : n + r.to ≤ length (xs ++ cs) = omega (arith, h.1, length-append xs cs) in
    (a, b, subst (FitIn (map (moved n) rs)) (sym (with_repeat-moved n r xs cs e)) (fit-moved n rs xs (with_repeat r cs) e h.2))

-- the part that stands before the last repetitions
pub fit-front : (rs ss : List Repeat) (cs : List Cell) → FitIn (rs ++ ss) cs → FitIn rs cs
fit-front [] ss cs h = tt
fit-front (r ∷ rs) ss cs h = (h.0, h.1, fit-front rs ss (with_repeat r cs) h.2)

pub fit-behind : (rs ss : List Repeat) (cs : List Cell) → FitIn (rs ++ ss) cs → FitIn ss (repeated rs cs)
fit-behind [] ss cs h = h
fit-behind (r ∷ rs) ss cs h = fit-behind rs ss (with_repeat r cs) h.2

-- ---- which cells there are

in-front : (n : ℕ) (cs : List Cell) (c : Cell) → Contains (take n cs) c → Contains cs c
in-front n cs c h = subst (λ xs. Contains xs c) (take-append-drop n cs) (Contains-append_left (take n cs) (drop n cs) c h)

in-rest : (n : ℕ) (cs : List Cell) (c : Cell) → Contains (drop n cs) c → Contains cs c
in-rest n cs c h = subst (λ xs. Contains xs c) (take-append-drop n cs) (Contains-append_right (take n cs) (drop n cs) c h)

of-again : (n : ℕ) (cs : List Cell) (c : Cell) → Contains (again n cs) c → Contains cs c
of-again zero cs c h = absurd (omega (arith, h.1))
of-again (suc n) cs c h = by (of-again n cs c) (Contains-append_cases cs (again n cs) c h)
  where
    by : (Contains (again n cs) c → Contains cs c) → Contains cs c ⊎ Contains (again n cs) c → Contains cs c
    by more (inl k) = k
    by more (inr k) = more k

of-with_repeat : (r : Repeat) (cs : List Cell) (c : Cell) → Contains (with_repeat r cs) c → Contains cs c
of-with_repeat r cs c h = by (Contains-append_cases front (again r.more (drop r.from front) ++ drop r.to cs) c h)
  where
    front : List Cell
    front = take r.to cs

    behind : Contains (again r.more (drop r.from front)) c ⊎ Contains (drop r.to cs) c → Contains cs c
    behind (inl k) = in-front r.to cs c (in-rest r.from front c (of-again r.more (drop r.from front) c k))
    behind (inr k) = in-rest r.to cs c k

    by : Contains front c ⊎ Contains (again r.more (drop r.from front) ++ drop r.to cs) c → Contains cs c
    by (inl k) = in-front r.to cs c k
    by (inr k) = behind (Contains-append_cases (again r.more (drop r.from front)) (drop r.to cs) c k)

in-with_repeat : (r : Repeat) (cs : List Cell) (c : Cell) → Contains cs c → Contains (with_repeat r cs) c
in-with_repeat r cs c h = by (Contains-append_cases front (drop r.to cs) c (subst (λ xs. Contains xs c) (sym (take-append-drop r.to cs)) h))
  where
    front : List Cell
    front = take r.to cs

    copies : List Cell
    copies = again r.more (drop r.from front)

    by : Contains front c ⊎ Contains (drop r.to cs) c → Contains (with_repeat r cs) c
    by (inl k) = Contains-append_left front (copies ++ drop r.to cs) c k
    by (inr k) = Contains-append_right front (copies ++ drop r.to cs) c (Contains-append_right copies (drop r.to cs) c k)

-- a repetition adds no other cells
pub of-repeated : (rs : List Repeat) (cs : List Cell) (c : Cell) → Contains (repeated rs cs) c → Contains cs c
of-repeated [] cs c h = h
of-repeated (r ∷ rs) cs c h = of-with_repeat r cs c (of-repeated rs (with_repeat r cs) c h)

pub in-repeated : (rs : List Repeat) (cs : List Cell) (c : Cell) → Contains cs c → Contains (repeated rs cs) c
in-repeated [] cs c h = h
in-repeated (r ∷ rs) cs c h = in-repeated rs (with_repeat r cs) c (in-with_repeat r cs c h)

-- ---- what the calls do

-- the cells of another list come behind
pub joined-both : (n : ℕ) (rs ss : List Repeat) (cs ds : List Cell) → FitIn rs cs → length (repeated rs cs) ≡ n →
    repeated (rs ++ map (moved n) ss) (cs ++ ds) ≡ repeated rs cs ++ repeated ss ds
joined-both n rs ss cs ds h e =
    repeated-both rs (map (moved n) ss) (cs ++ ds)
    ∙ ap (repeated (map (moved n) ss)) (repeated-append rs cs ds h)
    ∙ repeated-moved n ss (repeated rs cs) ds e

pub fit-joined : (n : ℕ) (rs ss : List Repeat) (cs ds : List Cell) → FitIn rs cs → FitIn ss ds → length (repeated rs cs) ≡ n →
    FitIn (rs ++ map (moved n) ss) (cs ++ ds)
fit-joined n rs ss cs ds h k e =
    let moved_fit = fit-moved n ss (repeated rs cs) ds e k in
    fit-both rs (map (moved n) ss) (cs ++ ds) (fit-append rs cs ds h)
    (subst (FitIn (map (moved n) ss)) (sym (repeated-append rs cs ds h)) moved_fit)

-- the last cells stand some times more
pub with_last : (r : Repeat) (cs : List Cell) → r.to ≡ length cs → with_repeat r cs ≡ cs ++ again r.more (drop r.from cs)
with_last r cs e =
    let a : take r.to cs ≡ cs = take_all r.to cs (omega arith) in
    let b : drop r.to cs ≡ [] = drop_all r.to cs (omega arith) in
    let P : List Cell → List Cell → List Cell = λ x y. x ++ (again r.more (drop r.from x) ++ y) in
    ap (λ x. P x (drop r.to cs)) a ∙ ap (P cs) b ∙ ap (λ y. cs ++ y) (append-nil (again r.more (drop r.from cs)))

-- ---- places

-- a place behind a repetition within the copies that it made
pub get_copy : (r : Repeat) (cs : List Cell) (at : ℕ) → r.from < r.to → r.to ≤ at → r.to ≤ length cs →
    (at - r.to) / (r.to - r.from) < r.more → slice_get (with_repeat r cs) at ≡ slice_get cs (r.from + (at - r.to) % (r.to - r.from))
get_copy r cs at f b h l =
    let part = r.to - r.from in
    let n = at - r.to in
    let positive : 0 < part = omega arith in
    let small : n % part < part = omega arith in
    let whole : part * (n / part) + n % part ≡ n = omega arith in
    let turned : part * (n / part) ≡ n / part * part = mul_comm part (n / part) in
    get_within r cs at (n / part) (n % part) f h l small (omega arith)

-- and one behind all of them
pub get_past_copies : (r : Repeat) (cs : List Cell) (at : ℕ) → r.from < r.to → r.to ≤ at → r.to ≤ length cs →
    r.more ≤ (at - r.to) / (r.to - r.from) → slice_get (with_repeat r cs) at ≡ slice_get cs (at - r.more * (r.to - r.from))
get_past_copies r cs at f b h l =
    let part = r.to - r.from in
    let n = at - r.to in
    let whole : part * (n / part) + n % part ≡ n = omega arith in
    let turned : part * (n / part) ≡ n / part * part = mul_comm part (n / part) in
    let most : r.more * part ≤ n / part * part = mul-le-mul_right part l in
    let i : at - r.more * part ≡ r.to + (n - r.more * part) = omega arith in
    get_beyond r cs at (n - r.more * part) f h (omega arith) ∙ ap (slice_get cs) (sym i)

first_more : (rs : List Repeat) (i : ℕ) (r : Repeat) → i < length rs → r ≡ get_or rs i r → take (i + 1) rs ≡ take i rs ++ r ∷ []
first_more rs i r h e = take_more rs i r h ∙ ap (λ x. take i rs ++ x ∷ []) (sym e)

pub fit_at : (rs : List Repeat) (i : ℕ) (r : Repeat) (cs : List Cell) → i < length rs → r ≡ get_or rs i r → FitIn rs cs → (r.from < r.to) ×
    (r.to ≤ length (repeated (take i rs) cs))
fit_at rs i r cs h e f =
    let whole = subst (λ xs. FitIn xs cs) (sym (take-append-drop (i + 1) rs)) f in
    let front = fit-front (take (i + 1) rs) (drop (i + 1) rs) cs whole in
    let last = fit-behind (take i rs) (r ∷ []) cs (subst (λ xs. FitIn xs cs) (first_more rs i r h e) front) in
    (last.0, last.1)

pub repeated_at : (rs : List Repeat) (i : ℕ) (r : Repeat) (cs : List Cell) → i < length rs → r ≡ get_or rs i r →
    repeated (take (i + 1) rs) cs ≡ with_repeat r (repeated (take i rs) cs)
repeated_at rs i r cs h e = ap (λ xs. repeated xs cs) (first_more rs i r h e) ∙ repeated-both (take i rs) (r ∷ []) cs

-- ---- what the calls leave

pub extended : (rs : List Repeat) (cs ds ws : List Cell) (n m : ℕ) → ws ≡ cs ++ ds → m ≡ n + length ds → FitIn rs cs →
    n ≡ length (repeated rs cs) → FitIn rs ws × (m ≡ length (repeated rs ws))
extended rs cs ds ws n m e l f k =
    let a : repeated rs ws ≡ repeated rs cs ++ ds = ap (repeated rs) e ∙ repeated-append rs cs ds f in
    let b = ap length a ∙ length-append (repeated rs cs) ds in
    (subst (FitIn rs) (sym e) (fit-append rs cs ds f), omega arith)

pub pushed : (rs : List Repeat) (cs ws : List Cell) (c : Cell) (n m : ℕ) → ws ≡ cs ++ c ∷ [] → m ≡ n + 1 → FitIn rs cs →
    n ≡ length (repeated rs cs) → FitIn rs ws × (m ≡ length (repeated rs ws))
pushed rs cs ws c n m e l f k = extended rs cs (c ∷ []) ws n m e l f k

pub fit-pushed : (rs ss : List Repeat) (r : Repeat) (cs : List Cell) (n m : ℕ) → ss ≡ rs ++ r ∷ [] → r.from < r.to → r.to ≡ n →
    m ≡ n + (r.to - r.from) * r.more → FitIn rs cs → n ≡ length (repeated rs cs) → FitIn ss cs × (m ≡ length (repeated ss cs))
fit-pushed rs ss r cs n m e l t h f k =
    let b : r.to ≤ length (repeated rs cs) = omega arith in
    let a : repeated ss cs ≡ with_repeat r (repeated rs cs) = ap (λ xs. repeated xs cs) e ∙ repeated-both rs (r ∷ []) cs in
    let d = ap length a ∙ length-with_repeat r (repeated rs cs) b in
    let turned : (r.to - r.from) * r.more ≡ r.more * (r.to - r.from) = mul_comm (r.to - r.from) r.more in
    (subst (λ xs. FitIn xs cs) (sym e) (fit-both rs (r ∷ []) cs f (l, b, tt)), omega arith)

pub repeated-pushed : (rs ss : List Repeat) (r : Repeat) (cs : List Cell) → ss ≡ rs ++ r ∷ [] → r.to ≡ length (repeated rs cs) →
    repeated ss cs ≡ repeated rs cs ++ again r.more (drop r.from (repeated rs cs))
repeated-pushed rs ss r cs e t =
    ap (λ xs. repeated xs cs) e ∙ repeated-both rs (r ∷ []) cs ∙ with_last r (repeated rs cs) t

pub fit-appended : (rs ss ts : List Repeat) (cs ds ws : List Cell) (n k m : ℕ) → ts ≡ rs ++ map (moved n) ss → ws ≡ cs ++ ds → m ≡ n + k →
    FitIn rs cs → n ≡ length (repeated rs cs) → FitIn ss ds → k ≡ length (repeated ss ds) → FitIn ts ws × (m ≡ length (repeated ts ws))
fit-appended rs ss ts cs ds ws n k m e w l f a g b =
    let same : FitIn (rs ++ map (moved n) ss) (cs ++ ds) = fit-joined n rs ss cs ds f g (sym a) in
    let cells : repeated ts ws ≡ repeated rs cs ++ repeated ss ds =
    ap (λ xs. repeated xs ws) e ∙ ap (repeated (rs ++ map (moved n) ss)) w ∙ joined-both n rs ss cs ds f (sym a) in
    let long = ap length cells ∙ length-append (repeated rs cs) (repeated ss ds) in
    (subst (λ xs. FitIn xs ws) (sym e) (subst (FitIn (rs ++ map (moved n) ss)) (sym w) same), omega arith)

pub repeated-appended : (rs ss ts : List Repeat) (cs ds ws : List Cell) (n : ℕ) → ts ≡ rs ++ map (moved n) ss → ws ≡ cs ++ ds →
    FitIn rs cs → n ≡ length (repeated rs cs) → repeated ts ws ≡ repeated rs cs ++ repeated ss ds
repeated-appended rs ss ts cs ds ws n e w f a =
    ap (λ xs. repeated xs ws) e ∙ ap (repeated (rs ++ map (moved n) ss)) w ∙ joined-both n rs ss cs ds f (sym a)

-- nothing stands behind the end
pub again-nothing : (n : ℕ) (from : ℕ) (cs : List Cell) → length cs ≤ from → cs ≡ cs ++ again n (drop from cs)
again-nothing n from cs h = sym (ap (λ x. cs ++ again n x) (drop_all from cs h) ∙ ap (λ x. cs ++ x) (none n) ∙ append-nil cs)
  where
    none : (m : ℕ) → again m [] ≡ []
    none zero = refl
    none (suc m) = none m

-- nor does what is not repeated
pub again-never : (n : ℕ) (part cs : List Cell) → n ≡ 0 → cs ≡ cs ++ again n part
again-never n part cs e = sym (ap (λ k. cs ++ again k part) e ∙ append-nil cs)

-- ---- back from one repetition to those before it

pub proper_at : (rs : List Repeat) (i : ℕ) (d : Repeat) (cs : List Cell) → i < length rs → FitIn rs cs →
    (get_or rs i d).from < (get_or rs i d).to
proper_at rs i d cs h f = (fit_at rs i (get_or rs i d) cs h (get_or_default rs i d (get_or rs i d) h) f).0

pub step_back : (rs : List Repeat) (n : ℕ) (d : Repeat) (cs : List Cell) (at to : ℕ) → 0 < n → n ≤ length rs → FitIn rs cs →
    ((ds : List Cell) → (get_or rs (n - 1) d).to ≤ length ds → slice_get (with_repeat (get_or rs (n - 1) d) ds) at ≡ slice_get ds to) →
    slice_get (repeated (take n rs) cs) at ≡ slice_get (repeated (take (n - 1) rs) cs) to
step_back rs n d cs at to p h f found =
    let r = get_or rs (n - 1) d in
    let i : n - 1 < length rs = omega arith in
    let e : r ≡ get_or rs (n - 1) r = get_or_default rs (n - 1) d r i in
    let m : n ≡ n - 1 + 1 = omega arith in
    ap (λ k. slice_get (repeated (take k rs) cs) at) m
    ∙ ap (λ xs. slice_get xs at) (repeated_at rs (n - 1) r cs i e)
    ∙ found (repeated (take (n - 1) rs) cs) (fit_at rs (n - 1) r cs i e f).1

pub map_moved-more : (n : ℕ) (rs out new : List Repeat) (i f t : ℕ) (d : Repeat) → i < length rs → out ≡ map (moved n) (take i rs) →
    f ≡ n + (get_or rs i d).from → t ≡ n + (get_or rs i d).to → new ≡ out ++ record { from = f; to = t; more = (get_or rs i d).more } ∷ [] →
    new ≡ map (moved n) (take (i + 1) rs)
map_moved-more n rs out new i f t d h e a b s =
    let last : record { from = f; to = t; more = (get_or rs i d).more } ≡ moved n (get_or rs i d) = cc in
    s ∙ ap (λ xs. xs ++ record { from = f; to = t; more = (get_or rs i d).more } ∷ []) e
    ∙ ap (λ r. map (moved n) (take i rs) ++ r ∷ []) last
    ∙ sym (map_more (moved n) rs i d h)

-- ---- copies of a range

pub slice_get-drop : (n : ℕ) (cs : List Cell) (i : ℕ) → slice_get (drop n cs) i ≡ slice_get cs (n + i)
slice_get-drop zero cs i = ap (slice_get cs) (omega arith)
slice_get-drop (suc n) [] i = refl
slice_get-drop (suc n) (c ∷ cs) i =
    let e : suc n + i ≡ suc (n + i) = omega arith in
    slice_get-drop n cs i ∙ sym (ap (slice_get (c ∷ cs)) e)

-- one more cell is copied
pub copied-more : (cs out : List Cell) (at i : ℕ) (c : Cell) → i < length out → take i out ≡ take i (drop at cs) →
    slice_get cs (at + i) ≡ Some c →
    take (i + 1) (set out i c) ≡ take (i + 1) (drop at cs)
copied-more cs out at i c h e f =
    take_more_set out i c h ∙ ap (λ xs. xs ++ c ∷ []) e ∙ sym (take-get (drop at cs) i c (slice_get-drop at cs i ∙ f))

-- there is one
pub copied-there : (cs : List Cell) (i : ℕ) → i < length cs → slice_get cs i ≡ None → ⊥
copied-there cs i h e = let k = slice_get_none cs i e in omega arith
