-- Texts, read byte by byte, objects with one number, and trees that compare.
use Rattle.std.proofs.Common.{◌≡◌, ◌≢◌, ◌∙◌, ℕ, zero, suc, ◌+◌, ◌-◌, ◌<◌, ◌≤◌, Bool, true, false, List, [], ◌∷◌, ◌++◌, length, take, drop, Option, Some, None, ◌⊎◌, inl, inr, refl, ap, sym, subst, arith, append_assoc, append-nil}
use Rattle.std.proofs.lemmas.Bool.Decides.{nat_tests}
use Rattle.std.proofs.lemmas.List.{take_all, drop_all}
use Rattle.std.proofs.lemmas.List.Elements.{Contains-push_cases}
use Rattle.std.specs.Prelude.{◌||◌, slice_get, nat_eq, nat_le, cond, Contains, IsSome, option_map, if◌then◌else◌}
use Rattle.std.specs.Map.{lookup}
use Rattle.hare_typed.specs.declared.cell.Cell.{Cell}
use Rattle.hare_typed.specs.declared.cell.Cell.TheVariants as cell
use Rattle.hare_typed.specs.declared.constant.ConstObject.{ConstObject}
use Rattle.hare_types.specs.Store.{Store}
use Rattle.hare_typed.specs.Typed.{TypedNode, typed_nodes}
use Rattle.hare_typed.specs.Cells.{bytes_of, cells_within}
use Rattle.hare_typed.specs.ConstantValues.{constant_object, listed_objects}
use Rattle.hare_typed.proofs.KidLemmas.{take-get}
use Rattle.hare_typed.proofs.ExitLemmas.{drop-get}
use Rattle.hare_typed.specs.Answers.{Answer, Gives, Aborts, IsUndefined}
use Rattle.hare_typed.specs.Scalars.{Pointer, Null, Address}
use Rattle.hare_typed.specs.Words.{Words}
use Rattle.hare_const.specs.Numbers.{byte_in}
use Rattle.hare_typed.specs.Texts.{cells_found, AreCoherent, bytes_behind, bytes_at, text_of_words, text_of, text_of_kid}
use Rattle.hare_typed.specs.Coherent.{compares_texts, compares_texts_each}

-- ---- objects

found_by : (os : List ConstObject) (i : ℕ) (x : ConstObject) (n : ℕ) (b : Bool) → slice_get os i ≡ Some x → nat_eq n x.object ≡ b →
    cells_found (drop i os) n ≡ option_map (λ o. o.cells) (cond b (Some (constant_object x.cells)) (lookup (nat_eq n) (listed_objects
    (drop (i + 1) os))))
found_by os i x n b e f =
    ap (λ l. cells_found l n) (drop-get os i x e)
    ∙ ap (λ c. option_map (λ o. o.cells) (cond c (Some (constant_object x.cells)) (lookup (nat_eq n) (listed_objects (drop (i + 1) os))))) f

-- the object with this number is found
pub found_here : (os : List ConstObject) (i : ℕ) (x : ConstObject) (n : ℕ) → slice_get os i ≡ Some x → x.object ≡ n →
    cells_found os n ≡ cells_found (drop i os) n → cells_found os n ≡ Some x.cells
found_here os i x n e f g = let here : nat_eq n x.object ≡ true = grind (arith, nat_tests) in g ∙ found_by os i x n true e here

-- or it is one behind this
pub found_next : (os : List ConstObject) (i : ℕ) (x : ConstObject) (n : ℕ) → slice_get os i ≡ Some x → x.object ≢ n →
    cells_found os n ≡ cells_found (drop i os) n → cells_found os n ≡ cells_found (drop (i + 1) os) n
found_next os i x n e f g =
    let other : nat_eq n x.object ≡ false = unlike (nat_eq n x.object) refl in
    g ∙ found_by os i x n false e other
  where
    unlike : (b : Bool) → nat_eq n x.object ≡ b → b ≡ false
    unlike true h = let same : x.object ≡ n = grind (arith, nat_tests) in absurd (f same)
    unlike false h = refl

-- or none
pub found_none : (os : List ConstObject) (i n : ℕ) → length os ≤ i → cells_found os n ≡ cells_found (drop i os) n → cells_found os n ≡ None
found_none os i n h e = e ∙ ap (λ l. cells_found l n) (drop_all i os h)

-- each of the first so many is found with its own cells
abbrev pub AreFound : ℕ → List ConstObject → Type 0
AreFound i os = (o : ConstObject) → Contains (take i os) o → cells_found os o.object ≡ Some o.cells

pub found_more : (os : List ConstObject) (i : ℕ) (x : ConstObject) → slice_get os i ≡ Some x → cells_found os x.object ≡ Some x.cells →
    AreFound i os → AreFound (i + 1) os
found_more os i x e f h o c = by (Contains-push_cases (take i os) x o (subst (λ l. Contains l o) (take-get os i x e) c))
  where
    by : Contains (take i os) o ⊎ (x ≡ o) → cells_found os o.object ≡ Some o.cells
    by (inl d) = h o d
    by (inr g) = subst (λ y. cells_found os y.object ≡ Some y.cells) g f

pub found_all : (os : List ConstObject) (i : ℕ) → length os ≤ i → AreFound i os → AreCoherent os
found_all os i e h o c = h o (subst (λ l. Contains l o) (sym (take_all i os e)) c)

-- ---- equalities

-- one stands in those from here on, where one stands in the first of them
pub equality_here : (s : Store) (ts : List TypedNode) (i : ℕ) (x : TypedNode) → slice_get ts i ≡ Some x → compares_texts s x ≡ true →
    compares_texts_each s (typed_nodes (drop i ts)) ≡ true
equality_here s ts i x e f =
    ap (λ us. compares_texts_each s (typed_nodes us)) (drop-get ts i x e)
    ∙ ap (λ b. b || compares_texts_each s (typed_nodes (drop (i + 1) ts))) f

-- or else where one stands behind it
pub equality_behind : (s : Store) (ts : List TypedNode) (i : ℕ) (x : TypedNode) → slice_get ts i ≡ Some x → compares_texts s x ≡ false →
    compares_texts_each s (typed_nodes (drop i ts)) ≡ compares_texts_each s (typed_nodes (drop (i + 1) ts))
equality_behind s ts i x e f =
    ap (λ us. compares_texts_each s (typed_nodes us)) (drop-get ts i x e)
    ∙ ap (λ b. b || compares_texts_each s (typed_nodes (drop (i + 1) ts))) f

-- ---- bytes

-- one byte more of those that are left
left_next : (cs : List Cell) (from count i : ℕ) (b : ℕ) → slice_get cs (from + i) ≡ Some (cell.Byte b) → i < count →
    take (count - i) (drop (from + i) cs) ≡ cell.Byte b ∷ take (count - (i + 1)) (drop (from + (i + 1)) cs)
left_next cs from count i b e h =
    let more : count - i ≡ suc (count - (i + 1)) = omega arith in
    let next : from + i + 1 ≡ from + (i + 1) = omega arith in
    ap (λ k. take k (drop (from + i) cs)) more
    ∙ ap (take (suc (count - (i + 1)))) (drop-get cs (from + i) (cell.Byte b) e)
    ∙ ap (λ k. cell.Byte b ∷ take (count - (i + 1)) (drop k cs)) next

pub byte_more : (cs : List Cell) (from count i : ℕ) (b : ℕ) (out new : List ℕ) (all : Option (List ℕ)) →
    slice_get cs (from + i) ≡ Some (cell.Byte b) → i < count → new ≡ out ++ b ∷ [] →
    option_map (λ bs. out ++ bs) (bytes_of (take (count - i) (drop (from + i) cs))) ≡ all →
    option_map (λ bs. new ++ bs) (bytes_of (take (count - (i + 1)) (drop (from + (i + 1)) cs))) ≡ all
byte_more cs from count i b out new all e h f g =
    joined (bytes_of (take (count - (i + 1)) (drop (from + (i + 1)) cs)))
    ∙ sym (ap (λ l. option_map (λ bs. out ++ bs) (bytes_of l)) (left_next cs from count i b e h)) ∙ g
  where
    joined : (o : Option (List ℕ)) → option_map (λ bs. new ++ bs) o ≡ option_map (λ bs. out ++ bs) (option_map (λ bs. b ∷ bs) o)
    joined None = refl
    joined (Some bs) = ap Some (ap (λ l. l ++ bs) f ∙ append_assoc out (b ∷ []) bs)

pub byte_seen : (cs : List Cell) (from count i : ℕ) (b : ℕ) (G : Type 0) → slice_get cs (from + i) ≡ Some (cell.Byte b) → i < count →
    (IsSome (bytes_of (take (count - i) (drop (from + i) cs))) → G) →
    IsSome (bytes_of (take (count - (i + 1)) (drop (from + (i + 1)) cs))) → G
byte_seen cs from count i b G e h go rest =
    go (subst (λ l. IsSome (bytes_of l)) (sym (left_next cs from count i b e h))
    (some (bytes_of (take (count - (i + 1)) (drop (from + (i + 1)) cs))) rest))
  where
    some : (o : Option (List ℕ)) → IsSome o → IsSome (option_map (λ bs. b ∷ bs) o)
    some None k = k
    some (Some bs) k = refl

-- a cell that is one
pub byte_passed : (cs : List Cell) (from count i : ℕ) (c : Cell) (G : Type 0) → slice_get cs (from + i) ≡ Some c → i < count →
    IsSome (byte_in c) → (IsSome (bytes_of (take (count - i) (drop (from + i) cs))) → G) →
    IsSome (bytes_of (take (count - (i + 1)) (drop (from + (i + 1)) cs))) → G
byte_passed cs from count i (cell.Byte b) G e h k go rest = byte_seen cs from count i b G e h go rest
byte_passed cs from count i (cell.Fragment o d j) G e h k go rest = absurd cc
byte_passed cs from count i cell.Undef G e h k go rest = absurd cc

-- none is left
pub bytes_read : (cs : List Cell) (from count i : ℕ) (out : List ℕ) → from + count ≤ length cs → count ≤ i →
    option_map (λ bs. out ++ bs) (bytes_of (take (count - i) (drop (from + i) cs))) ≡ bytes_of (cells_within from count cs) →
    bytes_behind from count cs ≡ Some out
bytes_read cs from count i out few h e =
    let there : nat_le (from + count) (length cs) ≡ true = grind (arith, nat_tests) in
    let none : count - i ≡ 0 = omega arith in
    ap (λ b. if b then bytes_of (cells_within from count cs) else None) there
    ∙ sym e ∙ ap (λ k. option_map (λ bs. out ++ bs) (bytes_of (take k (drop (from + i) cs)))) none ∙ ap Some (append-nil out)

pub bytes_seen : (cs : List Cell) (from count i : ℕ) → from + count ≤ length cs → count ≤ i →
    (IsSome (bytes_of (take (count - i) (drop (from + i) cs))) → IsSome (bytes_of (cells_within from count cs))) →
    IsSome (bytes_behind from count cs)
bytes_seen cs from count i few h go =
    let there : nat_le (from + count) (length cs) ≡ true = grind (arith, nat_tests) in
    let none : count - i ≡ 0 = omega arith in
    subst (λ b. IsSome (if b then bytes_of (cells_within from count cs) else None)) (sym there)
    (go (subst (λ k. IsSome (bytes_of (take k (drop (from + i) cs)))) (sym none) refl))

-- ---- kids

pub text_at : (s : Store) (ts : List TypedNode) (i : ℕ) (x : TypedNode) → slice_get ts i ≡ Some x →
    text_of_kid s i (typed_nodes ts) ≡ text_of s x
text_at s [] i x e = absurd cc
text_at s (t ∷ ts) zero x e = let same : t ≡ x = cc in ap (text_of s) same
text_at s (t ∷ ts) (suc i) x e = text_at s ts i x e

-- a kid that is not there is none
pub text_past : (s : Store) (ts : List TypedNode) (i : ℕ) → length ts ≤ i → text_of_kid s i (typed_nodes ts) ≡ None
text_past s [] i h = refl
text_past s (t ∷ ts) zero h = absurd (omega arith)
text_past s (t ∷ ts) (suc i) h = text_past s ts i (omega (arith, h))

-- ---- what is no text, and objects that do not agree

-- an object of those that agree is found with its own cells
pub coherent_at : (os : List ConstObject) (i : ℕ) (o : ConstObject) → slice_get os i ≡ Some o → AreCoherent os →
    cells_found os o.object ≡ Some o.cells
coherent_at os i o e h = h o (got os i e)
  where
    got : (xs : List ConstObject) (k : ℕ) → slice_get xs k ≡ Some o → Contains xs o
    got [] k f = absurd cc
    got (x ∷ xs) zero f = let same : x ≡ o = cc in subst (λ y. Contains (x ∷ xs) y) same (0, omega arith, refl)
    got (x ∷ xs) (suc k) f = let c = got xs k f in (suc c.0, omega (arith, c.1), c.2)

-- the first of the cells that are left is a byte, where all are
pub byte_first : (cs : List Cell) (from count i : ℕ) (c : Cell) → slice_get cs (from + i) ≡ Some c → i < count →
    IsSome (bytes_of (take (count - i) (drop (from + i) cs))) →
    IsSome (byte_in c) × IsSome (bytes_of (take (count - (i + 1)) (drop (from + (i + 1)) cs)))
byte_first cs from count i c e h p =
    let more : count - i ≡ suc (count - (i + 1)) = omega arith in
    let next : from + i + 1 ≡ from + (i + 1) = omega arith in
    let all : take (count - i) (drop (from + i) cs) ≡ c ∷ take (count - (i + 1)) (drop (from + (i + 1)) cs) =
    ap (λ k. take k (drop (from + i) cs)) more ∙ ap (take (suc (count - (i + 1)))) (drop-get cs (from + i) c e)
    ∙ ap (λ k. c ∷ take (count - (i + 1)) (drop k cs)) next in
    by c (subst (λ l. IsSome (bytes_of l)) all p)
  where
    rest : (b : ℕ) (o : Option (List ℕ)) → IsSome (option_map (λ bs. b ∷ bs) o) → IsSome o
    rest b None q = absurd cc
    rest b (Some bs) q = refl

    by : (x : Cell) → IsSome (bytes_of (x ∷ take (count - (i + 1)) (drop (from + (i + 1)) cs))) →
        IsSome (byte_in x) × IsSome (bytes_of (take (count - (i + 1)) (drop (from + (i + 1)) cs)))
    by (cell.Byte b) q = (refl, rest b (bytes_of (take (count - (i + 1)) (drop (from + (i + 1)) cs))) q)
    by (cell.Fragment o d k) q = absurd cc
    by cell.Undef q = absurd cc

-- the bytes are there that are looked at
pub bytes_first : (cs : List Cell) (from count : ℕ) → IsSome (bytes_behind from count cs) →
    (from + count ≤ length cs) × IsSome (bytes_of (cells_within from count cs))
bytes_first cs from count p = by (nat_le (from + count) (length cs)) refl p
  where
    by : (b : Bool) → nat_le (from + count) (length cs) ≡ b → IsSome (if b then bytes_of (cells_within from count cs) else None) →
        (from + count ≤ length cs) × IsSome (bytes_of (cells_within from count cs))
    by true e q = (grind (arith, nat_tests), q)
    by false e q = absurd cc

-- words that lead nowhere are no text
pub no_text : (os : List ConstObject) (a : Answer Words) → ((w : Words) (o d : ℕ) → a ≡ Gives w → w.data_at ≢ Address o d) →
    IsSome (text_of_words os a) → ⊥
no_text os (Gives w) h p = by w.data_at refl p
  where
    by : (q : Pointer) → w.data_at ≡ q → IsSome (bytes_at os q w.length) → ⊥
    by Null e q = absurd cc
    by (Address o d) e q = h w o d refl e
no_text os (Aborts r) h p = absurd cc
no_text os (IsUndefined u) h p = absurd cc
