-- What tests of a tree say of it.
use Rattle.std.proofs.Common.{◌≡◌, ◌∙◌, sym, ap, ap₂, subst, refl, ℕ, zero, suc, ◌+◌, ◌-◌, ◌<◌, ◌≤◌, arith, Bool, true, false, not, List, [], ◌∷◌, length, Some}
use Rattle.std.specs.Prelude.{slice_get, ◌&&◌, ◌||◌}
use Rattle.std.specs.List.{All, AllByRecursion}
use Rattle.std.proofs.Common.{◌⊎◌, inl, inr}
use Rattle.std.proofs.lemmas.Bool.{cases_lt}
use Rattle.std.proofs.lemmas.List.Elements.{All-nil, All-cons, recursion_from_All, All-from_recursion}
use Rattle.hare_tree.specs.declared.kind.Kind.{Kind}
use Rattle.hare_tree.specs.declared.kind.Kind.TheVariants as kind
use Rattle.hare_tree.specs.Node.{Head}
use Rattle.hare_types.specs.declared.coercion.Ty.{Ty}
use Rattle.hare_types.specs.declared.coercion.Ty.TheVariants as ty
use Rattle.hare_types.specs.Assign.{IsIn}
use Rattle.hare_types.specs.Store.{Store}
use Rattle.hare_typed.specs.Typed.{TypedNode, TypedNodes, Mark, marked, typed_none, typed_more, typed_nodes, head_of, mark_of, kids_of}
use Rattle.hare_typed.specs.Order.{kid_from_front}
use Rattle.hare_typed.specs.Given.{first_given}
use Rattle.hare_typed.specs.Weight.{items_of}
use Rattle.hare_typed.specs.Constants.{own_kind, is_known}
use Rattle.hare_typed.specs.Constancy.{names_void, is_global_path}
use Rattle.hare_typed.specs.Evaluated.{is_named, is_place_kind, first_is_place}
use Rattle.hare_typed.specs.ConstantForms.{own_type, part_named, counted_from, fields_from}
use Rattle.hare_typed.specs.Sizes.{Fits, HasPart, parts_in}
use Rattle.hare_typed.specs.Settled.{HasParts, components_given, fields_given, AreSimple}
use Rattle.hare_typed.specs.Settled.{HaveBases, IsSettled, IsSettledNode, AreSettled}
use Rattle.hare_const.proofs.SizeLemmas.{starts, has_part}
use Rattle.hare_const.proofs.LaterTypes.{in_store}
use Rattle.hare_const.proofs.Shown.Trees.{global_meaning}

-- ---- parts

-- a part before one that a type has is one too
pub lower_part : (s : Store) (t k n : ℕ) → Fits s t → HasPart s t n → k ≤ n → HasPart s t k
lower_part s t k n f h e =
    let p = starts s t n f h in
    let low : k < length (parts_in p.row) = omega (arith, p.part, e) in
    has_part s t k p.row f p.here low

counted_each : (P : ℕ → Type 0) (i n : ℕ) → ((k : ℕ) → k < i + n → P k) → All P (counted_from i n)
counted_each P i zero h = All-nil P
counted_each P i (suc n) h =
    All-cons P i (counted_from (suc i) n) (h i (omega arith))
    (counted_each P (suc i) n (λ k e. h k (omega (arith, e))))

-- the components that a tuple gives are parts of its type
pub components_there : (s : Store) (t : TypedNode) (f n : ℕ) → own_type t ≡ ty.Of f → Fits s f → n ≡ items_of kind.Tuple (kids_of t) →
    ((k : ℕ) → k < n → HasPart s f k) → HasParts s (own_type t) (components_given t)
components_there s t f n e h m parts =
    let few : (k : ℕ) → k < 0 + n → HasPart s f k = λ k l. parts k (omega (arith, l)) in
    subst (λ g. HasParts s g (components_given t)) (sym e)
    (h, subst (λ c. All (HasPart s f) (counted_from 0 c)) m (counted_each (HasPart s f) 0 n few))

-- the fields from one on are parts, where it is one and those behind it are
pub field_there : (s : Store) (f : Ty) (t : TypedNode) (of i n p : ℕ) (G : Type 0) → i < n →
    p ≡ part_named s f (head_of (kid_from_front (i + 1) t)) →
    HasPart s of p →
    (All (HasPart s of) (fields_from s f (suc i) (n - i) t) → G) → All (HasPart s of) (fields_from s f (suc (i + 1)) (n - (i + 1)) t) → G
field_there s f t of i n p G l e h go rest =
    let left : suc (n - (i + 1)) ≡ n - i = omega arith in
    let next : i + 1 ≡ suc i = omega arith in
    let here : HasPart s of (part_named s f (head_of (kid_from_front (suc i) t)))
    = subst (λ k. HasPart s of (part_named s f (head_of (kid_from_front k t)))) next (subst (HasPart s of) e h) in
    let behind : All (HasPart s of) (fields_from s f (suc (suc i)) (n - (i + 1)) t)
    = subst (λ k. All (HasPart s of) (fields_from s f (suc k) (n - (i + 1)) t)) next rest in
    go (subst (λ k. All (HasPart s of) (fields_from s f (suc i) k t)) left
    (All-cons (HasPart s of) (part_named s f (head_of (kid_from_front (suc i) t)))
    (fields_from s f (suc (suc i)) (n - (i + 1)) t) here behind))

pub fields_there : (s : Store) (f : Ty) (t : TypedNode) (of i n : ℕ) (G : Type 0) → n ≤ i →
    (All (HasPart s of) (fields_from s f (suc i) (n - i) t) → G) → G
fields_there s f t of i n G l go =
    let left : 0 ≡ n - i = omega arith in
    go (subst (λ k. All (HasPart s of) (fields_from s f (suc i) k t)) left (All-nil (HasPart s of)))

-- ---- places

and-right : (x y : Bool) → (x && not y) ≡ true → y ≡ false
and-right true true e = absurd cc
and-right true false e = refl
and-right false y e = absurd cc

global_place : (s : Store) (k : Kind) (m : Mark) (f : Ty) (b : Bool) → is_global_path k m ≡ true → names_void s m.meaning m.ty ≡ false →
    is_place_kind s k m f b ≡ true
global_place s kind.Path m f b e g =
    ap (λ x. is_named x && not (is_known m.value || names_void s m.meaning m.ty)) (global_meaning m e).1
    ∙ ap₂ (λ x y. not (x || y)) (and-right _ (is_known m.value) e) g
global_place s _ m f b e g = absurd cc

place_first : (s : Store) (ts : List TypedNode) (x : TypedNode) → slice_get ts 0 ≡ Some x → is_global_path (own_kind x) (mark_of x) ≡ true →
    names_void s (mark_of x).meaning (mark_of x).ty ≡ false → first_is_place s (typed_nodes ts) ≡ true
place_first s [] x g e n = absurd cc
place_first s (marked h m us ∷ ts) x g e n =
    let same : x ≡ marked h m us = cc in
    global_place s h.kind m (first_given us) (first_is_place s us)
    (subst (λ y. is_global_path (own_kind y) (mark_of y) ≡ true) same e)
    (subst (λ y. names_void s (mark_of y).meaning (mark_of y).ty ≡ false) same n)

-- the first kid is a place, where it is a path to a global
pub first_placed : (s : Store) (t x : TypedNode) (h : Head) (m : Mark) (ts : List TypedNode) → marked h m (typed_nodes ts) ≡ t →
    slice_get ts 0 ≡ Some x → is_global_path (own_kind x) (mark_of x) ≡ true → names_void s (mark_of x).meaning (mark_of x).ty ≡ false →
    first_is_place s (kids_of t) ≡ true
first_placed s t x h m ts e g p n = subst (λ y. first_is_place s (kids_of y) ≡ true) e (place_first s ts x g p n)

-- ---- trees

simple-of : (s : Store) (ts : TypedNodes) → AreSettled s ts → AreSimple s ts
simple-of s typed_none p = tt
simple-of s (typed_more t ts) p = (p.0.simple, simple-of s ts p.1)

bases-of : (s : Store) (ts : TypedNodes) → AreSettled s ts → HaveBases s ts
bases-of s typed_none p = tt
bases-of s (typed_more t ts) p = (p.0.bases, bases-of s ts p.1)

-- a node and its kids
pub settled_tree : (s : Store) (t : TypedNode) → IsSettledNode s t → AreSettled s (kids_of t) → IsSettled s t
settled_tree s (marked h m ts) n p = record {
  simple = (n.simple, n.plain, in_store s m.ty n.own, n.joins, simple-of s ts p);
  bases = (n.own, n.to, bases-of s ts p);
}

-- ---- parts that a node asks for

-- each of those that are counted from one on
counted_back : (P : ℕ → Type 0) (i n : ℕ) → AllByRecursion P (counted_from i n) → (k : ℕ) → i ≤ k → k < i + n → P k
counted_back P i zero h k l m = absurd (omega (arith, l, m))
counted_back P i (suc n) h k l m = by (cases_lt i k) (λ g. counted_back P (suc i) n h.1 k (omega (arith, g)) (omega (arith, m)))
  where
    by : (i < k) ⊎ (k ≤ i) → (i < k → P k) → P k
    by (inl g) rest = rest g
    by (inr g) rest = let same : i ≡ k = omega (arith, l, g) in subst P same h.0

-- the type of a tuple has the components that this gives
pub components_back : (s : Store) (t : TypedNode) (f n : ℕ) → own_type t ≡ ty.Of f → n ≡ items_of kind.Tuple (kids_of t) →
    HasParts s (own_type t) (components_given t) → Fits s f × ((k : ℕ) → k < n → HasPart s f k)
components_back s t f n e m h =
    let parts : HasParts s (ty.Of f) (components_given t) = subst (λ g. HasParts s g (components_given t)) e h in
    let all : AllByRecursion (HasPart s f) (counted_from 0 n) =
    subst (λ c. AllByRecursion (HasPart s f) (counted_from 0 c)) (sym m) (recursion_from_All (HasPart s f) (components_given t) parts.1) in
    (parts.0, λ k l. counted_back (HasPart s f) 0 n all k (omega arith) (omega (arith, l)))

pub fields_back : (s : Store) (t : TypedNode) (f : ℕ) → own_type t ≡ ty.Of f → HasParts s (own_type t) (fields_given s t) →
    Fits s f × All (HasPart s f) (fields_given s t)
fields_back s t f e h = subst (λ g. HasParts s g (fields_given s t)) e h

-- of the fields from one on, the first and those behind it
pub field_here : (s : Store) (f : Ty) (t : TypedNode) (of i n p : ℕ) → i < n → p ≡ part_named s f (head_of (kid_from_front (i + 1) t)) →
    All (HasPart s of) (fields_from s f (suc i) (n - i) t) →
    HasPart s of p × All (HasPart s of) (fields_from s f (suc (i + 1)) (n - (i + 1)) t)
field_here s f t of i n p l e h =
    let left : n - i ≡ suc (n - (i + 1)) = omega arith in
    let next : suc i ≡ i + 1 = omega arith in
    let rest : List ℕ = fields_from s f (suc (suc i)) (n - (i + 1)) t in
    let all : AllByRecursion (HasPart s of) (part_named s f (head_of (kid_from_front (suc i) t)) ∷ rest) =
    recursion_from_All (HasPart s of) (part_named s f (head_of (kid_from_front (suc i) t)) ∷ rest)
    (subst (λ k. All (HasPart s of) (fields_from s f (suc i) k t)) left h) in
    let here : HasPart s of (part_named s f (head_of (kid_from_front (i + 1) t))) =
    subst (λ k. HasPart s of (part_named s f (head_of (kid_from_front k t)))) next all.0 in
    let behind : All (HasPart s of) rest = All-from_recursion (HasPart s of) rest all.1 in
    (subst (HasPart s of) (sym e) here, subst (λ k. All (HasPart s of) (fields_from s f (suc k) (n - (i + 1)) t)) next behind)

-- ---- what a settled tree is made of

pub settled_node : (s : Store) (t : TypedNode) → IsSettled s t → IsSettledNode s t
settled_node s (marked h m ts) p = record {
  simple = p.simple.0;
  plain = p.simple.1;
  own = p.bases.0;
  to = p.bases.1;
  joins = p.simple.3;
}

settled_each : (s : Store) (ts : TypedNodes) → AreSimple s ts → HaveBases s ts → AreSettled s ts
settled_each s typed_none p q = tt
settled_each s (typed_more t ts) p q = (record { simple = p.0; bases = q.0 }, settled_each s ts p.1 q.1)

pub settled_kids : (s : Store) (t : TypedNode) → IsSettled s t → AreSettled s (kids_of t)
settled_kids s (marked h m ts) p = settled_each s ts p.simple.4 p.bases.2

pub settled_at : (s : Store) (ts : List TypedNode) (i : ℕ) (x : TypedNode) → slice_get ts i ≡ Some x → AreSettled s (typed_nodes ts) →
    IsSettled s x
settled_at s [] i x e p = absurd cc
settled_at s (t ∷ ts) zero x e p = let same : t ≡ x = cc in subst (IsSettled s) same p.0
settled_at s (t ∷ ts) (suc i) x e p = settled_at s ts i x e p.1

pub settled_type : (s : Store) (x : TypedNode) → IsSettled s x → IsIn s (mark_of x).ty
settled_type s (marked h m ts) p = p.simple.2

-- a path to a type is no place
void_path : (s : Store) (k : Kind) (m : Mark) (f : Ty) (b : Bool) → is_global_path k m ≡ true → names_void s m.meaning m.ty ≡ true →
    is_place_kind s k m f b ≡ true → ⊥
void_path s kind.Path m f b e g p =
    let none : is_place_kind s kind.Path m f b ≡ false =
    ap (λ x. is_named m.meaning && not (is_known m.value || x)) g ∙ last (is_named m.meaning) (is_known m.value) in
    let both = sym p ∙ none in
    absurd cc
  where
    last : (x y : Bool) → (x && not (y || true)) ≡ false
    last true true = refl
    last true false = refl
    last false y = refl
void_path s _ m f b e g p = absurd cc

void_first : (s : Store) (ts : List TypedNode) (x : TypedNode) → slice_get ts 0 ≡ Some x → is_global_path (own_kind x) (mark_of x) ≡ true →
    names_void s (mark_of x).meaning (mark_of x).ty ≡ true → first_is_place s (typed_nodes ts) ≡ true → ⊥
void_first s [] x g e n p = absurd cc
void_first s (marked h m us ∷ ts) x g e n p =
    let same : x ≡ marked h m us = cc in
    void_path s h.kind m (first_given us) (first_is_place s us)
    (subst (λ y. is_global_path (own_kind y) (mark_of y) ≡ true) same e)
    (subst (λ y. names_void s (mark_of y).meaning (mark_of y).ty ≡ true) same n) p

pub not_placed : (s : Store) (t x : TypedNode) (h : Head) (m : Mark) (ts : List TypedNode) → marked h m (typed_nodes ts) ≡ t →
    slice_get ts 0 ≡ Some x → is_global_path (own_kind x) (mark_of x) ≡ true → names_void s (mark_of x).meaning (mark_of x).ty ≡ true →
    first_is_place s (kids_of t) ≡ true → ⊥
not_placed s t x h m ts e g p n f = void_first s ts x g p n (subst (λ y. first_is_place s (kids_of y) ≡ true) (sym e) f)
