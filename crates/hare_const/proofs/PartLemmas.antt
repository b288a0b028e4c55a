-- The parts of a tuple or struct at their offsets.
use Rattle.std.proofs.Common.{◌≡◌, ◌∙◌, sym, ap, refl, ℕ, zero, suc, ◌+◌, ◌-◌, ◌≤◌, ◌<◌, arith, List, [], ◌∷◌, ◌++◌, append_assoc, length, drop, get_or}
use Rattle.std.specs.Prelude.{slice_get, position, bytes_eq, Option, Some, None, ◌≢◌}
use Rattle.std.proofs.Math.Seq.{drop-cons}
use Rattle.std.proofs.lemmas.List.{map-id}
use Rattle.std.proofs.lemmas.Slice.Eq.{bytes_eq-Decides}
use Rattle.hare_types.specs.declared.coercion.Ty.TheVariants as ty
use Rattle.hare_types.specs.Store.{Store}
use Rattle.hare_typed.specs.declared.cell.Cell.{Cell}
use Rattle.hare_tree.specs.Node.{Head}
use Rattle.hare_types.specs.Sound.{IsStore}
use Rattle.hare_types.proofs.NumberingLemmas.{position_found, position_absent}
use Rattle.hare_typed.specs.Typed.{TypedNode, Mark, marked, typed_nodes, head_of}
use Rattle.hare_typed.specs.Order.{kid_from_front, missing}
use Rattle.hare_typed.specs.Followed.{pointee_or, reached_within, reached_type}
use Rattle.hare_typed.specs.Cells.{with_cells, undefined_cells}
use Rattle.hare_typed.specs.Given.{pointee}
use Rattle.hare_typed.specs.ConstantForms.{type_of_kid, offset_in, part_named, with_parts, made_of, counted_from, fields_from}
use Rattle.hare_types.specs.declared.coercion.Ty.{Ty}
use Rattle.hare_const.specs.declared.outcome.Outcome.{Outcome}
use Rattle.hare_const.specs.declared.outcome.Outcome.TheVariants.{Known}
use Rattle.hare_const.specs.declared.placing.Part.{Part}
use Rattle.hare_typed.specs.Settled.{HasParts, type_with_offset}
use Rattle.hare_const.specs.NodeValues.{on_cells, kid_at, kids_at}
use Rattle.hare_const.specs.Placing.{cells_of, cells_in, placed}
use Rattle.hare_const.proofs.NodeLemmas.{kid-found, kid-missing}
use Rattle.hare_const.proofs.PlacingLemmas.{placed_push}

-- ---- which parts are given

-- the components so far, and those that are left
pub counted_more : (i n : ℕ) (done more all : List ℕ) → i < n → done ++ counted_from i (n - i) ≡ all → more ≡ done ++ i ∷ [] →
    more ++ counted_from (i + 1) (n - (i + 1)) ≡ all
counted_more i n done more all h e f =
    let left : suc (n - (i + 1)) ≡ n - i = omega arith in
    let next : i + 1 ≡ suc i = omega arith in
    ap (λ ns. ns ++ counted_from (i + 1) (n - (i + 1))) f
    ∙ append_assoc done (i ∷ []) (counted_from (i + 1) (n - (i + 1)))
    ∙ ap (λ k. done ++ i ∷ counted_from k (n - (i + 1))) next
    ∙ ap (λ k. done ++ counted_from i k) left
    ∙ e

append-none : (ns : List ℕ) → ns ++ [] ≡ ns
append-none [] = refl
append-none (n ∷ ns) = ap (λ ms. n ∷ ms) (append-none ns)

pub counted_all : (i n : ℕ) (done all : List ℕ) → n ≤ i → done ++ counted_from i (n - i) ≡ all → done ≡ all
counted_all i n done all h e =
    let left : 0 ≡ n - i = omega arith in
    sym (append-none done) ∙ ap (λ k. done ++ counted_from i k) left ∙ e

-- the same of the fields
pub fields_more : (s : Store) (f : Ty) (t : TypedNode) (i n p : ℕ) (done more all : List ℕ) → i < n →
    done ++ fields_from s f (suc i) (n - i) t ≡ all → p ≡ part_named s f (head_of (kid_from_front (i + 1) t)) → more ≡ done ++ p ∷ [] →
    more ++ fields_from s f (suc (i + 1)) (n - (i + 1)) t ≡ all
fields_more s f t i n p done more all h e g w =
    let left : suc (n - (i + 1)) ≡ n - i = omega arith in
    let next : i + 1 ≡ suc i = omega arith in
    ap (λ ns. ns ++ fields_from s f (suc (i + 1)) (n - (i + 1)) t) w
    ∙ append_assoc done (p ∷ []) (fields_from s f (suc (i + 1)) (n - (i + 1)) t)
    ∙ ap (λ k. done ++ p ∷ fields_from s f (suc k) (n - (i + 1)) t) next
    ∙ ap (λ q. done ++ q ∷ fields_from s f (suc (suc i)) (n - (i + 1)) t) (g ∙ ap (λ k. part_named s f (head_of (kid_from_front k t))) next)
    ∙ ap (λ k. done ++ fields_from s f (suc i) k t) left
    ∙ e

pub fields_all : (s : Store) (f : Ty) (t : TypedNode) (i n : ℕ) (done all : List ℕ) → n ≤ i →
    done ++ fields_from s f (suc i) (n - i) t ≡ all →
    done ≡ all
fields_all s f t i n done all h e =
    let left : 0 ≡ n - i = omega arith in
    sym (append-none done) ∙ ap (λ k. done ++ fields_from s f (suc i) k t) left ∙ e

pub length_counted : (i n : ℕ) → length (counted_from i n) ≡ n
length_counted i zero = refl
length_counted i (suc n) = omega (arith, length_counted (suc i) n)

pub length_fields : (s : Store) (f : Ty) (t : TypedNode) (i n : ℕ) → length (fields_from s f i n t) ≡ n
length_fields s f t i zero = refl
length_fields s f t i (suc n) = omega (arith, length_fields s f t (suc i) n)

-- ---- names

-- the number of a name is where it stands
pub name_at : (s : Store) → IsStore s → (text : List ℕ) (n : ℕ) → slice_get s.names n ≡ Some text →
    position (bytes_eq text) s.names ≡ Some n
name_at s v text n h = by (position (bytes_eq text) s.names) refl
  where
    by : (o : Option ℕ) → position (bytes_eq text) s.names ≡ o → position (bytes_eq text) s.names ≡ Some n
    by None e =
        let nowhere = position_absent (λ q. q) text (bytes_eq text) (bytes_eq-Decides text) s.names (sym e) n in
        absurd (nowhere (ap (λ l. slice_get l n) (map-id s.names) ∙ h))
    by (Some i) e =
        let found : slice_get s.names i ≡ Some text =
        ap (λ l. slice_get l i) (sym (map-id s.names)) ∙ position_found (λ q. q) text (bytes_eq text) (bytes_eq-Decides text) s.names i
        (sym e) in
        e ∙ ap Some (v.names_once.once i n text found h)

pub name_nowhere : (s : Store) (text : List ℕ) → ((n : ℕ) → slice_get s.names n ≢ Some text) → position (bytes_eq text) s.names ≡ None
name_nowhere s text h = by (position (bytes_eq text) s.names) refl
  where
    by : (o : Option ℕ) → position (bytes_eq text) s.names ≡ o → position (bytes_eq text) s.names ≡ None
    by None e = e
    by (Some i) e =
        absurd (h i (ap (λ l. slice_get l i) (sym (map-id s.names)) ∙ position_found (λ q. q) text (bytes_eq text) (bytes_eq-Decides text)
        s.names i (sym e)))

-- ---- the node within an offset

pub kid_there : (t x : TypedNode) (h : Head) (m : Mark) (ts : List TypedNode) (i : ℕ) → marked h m (typed_nodes ts) ≡ t →
    slice_get ts i ≡ Some x →
    x ≡ kid_from_front i t
kid_there t x h m ts i e g = sym (kid-found ts i x g) ∙ ap (kid_from_front i) e

pub kid_absent : (t : TypedNode) (h : Head) (m : Mark) (ts : List TypedNode) (i : ℕ) → marked h m (typed_nodes ts) ≡ t → length ts ≤ i →
    missing ≡ kid_from_front i t
kid_absent t h m ts i e l = sym (kid-missing ts i l) ∙ ap (kid_from_front i) e

-- where the node is left out there is no type with an offset
pub no_offset : (s : Store) (t : TypedNode) (f : ℕ) → missing ≡ kid_from_front 0 t → type_with_offset s t ≡ ty.Of f → ⊥
no_offset s t f e g = let same : ty.Empty ≡ ty.Of f = ap (λ u. reached_type s (type_of_kid 0 u)) e ∙ g in absurd cc

-- what has parts has a type
pub type_with_parts : (s : Store) (f : Ty) (ns : List ℕ) → HasParts s f ns → (t : ℕ) × (f ≡ ty.Of t)
type_with_parts s (ty.Of t) ns h = (t, refl)
type_with_parts s (ty.Iconst v) ns h = absurd h
type_with_parts s ty.Null ns h = absurd h
type_with_parts s ty.Empty ns h = absurd h

pub reached_next : (s : Store) (most i : ℕ) (at next : Ty) → i < most → next ≡ pointee_or at (pointee s at) →
    reached_within (most - (i + 1)) s next ≡ reached_within (most - i) s at
reached_next s most i at next h e =
    let left : suc (most - (i + 1)) ≡ most - i = omega arith in
    ap (reached_within (most - (i + 1)) s) e ∙ ap (λ k. reached_within k s at) left

-- ---- the parts at their offsets

-- what the value is once so many parts stand in it, which is this then
abbrev pub RestOfParts : Store → Ty → List ℕ → (from : ℕ) → List Outcome → ℕ → List Cell → Outcome
RestOfParts s f ns from os i whole = kids_at (from + i) (length ns - i) os (λ cs. Known (with_parts s f (drop i ns) cs whole))

abbrev pub WithParts : Store → Ty → List ℕ → (from : ℕ) → List Outcome → Outcome
WithParts s f ns from os = kids_at from (length ns) os (λ cs. Known (made_of s f ns cs))

-- the parts so far stand in the value, and what is left goes on from there
abbrev pub Gathered : Store → Ty → (size : ℕ) → List ℕ → (from : ℕ) → List Outcome → ℕ → List Part → Type 0
Gathered s f size ns from os i ps = WithParts s f ns from os ≡ RestOfParts s f ns from os i (placed os ps (undefined_cells size))

-- one more part is gathered
pub gathered_more : (s : Store) (f : Ty) (size : ℕ) (ns : List ℕ) (from : ℕ) (os : List Outcome) (i : ℕ) (ps new : List Part) (p : Part)
    (c : List Cell) → Gathered s f size ns from os i ps → i < length ns → kid_at (from + i) os ≡ Known c → p.kid ≡ from + i →
    p.start ≡ offset_in s f (get_or ns i 0) → new ≡ ps ++ p ∷ [] → Gathered s f size ns from os (i + 1) new
gathered_more s f size ns from os i ps new p c l h e q o w =
    let n : ℕ = get_or ns i 0 in
    let k : ℕ = length ns - (i + 1) in
    let left : length ns - i ≡ suc k = omega arith in
    let next : suc (from + i) ≡ from + (i + 1) = omega arith in
    let same : suc i ≡ i + 1 = omega arith in
    let tail : List ℕ = drop (suc i) ns in
    let front : drop i ns ≡ n ∷ tail = drop-cons ns i 0 h in
    let whole : List Cell = placed os ps (undefined_cells size) in
    let cells : c ≡ cells_in os p = sym (ap (λ j. cells_of (kid_at j os)) q ∙ ap cells_of e) in
    let put : with_cells (offset_in s f n) c whole ≡ placed os new (undefined_cells size) =
    ap (λ j. with_cells j c whole) (sym o) ∙ ap (λ d. with_cells p.start d whole) cells
    ∙ sym (ap (λ xs. placed os xs (undefined_cells size)) w ∙ placed_push os ps p (undefined_cells size)) in
    l
    ∙ ap (λ j. kids_at (from + i) j os (λ cs. Known (with_parts s f (drop i ns) cs whole))) left
    ∙ ap (λ ms. kids_at (from + i) (suc k) os (λ cs. Known (with_parts s f ms cs whole))) front
    ∙ ap (λ x. on_cells x (λ d. kids_at (suc (from + i)) k os λ cs. Known
    (with_parts s f tail cs (with_cells (offset_in s f n) d whole)))) e
    ∙ ap (λ x. kids_at (suc (from + i)) k os λ cs. Known (with_parts s f tail cs x)) put
    ∙ ap (λ j. kids_at j k os λ cs. Known (with_parts s f tail cs (placed os new (undefined_cells size)))) next
    ∙ ap (λ j. kids_at (from + (i + 1)) k os λ cs. Known (with_parts s f (drop j ns) cs (placed os new (undefined_cells size)))) same

-- a part that has no value
pub gathered_stopped : (s : Store) (f : Ty) (size : ℕ) (ns : List ℕ) (from : ℕ) (os : List Outcome) (i : ℕ) (ps : List Part) (o : Outcome) →
    Gathered s f size ns from os i ps → i < length ns → kid_at (from + i) os ≡ o → ((g : List Cell → Outcome) → on_cells o g ≡ o) →
    o ≡ WithParts s f ns from os
gathered_stopped s f size ns from os i ps o l h e stop =
    let k : ℕ = length ns - (i + 1) in
    let left : length ns - i ≡ suc k = omega arith in
    let whole : List Cell = placed os ps (undefined_cells size) in
    sym (l
    ∙ ap (λ j. kids_at (from + i) j os (λ cs. Known (with_parts s f (drop i ns) cs whole))) left
    ∙ ap (λ x. on_cells x (λ d. kids_at (suc (from + i)) k os λ cs. Known (with_parts s f (drop i ns) (d ∷ cs) whole))) e
    ∙ stop _)

no-parts : (s : Store) (f : Ty) (ns : List ℕ) (into : List Cell) → with_parts s f ns [] into ≡ into
no-parts s f [] into = refl
no-parts s f (n ∷ ns) into = refl

pub gathered_all : (s : Store) (f : Ty) (size : ℕ) (ns : List ℕ) (from : ℕ) (os : List Outcome) (i : ℕ) (ps : List Part) (new : List Cell) →
    Gathered s f size ns from os i ps → length ns ≤ i → new ≡ placed os ps (undefined_cells size) → Known new ≡ WithParts s f ns from os
gathered_all s f size ns from os i ps new l h e =
    let left : length ns - i ≡ 0 = omega arith in
    let whole : List Cell = placed os ps (undefined_cells size) in
    ap Known (e ∙ sym (no-parts s f (drop i ns) whole))
    ∙ sym (l ∙ ap (λ j. kids_at (from + i) j os (λ cs. Known (with_parts s f (drop i ns) cs whole))) left)

-- the parts that a node gives, as its kind says which they are
pub with_given : (s : Store) (f g : Ty) (ns ms : List ℕ) (from n : ℕ) (os : List Outcome) → ns ≡ ms → length ms ≡ n → f ≡ g →
    WithParts s f ns from os ≡ kids_at from n os (λ cs. Known (made_of s g ms cs))
with_given s f g ns ms from n os e l h =
    ap (λ xs. WithParts s f xs from os) e
    ∙ ap (λ k. kids_at from k os (λ cs. Known (made_of s f ms cs))) l
    ∙ ap (λ y. kids_at from n os (λ cs. Known (made_of s y ms cs))) h
