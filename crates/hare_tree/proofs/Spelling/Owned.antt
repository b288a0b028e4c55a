-- Facts on a tree's own text, and on leaves.
use Rattle.std.proofs.Common.{◌≡◌, ◌≢◌, ℕ, ◌+◌, ◌-◌, ◌<◌, ◌≤◌, List, [], ◌∷◌, ◌++◌, Bool, true, false, length, take, drop, refl, ap, sym, ◌∙◌, arith, length-drop}
use Rattle.std.specs.Prelude.{slice_index, ◌&&◌, ◌==◌}
use Rattle.std.specs.List.{slice_range}
use Rattle.std.proofs.lemmas.List.{take_more, get_or-drop}
use Rattle.hare_tree.specs.declared.kind.Kind.{Kind}
use Rattle.hare_tree.specs.declared.form.Own.{Own}
use Rattle.hare_tree.specs.declared.form.Piece.{Piece}
use Rattle.hare_tree.specs.declared.form.Piece.TheVariants as pi
use Rattle.hare_tree.specs.Node.{Head, Node, branch, nodes_of}
use Rattle.hare_tree.specs.Levels.{is_name}
use Rattle.hare_tree.specs.Shape.{own_of, are_names, is_leaf}
use Rattle.hare_tree.specs.Judged.{names_left}
use Rattle.hare_tree.proofs.Spelling.Spelled.{parts_from-second, parts_from-mark, parts_from-byte}

-- a piece that is no own part
pub own_of-other : (p : Piece) (ps : List Piece) → ((o : Own) → p ≡ pi.Own o → ⊥) → own_of (p ∷ ps) ≡ own_of ps
own_of-other (pi.Own o) ps n = absurd (n o refl)
own_of-other _ ps n = refl

-- nothing lies between a place and itself
slice-empty : (text : List ℕ) (i : ℕ) → slice_range text i i ≡ []
slice-empty text i = let e : i - i ≡ 0 = omega arith in ap (λ n. take n (drop i text)) e

-- one byte more
slice-push : (text : List ℕ) (a i : ℕ) → a ≤ i → i < length text → slice_range text a (i + 1) ≡ slice_range text a i ++ slice_index text i ∷
    []
slice-push text a i le lt =
    let e : (i + 1) - a ≡ (i - a) + 1 = omega arith in
    let n : i - a < length (drop a text) = omega (arith, length-drop a text) in
    let s : a + (i - a) ≡ i = omega arith in
    ap (λ n. take n (drop a text)) e ∙
    (take_more (drop a text) (i - a) 0 n ∙ ap (λ c. take (i - a) (drop a text) ++ c ∷ [])
    (get_or-drop a text (i - a) 0 ∙ ap (λ k. slice_index text k) s))

-- the second colon of a mark
pub names-second : (b : Bool) (text : List ℕ) (start i : ℕ) (k : Bool) → k ≡ true → start ≡ i → i < length text →
    names_left b false (slice_range text (i + 1) (i + 1)) (drop (i + 1) text) ≡ names_left b k (slice_range text start i) (drop i text)
names-second b text start i k e s lt =
    rw (e, s, slice-empty text i, slice-empty text (i + 1)) (ap (are_names b) (sym (parts_from-second [] text i lt)))

-- a byte of a part
pub names-byte : (b : Bool) (text : List ℕ) (start i : ℕ) (k : Bool) → k ≡ false → start ≤ i → i < length text →
    (slice_index text i == 58 && slice_index text (i + 1) == 58) ≡ false →
    names_left b k (slice_range text start (i + 1)) (drop (i + 1) text) ≡ names_left b k (slice_range text start i) (drop i text)
names-byte b text start i k e le lt m =
    rw (e, slice-push text start i le lt) (ap (are_names b) (sym (parts_from-byte (slice_range text start i) text i lt m)))

-- the first colon of a mark, behind a name
pub names-mark : (b : Bool) (text : List ℕ) (start i : ℕ) (k : Bool) → k ≡ false → i < length text →
    (slice_index text i == 58 && slice_index text (i + 1) == 58) ≡ true → is_name b (slice_range text start i) ≡ true →
    names_left true true (slice_range text (i + 1) (i + 1)) (drop (i + 1) text) ≡ names_left b k (slice_range text start i) (drop i text)
names-mark b text start i k e lt m n =
    rw (e, parts_from-mark (slice_range text start i) text i lt m, n, slice-empty text (i + 1)) refl

-- a tree with kids is no leaf
pub leaf-kids : (p : Kind → Bool) (h : Head) (ks : List Node) (t : Node) → branch h (nodes_of ks) ≡ t → length ks ≢ 0 → is_leaf p t ≡ false
leaf-kids p h [] t e n = absurd (n refl)
leaf-kids p h (k ∷ ks) t e n = rw (← e) refl
