-- How many exits leave a node, from those that leave its kids.
use Rattle.std.proofs.Common.{◌≡◌, ℕ, zero, suc, ◌+◌, ◌≤◌, Bool, true, false, List, [], ◌∷◌, ◌++◌, length, drop, min, Some, refl, ap, sym, ◌∙◌, arith, add-one, length-append}
use Rattle.std.specs.Prelude.{slice_get, filter, cond, not, ◌||◌}
use Rattle.std.proofs.lemmas.List.Elements.{filter-append}
use denote.Bor.{Bor}
use Rattle.std.proofs.Common.{rules}
use Rattle.hare_tree.specs.declared.kind.Kind.{Kind}
use Rattle.hare_tree.specs.Node.{Head}
use Rattle.hare_typed.specs.declared.exits.Round.{Round, the_lemmas}
use Rattle.hare_typed.specs.declared.exits.Round.TheVariants.{Nothing, Inside}
use Rattle.hare_typed.specs.Typed.{TypedNode, TypedNodes, Mark, marked, typed_nodes}
use Rattle.hare_typed.specs.Copies.{way_of, exit_by, ends_at, exits, exits_each}
use Rattle.hare_typed.specs.Rounds.{Frame, frames, ends_among, leaving}

-- ---- lists

-- what is left when first some and then others are taken away
kept-kept : {A : Type 0} (q : A → Bool) (x : A) (xs ys : List A) → filter (λ y. not (q y)) xs ≡ ys → (a : Bool) →
    filter (λ y. not (q y)) (cond (not a) (x ∷ xs) xs) ≡ cond (not (a || q x)) (x ∷ ys) ys
kept-kept q x xs ys e true = e
kept-kept q x xs ys e false = ap (λ zs. cond (not (q x)) (x ∷ zs) zs) e

filter-filter : {A : Type 0} (p q : A → Bool) (xs : List A) →
    filter (λ x. not (q x)) (filter (λ x. not (p x)) xs) ≡ filter (λ x. not (p x || q x)) xs
filter-filter p q [] = refl
filter-filter p q (x ∷ xs) = kept-kept q x (filter (λ y. not (p y)) xs) (filter (λ y. not (p y || q y)) xs) (filter-filter p q xs) (p x)

-- the first from a place on
pub drop-get : {A : Type 0} (ts : List A) (i : ℕ) (x : A) → slice_get ts i ≡ Some x → drop i ts ≡ x ∷ drop (i + 1) ts
drop-get ts i x e = rw add-one (from ts i x e)
  where
    from : {A : Type 0} (ts : List A) (i : ℕ) (x : A) → slice_get ts i ≡ Some x → drop i ts ≡ x ∷ drop (suc i) ts
    from [] i x e = cc
    from (t ∷ ts) zero x e = let h : t ≡ x = cc in ap (λ y. y ∷ ts) h
    from (t ∷ ts) (suc i) x e = from ts i x e

-- there is none past the end
pub drop-past : {A : Type 0} (ts : List A) (i : ℕ) → length ts ≤ i → drop i ts ≡ []
drop-past [] zero e = refl
drop-past [] (suc i) e = refl
drop-past (t ∷ ts) zero e = absurd (omega arith)
drop-past (t ∷ ts) (suc i) e = drop-past ts i (omega arith)

-- ---- exits

pub frames-Nothing : frames Nothing ≡ []
frames-Nothing = search (rules, the_lemmas)

pub frames-Inside : (k : Kind) (label : Bor (List ℕ)) (outer : Bor Round) →
    frames (Inside k label outer) ≡ record { kind = k; label = label.now } ∷ frames outer.now
frames-Inside k label outer = search (rules, the_lemmas)

abbrev pub frame_of : Head → List ℕ → Frame
frame_of h x = record { kind = h.kind; label = x }

pub leaving-marked : (fs : List Frame) (h : Head) (m : Mark) (ts : TypedNodes) →
    leaving fs (exits (marked h m ts)) ≡ leaving (frame_of h h.text ∷ fs) (exit_by (way_of h.kind) h.text) ++ leaving
    (frame_of h h.text ∷ fs) (exits_each ts)
leaving-marked fs h m ts =
    let own = exit_by (way_of h.kind) h.text in
    filter-filter (ends_at h.kind h.text) (ends_among fs) (own ++ exits_each ts)
    ∙ filter-append (λ e. not (ends_at h.kind h.text e || ends_among fs e)) own (exits_each ts)

-- The exits of a node are its own and those of its kids.
pub leaving-node : (fs inner : List Frame) (h : Head) (m : Mark) (ks : List TypedNode) (t : TypedNode) (x : List ℕ)
    (own kids all most : ℕ) → marked h m (typed_nodes ks) ≡ t → x ≡ h.text → inner ≡ frame_of h x ∷ fs
    → own ≡ length (leaving inner (exit_by (way_of h.kind) x)) →
    kids ≡ min (length (leaving inner (exits_each (typed_nodes (drop 0 ks))))) most
    → all ≡ min (own + kids) most → all ≡ min (length (leaving fs (exits t))) most
leaving-node fs inner h m ks t x own kids all most v e r a b d =
    let first : length (leaving (frame_of h h.text ∷ fs) (exit_by (way_of h.kind) h.text)) ≡ own
    = ap (λ y. length (leaving (frame_of h y ∷ fs) (exit_by (way_of h.kind) y))) (sym e) ∙ ap
    (λ gs. length (leaving gs (exit_by (way_of h.kind) x))) (sym r) ∙ sym a in
    let others : length (leaving (frame_of h h.text ∷ fs) (exits_each (typed_nodes ks))) ≡
    length (leaving inner (exits_each (typed_nodes ks)))
    = ap (λ y. length (leaving (frame_of h y ∷ fs) (exits_each (typed_nodes ks)))) (sym e) ∙ ap
    (λ gs. length (leaving gs (exits_each (typed_nodes ks)))) (sym r) in
    let split : length (leaving fs (exits t)) ≡
    length (leaving (frame_of h h.text ∷ fs) (exit_by (way_of h.kind) h.text)) + length
    (leaving (frame_of h h.text ∷ fs) (exits_each (typed_nodes ks)))
    = ap (λ u. length (leaving fs (exits u))) (sym v) ∙ ap length (leaving-marked fs h m (typed_nodes ks)) ∙ length-append
    (leaving (frame_of h h.text ∷ fs) (exit_by (way_of h.kind) h.text))
    (leaving (frame_of h h.text ∷ fs) (exits_each (typed_nodes ks))) in
    omega arith

-- The exits of kids are those of the first and those of the others.
pub leaving-more : (fs : List Frame) (ks : List TypedNode) (i : ℕ) (t : TypedNode) (count one all whole most : ℕ) → slice_get ks i ≡ Some t
    → one ≡ min (length (leaving fs (exits t))) most → all ≡ min (count + one) most
    → min (count + length (leaving fs (exits_each (typed_nodes (drop i ks))))) most ≡ whole →
    min (all + length (leaving fs (exits_each (typed_nodes (drop (i + 1) ks))))) most ≡ whole
leaving-more fs ks i t count one all whole most e a b d =
    let split : length (leaving fs (exits_each (typed_nodes (drop i ks)))) ≡
    length (leaving fs (exits t)) + length (leaving fs (exits_each (typed_nodes (drop (i + 1) ks))))
    = ap (λ us. length (leaving fs (exits_each (typed_nodes us)))) (drop-get ks i t e)
    ∙ ap length (filter-append (λ x. not (ends_among fs x)) (exits t) (exits_each (typed_nodes (drop (i + 1) ks))))
    ∙ length-append (leaving fs (exits t)) (leaving fs (exits_each (typed_nodes (drop (i + 1) ks)))) in
    omega arith

-- There are no exits past the last kid.
pub leaving-done : (fs : List Frame) (ks : List TypedNode) (i count whole most : ℕ) → length ks ≤ i → count ≤ most →
    min (count + length (leaving fs (exits_each (typed_nodes (drop i ks))))) most ≡ whole → count ≡ whole
leaving-done fs ks i count whole most e within d =
    let none : length (leaving fs (exits_each (typed_nodes (drop i ks)))) ≡ 0 =
    ap (λ us. length (leaving fs (exits_each (typed_nodes us)))) (drop-past ks i e) in
    omega arith
