-- What a walk from right to left has met that leaves nodes.
use Rattle.std.proofs.Common.{◌≡◌, ℕ, ◌+◌, ◌<◌, ◌≤◌, Bool, true, false, cond, List, [], ◌∷◌, ◌++◌, length, take, drop, refl, ap, sym, subst, ◌∙◌, arith, append_assoc, length-append}
use Rattle.std.specs.Prelude.{filter, not, flat_map, reverse, slice_get, Some}
use Rattle.std.proofs.lemmas.List.{append-nil, reverse-append, length-reverse, take_more_set, drop-set-lt}
use Rattle.std.proofs.Math.ListN.{set}
use Rattle.std.proofs.lemmas.List.Elements.{filter-append}
use Rattle.std.proofs.lemmas.Grind.{flat_map-append}
use Rattle.std.proofs.Math.Seq.{take-append_seam, drop-append_seam}
use Rattle.hare_tree.specs.declared.kind.Kind.{Kind}
use Rattle.hare_tree.specs.declared.kind.Kind.TheVariants as kind
use Rattle.hare_tree.specs.Node.{Head}
use Rattle.hare_typed.specs.Typed.{TypedNode, TypedNodes, Mark, marked, typed_nodes}
use Rattle.hare_typed.specs.Copies.{Exit, way_of, exit_by, ends_at, exits, exits_each, is_defer}
use Rattle.hare_typed.proofs.ExitLemmas.{drop-get, drop-past}
use Rattle.hare_costs.specs.declared.leaving.Way.{Way}
use Rattle.hare_costs.specs.declared.leaving.Way.TheVariants as way
use Rattle.hare_costs.specs.declared.leaving.Leaving.{Leaving}
use Rattle.hare_costs.specs.Leaving.{kind_by, exit_of, own_exit, met, Meets, ends, leaves, first_is}

-- ---- one behind another

met-append : (xs ys : List Leaving) → met (xs ++ ys) ≡ met ys ++ met xs
met-append xs ys = ap (flat_map exit_of) (reverse-append xs ys) ∙ flat_map-append exit_of (reverse ys) (reverse xs)

pub meets-none : (xs : List Leaving) → Meets xs xs []
meets-none xs = record { fresh = []; grows = sym (append-nil xs); are = refl }

-- what is met later stands further in front
pub meets-append : (a b c : List Leaving) (es fs : List Exit) → Meets a b es → Meets b c fs → Meets a c (fs ++ es)
meets-append a b c es fs p q = record {
  fresh = p.fresh ++ q.fresh;
  grows = q.grows ∙ ap (λ x. x ++ q.fresh) p.grows ∙ append_assoc a p.fresh q.fresh;
  are = met-append p.fresh q.fresh ∙ ap (λ x. x ++ met p.fresh) q.are ∙ ap (λ x. fs ++ x) p.are;
}

-- ---- how many

one-exit : (l : Leaving) → length (exit_of l) ≡ 1
one-exit l = of l.way l.label.now
  where
    of : (w : Way) (x : List ℕ) → length (exit_by (way_of (kind_by w)) x) ≡ 1
    of way.Return x = refl
    of way.Break x = refl
    of way.Yield x = refl

as-many : (xs : List Leaving) → length (flat_map exit_of xs) ≡ length xs
as-many [] = refl
as-many (x ∷ xs) = length-append (exit_of x) (flat_map exit_of xs) ∙ ap (λ n. n + length (flat_map exit_of xs)) (one-exit x)
    ∙ omega (arith, as-many xs)

pub meets-length : (a b : List Leaving) (es : List Exit) → Meets a b es → length b ≡ length a + length es
meets-length a b es p =
    let e : length (met p.fresh) ≡ length p.fresh = as-many (reverse p.fresh) ∙ length-reverse p.fresh in
    let f : length (met p.fresh) ≡ length es = ap length p.are in
    ap length p.grows ∙ length-append a p.fresh ∙ omega arith

-- ---- what is kept

kept-one : (k : Kind) (own : List ℕ) (l : Leaving) (b : Bool) → ends k own l ≡ b
    → filter (λ e. not (ends_at k own e)) (exit_of l) ≡ cond (not b) (exit_of l) []
kept-one k own l b h = of l.way l.label.now h
  where
    of : (w : Way) (x : List ℕ) → first_is (ends_at k own) (exit_by (way_of (kind_by w)) x) ≡ b
        → filter (λ e. not (ends_at k own e)) (exit_by (way_of (kind_by w)) x) ≡ cond (not b) (exit_by (way_of (kind_by w)) x) []
    of way.Return x e = ap (λ c. cond (not c) (exit_by (way_of (kind_by way.Return)) x) []) e
    of way.Break x e = ap (λ c. cond (not c) (exit_by (way_of (kind_by way.Break)) x) []) e
    of way.Yield x e = ap (λ c. cond (not c) (exit_by (way_of (kind_by way.Yield)) x) []) e

first-kept : (k : Kind) (own : List ℕ) (x : Leaving) (ys zs : List Leaving) (b : Bool)
    → flat_map exit_of ys ≡ filter (λ e. not (ends_at k own e)) (flat_map exit_of zs) → ends k own x ≡ b
    → flat_map exit_of (cond (not b) (x ∷ ys) ys) ≡ filter (λ e. not (ends_at k own e)) (exit_of x) ++ filter (λ e. not (ends_at k own e))
    (flat_map exit_of zs)
first-kept k own x ys zs true h e = h
    ∙ ap (λ xs. xs ++ filter (λ e. not (ends_at k own e)) (flat_map exit_of zs)) (sym (kept-one k own x true e))
first-kept k own x ys zs false h e =
    ap (λ xs. exit_of x ++ xs) h
    ∙ ap (λ xs. xs ++ filter (λ e. not (ends_at k own e)) (flat_map exit_of zs)) (sym (kept-one k own x false e))

kept-all : (k : Kind) (own : List ℕ) (xs : List Leaving)
    → flat_map exit_of (filter (leaves k own) xs) ≡ filter (λ e. not (ends_at k own e)) (flat_map exit_of xs)
kept-all k own [] = refl
kept-all k own (x ∷ xs) =
    first-kept k own x (filter (leaves k own) xs) xs (ends k own x) (kept-all k own xs) refl
    ∙ sym (filter-append (λ e. not (ends_at k own e)) (exit_of x) (flat_map exit_of xs))

reverse-single : {A : Type 0} (p : A → Bool) (x : A) (b : Bool) → reverse (cond b (x ∷ []) []) ≡ cond b (x ∷ []) []
reverse-single p x true = refl
reverse-single p x false = refl

filter-reverse : {A : Type 0} (p : A → Bool) (xs : List A) → reverse (filter p xs) ≡ filter p (reverse xs)
filter-reverse p [] = refl
filter-reverse p (x ∷ xs) =
    ap reverse (filter-append p (x ∷ []) xs) ∙ reverse-append (filter p (x ∷ [])) (filter p xs)
    ∙ ap (λ ys. ys ++ reverse (filter p (x ∷ []))) (filter-reverse p xs)
    ∙ ap (λ ys. filter p (reverse xs) ++ ys) (reverse-single p x (p x))
    ∙ sym (filter-append p (reverse xs) (x ∷ [])) ∙ ap (filter p) (sym (reverse-append (x ∷ []) xs))

-- those that leave a node are kept
pub meets-kept : (a b : List Leaving) (k : Kind) (own : List ℕ) (es : List Exit) → Meets a b es
    → Meets a (take (length a) b ++ filter (leaves k own) (drop (length a) b)) (filter (λ e. not (ends_at k own e)) es)
meets-kept a b k own es p = record {
  fresh = filter (leaves k own) p.fresh;
  grows =
      ap (λ x. take (length a) x ++ filter (leaves k own) (drop (length a) x)) p.grows
      ∙ ap (λ x. x ++ filter (leaves k own) (drop (length a) (a ++ p.fresh))) (take-append_seam a p.fresh)
      ∙ ap (λ x. a ++ filter (leaves k own) x) (drop-append_seam a p.fresh);
  are =
      ap (flat_map exit_of) (filter-reverse (leaves k own) p.fresh) ∙ kept-all k own (reverse p.fresh)
      ∙ ap (filter (λ e. not (ends_at k own e))) p.are;
}

-- ---- in place

-- what has been moved, and what is left of what is kept
abbrev pub kept_so_far : Kind → List ℕ → List Leaving → (kept i : ℕ) → List Leaving
kept_so_far k own xs kept i = take kept xs ++ filter (leaves k own) (drop i xs)

next-kept : (p : Leaving → Bool) (xs : List Leaving) (i : ℕ) (x : Leaving) (b : Bool) → slice_get xs i ≡ Some x → p x ≡ b
    → filter p (drop i xs) ≡ cond b (x ∷ filter p (drop (i + 1) xs)) (filter p (drop (i + 1) xs))
next-kept p xs i x b g e = ap (filter p) (drop-get xs i x g)
    ∙ ap (λ c. cond c (x ∷ filter p (drop (i + 1) xs)) (filter p (drop (i + 1) xs))) e

-- one more is kept
pub kept-moved : (k : Kind) (own : List ℕ) (xs : List Leaving) (kept i : ℕ) (x : Leaving) → kept ≤ i → i < length xs
    → slice_get xs i ≡ Some x → ends k own x ≡ false
    → kept_so_far k own (set xs kept x) (kept + 1) (i + 1) ≡ kept_so_far k own xs kept i
kept-moved k own xs kept i x h l g e =
    let p = leaves k own in
    let under : kept < i + 1 = omega arith in
    ap (λ ys. ys ++ filter p (drop (i + 1) (set xs kept x))) (take_more_set xs kept x (omega arith))
    ∙ ap (λ ys. (take kept xs ++ x ∷ []) ++ filter p ys) (drop-set-lt (i + 1) xs kept x under)
    ∙ append_assoc (take kept xs) (x ∷ []) (filter p (drop (i + 1) xs))
    ∙ ap (λ ys. take kept xs ++ ys) (sym (next-kept p xs i x true g (ap not e)))

-- one more is passed over
pub kept-passed : (k : Kind) (own : List ℕ) (xs : List Leaving) (kept i : ℕ) (x : Leaving) → slice_get xs i ≡ Some x → ends k own x ≡ true
    → kept_so_far k own xs kept (i + 1) ≡ kept_so_far k own xs kept i
kept-passed k own xs kept i x g e = ap (λ ys. take kept xs ++ ys) (sym (next-kept (leaves k own) xs i x false g (ap not e)))

pub kept-done : (k : Kind) (own : List ℕ) (xs : List Leaving) (kept i : ℕ) → length xs ≤ i → take kept xs ≡ kept_so_far k own xs kept i
kept-done k own xs kept i l = sym (append-nil (take kept xs)) ∙ ap (λ ys. take kept xs ++ filter (leaves k own) ys) (sym (drop-past xs i l))

-- ---- of trees

-- what leaves a tree is what its kids and it leave with, but for what ends there
pub meets-tree : (a b c d : List Leaving) (n : ℕ) (own : List ℕ) (h : Head) (m : Mark) (ts : TypedNodes) (t : TypedNode)
    → marked h m ts ≡ t → own ≡ h.text → n ≡ length a
    → Meets a b (exits_each ts) → Meets b c (own_exit t) → d ≡ take n c ++ filter (leaves h.kind own) (drop n c) → Meets a d (exits t)
meets-tree a b c d n own h m ts t v e l p q f =
    let u = marked h m ts in
    let q' : Meets b c (own_exit u) = subst (λ x. Meets b c (own_exit x)) (sym v) q in
    let all : Meets a c (own_exit u ++ exits_each ts) = meets-append a b c (exits_each ts) (own_exit u) p q' in
    let kept = meets-kept a c h.kind h.text (own_exit u ++ exits_each ts) all in
    let same : d ≡ take (length a) c ++ filter (leaves h.kind h.text) (drop (length a) c) = f
    ∙ ap (λ i. take i c ++ filter (leaves h.kind own) (drop i c)) l
    ∙ ap (λ x. take (length a) c ++ filter (leaves h.kind x) (drop (length a) c)) e in
    let done : Meets a d (exits u) = subst (λ x. Meets a x (exits u)) (sym same) kept in
    subst (λ x. Meets a d (exits x)) v done

-- the kids from one on, by that one and those behind it
pub meets-kids : (a b c : List Leaving) (ks : List TypedNode) (i j : ℕ) (t : TypedNode) → j ≡ i + 1 → slice_get ks i ≡ Some t
    → Meets a b (exits_each (typed_nodes (drop j ks)))
    → Meets b c (exits t) → Meets a c (exits_each (typed_nodes (drop i ks)))
meets-kids a b c ks i j t q g p r =
    let all : Meets a c (exits t ++ exits_each (typed_nodes (drop j ks))) = meets-append a b c (exits_each (typed_nodes (drop j ks)))
    (exits t) p r in
    let same : exits t ++ exits_each (typed_nodes (drop j ks)) ≡ exits_each (typed_nodes (drop i ks))
    = ap (λ k. exits t ++ exits_each (typed_nodes (drop k ks))) q ∙ ap (λ us. exits_each (typed_nodes us)) (sym (drop-get ks i t g)) in
    subst (Meets a c) same all

ends-defer : (k : Kind) (own : List ℕ) (e : Exit) → is_defer k ≡ true → ends_at k own e ≡ true
ends-defer kind.Defer own e h = refl
ends-defer _ own e h = cc

none-left : (k : Kind) (own : List ℕ) (es : List Exit) → is_defer k ≡ true → filter (λ e. not (ends_at k own e)) es ≡ []
none-left k own [] h = refl
none-left k own (e ∷ es) h =
    ap (λ b. cond (not b) (e ∷ filter (λ x. not (ends_at k own x)) es) (filter (λ x. not (ends_at k own x)) es)) (ends-defer k own e h)
    ∙ none-left k own es h

-- nothing leaves a deferred expression
pub meets-defer : (a b c : List Leaving) (n : ℕ) (es : List Exit) (h : Head) (m : Mark) (ts : TypedNodes) (t : TypedNode)
    → marked h m ts ≡ t → is_defer h.kind ≡ true → n ≡ length a
    → Meets a b es → c ≡ take n b → Meets a c (exits t)
meets-defer a b c n es h m ts t v d l p f =
    let front : c ≡ a = f ∙ ap (λ i. take i b) l ∙ ap (take (length a)) p.grows ∙ take-append_seam a p.fresh in
    let none : [] ≡ exits t = sym (none-left h.kind h.text (exit_by (way_of h.kind) h.text ++ exits_each ts) d) ∙ ap exits v in
    subst (λ x. Meets a x (exits t)) (sym front) (subst (Meets a a) none (meets-none a))
