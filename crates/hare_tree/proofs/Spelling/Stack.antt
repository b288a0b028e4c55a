-- Facts on what is left to be put.
use Rattle.std.proofs.Common.{◌≡◌, ℕ, zero, suc, ◌+◌, ◌-◌, ◌<◌, ◌≤◌, List, [], ◌∷◌, ◌++◌, true, false, length, drop, get_or, Some, refl, ap, sym, ◌∙◌, arith, append_assoc, add-one, ◌⊎◌, inl, inr}
use Rattle.std.specs.Prelude.{slice_get, min}
use Rattle.std.proofs.lemmas.List.{append-nil}
use Rattle.hare_tree.specs.declared.token.Token.{Token}
use Rattle.hare_tree.specs.declared.form.Sign.{Sign}
use Rattle.hare_tree.specs.declared.form.Sign.TheVariants as si
use Rattle.hare_tree.specs.declared.form.Lead.{Lead}
use Rattle.hare_tree.specs.declared.form.Lead.TheVariants as le
use Rattle.hare_tree.specs.declared.form.Sort.{Sort}
use Rattle.hare_tree.specs.declared.form.Piece.{Piece}
use Rattle.hare_tree.specs.declared.form.Piece.TheVariants as pi
use Rattle.hare_tree.specs.declared.unparse.left.Row.{Row}
use Rattle.hare_tree.specs.declared.unparse.left.Pieces.{Pieces}
use Rattle.hare_tree.specs.declared.unparse.left.Entry.{Entry}
use Rattle.hare_tree.specs.declared.unparse.left.Entry.TheVariants as en
use Rattle.hare_tree.specs.Node.{Node, Nodes, branch, none, more, head, kids_of, nodes_of}
use Rattle.hare_tree.specs.Forms.{form_of}
use Rattle.hare_tree.specs.Judged.{nodes_from}
use Rattle.hare_tree.specs.Spell.{Spelled, sign_token, stands_alone, with_lead, all_led, one_led, listed, spell, spells, spelled_kid, kids_spelled, pieces_tokens, piece_tokens, left_behind}
use Rattle.hare_tree.specs.Left.{entry_tokens, form_tokens, left_tokens, weight, weights, form_weight, entry_weight, left_weight, count_of, kid_behind}
use Rattle.hare_tree.proofs.Spelling.Spelled.{spell-pieces, all_led-step, one_led-here, pieces-step, drop-one}
use Rattle.hare_tree.proofs.TreeKids.KidsFrom.{nodes_from-get, nodes_from-past}

-- ---- one more entry

pub left_tokens-push : (f : ℕ) (es : List Entry) (e : Entry) → left_tokens f (es ++ e ∷ []) ≡ entry_tokens f e ++ left_tokens f es
left_tokens-push f [] e = sym (append-nil (entry_tokens f e))
left_tokens-push f (x ∷ es) e = rw (left_tokens-push f es e) (append_assoc (entry_tokens f e) (left_tokens f es) (entry_tokens f x))

pub left_weight-push : (es : List Entry) (e : Entry) → left_weight (es ++ e ∷ []) ≡ left_weight es + entry_weight e
left_weight-push [] e = refl
left_weight-push (x ∷ es) e = omega (arith, left_weight-push es e)

-- ---- a whole tree

weight-form : (t : Node) → weight t ≡ suc (length (form_of (head t).kind) + weights (kids_of t))
weight-form (branch h ts) = refl

entry-tree : (f : ℕ) (p : Pieces) → p.piece ≡ 0 → p.kid ≡ 0 → entry_tokens f (en.Pieces p) ≡ spell f p.tree.now
entry-tree f p e k = rw (e, k) (sym (spell-pieces f p.tree.now))

entry-tree-weight : (p : Pieces) → p.piece ≡ 0 → p.kid ≡ 0 → entry_weight (en.Pieces p) ≡ weight p.tree.now
entry-tree-weight p e k = rw (e, k) (omega (arith, weight-form p.tree.now))

with_lead-alone : (f : ℕ) (l : Lead) (u : Spelled) → stands_alone u.0 ≡ true → with_lead f l u ≡ u.1
with_lead-alone f le.Nothing u e = refl
with_lead-alone f (le.Before s) u e = rw e refl
with_lead-alone f (le.Behind s) u e = rw e refl

-- ---- kids

-- the weight of a kid and of those behind it
weights-get : (ts : List Node) (i : ℕ) (x : Node) → slice_get ts i ≡ Some x → weights (nodes_from i (nodes_of ts)) ≡ suc (suc (weight x)) +
    weights (nodes_from (i + 1) (nodes_of ts))
weights-get ts i x e = ap weights (nodes_from-get ts i x e)

weights-past : (ts : List Node) (i : ℕ) → length ts ≤ i → weights (nodes_from i (nodes_of ts)) ≡ 0
weights-past ts i e = ap weights (nodes_from-past ts i e)

-- there are as many
pub count-nodes : (ts : List Node) → count_of (nodes_of ts) ≡ length ts
count-nodes [] = refl
count-nodes (t ∷ ts) = ap suc (count-nodes ts)

from-count : (ts : Nodes) → nodes_from (count_of ts) ts ≡ none
from-count none = refl
from-count (more t ts) = from-count ts

min-none : (i : ℕ) → min (suc i) 0 ≡ 0
min-none i = omega arith

min-zero : (n : ℕ) → min 0 n ≡ 0
min-zero n = omega arith

min-more : (i n : ℕ) → min (suc i) (suc n) ≡ suc (min i n)
min-more i n = omega arith

from-min : (ts : Nodes) (i : ℕ) → nodes_from (min (suc i) (count_of ts)) ts ≡ nodes_from (suc i) ts
from-min none i = rw (min-none i) refl
from-min (more t ts) zero = rw (min-more 0 (count_of ts), min-zero (count_of ts)) refl
from-min (more t ts) (suc i) = rw (min-more (suc i) (count_of ts)) (from-min ts i)

drop-min : {A : Type 0} (us : List A) (i : ℕ) → drop (min (suc i) (length us)) us ≡ drop (suc i) us
drop-min [] i = rw (min-none i) refl
drop-min (u ∷ us) zero = rw (min-more 0 (length us), min-zero (length us)) refl
drop-min (u ∷ us) (suc i) = rw (min-more (suc i) (length us)) (drop-min us i)

drop-count : {A : Type 0} (us : List A) → drop (length us) us ≡ []
drop-count [] = refl
drop-count (u ∷ us) = drop-count us

-- what is left behind a piece
drop-one-min : {A : Type 0} (us : List A) (i : ℕ) → drop (min (i + 1) (length us)) us ≡ drop 1 (drop i us)
drop-one-min {A = A} us i = rw add-one (drop-min us i ∙ (rw add-one at (drop-one {A = A} us i)))

kids-behind : {A : Type 0} (p : Piece) (us : List A) (i n : ℕ) → n ≡ length us → drop (kid_behind p i n) us ≡ left_behind p (drop i us)
kids-behind (pi.Fixed s) us i n e = refl
kids-behind (pi.Own o) us i n e = refl
kids-behind (pi.Kid s) us i n e = rw e (drop-one-min us i)
kids-behind (pi.Optional s) us i n e = rw e (drop-one-min us i)
kids-behind (pi.Led c s) us i n e = rw e (drop-one-min us i)
kids-behind (pi.Followed s c) us i n e = rw e (drop-one-min us i)
kids-behind (pi.Value s) us i n e = rw e (drop-one-min us i)
kids-behind (pi.Each s) us i n e = rw e (drop-count us)
kids-behind (pi.EachLed c s) us i n e = rw e (drop-count us)
kids-behind (pi.EachFollowed s c) us i n e = rw e (drop-count us)
kids-behind (pi.More s) us i n e = rw e (drop-count us)
kids-behind (pi.List s) us i n e = rw e (drop-count us)
kids-behind (pi.Elements s) us i n e = rw e (drop-count us)
kids-behind (pi.MoreElements s) us i n e = rw e (drop-count us)

-- the weight that is left behind one kid, and behind all
weights-one : (ts : Nodes) (i : ℕ) → weights (nodes_from (min (i + 1) (count_of ts)) ts) ≡ weights (nodes_from (i + 1) ts)
weights-one ts i = rw (add-one) (ap weights (from-min ts i))

weights-all : (ts : Nodes) → weights (nodes_from (count_of ts) ts) ≡ 0
weights-all ts = ap weights (from-count ts)

-- ---- what is left is put

-- the first kid and those behind it
row-put : (f : ℕ) (l : Lead) (us : List Spelled) (i : ℕ) (old mid new : List Token) → new ≡ one_led f l (drop i us) ++ mid →
    mid ≡ all_led f l (drop (i + 1) us) ++ old → new ≡ all_led f l (drop i us) ++ old
row-put f l us i old mid new e k =
    rw (e, k, all_led-step f l us i) (sym (append_assoc (one_led f l (drop i us)) (all_led f l (drop (i + 1) us)) old))

listed-left : (f : ℕ) (us : List Spelled) (i : ℕ) (old mid new : List Token) → new ≡ one_led f le.Nothing (drop i us) ++ mid →
    mid ≡ all_led f (le.Before si.Comma) (drop (i + 1) us) ++ old → new ≡ listed f (drop i us) ++ old
listed-left f us i old mid new e k = rw (e, k, drop-one us i)
    (sym (append_assoc (one_led f le.Nothing (drop i us)) (all_led f (le.Before si.Comma) (drop 1 (drop i us))) old))

-- ---- a tree is left

pub leave-alone : (f : ℕ) (l : Lead) (p : Pieces) (es es' : List Entry) → p.piece ≡ 0 → p.kid ≡ 0 →
    stands_alone (head p.tree.now).kind ≡ true → es' ≡ es ++ en.Pieces p ∷ [] → left_tokens f es' ≡ with_lead f l (spelled_kid f p.tree.now)
    ++ left_tokens f es
leave-alone f l p es es' e k a h = rw (h, left_tokens-push f es (en.Pieces p), with_lead-alone f l (spelled_kid f p.tree.now) a)
    (ap (λ x. x ++ left_tokens f es) (entry-tree f p e k))

pub leave-nothing : (f : ℕ) (l : Lead) (p : Pieces) (es es' : List Entry) → p.piece ≡ 0 → p.kid ≡ 0 → l ≡ le.Nothing → es' ≡ es ++
    en.Pieces p ∷ [] → left_tokens f es' ≡ with_lead f l (spelled_kid f p.tree.now) ++ left_tokens f es
leave-nothing f l p es es' e k a h = rw (h, left_tokens-push f es (en.Pieces p), a) (ap (λ x. x ++ left_tokens f es) (entry-tree f p e k))

pub leave-before : (f : ℕ) (l : Lead) (s : Sign) (p : Pieces) (es es' es'' : List Entry) → p.piece ≡ 0 → p.kid ≡ 0 →
    stands_alone (head p.tree.now).kind ≡ false → l ≡ le.Before s → es' ≡ es ++ en.Pieces p ∷ [] → es'' ≡ es' ++ en.Sign s ∷ [] →
    left_tokens f es'' ≡ with_lead f l (spelled_kid f p.tree.now) ++ left_tokens f es
leave-before f l s p es es' es'' e k a b h g = rw (g, left_tokens-push f es' (en.Sign s), h, left_tokens-push f es (en.Pieces p), b, a)
    (ap (λ x. sign_token f s ∷ x ++ left_tokens f es) (entry-tree f p e k))

pub leave-behind : (f : ℕ) (l : Lead) (s : Sign) (p : Pieces) (es es' es'' : List Entry) → p.piece ≡ 0 → p.kid ≡ 0 →
    stands_alone (head p.tree.now).kind ≡ false → l ≡ le.Behind s → es' ≡ es ++ en.Sign s ∷ [] → es'' ≡ es' ++ en.Pieces p ∷ [] →
    left_tokens f es'' ≡ with_lead f l (spelled_kid f p.tree.now) ++ left_tokens f es
leave-behind f l s p es es' es'' e k a b h g =
    rw (g, left_tokens-push f es' (en.Pieces p), h, left_tokens-push f es (en.Sign s), b, a, append_assoc)
    (ap (λ x. x ++ (sign_token f s ∷ left_tokens f es)) (entry-tree f p e k))

pub weight-tree : (p : Pieces) (es es' : List Entry) → p.piece ≡ 0 → p.kid ≡ 0 → es' ≡ es ++ en.Pieces p ∷ [] →
    left_weight es' ≡ left_weight es + weight p.tree.now
weight-tree p es es' e k h = rw h (omega (arith, left_weight-push es (en.Pieces p), entry-tree-weight p e k))

pub weight-sign : (s : Sign) (es es' : List Entry) → es' ≡ es ++ en.Sign s ∷ [] → left_weight es' ≡ left_weight es + 1
weight-sign s es es' h = rw h (left_weight-push es (en.Sign s))

-- ---- a kid is left

pub one-left : (ts : List Node) (i : ℕ) (x : Node) (l : Lead) (es es' : List Entry) → slice_get ts i ≡ Some x →
    ((f : ℕ) → left_tokens f es' ≡ with_lead f l (spelled_kid f x) ++ left_tokens f es) → (f : ℕ) →
    left_tokens f es' ≡ one_led f l (drop i (spells f (nodes_of ts))) ++ left_tokens f es
one-left ts i x l es es' e h f = rw (one_led-here f l ts i x e) (h f)

pub one-weight : (ts : List Node) (i : ℕ) (x : Node) (a b : ℕ) → slice_get ts i ≡ Some x → b ≤ a + suc (weight x) →
    b + weights (nodes_from (i + 1) (nodes_of ts)) < a + weights (nodes_from i (nodes_of ts))
one-weight ts i x a b e h = rw (weights-get ts i x e) (omega arith)

pub past-weight : (ts : List Node) (i a : ℕ) → length ts ≤ i → a + weights (nodes_from (i + 1) (nodes_of ts)) ≤ a + weights
    (nodes_from i (nodes_of ts))
past-weight ts i a h = rw (weights-past ts i h, weights-past ts (i + 1) (omega arith)) (omega arith)

-- ---- kids are left

pub row-left : (r : Row) (i : ℕ) (es es' es'' : List Entry) → r.from ≡ i + 1 → es' ≡ es ++ en.Row r ∷ [] →
    ((f : ℕ) → left_tokens f es'' ≡ one_led f r.lead (drop i (spells f (nodes_of r.kids.now))) ++ left_tokens f es') → (f : ℕ) →
    left_tokens f es'' ≡ all_led f r.lead (drop i (spells f (nodes_of r.kids.now))) ++ left_tokens f es
row-left r i es es' es'' e h k f =
    row-put f r.lead (spells f (nodes_of r.kids.now)) i (left_tokens f es) (left_tokens f es') (left_tokens f es'') (k f)
    (rw (h, left_tokens-push f es (en.Row r), e) refl)

pub rows-left : (r : Row) (i : ℕ) (es es' es'' : List Entry) → r.from ≡ i + 1 → r.lead ≡ le.Before si.Comma → es' ≡ es ++ en.Row r ∷ [] →
    ((f : ℕ) → left_tokens f es'' ≡ one_led f le.Nothing (drop i (spells f (nodes_of r.kids.now))) ++ left_tokens f es') → (f : ℕ) →
    left_tokens f es'' ≡ listed f (drop i (spells f (nodes_of r.kids.now))) ++ left_tokens f es
rows-left r i es es' es'' e l h k f =
    listed-left f (spells f (nodes_of r.kids.now)) i (left_tokens f es) (left_tokens f es') (left_tokens f es'') (k f)
    (rw (h, left_tokens-push f es (en.Row r), e, l) refl)

pub row-weight : (r : Row) (i b : ℕ) (es es' : List Entry) → r.from ≡ i + 1 → es' ≡ es ++ en.Row r ∷ [] →
    b + weights (nodes_from (i + 1) (nodes_of r.kids.now)) < left_weight es' + weights (nodes_from i (nodes_of r.kids.now)) →
    b ≤ left_weight es + weights (nodes_from i (nodes_of r.kids.now))
row-weight r i b es es' e h k =
    let g : left_weight es' ≡ left_weight es + suc (weights (nodes_from (i + 1) (nodes_of r.kids.now))) =
    rw (h, ← e) (left_weight-push es (en.Row r)) in
    omega arith

-- ---- a piece is put

pub piece-one : (x : Piece) (ts : List Node) (ks : Nodes) (i a b : ℕ) → kid_behind x i (count_of ks) ≡ min (i + 1) (count_of ks) →
    ks ≡ nodes_of ts → b + weights (nodes_from (i + 1) (nodes_of ts)) ≤ a + weights (nodes_from i (nodes_of ts)) →
    b + weights (nodes_from (kid_behind x i (count_of ks)) ks) ≤ a + weights (nodes_from i ks)
piece-one x ts ks i a b k e h = rw (k, weights-one ks i, e) h

pub piece-all : (x : Piece) (ts : List Node) (ks : Nodes) (i a b : ℕ) → kid_behind x i (count_of ks) ≡ count_of ks → ks ≡ nodes_of ts →
    b ≤ a + weights (nodes_from i (nodes_of ts)) → b + weights (nodes_from (kid_behind x i (count_of ks)) ks) ≤ a + weights
    (nodes_from i ks)
piece-all x ts ks i a b k e h = rw (k, weights-all ks, e) (omega arith)

-- where two pieces leave the same
pub either-kid : (x : Piece) (i n : ℕ) → ((s : Sort) × (x ≡ pi.Kid s)) ⊎ ((s : Sort) × (x ≡ pi.Optional s)) →
    kid_behind x i n ≡ min (i + 1) n
either-kid x i n (inl (s, e)) = ap (λ y. kid_behind y i n) e
either-kid x i n (inr (s, e)) = ap (λ y. kid_behind y i n) e

pub either-more : (x : Piece) (i n : ℕ) → ((s : Sort) × (x ≡ pi.More s)) ⊎ ((s : Sort) × (x ≡ pi.MoreElements s)) → kid_behind x i n ≡ n
either-more x i n (inl (s, e)) = ap (λ y. kid_behind y i n) e
either-more x i n (inr (s, e)) = ap (λ y. kid_behind y i n) e

pub either-list : (x : Piece) (i n : ℕ) → ((s : Sort) × (x ≡ pi.List s)) ⊎ ((s : Sort) × (x ≡ pi.Elements s)) → kid_behind x i n ≡ n
either-list x i n (inl (s, e)) = ap (λ y. kid_behind y i n) e
either-list x i n (inr (s, e)) = ap (λ y. kid_behind y i n) e

pub form-left : (f : ℕ) (p p' : Pieces) (x d : Piece) (n : ℕ) (es es' : List Entry) (o r : List Token) → p'.tree.now ≡ p.tree.now →
    p'.piece ≡ p.piece + 1 → p'.kid ≡ kid_behind x p.kid n → n ≡ length (kids_spelled f p.tree.now) →
    p.piece < length (form_of (head p.tree.now).kind) → x ≡ get_or (form_of (head p.tree.now).kind) p.piece d → es' ≡ es ++ en.Pieces p' ∷
    [] → r ≡ o ++ (piece_tokens f (head p.tree.now) x (drop p.kid (kids_spelled f p.tree.now)) ++ left_tokens f es') → r ≡ o ++
    (form_tokens f p ++ left_tokens f es)
form-left f p p' x d n es es' o r t e k c w i h g =
    let us = kids_spelled f p.tree.now in
    let ps = form_of (head p.tree.now).kind in
    let all = pieces-step f (head p.tree.now) ps (drop p.kid us) p.piece d w in
    let behind : form_tokens f p' ≡ pieces_tokens f (head p.tree.now) (drop (p.piece + 1) ps) (left_behind x (drop p.kid us)) =
    rw (t, e, k) (ap (pieces_tokens f (head p.tree.now) (drop (p.piece + 1) ps)) (kids-behind x us p.kid n c)) in
    let stack : left_tokens f es' ≡ form_tokens f p' ++ left_tokens f es = rw h (left_tokens-push f es (en.Pieces p')) in
    rw (all, ← i, ← behind, append_assoc, ← stack) g

pub form-weight : (p p' : Pieces) (x : Piece) (n b : ℕ) (es es' : List Entry) → p'.tree.now ≡ p.tree.now → p'.piece ≡ p.piece + 1 →
    p'.kid ≡ kid_behind x p.kid n → n ≡ count_of (kids_of p.tree.now) → p.piece < length (form_of (head p.tree.now).kind) → es' ≡ es ++
    en.Pieces p' ∷ [] → b + weights (nodes_from (kid_behind x p.kid (count_of (kids_of p.tree.now))) (kids_of p.tree.now)) ≤ left_weight es'
    + weights (nodes_from p.kid (kids_of p.tree.now)) → b < left_weight es + form_weight p
form-weight p p' x n b es es' t e k c w h g =
    let own : form_weight p' ≡ suc ((length (form_of (head p.tree.now).kind) - (p.piece + 1)) + weights
    (nodes_from (kid_behind x p.kid (count_of (kids_of p.tree.now))) (kids_of p.tree.now))) = rw (t, e, k, c) refl in
    let stack : left_weight es' ≡ left_weight es + form_weight p' = rw h (left_weight-push es (en.Pieces p')) in
    omega arith
