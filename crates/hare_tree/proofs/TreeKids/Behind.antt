-- Facts on what stands behind a kid, and on left edges.
use Rattle.std.proofs.Common.{◌≡◌, ℕ, zero, suc, ◌+◌, ◌<◌, ◌≤◌, List, [], ◌∷◌, Bool, true, false, length, Some, None, refl, ap, ◌∙◌, arith, add-one, drop, get_or, drop-cons, if◌then◌else◌}
use Rattle.std.specs.Prelude.{not, slice_get, ◌==◌}
use Rattle.hare_tree.specs.declared.kind.Kind.{Kind}
use Rattle.hare_tree.specs.declared.form.Sign.{Sign}
use Rattle.hare_tree.specs.declared.form.Sign.TheVariants as si
use Rattle.hare_tree.specs.declared.form.Sort.{Sort}
use Rattle.hare_tree.specs.declared.form.Own.TheVariants as ow
use Rattle.hare_tree.specs.declared.form.Piece.{Piece}
use Rattle.hare_tree.specs.declared.form.Piece.TheVariants as pi
use Rattle.hare_tree.specs.Node.{Head, Node, Nodes, branch, none, more, head, kids_of, nodes_of, size_of, sizes_of}
use Rattle.hare_tree.specs.Forms.{form_of}
use Rattle.hare_tree.specs.Shape.{edges, behind_item, behind_kid, is_none, is_dots, is_empty, form_begins_labelled, begins_labelled, first_labelled, is_yield, yields_label}
use Rattle.hare_tree.proofs.Sizes.Kids.{kid_size}
use Rattle.hare_tree.specs.Judged.{nodes_from, first_kind, begins_with_kid, begins_with_label}

-- all kids but the first
abbrev pub tail_of : Nodes → Nodes
tail_of none = none
tail_of (more t ts) = ts

tail-suc : (i : ℕ) (ts : Nodes) → nodes_from (suc i) ts ≡ tail_of (nodes_from i ts)
tail-suc zero none = refl
tail-suc (suc i) none = refl
tail-suc zero (more t ts) = refl
tail-suc (suc i) (more t ts) = tail-suc i ts

pub nodes_from-tail : (i : ℕ) (ts : Nodes) → nodes_from (i + 1) ts ≡ tail_of (nodes_from i ts)
nodes_from-tail i ts = rw add-one (tail-suc i ts)

-- ---- items

pub item-absent : (xs : Nodes) → first_kind xs ≡ None → behind_item (edges xs) ≡ None
item-absent none e = refl
item-absent (more t ts) e = absurd cc

pub item-skip : (xs : Nodes) (k : Kind) → first_kind xs ≡ Some k → is_none k ≡ true →
    behind_item (edges xs) ≡ behind_item (edges (tail_of xs))
item-skip none k e n = absurd cc
item-skip (more t ts) k e n = let h : (head t).kind ≡ k = cc in rw (h, n) refl

pub item-there : (xs : Nodes) (k : Kind) → first_kind xs ≡ Some k → is_none k ≡ false →
    behind_item (edges xs) ≡ (if is_dots k then None else Some si.Comma)
item-there none k e n = absurd cc
item-there (more t ts) k e n = let h : (head t).kind ≡ k = cc in rw (h, n) refl

-- ---- pieces with a sign before their kid

pub led-absent : (s : Sign) (a : Sort) (ps : List Piece) (xs : Nodes) → first_kind xs ≡ None →
    behind_kid (pi.Led s a ∷ ps) (edges xs) ≡ None
led-absent s a ps none e = refl
led-absent s a ps (more t ts) e = absurd cc

pub led-skip : (s : Sign) (a : Sort) (ps : List Piece) (xs : Nodes) (k : Kind) → first_kind xs ≡ Some k → is_none k ≡ true →
    behind_kid (pi.Led s a ∷ ps) (edges xs) ≡ behind_kid ps (edges (tail_of xs))
led-skip s a ps none k e n = absurd cc
led-skip s a ps (more t ts) k e n = let h : (head t).kind ≡ k = cc in rw (h, n) refl

pub led-there : (s : Sign) (a : Sort) (ps : List Piece) (xs : Nodes) (k : Kind) → first_kind xs ≡ Some k → is_none k ≡ false →
    behind_kid (pi.Led s a ∷ ps) (edges xs) ≡ Some s
led-there s a ps none k e n = absurd cc
led-there s a ps (more t ts) k e n = let h : (head t).kind ≡ k = cc in rw (h, n) refl

-- the pieces from one on are that one and those behind it
pub pieces-at : (ps : List Piece) (j : ℕ) (d p : Piece) → j < length ps → get_or ps j d ≡ p → drop j ps ≡ p ∷ drop (j + 1) ps
pieces-at ps j d p lt e = rw (add-one, ← e) (drop-cons ps j d lt)

-- ---- the left edge

begins-form : (h : Head) (ps : List Piece) (first : Bool) →
    form_begins_labelled h ps first ≡
    (if begins_with_kid ps then first else (if begins_with_label ps then not (is_empty h.text) else false))
begins-form h [] first = refl
begins-form h (pi.Fixed s ∷ ps) first = refl
begins-form h (pi.Own ow.Nothing ∷ ps) first = refl
begins-form h (pi.Own ow.Name ∷ ps) first = refl
begins-form h (pi.Own ow.PathName ∷ ps) first = refl
begins-form h (pi.Own ow.Path ∷ ps) first = refl
begins-form h (pi.Own ow.Label ∷ ps) first = refl
begins-form h (pi.Own ow.Scalar ∷ ps) first = refl
begins-form h (pi.Own ow.Bool ∷ ps) first = refl
begins-form h (pi.Own ow.Number ∷ ps) first = refl
begins-form h (pi.Own ow.Rune ∷ ps) first = refl
begins-form h (pi.Own ow.Text ∷ ps) first = refl
begins-form h (pi.Own ow.Operator ∷ ps) first = refl
begins-form h (pi.Own ow.Member ∷ ps) first = refl
begins-form h (pi.Kid s ∷ ps) first = refl
begins-form h (pi.Optional s ∷ ps) first = refl
begins-form h (pi.Led c s ∷ ps) first = refl
begins-form h (pi.Followed s c ∷ ps) first = refl
begins-form h (pi.Value s ∷ ps) first = refl
begins-form h (pi.Each s ∷ ps) first = refl
begins-form h (pi.EachLed c s ∷ ps) first = refl
begins-form h (pi.EachFollowed s c ∷ ps) first = refl
begins-form h (pi.More s ∷ ps) first = refl
begins-form h (pi.List s ∷ ps) first = refl
begins-form h (pi.Elements s ∷ ps) first = refl
begins-form h (pi.MoreElements s ∷ ps) first = refl

-- a tree whose form begins with a kid begins as that kid does
pub begins-kid : (h : Head) (ts : Nodes) → begins_with_kid (form_of h.kind) ≡ true → begins_labelled (branch h ts) ≡ first_labelled ts
unfolding begins_labelled
begins-kid h ts e = begins-form h (form_of h.kind) (first_labelled ts) ∙ rw e refl

-- any other begins as its form does
pub begins-own : (h : Head) (ts : Nodes) (b : Bool) → begins_with_kid (form_of h.kind) ≡ false → begins_with_label (form_of h.kind) ≡ b →
    begins_labelled (branch h ts) ≡ (if b then not (is_empty h.text) else false)
unfolding begins_labelled
begins-own h ts b e l = begins-form h (form_of h.kind) (first_labelled ts) ∙ rw (e, l) refl

-- the first kid's left edge
pub first-labelled : (ks : List Node) (x : Node) → slice_get ks 0 ≡ Some x → first_labelled (nodes_of ks) ≡ begins_labelled x
unfolding begins_labelled
first-labelled [] x e = absurd cc
first-labelled (t ∷ ts) x e = let h : t ≡ x = cc in ap begins_labelled h

pub none-labelled : (ks : List Node) → length ks ≤ 0 → first_labelled (nodes_of ks) ≡ false
unfolding begins_labelled
none-labelled [] e = refl
none-labelled (t ∷ ts) e = absurd (omega arith)

pub is_empty-length : (s : List ℕ) → (length s == 0) ≡ is_empty s
is_empty-length [] = refl
is_empty-length (c ∷ s) = grind arith

-- a kid is smaller than its tree
pub kid_size-tree : (h : Head) (ks : List Node) (t x : Node) (i : ℕ) → branch h (nodes_of ks) ≡ t → slice_get ks i ≡ Some x →
    size_of x < size_of t
kid_size-tree h ks t x i e g = let s : size_of x < sizes_of (nodes_of ks) = kid_size ks i x g in rw (← e) (omega arith)

-- a `yield` without a label
pub yields : (h : Head) (ks : List Node) (t : Node) (b : Bool) (s : List ℕ) → branch h (nodes_of ks) ≡ t → is_yield h.kind ≡ true →
    s ≡ h.text → (length s == 0) ≡ true → first_labelled (nodes_of ks) ≡ b → not b ≡ yields_label (head t) (kids_of t)
yields h ks t b s e k st l f = rw (← e, k, ← is_empty-length h.text, ← st, l, f) refl
