-- The kids of a shaped tree are of the sorts that its form says.
use Rattle.std.proofs.Common.{◌≡◌, ◌⊎◌, ℕ, zero, suc, ◌+◌, ◌-◌, ◌<◌, List, [], ◌∷◌, ◌++◌, Bool, true, false, length, drop, get_or, Option, Some, None, replicate, refl, sym, ap, ◌∙◌, inl, inr, arith}
use Rattle.std.specs.Prelude.{◌&&◌, ◌||◌, slice_get, slice_index_or}
use Rattle.std.specs.List.{list_all}
use Rattle.std.proofs.lemmas.Bool.{and_parts}
use Rattle.hare_tree.specs.declared.kind.Kind.{Kind}
use Rattle.hare_tree.specs.declared.kind.Kind.TheVariants as ki
use Rattle.hare_tree.specs.declared.form.Sign.{Sign}
use Rattle.hare_tree.specs.declared.form.Own.{Own}
use Rattle.hare_tree.specs.declared.form.Own.TheVariants as ow
use Rattle.hare_tree.specs.declared.form.Sort.{Sort}
use Rattle.hare_tree.specs.declared.form.Sort.TheVariants as so
use Rattle.hare_tree.specs.declared.form.Piece.{Piece}
use Rattle.hare_tree.specs.declared.form.Piece.TheVariants as pi
use Rattle.hare_tree.specs.Node.{Head, Node, Nodes, branch, none, more, nodes_of}
use Rattle.hare_tree.specs.Forms.{form_of}
use Rattle.hare_tree.specs.Levels.{level, sort_in}
use Rattle.hare_tree.specs.Shape.{is_shaped, are_kids, is_own, is_none, is_absent, is_leaf, is_none_or_comma, is_none_or_dots, kid_pieces}
use Rattle.hare_tree.specs.KidSorts.{kid_sorts, kid_sort, IsKid}
use Rattle.hare_tree.proofs.TreeKids.Behind.{pieces-at}

-- ---- the sorts of repeated kids

pub comma-behind : (x : Option Sort) (n i : ℕ) → slice_index_or (replicate n x) i None ≡ slice_index_or (replicate n x ++ None ∷ []) i None
comma-behind x zero zero = refl
comma-behind x zero (suc i) = refl
comma-behind x (suc n) zero = refl
comma-behind x (suc n) (suc i) = comma-behind x n i

pub dots-behind : (x y : Option Sort) (n i : ℕ) → (i ≡ n → ⊥) → slice_index_or (replicate n x) i None ≡ slice_index_or
    (replicate n x ++ y ∷ None ∷ []) i None
dots-behind x y zero zero d = absurd (d refl)
dots-behind x y zero (suc zero) d = refl
dots-behind x y zero (suc (suc i)) d = refl
dots-behind x y (suc n) zero d = refl
dots-behind x y (suc n) (suc i) d = dots-behind x y n i (λ e. d (ap suc e))

-- ---- one piece on

-- the kid with this number, among so many kids of these pieces
abbrev from_here : List Piece → ℕ → ℕ → Option Sort
from_here ps n i = slice_index_or (kid_sorts ps n) i None

behind_first : (x : Option Sort) (ys : List (Option Sort)) (i : ℕ) → (i ≡ 0 → ⊥) → slice_index_or ys (i - 1) None ≡ slice_index_or (x ∷ ys)
    i None
behind_first x ys zero h = absurd (h refl)
behind_first x ys (suc i) h = let e : suc i - 1 ≡ i = omega arith in rw e refl

pub step-fixed : (form : List Piece) (j n i : ℕ) (d : Piece) (x : Sign) → j < length form → get_or form j d ≡ pi.Fixed x →
    from_here (drop (j + 1) form) n i ≡ from_here (drop j form) n i
step-fixed form j n i d x lt e = rw (pieces-at form j d (pi.Fixed x) lt e) refl

pub step-own : (form : List Piece) (j n i : ℕ) (d : Piece) (x : Own) → j < length form → get_or form j d ≡ pi.Own x →
    from_here (drop (j + 1) form) n i ≡ from_here (drop j form) n i
step-own form j n i d x lt e = rw (pieces-at form j d (pi.Own x) lt e) refl

pub step-kid : (form : List Piece) (j n i : ℕ) (d : Piece) (s : Sort) → j < length form → (i ≡ 0 → ⊥) → get_or form j d ≡ pi.Kid s →
    from_here (drop (j + 1) form) (n - 1) (i - 1) ≡ from_here (drop j form) n i
step-kid form j n i d s lt h e = rw (pieces-at form j d (pi.Kid s) lt e) (behind_first (Some s) (kid_sorts (drop (j + 1) form) (n - 1)) i h)

pub step-optional : (form : List Piece) (j n i : ℕ) (d : Piece) (s : Sort) → j < length form → (i ≡ 0 → ⊥) →
    get_or form j d ≡ pi.Optional s →
    from_here (drop (j + 1) form) (n - 1) (i - 1) ≡ from_here (drop j form) n i
step-optional form j n i d s lt h e =
    rw (pieces-at form j d (pi.Optional s) lt e) (behind_first (Some s) (kid_sorts (drop (j + 1) form) (n - 1)) i h)

pub step-led : (form : List Piece) (j n i : ℕ) (d : Piece) (s : Sort) (a : Sign) → j < length form → (i ≡ 0 → ⊥) →
    get_or form j d ≡ pi.Led a s →
    from_here (drop (j + 1) form) (n - 1) (i - 1) ≡ from_here (drop j form) n i
step-led form j n i d s a lt h e =
    rw (pieces-at form j d (pi.Led a s) lt e) (behind_first (Some s) (kid_sorts (drop (j + 1) form) (n - 1)) i h)

pub step-followed : (form : List Piece) (j n i : ℕ) (d : Piece) (s : Sort) (a : Sign) → j < length form → (i ≡ 0 → ⊥) →
    get_or form j d ≡ pi.Followed s a →
    from_here (drop (j + 1) form) (n - 1) (i - 1) ≡ from_here (drop j form) n i
step-followed form j n i d s a lt h e =
    rw (pieces-at form j d (pi.Followed s a) lt e) (behind_first (Some s) (kid_sorts (drop (j + 1) form) (n - 1)) i h)

pub step-value : (form : List Piece) (j n i : ℕ) (d : Piece) (s : Sort) → j < length form → (i ≡ 0 → ⊥) → get_or form j d ≡ pi.Value s →
    from_here (drop (j + 1) form) (n - 1) (i - 1) ≡ from_here (drop j form) n i
step-value form j n i d s lt h e =
    rw (pieces-at form j d (pi.Value s) lt e) (behind_first (Some s) (kid_sorts (drop (j + 1) form) (n - 1)) i h)

-- ---- shaped trees

-- a tree of a sort is of that sort as a kid
as_kid : (level : ℕ) (s : Sort) (t : Node) → is_shaped s t ≡ true → is_shaped (sort_in level s) t ≡ true
unfolding is_shaped
as_kid n so.Left (branch h ts) e = cc
as_kid n so.Right (branch h ts) e = cc
as_kid n _ t e = e

or_true : (b c : Bool) → (b || c) ≡ true → (b ≡ true) ⊎ (c ≡ true)
or_true true c e = inl refl
or_true false c e = inr e

absent_or : (level : ℕ) (s : Sort) (t : Node) → (is_absent t || is_shaped s t) ≡ true → IsKid level (Some s) t
absent_or n s t e = elim (or_true (is_absent t) (is_shaped s t) e) [ inl a ↦ inl a | inr b ↦ inr (as_kid n s t b) ]

leaf_comma : (t : Node) → is_absent t ≡ true → is_leaf is_none_or_comma t ≡ true
leaf_comma (branch h none) e = by h.kind e
  where
    by : (k : Kind) → (is_none k && is_own ow.Nothing h) ≡ true → (is_none_or_comma k && is_own ow.Nothing h) ≡ true
    by ki.None e = e
    by _ e = cc
leaf_comma (branch h (more t ts)) e = cc

leaf_dots : (level : ℕ) (t : Node) → is_leaf is_none_or_dots t ≡ true → IsKid level (Some so.Dots) t
unfolding is_shaped
leaf_dots n (branch h none) e = by h.kind refl e
  where
    by : (k : Kind) → h.kind ≡ k → (is_none_or_dots k && is_own ow.Nothing h) ≡ true → IsKid n (Some so.Dots) (branch h none)
    by ki.None d e = inl (rw d e)
    by ki.Dots d e = inr (rw (d, e) refl)
    by _ d e = cc
leaf_dots n (branch h (more t ts)) e = cc

suc_less : (n : ℕ) → suc n - 1 ≡ n
suc_less n = omega arith

suc_less_two : (n : ℕ) → suc (suc n) - 2 ≡ n
suc_less_two n = omega arith

-- kids that repeat
all_of : (level : ℕ) (s : Sort) (ts : List Node) (i : ℕ) (t : Node) → list_all (is_shaped s) ts ≡ true → slice_get ts i ≡ Some t →
    IsKid level (slice_index_or (replicate (length ts) (Some s)) i None) t
all_of n s [] i t e g = cc
all_of n s (x ∷ ts) zero t e g = let h : x ≡ t = cc in inr (rw h at (as_kid n s x (and_parts _ _ e).0))
all_of n s (x ∷ ts) (suc i) t e g = all_of n s ts i t (and_parts _ _ e).1 g

each_all : (n : ℕ) (s : Sort) (ps : List Piece) (ts : List Node) → are_kids n (pi.Each s ∷ ps) (nodes_of ts) ≡ list_all (is_shaped s) ts
unfolding is_shaped
each_all n s ps [] = refl
each_all n s ps (t ∷ ts) = ap (λ b. is_shaped s t && b) (each_all n s ps ts)

each_led_all : (n : ℕ) (a : Sign) (s : Sort) (ps : List Piece) (ts : List Node) → are_kids n (pi.EachLed a s ∷ ps) (nodes_of ts) ≡ list_all
    (is_shaped s) ts
unfolding is_shaped
each_led_all n a s ps [] = refl
each_led_all n a s ps (t ∷ ts) = ap (λ b. is_shaped s t && b) (each_led_all n a s ps ts)

each_followed_all : (n : ℕ) (s : Sort) (a : Sign) (ps : List Piece) (ts : List Node) →
    are_kids n (pi.EachFollowed s a ∷ ps) (nodes_of ts) ≡ list_all (is_shaped s) ts
unfolding is_shaped
each_followed_all n s a ps [] = refl
each_followed_all n s a ps (t ∷ ts) = ap (λ b. is_shaped s t && b) (each_followed_all n s a ps ts)

-- the items of a list, the last of which stands for a trailing comma
more_of : (n : ℕ) (s : Sort) (ps : List Piece) (ts : List Node) (i : ℕ) (t : Node) → are_kids n (pi.More s ∷ ps) (nodes_of ts) ≡ true →
    slice_get ts i ≡ Some t →
    IsKid n (slice_index_or (replicate (length ts - 1) (Some s) ++ None ∷ []) i None) t
unfolding is_shaped
more_of n s ps [] i t e g = cc
more_of n s ps (x ∷ []) zero t e g = let h : x ≡ t = cc in rw h at e
more_of n s ps (x ∷ []) (suc i) t e g = cc
more_of n s ps (x ∷ y ∷ ts) zero t e g = let h : x ≡ t = cc in rw suc_less (inr (rw h at (as_kid n s x (and_parts _ _ e).0)))
more_of n s ps (x ∷ y ∷ ts) (suc i) t e g = let r = more_of n s ps (y ∷ ts) i t (and_parts _ _ e).1 g in rw suc_less (rw suc_less at r)

list_of : (n : ℕ) (s : Sort) (ps : List Piece) (ts : List Node) (i : ℕ) (t : Node) → are_kids n (pi.List s ∷ ps) (nodes_of ts) ≡ true →
    slice_get ts i ≡ Some t →
    IsKid n (slice_index_or (replicate (length ts - 1) (Some s) ++ None ∷ []) i None) t
unfolding is_shaped
list_of n s ps [] i t e g = cc
list_of n s ps (x ∷ []) zero t e g = let h : x ≡ t = cc in rw h at (leaf_comma x e)
list_of n s ps (x ∷ []) (suc i) t e g = cc
list_of n s ps (x ∷ y ∷ ts) i t e g = more_of n s ps (x ∷ y ∷ ts) i t e g

more_elements_of : (n : ℕ) (s : Sort) (ps : List Piece) (ts : List Node) (i : ℕ) (t : Node) →
    are_kids n (pi.MoreElements s ∷ ps) (nodes_of ts) ≡ true → slice_get ts i ≡ Some t →
    IsKid n (slice_index_or (replicate (length ts - 2) (Some s) ++ Some so.Dots ∷ None ∷ []) i None) t
unfolding is_shaped
more_elements_of n s ps [] i t e g = cc
more_elements_of n s ps (x ∷ []) i t e g = cc
more_elements_of n s ps (x ∷ y ∷ []) zero t e g = let h : x ≡ t = cc in rw h at (leaf_dots n x (and_parts _ _ e).0)
more_elements_of n s ps (x ∷ y ∷ []) (suc zero) t e g =
    let h : y ≡ t = cc in
    let q : is_leaf is_none_or_comma y ≡ true = (and_parts _ _ e).1 in
    rw h at q
more_elements_of n s ps (x ∷ y ∷ []) (suc (suc i)) t e g = cc
more_elements_of n s ps (x ∷ y ∷ z ∷ ts) zero t e g =
    let h : x ≡ t = cc in rw suc_less_two (inr (rw h at (as_kid n s x (and_parts _ _ e).0)))
more_elements_of n s ps (x ∷ y ∷ z ∷ ts) (suc i) t e g =
    let r = more_elements_of n s ps (y ∷ z ∷ ts) i t (and_parts _ _ e).1 g in
    rw suc_less_two (rw suc_less_two at r)

elements_of : (n : ℕ) (s : Sort) (ps : List Piece) (ts : List Node) (i : ℕ) (t : Node) →
    are_kids n (pi.Elements s ∷ ps) (nodes_of ts) ≡ true → slice_get ts i ≡ Some t →
    IsKid n (slice_index_or (replicate (length ts - 2) (Some s) ++ Some so.Dots ∷ None ∷ []) i None) t
unfolding is_shaped
elements_of n s ps [] i t e g = cc
elements_of n s ps (x ∷ []) i t e g = cc
elements_of n s ps (x ∷ y ∷ []) zero t e g =
    let h : x ≡ t = cc in
    let q : is_absent x ≡ true = (and_parts _ _ e).0 in
    inl (rw h at q)
elements_of n s ps (x ∷ y ∷ []) (suc zero) t e g = let h : y ≡ t = cc in rw h at (leaf_comma y (and_parts _ _ e).1)
elements_of n s ps (x ∷ y ∷ []) (suc (suc i)) t e g = cc
elements_of n s ps (x ∷ y ∷ z ∷ ts) i t e g = more_elements_of n s ps (x ∷ y ∷ z ∷ ts) i t e g

-- all kids
kids_of_sorts : (n : ℕ) (ps : List Piece) (ts : List Node) (i : ℕ) (t : Node) → are_kids n (kid_pieces ps) (nodes_of ts) ≡ true →
    slice_get ts i ≡ Some t →
    IsKid n (slice_index_or (kid_sorts ps (length ts)) i None) t
unfolding is_shaped
kids_of_sorts n [] [] i t e g = cc
kids_of_sorts n [] (x ∷ ts) i t e g = cc
kids_of_sorts n (pi.Fixed s ∷ ps) ts i t e g = kids_of_sorts n ps ts i t e g
kids_of_sorts n (pi.Own o ∷ ps) ts i t e g = kids_of_sorts n ps ts i t e g
kids_of_sorts n (pi.Kid s ∷ ps) [] i t e g = cc
kids_of_sorts n (pi.Kid s ∷ ps) (x ∷ ts) zero t e g =
    let h : x ≡ t = cc in
    let q : is_shaped (sort_in n s) x ≡ true = (and_parts _ _ e).0 in
    inr (rw h at q)
kids_of_sorts n (pi.Kid s ∷ ps) (x ∷ ts) (suc i) t e g = rw suc_less (kids_of_sorts n ps ts i t (and_parts _ _ e).1 g)
kids_of_sorts n (pi.Optional s ∷ ps) [] i t e g = cc
kids_of_sorts n (pi.Optional s ∷ ps) (x ∷ ts) zero t e g = let h : x ≡ t = cc in rw h at (absent_or n s x (and_parts _ _ e).0)
kids_of_sorts n (pi.Optional s ∷ ps) (x ∷ ts) (suc i) t e g = rw suc_less (kids_of_sorts n ps ts i t (and_parts _ _ e).1 g)
kids_of_sorts n (pi.Led a s ∷ ps) [] i t e g = cc
kids_of_sorts n (pi.Led a s ∷ ps) (x ∷ ts) zero t e g = let h : x ≡ t = cc in rw h at (absent_or n s x (and_parts _ _ e).0)
kids_of_sorts n (pi.Led a s ∷ ps) (x ∷ ts) (suc i) t e g = rw suc_less (kids_of_sorts n ps ts i t (and_parts _ _ e).1 g)
kids_of_sorts n (pi.Followed s a ∷ ps) [] i t e g = cc
kids_of_sorts n (pi.Followed s a ∷ ps) (x ∷ ts) zero t e g = let h : x ≡ t = cc in rw h at (absent_or n s x (and_parts _ _ e).0)
kids_of_sorts n (pi.Followed s a ∷ ps) (x ∷ ts) (suc i) t e g = rw suc_less (kids_of_sorts n ps ts i t (and_parts _ _ e).1 g)
kids_of_sorts n (pi.Value s ∷ ps) [] i t e g = cc
kids_of_sorts n (pi.Value s ∷ ps) (x ∷ ts) zero t e g = let h : x ≡ t = cc in rw h at (absent_or n s x (and_parts _ _ e).0)
kids_of_sorts n (pi.Value s ∷ ps) (x ∷ ts) (suc i) t e g = rw suc_less (kids_of_sorts n ps ts i t (and_parts _ _ e).1 g)
kids_of_sorts n (pi.Each s ∷ ps) ts i t e g = all_of n s ts i t (sym (each_all n s (kid_pieces ps) ts) ∙ e) g
kids_of_sorts n (pi.EachLed a s ∷ ps) ts i t e g = all_of n s ts i t (sym (each_led_all n a s (kid_pieces ps) ts) ∙ e) g
kids_of_sorts n (pi.EachFollowed s a ∷ ps) ts i t e g = all_of n s ts i t (sym (each_followed_all n s a (kid_pieces ps) ts) ∙ e) g
kids_of_sorts n (pi.More s ∷ ps) ts i t e g = more_of n s (kid_pieces ps) ts i t e g
kids_of_sorts n (pi.List s ∷ ps) ts i t e g = list_of n s (kid_pieces ps) ts i t e g
kids_of_sorts n (pi.Elements s ∷ ps) ts i t e g = elements_of n s (kid_pieces ps) ts i t e g
kids_of_sorts n (pi.MoreElements s ∷ ps) ts i t e g = more_elements_of n s (kid_pieces ps) ts i t e g

pub shaped_kids : (s : Sort) (h : Head) (ts : Nodes) → is_shaped s (branch h ts) ≡ true →
    are_kids (level h.kind h.text) (kid_pieces (form_of h.kind)) ts ≡ true
unfolding is_shaped
shaped_kids s h ts e =
    let a = and_parts _ _ e in
    let b = and_parts _ _ a.0 in
    let c = and_parts _ _ b.0 in
    c.1

pub kid_is_of_sort : (k : Kind) (n i : ℕ) (r : Option Sort) → r ≡ kid_sort k n i → (s : Sort) (h : Head) (ts : List Node) (t : Node) →
    h.kind ≡ k → length ts ≡ n →
    is_shaped s (branch h (nodes_of ts)) ≡ true → slice_get ts i ≡ Some t → IsKid (level k h.text) r t
kid_is_of_sort k n i r v s h ts t a b e g =
    let d = shaped_kids s h (nodes_of ts) e in
    rw (v, ← a, ← b) (kids_of_sorts (level h.kind h.text) (form_of h.kind) ts i t d g)
