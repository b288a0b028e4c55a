-- Commas behind last items keep a tree in the language: kid by kid.
use Rattle.std.proofs.Common.{◌≡◌, ℕ, ◌+◌, List, [], ◌∷◌, ◌⊎◌, inl, inr, Bool, true, false, ◌&&◌, refl, sym, ap, ◌∙◌}
use Rattle.std.specs.Prelude.{max, ◌||◌}
use Rattle.std.proofs.lemmas.Bool.{and_parts}
use Rattle.hare_tree.specs.declared.kind.Kind.{Kind}
use Rattle.hare_tree.specs.declared.form.Sign.{Sign}
use Rattle.hare_tree.specs.declared.form.Sign.TheVariants as si
use Rattle.hare_tree.specs.declared.form.Sort.{Sort}
use Rattle.hare_tree.specs.declared.form.Piece.{Piece}
use Rattle.hare_tree.specs.declared.form.Piece.TheVariants as pi
use Rattle.hare_tree.specs.Node.{Node, Nodes, branch, none, more, head}
use Rattle.hare_tree.specs.Forms.{form_of}
use Rattle.hare_tree.specs.Levels.{sort_in}
use Rattle.hare_tree.specs.Shape.{Ending, is_shaped, are_kids, is_none, is_leaf, is_absent, is_none_or_comma, is_none_or_dots, stops, stops_each, Edge, edges, begins_labelled, first_labelled, form_begins_labelled}
use Rattle.hare_tree.specs.Depth.{counted, height, greatest_height}
use Rattle.hare_commas.proofs.WaysAgain.Kin.{IsNothing, comma_for}

-- what a tree with its commas keeps of the tree
pub record Keeps (t u : Node) : Type 0 where
  pub kind : (head u).kind ≡ (head t).kind
  pub stops_same : (c : Sign) → stops c u ≡ stops c t
  pub labelled : begins_labelled u ≡ begins_labelled t
  pub height_same : height u ≡ height t
  pub leaf : (p : Kind → Bool) → is_leaf p t ≡ true → is_leaf p u ≡ true
  pub shaped : (s : Sort) → is_shaped s t ≡ true → is_shaped s u ≡ true

-- the same of kids, where a comma is added behind the last of them or not
abbrev pub KeepAll : Bool → Nodes → Nodes → Type 0
KeepAll e none none = e ≡ false
KeepAll e none (more u us) = ⊥
KeepAll e (more t ts) none = ⊥
KeepAll e (more t ts) (more u us) =
    (Keeps t u × KeepAll e ts us) ⊎ ((e ≡ true) × IsNothing t × (ts ≡ none) × (us ≡ none) × (u ≡ comma_for t))

false-true : {A : Type 0} → false ≡ true → A
false-true h = cc

pub both : (x y : Bool) → x ≡ true → y ≡ true → (x && y) ≡ true
both true y e f = f
both false y e f = e

-- ---- edges

ending_of : Sign → Node → Ending
ending_of c t = ((head t).kind, stops c t)

ending-same : (t u : Node) → Keeps t u → (c : Sign) → ending_of c u ≡ ending_of c t
unfolding ending_of
ending-same t u k c = λ i. (k.kind i, k.stops_same c i)

pub stops-kept : (c : Sign) (ts us : Nodes) → KeepAll false ts us → stops_each c us ≡ stops_each c ts
unfolding stops ending_of
stops-kept c none none k = refl
stops-kept c none (more u us) k = absurd k
stops-kept c (more t ts) none k = absurd k
stops-kept c (more t ts) (more u us) (inl k) = λ i. ending-same t u k.0 c i ∷ stops-kept c ts us k.1 i
stops-kept c (more t ts) (more u us) (inr k) = false-true k.0

abbrev pub edge_of : Node → Edge
edge_of t = record { kind = (head t).kind; before_else = stops si.Else t; before_comma = stops si.Comma t }

pub edge-kept : (t u : Node) → Keeps t u → edge_of u ≡ edge_of t
edge-kept t u k = λ i. record { kind = k.kind i; before_else = k.stops_same si.Else i; before_comma = k.stops_same si.Comma i }

pub edges-kept : (ts us : Nodes) → KeepAll false ts us → edges us ≡ edges ts
edges-kept none none k = refl
edges-kept none (more u us) k = absurd k
edges-kept (more t ts) none k = absurd k
edges-kept (more t ts) (more u us) (inl k) = λ i. edge-kept t u k.0 i ∷ edges-kept ts us k.1 i
edges-kept (more t ts) (more u us) (inr k) = false-true k.0

-- ---- labels and heights

nothing-labelled : (t : Node) → IsNothing t → begins_labelled (comma_for t) ≡ begins_labelled t
unfolding begins_labelled
nothing-labelled (branch h none) e = sym (ap (λ k. form_begins_labelled h (form_of k) false) e)
nothing-labelled (branch h (more t ts)) e = absurd e

pub first-labelled-kept : (e : Bool) (ts us : Nodes) → KeepAll e ts us → first_labelled us ≡ first_labelled ts
unfolding begins_labelled
first-labelled-kept e none none k = refl
first-labelled-kept e none (more u us) k = absurd k
first-labelled-kept e (more t ts) none k = absurd k
first-labelled-kept e (more t ts) (more u us) (inl k) = k.0.labelled
first-labelled-kept e (more t ts) (more u us) (inr k) = ap begins_labelled k.4 ∙ nothing-labelled t k.1

nothing-high : (t : Node) → IsNothing t → height (comma_for t) ≡ height t
unfolding height
nothing-high (branch h none) e = sym (ap (λ k. counted k + 0) e)
nothing-high (branch h (more t ts)) e = absurd e

pub heights-kept : (e : Bool) (ts us : Nodes) → KeepAll e ts us → greatest_height us ≡ greatest_height ts
unfolding height
heights-kept e none none k = refl
heights-kept e none (more u us) k = absurd k
heights-kept e (more t ts) none k = absurd k
heights-kept e (more t ts) (more u us) (inl k) = λ i. max (k.0.height_same i) (heights-kept e ts us k.1 i)
heights-kept e (more t ts) (more u us) (inr k) =
    ap (λ x. max (height u) (greatest_height x)) (k.3 ∙ sym k.2) ∙ ap (λ x. max x (greatest_height ts)) (ap height k.4 ∙ nothing-high t k.1)

-- ---- kids of pieces, where no comma is added

or-by : (a b x y : Bool) → (a ≡ true → b ≡ true) → (x ≡ true → y ≡ true) → (a || x) ≡ true → (b || y) ≡ true
or-by true b x y f g e = ap (λ z. z || y) (f refl)
or-by false true x y f g e = refl
or-by false false x y f g e = g e

or-kept : (t u : Node) (s : Sort) → Keeps t u → (is_absent t || is_shaped s t) ≡ true → (is_absent u || is_shaped s u) ≡ true
or-kept t u s k e = or-by (is_absent t) (is_absent u) (is_shaped s t) (is_shaped s u) (k.leaf is_none) (k.shaped s) e

elements-kept : (n : ℕ) (s : Sort) (ps : List Piece) (t u : Node) (ts us : Nodes) → Keeps t u → KeepAll false ts us
    → are_kids n (pi.Elements s ∷ ps) (more t ts) ≡ true
    → (are_kids n (pi.MoreElements s ∷ ps) ts ≡ true → are_kids n (pi.MoreElements s ∷ ps) us ≡ true)
    → are_kids n (pi.Elements s ∷ ps) (more u us) ≡ true
unfolding is_shaped
elements-kept n s ps t u none us k l e f = false-true e
elements-kept n s ps t u (more x ts) none k l e f = absurd l
elements-kept n s ps t u (more x none) (more v none) k (inl l) e f =
    let a = and_parts _ _ e in both _ _ (k.leaf is_none a.0) (l.0.leaf is_none a.1)
elements-kept n s ps t u (more x none) (more v none) k (inr l) e f = false-true l.0
elements-kept n s ps t u (more x none) (more v (more w us)) k (inl l) e f = absurd l.1
elements-kept n s ps t u (more x none) (more v (more w us)) k (inr l) e f = false-true l.0
elements-kept n s ps t u (more x (more y ts)) (more v none) k (inl l) e f = absurd l.1
elements-kept n s ps t u (more x (more y ts)) (more v none) k (inr l) e f = false-true l.0
elements-kept n s ps t u (more x (more y ts)) (more v (more w us)) k l e f =
    let a = and_parts _ _ e in both _ _ (k.shaped s a.0) (f a.1)

elements-more : (n : ℕ) (s : Sort) (ps : List Piece) (t u : Node) (ts us : Nodes) → Keeps t u → KeepAll false ts us
    → are_kids n (pi.MoreElements s ∷ ps) (more t ts) ≡ true
    → (are_kids n (pi.MoreElements s ∷ ps) ts ≡ true → are_kids n (pi.MoreElements s ∷ ps) us ≡ true)
    → are_kids n (pi.MoreElements s ∷ ps) (more u us) ≡ true
unfolding is_shaped
elements-more n s ps t u none us k l e f = false-true e
elements-more n s ps t u (more x ts) none k l e f = absurd l
elements-more n s ps t u (more x none) (more v none) k (inl l) e f =
    let a = and_parts _ _ e in both _ _ (k.leaf is_none_or_dots a.0) (l.0.leaf is_none_or_comma a.1)
elements-more n s ps t u (more x none) (more v none) k (inr l) e f = false-true l.0
elements-more n s ps t u (more x none) (more v (more w us)) k (inl l) e f = absurd l.1
elements-more n s ps t u (more x none) (more v (more w us)) k (inr l) e f = false-true l.0
elements-more n s ps t u (more x (more y ts)) (more v none) k (inl l) e f = absurd l.1
elements-more n s ps t u (more x (more y ts)) (more v none) k (inr l) e f = false-true l.0
elements-more n s ps t u (more x (more y ts)) (more v (more w us)) k l e f =
    let a = and_parts _ _ e in both _ _ (k.shaped s a.0) (f a.1)

pub kids-kept : (n : ℕ) (ps : List Piece) (ts us : Nodes) → KeepAll false ts us → are_kids n ps ts ≡ true → are_kids n ps us ≡ true
unfolding is_shaped
kids-kept n [] none none k e = e
kids-kept n [] none (more u us) k e = absurd k
kids-kept n [] (more t ts) us k e = false-true e
kids-kept n (p ∷ ps) none (more u us) k e = absurd k
kids-kept n (p ∷ ps) (more t ts) none k e = absurd k
kids-kept n (p ∷ ps) (more t ts) (more u us) (inr k) e = false-true k.0
kids-kept n (p ∷ ps) none none k e = e
kids-kept n (pi.Fixed s ∷ ps) (more t ts) (more u us) (inl k) e = false-true e
kids-kept n (pi.Own s ∷ ps) (more t ts) (more u us) (inl k) e = false-true e
kids-kept n (pi.Kid s ∷ ps) (more t ts) (more u us) (inl k) e =
    let a = and_parts _ _ e in both _ _ (k.0.shaped (sort_in n s) a.0) (kids-kept n ps ts us k.1 a.1)
kids-kept n (pi.Optional s ∷ ps) (more t ts) (more u us) (inl k) e =
    let a = and_parts _ _ e in both _ _ (or-kept t u s k.0 a.0) (kids-kept n ps ts us k.1 a.1)
kids-kept n (pi.Led c s ∷ ps) (more t ts) (more u us) (inl k) e =
    let a = and_parts _ _ e in both _ _ (or-kept t u s k.0 a.0) (kids-kept n ps ts us k.1 a.1)
kids-kept n (pi.Followed s c ∷ ps) (more t ts) (more u us) (inl k) e =
    let a = and_parts _ _ e in both _ _ (or-kept t u s k.0 a.0) (kids-kept n ps ts us k.1 a.1)
kids-kept n (pi.Value s ∷ ps) (more t ts) (more u us) (inl k) e =
    let a = and_parts _ _ e in both _ _ (or-kept t u s k.0 a.0) (kids-kept n ps ts us k.1 a.1)
kids-kept n (pi.Each s ∷ ps) (more t ts) (more u us) (inl k) e =
    let a = and_parts _ _ e in both _ _ (k.0.shaped s a.0) (kids-kept n (pi.Each s ∷ ps) ts us k.1 a.1)
kids-kept n (pi.EachLed c s ∷ ps) (more t ts) (more u us) (inl k) e =
    let a = and_parts _ _ e in both _ _ (k.0.shaped s a.0) (kids-kept n (pi.EachLed c s ∷ ps) ts us k.1 a.1)
kids-kept n (pi.EachFollowed s c ∷ ps) (more t ts) (more u us) (inl k) e =
    let a = and_parts _ _ e in both _ _ (k.0.shaped s a.0) (kids-kept n (pi.EachFollowed s c ∷ ps) ts us k.1 a.1)
kids-kept n (pi.More s ∷ ps) (more t none) (more u none) (inl k) e = k.0.leaf is_none_or_comma e
kids-kept n (pi.More s ∷ ps) (more t none) (more u (more v vs)) (inl k) e = absurd k.1
kids-kept n (pi.More s ∷ ps) (more t (more x ts)) (more u none) (inl k) e = absurd k.1
kids-kept n (pi.More s ∷ ps) (more t (more x ts)) (more u (more v us)) (inl k) e =
    let a = and_parts _ _ e in both _ _ (k.0.shaped s a.0) (kids-kept n (pi.More s ∷ ps) (more x ts) (more v us) k.1 a.1)
kids-kept n (pi.List s ∷ ps) (more t none) (more u none) (inl k) e = k.0.leaf is_none e
kids-kept n (pi.List s ∷ ps) (more t none) (more u (more v vs)) (inl k) e = absurd k.1
kids-kept n (pi.List s ∷ ps) (more t (more x ts)) (more u none) (inl k) e = absurd k.1
kids-kept n (pi.List s ∷ ps) (more t (more x ts)) (more u (more v us)) (inl k) e =
    let a = and_parts _ _ e in both _ _ (k.0.shaped s a.0) (kids-kept n (pi.More s ∷ ps) (more x ts) (more v us) k.1 a.1)
kids-kept n (pi.Elements s ∷ ps) (more t ts) (more u us) (inl k) e =
    elements-kept n s ps t u ts us k.0 k.1 e (kids-kept n (pi.MoreElements s ∷ ps) ts us k.1)
kids-kept n (pi.MoreElements s ∷ ps) (more t ts) (more u us) (inl k) e =
    elements-more n s ps t u ts us k.0 k.1 e (kids-kept n (pi.MoreElements s ∷ ps) ts us k.1)
