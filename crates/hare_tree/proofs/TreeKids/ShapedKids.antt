-- The kids of a shaped tree are shaped, and few of them stand for what is not there.
use Rattle.std.proofs.Common.{◌≡◌, ◌⊎◌, ℕ, suc, ◌+◌, ◌≤◌, List, [], ◌∷◌, Bool, true, false, refl, inl, inr, arith, if◌then◌else◌}
use Rattle.std.specs.Prelude.{◌||◌, nat_le}
use Rattle.std.proofs.lemmas.Bool.{and_parts, leb-true, lt-leb}
use Rattle.hare_tree.specs.declared.kind.Kind.{Kind}
use Rattle.hare_tree.specs.declared.kind.Kind.TheVariants as ki
use Rattle.hare_tree.specs.declared.form.Sign.{Sign}
use Rattle.hare_tree.specs.declared.form.Own.TheVariants as ow
use Rattle.hare_tree.specs.declared.form.Sort.{Sort}
use Rattle.hare_tree.specs.declared.form.Sort.TheVariants as so
use Rattle.hare_tree.specs.declared.form.Piece.{Piece}
use Rattle.hare_tree.specs.declared.form.Piece.TheVariants as pi
use Rattle.hare_tree.specs.Node.{Head, Node, Nodes, branch, none, more, head}
use Rattle.hare_tree.specs.Forms.{form_of}
use Rattle.hare_tree.specs.Levels.{level, admits, sort_in}
use Rattle.hare_tree.specs.Shape.{is_shaped, are_kids, is_own, is_none, is_absent, is_leaf, is_none_or_comma, is_none_or_dots, kid_pieces}
use Rattle.hare_tree.proofs.TreeKids.KidSorts.{shaped_kids}

-- what stands for nothing, a trailing comma and `...` are shaped as what is no expression
leaf_shaped : (p : Kind → Bool) (t : Node) →
    ((k : Kind) → p k ≡ true → (h : Head) → h.kind ≡ k → is_own ow.Nothing h ≡ true → is_shaped (so.Level 0) (branch h none) ≡ true) →
    is_leaf p t ≡ true → is_shaped (so.Level 0) t ≡ true
leaf_shaped p (branch h none) f e = let a = and_parts _ _ e in f h.kind a.0 h refl a.1
leaf_shaped p (branch h (more t ts)) f e = cc

as_leaf : (k : Kind) → (is_none_or_comma k || is_none_or_dots k) ≡ true → (h : Head) → h.kind ≡ k → is_own ow.Nothing h ≡ true →
    is_shaped (so.Level 0) (branch h none) ≡ true
unfolding is_shaped
as_leaf ki.None e h d o = rw (d, o) refl
as_leaf ki.TrailingComma e h d o = rw (d, o) refl
as_leaf ki.Dots e h d o = rw (d, o) refl
as_leaf _ e h d o = cc

or_parts : (b c : Bool) → (b || c) ≡ true → (b ≡ true) ⊎ (c ≡ true)
or_parts true c e = inl refl
or_parts false c e = inr e

or_left : (a b : Bool) → a ≡ true → (a || b) ≡ true
or_left a b e = rw e refl

or_right : (a b : Bool) → b ≡ true → (a || b) ≡ true
or_right true b e = refl
or_right false b e = e

none_comma : (k : Kind) → is_none k ≡ true → is_none_or_comma k ≡ true
none_comma ki.None e = refl
none_comma _ e = cc

absent_shaped : (t : Node) → is_absent t ≡ true → is_shaped (so.Level 0) t ≡ true
absent_shaped t e = leaf_shaped is_none t (λ k p. as_leaf k (or_left _ _ (none_comma k p))) e

comma_shaped : (t : Node) → is_leaf is_none_or_comma t ≡ true → is_shaped (so.Level 0) t ≡ true
comma_shaped t e = leaf_shaped is_none_or_comma t (λ k p. as_leaf k (or_left _ _ p)) e

dots_shaped : (t : Node) → is_leaf is_none_or_dots t ≡ true → is_shaped (so.Level 0) t ≡ true
dots_shaped t e = leaf_shaped is_none_or_dots t (λ k p. as_leaf k (or_right (is_none_or_comma k) _ p)) e

-- each kid is shaped, of some sort
abbrev pub Shaped : Node → Type 0
Shaped t = (s : Sort) × (is_shaped s t ≡ true)

abbrev pub AllShaped : Nodes → Type 0
AllShaped none = Unit {0}
AllShaped (more t ts) = Shaped t × AllShaped ts

-- how many stand for what is not there
abbrev pub absent : Node → ℕ
absent t = if is_none (head t).kind then 1 else 0

abbrev pub absents : Nodes → ℕ
absents none = 0
absents (more t ts) = absent t + absents ts

-- how many may
abbrev pub room_for : List Piece → ℕ
room_for [] = 0
room_for (pi.Fixed s ∷ ps) = room_for ps
room_for (pi.Own o ∷ ps) = room_for ps
room_for (pi.Each s ∷ ps) = 0
room_for (pi.EachLed a s ∷ ps) = 0
room_for (pi.EachFollowed s a ∷ ps) = 0
room_for (pi.More s ∷ ps) = 1
room_for (pi.List s ∷ ps) = 1
room_for (pi.Elements s ∷ ps) = 2
room_for (pi.MoreElements s ∷ ps) = 2
room_for (_ ∷ ps) = suc (room_for ps)

-- a tree of such a sort does not stand for what is not there
abbrev pub is_of_something : Sort → Bool
is_of_something (so.Level n) = nat_le 1 n
is_of_something _ = true

abbrev pub lists_something : List Piece → Bool
lists_something [] = true
lists_something (pi.Each s ∷ ps) = is_of_something s
lists_something (pi.EachLed a s ∷ ps) = is_of_something s
lists_something (pi.EachFollowed s a ∷ ps) = is_of_something s
lists_something (pi.More s ∷ ps) = is_of_something s
lists_something (pi.List s ∷ ps) = is_of_something s
lists_something (pi.Elements s ∷ ps) = is_of_something s
lists_something (pi.MoreElements s ∷ ps) = is_of_something s
lists_something (_ ∷ ps) = lists_something ps

nothing_level : (n : ℕ) → nat_le 1 n ≡ true → nat_le n 0 ≡ false
nothing_level n e = let h : 1 ≤ n = leb-true _ _ e in lt-leb n 0 (omega arith)

admits_none : (s : Sort) (x : List ℕ) → is_of_something s ≡ true → admits s ki.None x ≡ false
admits_none (so.Level n) x e = nothing_level n e
admits_none _ x e = refl

none_is : (k : Kind) → (k ≡ ki.None) ⊎ (is_none k ≡ false)
none_is ki.None = inl refl
none_is _ = inr refl

pub shaped_admits : (s : Sort) (h : Head) (ts : Nodes) → is_shaped s (branch h ts) ≡ true → admits s h.kind h.text ≡ true
unfolding is_shaped
shaped_admits s h ts e =
    let a = and_parts _ _ e in
    let b = and_parts _ _ a.0 in
    let c = and_parts _ _ b.0 in
    (and_parts _ _ c.0).0

not_both : (b : Bool) → b ≡ true → b ≡ false → ⊥
not_both true e h = cc
not_both false e h = cc

pub something : (s : Sort) (t : Node) → is_of_something s ≡ true → is_shaped s t ≡ true → absent t ≡ 0
something s (branch h ts) r e =
    elim (none_is h.kind) [
      | inl n ↦ let d : admits s ki.None h.text ≡ true =
          rw n at (shaped_admits s h ts e) in absurd (not_both (admits s ki.None h.text) d (admits_none s h.text r))
      | inr n ↦ rw n refl
    ]

absent_most : (t : Node) → absent t ≤ 1
absent_most t = by (is_none (head t).kind)
  where
    by : (b : Bool) → (if b then 1 else 0) ≤ 1
    by true = omega arith
    by false = omega arith

-- ---- the kids of pieces

-- what is known of the kids of pieces
pub record Kids (ps : List Piece) (ts : Nodes) : Type 0 where
  pub shaped : AllShaped ts
  pub few : absents ts ≤ room_for ps

single : (p : Piece) (ps : List Piece) (t : Node) (ts : Nodes) → room_for (p ∷ ps) ≡ suc (room_for ps) → Shaped t → Kids ps ts →
    Kids (p ∷ ps) (more t ts)
single p ps t ts r s k = record { shaped = (s, k.shaped); few = omega (arith, r, k.few, absent_most t) }

maybe : (s : Sort) (t : Node) → (is_absent t || is_shaped s t) ≡ true → Shaped t
maybe s t e = elim (or_parts (is_absent t) (is_shaped s t) e) [ inl a ↦ (so.Level 0, absent_shaped t a) | inr b ↦ (s, b) ]

-- a list of kids none of which is absent
repeated : (s : Sort) (t : Node) (ts : Nodes) (n : ℕ) → is_of_something s ≡ true → is_shaped s t ≡ true → AllShaped ts → absents ts ≤ n →
    AllShaped (more t ts) × (absents (more t ts) ≤ n)
repeated s t ts n r e a b = (((s, e), a), omega (arith, something s t r e, b))

abbrev Listed : Nodes → ℕ → Type 0
Listed ts n = AllShaped ts × (absents ts ≤ n)

each_kids : (n : ℕ) (s : Sort) (ps : List Piece) (ts : Nodes) → is_of_something s ≡ true → are_kids n (pi.Each s ∷ ps) ts ≡ true →
    Listed ts 0
unfolding is_shaped
each_kids n s ps none r e = (tt, omega arith)
each_kids n s ps (more t ts) r e = let a = and_parts _ _ e in let i = each_kids n s ps ts r a.1 in repeated s t ts 0 r a.0 i.0 i.1

each_led_kids : (n : ℕ) (c : Sign) (s : Sort) (ps : List Piece) (ts : Nodes) → is_of_something s ≡ true →
    are_kids n (pi.EachLed c s ∷ ps) ts ≡ true → Listed ts 0
unfolding is_shaped
each_led_kids n c s ps none r e = (tt, omega arith)
each_led_kids n c s ps (more t ts) r e =
    let a = and_parts _ _ e in let i = each_led_kids n c s ps ts r a.1 in repeated s t ts 0 r a.0 i.0 i.1

each_followed_kids : (n : ℕ) (s : Sort) (c : Sign) (ps : List Piece) (ts : Nodes) → is_of_something s ≡ true →
    are_kids n (pi.EachFollowed s c ∷ ps) ts ≡ true → Listed ts 0
unfolding is_shaped
each_followed_kids n s c ps none r e = (tt, omega arith)
each_followed_kids n s c ps (more t ts) r e =
    let a = and_parts _ _ e in let i = each_followed_kids n s c ps ts r a.1 in repeated s t ts 0 r a.0 i.0 i.1

last_one : (t : Node) → is_shaped (so.Level 0) t ≡ true → Listed (more t none) 1
last_one t e = (((so.Level 0, e), tt), omega (arith, absent_most t))

last_two : (t u : Node) → is_shaped (so.Level 0) t ≡ true → is_shaped (so.Level 0) u ≡ true → Listed (more t (more u none)) 2
last_two t u e g = (((so.Level 0, e), ((so.Level 0, g), tt)), omega (arith, absent_most t, absent_most u))

more_kids : (n : ℕ) (s : Sort) (ps : List Piece) (ts : Nodes) → is_of_something s ≡ true → are_kids n (pi.More s ∷ ps) ts ≡ true →
    Listed ts 1
unfolding is_shaped
more_kids n s ps none r e = cc
more_kids n s ps (more t none) r e = last_one t (comma_shaped t e)
more_kids n s ps (more t (more u ts)) r e =
    let a = and_parts _ _ e in
    let i = more_kids n s ps (more u ts) r a.1 in
    repeated s t (more u ts) 1 r a.0 i.0 i.1

list_kids : (n : ℕ) (s : Sort) (ps : List Piece) (ts : Nodes) → is_of_something s ≡ true → are_kids n (pi.List s ∷ ps) ts ≡ true →
    Listed ts 1
unfolding is_shaped
list_kids n s ps none r e = cc
list_kids n s ps (more t none) r e = last_one t (absent_shaped t e)
list_kids n s ps (more t (more u ts)) r e = more_kids n s ps (more t (more u ts)) r e

more_elements_kids : (n : ℕ) (s : Sort) (ps : List Piece) (ts : Nodes) → is_of_something s ≡ true →
    are_kids n (pi.MoreElements s ∷ ps) ts ≡ true → Listed ts 2
unfolding is_shaped
more_elements_kids n s ps none r e = cc
more_elements_kids n s ps (more t none) r e = cc
more_elements_kids n s ps (more t (more u none)) r e = let a = and_parts _ _ e in last_two t u (dots_shaped t a.0) (comma_shaped u a.1)
more_elements_kids n s ps (more t (more u (more v ts))) r e =
    let a = and_parts _ _ e in
    let i = more_elements_kids n s ps (more u (more v ts)) r a.1 in
    repeated s t (more u (more v ts)) 2 r a.0 i.0 i.1

elements_kids : (n : ℕ) (s : Sort) (ps : List Piece) (ts : Nodes) → is_of_something s ≡ true → are_kids n (pi.Elements s ∷ ps) ts ≡ true →
    Listed ts 2
unfolding is_shaped
elements_kids n s ps none r e = cc
elements_kids n s ps (more t none) r e = cc
elements_kids n s ps (more t (more u none)) r e = let a = and_parts _ _ e in last_two t u (absent_shaped t a.0) (absent_shaped u a.1)
elements_kids n s ps (more t (more u (more v ts))) r e = more_elements_kids n s ps (more t (more u (more v ts))) r e

listed_kids : (ps : List Piece) (ts : Nodes) (n : ℕ) → room_for ps ≡ n → Listed ts n → Kids ps ts
listed_kids ps ts n r l = record { shaped = l.0; few = rw r l.1 }

pub kids_are : (n : ℕ) (ps : List Piece) (ts : Nodes) → lists_something ps ≡ true → are_kids n (kid_pieces ps) ts ≡ true → Kids ps ts
unfolding is_shaped
kids_are n [] none r e = record { shaped = tt; few = omega arith }
kids_are n [] (more t ts) r e = cc
kids_are n (pi.Fixed s ∷ ps) ts r e = let i = kids_are n ps ts r e in record { shaped = i.shaped; few = i.few }
kids_are n (pi.Own o ∷ ps) ts r e = let i = kids_are n ps ts r e in record { shaped = i.shaped; few = i.few }
kids_are n (pi.Kid s ∷ ps) none r e = cc
kids_are n (pi.Kid s ∷ ps) (more t ts) r e =
    let a = and_parts _ _ e in single (pi.Kid s) ps t ts refl (sort_in n s, a.0) (kids_are n ps ts r a.1)
kids_are n (pi.Optional s ∷ ps) none r e = cc
kids_are n (pi.Optional s ∷ ps) (more t ts) r e =
    let a = and_parts _ _ e in single (pi.Optional s) ps t ts refl (maybe s t a.0) (kids_are n ps ts r a.1)
kids_are n (pi.Led c s ∷ ps) none r e = cc
kids_are n (pi.Led c s ∷ ps) (more t ts) r e =
    let a = and_parts _ _ e in single (pi.Led c s) ps t ts refl (maybe s t a.0) (kids_are n ps ts r a.1)
kids_are n (pi.Followed s c ∷ ps) none r e = cc
kids_are n (pi.Followed s c ∷ ps) (more t ts) r e =
    let a = and_parts _ _ e in single (pi.Followed s c) ps t ts refl (maybe s t a.0) (kids_are n ps ts r a.1)
kids_are n (pi.Value s ∷ ps) none r e = cc
kids_are n (pi.Value s ∷ ps) (more t ts) r e =
    let a = and_parts _ _ e in single (pi.Value s) ps t ts refl (maybe s t a.0) (kids_are n ps ts r a.1)
kids_are n (pi.Each s ∷ ps) ts r e = listed_kids (pi.Each s ∷ ps) ts 0 refl (each_kids n s (kid_pieces ps) ts r e)
kids_are n (pi.EachLed c s ∷ ps) ts r e = listed_kids (pi.EachLed c s ∷ ps) ts 0 refl (each_led_kids n c s (kid_pieces ps) ts r e)
kids_are n (pi.EachFollowed s c ∷ ps) ts r e =
    listed_kids (pi.EachFollowed s c ∷ ps) ts 0 refl (each_followed_kids n s c (kid_pieces ps) ts r e)
kids_are n (pi.More s ∷ ps) ts r e = listed_kids (pi.More s ∷ ps) ts 1 refl (more_kids n s (kid_pieces ps) ts r e)
kids_are n (pi.List s ∷ ps) ts r e = listed_kids (pi.List s ∷ ps) ts 1 refl (list_kids n s (kid_pieces ps) ts r e)
kids_are n (pi.Elements s ∷ ps) ts r e = listed_kids (pi.Elements s ∷ ps) ts 2 refl (elements_kids n s (kid_pieces ps) ts r e)
kids_are n (pi.MoreElements s ∷ ps) ts r e = listed_kids (pi.MoreElements s ∷ ps) ts 2 refl (more_elements_kids n s (kid_pieces ps) ts r e)

-- the forms list something
forms_list : (k : Kind) → lists_something (form_of k) ≡ true
forms_list ki.None = refl
forms_list _ = refl

-- the kids of a shaped tree
pub kids_of_shaped : (s : Sort) (h : Head) (ts : Nodes) → is_shaped s (branch h ts) ≡ true → Kids (form_of h.kind) ts
kids_of_shaped s h ts e = kids_are (level h.kind h.text) (form_of h.kind) ts (forms_list h.kind) (shaped_kids s h ts e)
