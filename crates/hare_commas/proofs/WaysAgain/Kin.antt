-- A tree, and the same with commas behind the last items of lists.
use Rattle.std.proofs.Common.{◌≡◌, List, [], ◌∷◌, ◌⊎◌, inl, inr, Bool, true, false, drop, refl, ap, ◌∙◌, if◌then◌else◌}
use Rattle.std.specs.Prelude.{◌||◌}
use Rattle.hare_tree.specs.declared.kind.Kind.TheVariants as ki
use Rattle.hare_tree.specs.declared.form.Sign.{Sign}
use Rattle.hare_tree.specs.declared.form.Piece.{Piece}
use Rattle.hare_tree.specs.declared.form.Piece.TheVariants as pi
use Rattle.hare_tree.specs.Node.{Head, Node, Nodes, branch, none, more, head}
use Rattle.hare_tree.specs.Forms.{form_of}
use Rattle.hare_tree.specs.Spell.{left_behind}
use Rattle.hare_ways.specs.Breaks.{Item, is_list, opening, is_fixed, kids_behind, is_comma, ends_in_comma, wants_behind, wants_comma}
use Rattle.hare_ways.specs.Parts.{item_of, items_of}

-- ---- a comma in the place of nothing

abbrev pub comma_head : Head → Head
comma_head h = record { kind = ki.TrailingComma; place = h.place; text = h.text; number = h.number; suffix = h.suffix }

-- nothing stands in the place of a kid
abbrev pub IsNothing : Node → Type 0
IsNothing (branch h none) = h.kind ≡ ki.None
IsNothing (branch h (more t ts)) = ⊥

abbrev pub comma_for : Node → Node
comma_for (branch h ts) = branch (comma_head h) none

-- ---- trees

abbrev mutual
  -- the second is the first, with commas added behind last items
  pub Adds : Node → Node → Type 0
  Adds (branch h ts) (branch k us) =
      (h ≡ k) × (Kin false ts us
      ⊎ ((is_list h.kind ≡ true) × (wants_comma false (kids_behind (opening h.kind) (form_of h.kind) (items_of ts)) ≡ true) ×
      Kin true ts us))

  -- the same of the kids of a form, where a comma is added behind the last of them or not
  pub Kin : Bool → Nodes → Nodes → Type 0
  Kin e none none = e ≡ false
  Kin e none (more u us) = ⊥
  Kin e (more t ts) none = ⊥
  Kin e (more t ts) (more u us) =
      ((item_of u ≡ item_of t) × Adds t u × Kin e ts us)
      ⊎ ((e ≡ true) × IsNothing t × (ts ≡ none) × (us ≡ none) × (u ≡ comma_for t))

mutual
  pub adds-same : (t : Node) → Adds t t
  adds-same (branch h ts) = (refl, inl (kin-same ts))

  pub kin-same : (ts : Nodes) → Kin false ts ts
  kin-same none = refl
  kin-same (more t ts) = inl (refl, adds-same t, kin-same ts)

-- ---- items

true-false : {A : Type 0} → false ≡ true → A
true-false h = cc

pub kin-items : (ts us : Nodes) → Kin false ts us → items_of us ≡ items_of ts
kin-items none none h = refl
kin-items none (more u us) h = absurd h
kin-items (more t ts) none h = absurd h
kin-items (more t ts) (more u us) (inl h) = λ i. h.0 i ∷ kin-items ts us h.2 i
kin-items (more t ts) (more u us) (inr h) = true-false h.0

-- the same items, with a comma in the place of nothing at their end
abbrev pub Ended : List Item → List Item → Type 0
Ended [] [] = ⊥
Ended [] (u ∷ us) = ⊥
Ended (t ∷ ts) [] = ⊥
Ended (t ∷ ts) (u ∷ us) = ((u ≡ t) × Ended ts us) ⊎ ((t.kind ≡ ki.None) × (u.kind ≡ ki.TrailingComma) × (ts ≡ []) × (us ≡ []))

leaf-kind : (t : Node) → IsNothing t → (head t).kind ≡ ki.None
leaf-kind (branch h none) e = e
leaf-kind (branch h (more t ts)) e = absurd e

comma-kind : (t : Node) → (head (comma_for t)).kind ≡ ki.TrailingComma
comma-kind (branch h ts) = refl

true-false' : {A : Type 0} → true ≡ false → A
true-false' h = cc

or-right : (x y : Bool) → y ≡ true → (x || y) ≡ true
or-right true y h = refl
or-right false y h = h

pub kin-ended : (ts us : Nodes) → Kin true ts us → Ended (items_of ts) (items_of us)
kin-ended none none h = true-false' h
kin-ended none (more u us) h = absurd h
kin-ended (more t ts) none h = absurd h
kin-ended (more t ts) (more u us) (inl h) = inl (h.0, kin-ended ts us h.2)
kin-ended (more t ts) (more u us) (inr h) =
    inr (leaf-kind t h.1, ap (λ v. (head v).kind) h.4 ∙ comma-kind t, ap items_of h.2, ap items_of h.3)

-- behind a sign the items end alike
rest-ended : (ts us : List Item) → Ended ts us → Ended (drop 1 ts) (drop 1 us) ⊎ (drop 1 ts ≡ [])
rest-ended [] [] h = absurd h
rest-ended [] (u ∷ us) h = absurd h
rest-ended (t ∷ ts) [] h = absurd h
rest-ended (t ∷ ts) (u ∷ us) (inl h) = inl h.1
rest-ended (t ∷ ts) (u ∷ us) (inr h) = inr h.2

left-ended : (p : Piece) (ts us : List Item) → Ended ts us → Ended (left_behind p ts) (left_behind p us) ⊎ (left_behind p ts ≡ [])
left-ended (pi.Fixed s) ts us h = inl h
left-ended (pi.Own o) ts us h = inl h
left-ended (pi.Kid s) ts us h = rest-ended ts us h
left-ended (pi.Optional s) ts us h = rest-ended ts us h
left-ended (pi.Led c s) ts us h = rest-ended ts us h
left-ended (pi.Followed s c) ts us h = rest-ended ts us h
left-ended (pi.Value s) ts us h = rest-ended ts us h
left-ended (pi.Each s) ts us h = inr refl
left-ended (pi.EachLed c s) ts us h = inr refl
left-ended (pi.EachFollowed s c) ts us h = inr refl
left-ended (pi.More s) ts us h = inr refl
left-ended (pi.List s) ts us h = inr refl
left-ended (pi.Elements s) ts us h = inr refl
left-ended (pi.MoreElements s) ts us h = inr refl

left-nil : (p : Piece) → left_behind {A = Item} p [] ≡ []
left-nil (pi.Fixed s) = refl
left-nil (pi.Own o) = refl
left-nil (pi.Kid s) = refl
left-nil (pi.Optional s) = refl
left-nil (pi.Led c s) = refl
left-nil (pi.Followed s c) = refl
left-nil (pi.Value s) = refl
left-nil (pi.Each s) = refl
left-nil (pi.EachLed c s) = refl
left-nil (pi.EachFollowed s c) = refl
left-nil (pi.More s) = refl
left-nil (pi.List s) = refl
left-nil (pi.Elements s) = refl
left-nil (pi.MoreElements s) = refl

if-nil : (x : Bool) (a b : List Item) → a ≡ [] → b ≡ [] → (if x then a else b) ≡ []
if-nil true a b p q = p
if-nil false a b p q = q

kids-nil : (s : Sign) (ps : List Piece) → kids_behind {A = Item} s ps [] ≡ []
kids-nil s [] = refl
kids-nil s (p ∷ ps) = if-nil (is_fixed s p) [] _ refl (ap (kids_behind s ps) (left-nil p) ∙ kids-nil s ps)

if-ended : (x : Bool) (a b c d : List Item) → Ended a b → Ended c d ⊎ (c ≡ [])
    → Ended (if x then a else c) (if x then b else d) ⊎ ((if x then a else c) ≡ [])
if-ended true a b c d p q = inl p
if-ended false a b c d p q = q

behind-left : (s : Sign) (ps : List Piece) (ts us : List Item)
    → (Ended ts us → Ended (kids_behind s ps ts) (kids_behind s ps us) ⊎ (kids_behind s ps ts ≡ []))
    → Ended ts us ⊎ (ts ≡ []) → Ended (kids_behind s ps ts) (kids_behind s ps us) ⊎ (kids_behind s ps ts ≡ [])
behind-left s ps ts us f (inl h) = f h
behind-left s ps ts us f (inr e) = inr (ap (kids_behind s ps) e ∙ kids-nil s ps)

pub behind-ended : (s : Sign) (ps : List Piece) (ts us : List Item) → Ended ts us
    → Ended (kids_behind s ps ts) (kids_behind s ps us) ⊎ (kids_behind s ps ts ≡ [])
behind-ended s [] ts us h = inl h
behind-ended s (p ∷ ps) ts us h =
    if-ended (is_fixed s p) ts us (kids_behind s ps (left_behind p ts)) (kids_behind s ps (left_behind p us)) h
    (behind-left s ps (left_behind p ts) (left_behind p us) (behind-ended s ps (left_behind p ts) (left_behind p us))
    (left-ended p ts us h))

pub ended-comma : (ts us : List Item) → Ended ts us → ends_in_comma us ≡ true
ended-comma [] [] h = absurd h
ended-comma [] (u ∷ us) h = absurd h
ended-comma (t ∷ ts) [] h = absurd h
ended-comma (t ∷ ts) (u ∷ us) (inl h) = or-right (is_comma u.kind) (ends_in_comma us) (ended-comma ts us h.1)
ended-comma (t ∷ ts) (u ∷ us) (inr h) = ap (λ k. is_comma k || ends_in_comma us) h.1

pub ended-wants : (ts us : List Item) (w : Bool) → Ended ts us → wants_comma w us ≡ false
ended-wants [] [] w h = absurd h
ended-wants [] (u ∷ us) w h = absurd h
ended-wants (t ∷ ts) [] w h = absurd h
ended-wants (t ∷ ts) (u ∷ us) w (inl h) = ended-wants ts us (wants_behind u.kind w u.ends) h.1
ended-wants (t ∷ ts) (u ∷ us) w (inr h) = ap (wants_comma (wants_behind u.kind w u.ends)) h.3 ∙ ap (λ k. wants_behind k w u.ends) h.1
