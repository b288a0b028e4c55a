-- Facts on trees that are shaped and low, by their kids and the pieces of their form.
use Rattle.std.proofs.Common.{◌≡◌, ℕ, zero, suc, ◌+◌, ◌-◌, ◌<◌, ◌≤◌, List, [], ◌∷◌, Bool, true, false, length, Some, None, refl, ap, sym, ◌∙◌, arith, if◌then◌else◌}
use Rattle.std.specs.Prelude.{not, Option, option_map, slice_get, ◌&&◌, ◌||◌, nat_le, max}
use Rattle.std.proofs.lemmas.Bool.{leb-true, le-leb, and_parts}
use Rattle.hare_tree.specs.declared.kind.Kind.{Kind}
use Rattle.hare_tree.specs.declared.kind.Kind.TheVariants as ki
use Rattle.hare_tree.specs.declared.form.Sign.{Sign}
use Rattle.hare_tree.specs.declared.form.Sign.TheVariants as si
use Rattle.hare_tree.specs.declared.form.Sort.{Sort}
use Rattle.hare_tree.specs.declared.form.Own.{Own}
use Rattle.hare_tree.specs.declared.form.Piece.{Piece}
use Rattle.hare_tree.specs.declared.form.Piece.TheVariants as pi
use Rattle.hare_tree.specs.declared.edge.Ends.{Ends}
use Rattle.hare_tree.specs.declared.shape.At.{At}
use Rattle.hare_tree.specs.declared.shape.Step.{Step}
use Rattle.hare_tree.specs.declared.shape.Step.TheVariants as st
use Rattle.hare_tree.specs.Node.{Head, Node, Nodes, branch, none, more, head, kids_of, nodes_of}
use Rattle.hare_tree.specs.Signs.{is_sign}
use Rattle.hare_tree.specs.Forms.{form_of}
use Rattle.hare_tree.specs.Levels.{level, sort_in, admits}
use Rattle.hare_tree.specs.Shape.{is_shaped, are_kids, kid_pieces, kids_end, items_end, edges, ends_before, behind_kid, behind_item, stops, form_stops, kid_or, is_none, is_absent, is_leaf, is_none_or_comma, is_none_or_dots, is_own, own_of, yields_label, is_empty}
use Rattle.hare_tree.specs.Depth.{height, greatest_height, counted}
use Rattle.hare_tree.specs.Judged as spec
use Rattle.hare_tree.specs.Judged.{nodes_from, is_low, ends_of, both, edge_of, judged_tree, judged_first, judged_optional, judged_followed, are_low, form_ends, judged, judged_behind}
use Rattle.hare_tree.proofs.TreeKids.KidsFrom.{nodes_from-get, nodes_from-past, nodes_from-one}
use Rattle.hare_tree.proofs.TreeKids.Behind.{tail_of, nodes_from-tail}
use Rattle.hare_tree.proofs.Low.Limits.{nat_le-max, nat_le-room, same_test}

-- ---- answers that may be none

pub some-if : {A : Type 0} (b : Bool) (x : A) → None ≡ (if b then Some x else None) → b ≡ false
some-if true x e = absurd cc
some-if false x e = refl

pub some-is : {A : Type 0} (b : Bool) (x y : A) → Some y ≡ (if b then Some x else None) → (b ≡ true) × (y ≡ x)
some-is true x y e = (refl, cc)
some-is false x y e = absurd cc

if-and : {A : Type 0} (a b : Bool) (x y : A) → (if a && b then x else y) ≡ (if a then (if b then x else y) else y)
if-and true b x y = refl
if-and false b x y = refl

abbrev pub is_some_of : {A : Type 0} → Option A → Bool
is_some_of None = false
is_some_of (Some x) = true

some-of : {A : Type 0} (b : Bool) (x : A) → is_some_of (if b then Some x else None) ≡ b
some-of true x = refl
some-of false x = refl

-- ---- the kids of a tree that is open

pub kids-past : (h : Head) (ks : List Node) (t : Node) (i : ℕ) → branch h (nodes_of ks) ≡ t → length ks ≤ i →
    nodes_from i (kids_of t) ≡ none
kids-past h ks t i e le = rw (← e) (nodes_from-past ks i le)

pub kids-get : (h : Head) (ks : List Node) (t : Node) (i : ℕ) (x : Node) → branch h (nodes_of ks) ≡ t → slice_get ks i ≡ Some x →
    nodes_from i (kids_of t) ≡ more x (nodes_from (i + 1) (kids_of t))
kids-get h ks t i x e g = rw (← e) (nodes_from-get ks i x g)

-- ---- single kids

pub first-refused : (room : ℕ) (s : Sort) (c : Option Sign) (i : ℕ) (x : Node) (us xs : Nodes) → xs ≡ more x us →
    None ≡ judged_tree room s x → judged_first room s c i xs ≡ None
first-refused room s c i x us xs e n = let low : is_low room s x ≡ false = some-if _ (ends_of x) n in rw (e, low) refl

pub first-answer : (room : ℕ) (s : Sort) (c g : Option Sign) (i : ℕ) (x : Node) (us xs : Nodes) (ends : Ends) (r : Bool) → xs ≡ more x us →
    Some ends ≡ judged_tree room s x → g ≡ c →
    ((k : Kind) → r ≡ ends_before g record { kind = k; before_else = ends.before_else; before_comma = ends.before_comma }) →
    judged_first room s c i xs ≡ (if r then Some record { kid = i + 1; ends = ends } else None)
first-answer room s c g i x us xs ends r e j gc f =
    let p = some-is (is_low room s x) (ends_of x) ends j in
    let h = rw (p.1, gc) at f (head x).kind in
    rw (e, p.0, p.1, h) refl

pub optional-there : (room : ℕ) (s : Sort) (c : Option Sign) (at : At) (x : Node) (us xs : Nodes) → xs ≡ more x us →
    is_none (head x).kind ≡ false → judged_optional room s c at xs ≡ judged_first room s c at.kid xs
optional-there room s c at x us xs e n = rw (e, n) refl

pub optional-absent : (room : ℕ) (s : Sort) (c : Option Sign) (at : At) (x : Node) (us xs : Nodes) (b : Bool) → xs ≡ more x us →
    is_none (head x).kind ≡ true → is_absent x ≡ b →
    judged_optional room s c at xs ≡ (if b then Some record { kid = at.kid + 1; ends = at.ends } else None)
optional-absent room s c at x us xs b e n a = rw (e, n, a) refl

-- ---- pieces

kid-bools : (A L E K D G : Bool) → ((A && K) && ((E && D) && (L && G))) ≡ (((A && L) && E) && (K && (D && G)))
kid-bools false L E K D G = refl
kid-bools true true true K D G = refl
kid-bools true true false true D G = refl
kid-bools true true false false D G = refl
kid-bools true false E false D G = refl
kid-bools true false false true D G = refl
kid-bools true false true true true G = refl
kid-bools true false true true false G = refl

behind-if : (room : ℕ) (h : Head) (ps : List Piece) (ts : Nodes) (b : Bool) (at : At) →
    judged_behind room h ps ts (option_map st.Next (if b then Some at else None)) ≡
    (if b then judged room h at.ends ps (nodes_from at.kid ts) else None)
behind-if room h ps ts true at = refl
behind-if room h ps ts false at = refl

nothing : {A : Type 0} (b : Bool) (n : Option A) → (if b then n else n) ≡ n
nothing true n = refl
nothing false n = refl

-- the kids behind the first are judged where it is low and ends
there : (room n : ℕ) (h : Head) (ends : Ends) (A L E : Bool) (hx : ℕ) (ps : List Piece) (us : Nodes) → L ≡ nat_le hx room →
    (if (A && L) && E then judged room h ends ps us else None) ≡
    (if (A && are_kids (level h.kind h.text) (kid_pieces ps) us) &&
    ((E && kids_end ps (edges us)) && nat_le (max hx (greatest_height us)) room) then Some (form_ends h ends ps us) else None)
there room n h ends A L E hx ps us l =
    let K = are_kids (level h.kind h.text) (kid_pieces ps) us in
    let D = kids_end ps (edges us) in
    let G = nat_le (greatest_height us) room in
    let m : nat_le (max hx (greatest_height us)) room ≡ (L && G) = nat_le-max hx (greatest_height us) room ∙ ap (λ b. b && G) (sym l) in
    rw (m, kid-bools A L E K D G) (sym (if-and ((A && L) && E) (K && (D && G)) (Some (form_ends h ends ps us)) None))

pub piece-kid : (room : ℕ) (h : Head) (e : Ends) (s : Sort) (ps : List Piece) (i : ℕ) (ts xs : Nodes) → nodes_from (i + 1) ts ≡ tail_of xs →
    judged_behind room h ps ts (option_map st.Next
    (judged_first room (sort_in (level h.kind h.text) s) (behind_kid ps (edges (tail_of xs))) i xs)) ≡ judged room h e (pi.Kid s ∷ ps) xs
unfolding is_shaped stops height
piece-kid room h e s ps i ts none t = refl
piece-kid room h e s ps i ts (more x us) t =
    let s' = sort_in (level h.kind h.text) s in
    let E = ends_before (behind_kid ps (edges us)) (edge_of x) in
    behind-if room h ps ts (is_low room s' x && E) record { kid = i + 1; ends = ends_of x }
    ∙ (ap (λ us. if is_low room s' x && E then judged room h (ends_of x) ps us else None) t
    ∙ there room 0 h (ends_of x) (is_shaped s' x) (nat_le (height x) room) E (height x) ps us refl)

ends-both : (c : Option Sign) (k : Kind) → ends_before c record { kind = k; before_else = true; before_comma = true } ≡ true
ends-both None k = refl
ends-both (Some si.Else) k = refl
ends-both (Some si.Comma) k = refl
ends-both (Some _) k = refl

-- ---- leaves

leaf-is : (p : Kind → Bool) (t : Node) → is_leaf p t ≡ true → (h : Head) × (t ≡ branch h none) × (p h.kind ≡ true)
leaf-is p (branch h none) e = (h, refl, (and_parts _ _ e).0)
leaf-is p (branch h (more t ts)) e = absurd cc

uncounted : (k : Kind) → is_none k ≡ true → counted k ≡ 0
uncounted ki.None e = refl
uncounted _ e = absurd cc

uncounted-comma : (k : Kind) → is_none_or_comma k ≡ true → counted k ≡ 0
uncounted-comma ki.None e = refl
uncounted-comma ki.TrailingComma e = refl
uncounted-comma _ e = absurd cc

uncounted-dots : (k : Kind) → is_none_or_dots k ≡ true → counted k ≡ 0
uncounted-dots ki.None e = refl
uncounted-dots ki.Dots e = refl
uncounted-dots _ e = absurd cc

stops-none : (c : Sign) (h : Head) (k : Kind) → is_none k ≡ true → form_stops c h true (form_of k) [] ≡ true
stops-none c h ki.None e = refl
stops-none c h _ e = absurd cc

stops-dots : (c : Sign) (h : Head) (k : Kind) → is_none_or_dots k ≡ true → form_stops c h true (form_of k) [] ≡ true
stops-dots c h ki.None e = refl
stops-dots c h ki.Dots e = refl
stops-dots c h _ e = absurd cc

absent-height : (t : Node) → is_absent t ≡ true → height t ≡ 0
unfolding height
absent-height t e = let l = leaf-is is_none t e in rw (l.1) (omega (arith, uncounted l.0.kind l.2))

comma-height : (t : Node) → is_leaf is_none_or_comma t ≡ true → height t ≡ 0
unfolding height
comma-height t e = let l = leaf-is is_none_or_comma t e in rw (l.1) (omega (arith, uncounted-comma l.0.kind l.2))

dots-height : (t : Node) → is_leaf is_none_or_dots t ≡ true → height t ≡ 0
unfolding height
dots-height t e = let l = leaf-is is_none_or_dots t e in rw (l.1) (omega (arith, uncounted-dots l.0.kind l.2))

absent-none : (t : Node) → is_absent t ≡ true → is_none (head t).kind ≡ true
absent-none t e = let l = leaf-is is_none t e in rw (l.1) (l.2)

absent-stops : (c : Sign) (t : Node) → is_absent t ≡ true → stops c t ≡ true
unfolding stops
absent-stops c t e = let l = leaf-is is_none t e in rw (l.1) (stops-none c l.0 l.0.kind l.2)

dots-stops : (c : Sign) (t : Node) → is_leaf is_none_or_dots t ≡ true → stops c t ≡ true
unfolding stops
dots-stops c t e = let l = leaf-is is_none_or_dots t e in rw (l.1) (stops-dots c l.0 l.0.kind l.2)

absent-ends : (c : Option Sign) (t : Node) → is_absent t ≡ true → ends_before c (edge_of t) ≡ true
absent-ends c t e = rw (absent-stops si.Else t e, absent-stops si.Comma t e) (ends-both c (head t).kind)

dots-ends : (c : Option Sign) (t : Node) → is_leaf is_none_or_dots t ≡ true → ends_before c (edge_of t) ≡ true
dots-ends c t e = rw (dots-stops si.Else t e, dots-stops si.Comma t e) (ends-both c (head t).kind)

refused : (a : Bool) → ((((a && false) && true) && true) && true) ≡ false
refused true = refl
refused false = refl

refused-kids : (a b : Bool) → ((((a && b) && false) && true) && true) ≡ false
refused-kids true true = refl
refused-kids true false = refl
refused-kids false b = refl

-- what is absent is of no sort unless it says nothing else
no-own : (k : Kind) → is_none k ≡ true → k ≡ ki.None
no-own ki.None e = refl
no-own _ e = absurd cc

none-shaped : (s : Sort) (t : Node) → is_none (head t).kind ≡ true → is_absent t ≡ false → is_shaped s t ≡ false
unfolding is_shaped
none-shaped s (branch h none) n a =
    let k = no-own h.kind n in
    let own : is_own (own_of (form_of ki.None)) h ≡ false = rw n at a in
    rw (k, own) (refused (admits s ki.None h.text))
none-shaped s (branch h (more t ts)) n a =
    let k = no-own h.kind n in
    rw k (refused-kids (admits s ki.None h.text) (is_own (own_of (form_of ki.None)) h))

-- ---- kids that may be absent

not-absent : (t : Node) → is_none (head t).kind ≡ false → is_absent t ≡ false
not-absent (branch h none) n = rw n refl
not-absent (branch h (more t ts)) n = refl

or-true : (b : Bool) → (b || true) ≡ true
or-true true = refl
or-true false = refl

or-false : (b : Bool) → (b || false) ≡ b
or-false true = refl
or-false false = refl

pub and_true' : (b : Bool) → (b && true) ≡ b
and_true' true = refl
and_true' false = refl

and-false : (b : Bool) → (b && false) ≡ false
and-false true = refl
and-false false = refl

and-swap : (b : Bool) → (b && true) ≡ (true && b)
and-swap true = refl
and-swap false = refl

yielded : {A : Type 0} (b y : Bool) (x : A) → (if b && y then Some x else None) ≡ (if y then (if b then Some x else None) else None)
yielded true true x = refl
yielded true false x = refl
yielded false true x = refl
yielded false false x = refl

other : {A : Type 0} (a b c d e : Bool) (x : A) → (if ((((a && false) && b) && c) && d) && e then Some x else None) ≡ None
other true b c d e x = refl
other false b c d e x = refl

by-kind : (b : Bool) {A : Type 0} → (b ≡ true → A) → (b ≡ false → A) → A
by-kind true f g = f refl
by-kind false f g = g refl

-- what a kid that may be absent leaves to judge
optional_judged : ℕ → Head → Ends → Sort → Option Sign → List Piece → Nodes → Option Ends
optional_judged room h before s c ps none = None
optional_judged room h before s c ps (more x us) =
    if ((is_absent x || is_shaped s x) && are_kids (level h.kind h.text) (kid_pieces ps) us) &&
    ((ends_before c (edge_of x) && kids_end ps (edges us)) && nat_le (max (height x) (greatest_height us)) room)
    then Some (form_ends h record {
      before_else = kid_or before.before_else ((head x).kind, stops si.Else x);
      before_comma =
          kid_or before.before_comma ((head x).kind, stops si.Comma x);
    } ps us)
    else None

optional-core : (room : ℕ) (h : Head) (s : Sort) (c : Option Sign) (at : At) (ps : List Piece) (ts xs : Nodes) →
    nodes_from (at.kid + 1) ts ≡ tail_of xs → judged_behind room h ps ts (option_map st.Next (judged_optional room s c at xs)) ≡
    optional_judged room h at.ends s c ps xs
unfolding optional_judged
optional-core room h s c at ps ts none t = refl
optional-core room h s c at ps ts (more x us) t =
    by-kind (is_none (head x).kind)
    (λ n. by-kind (is_absent x)
    (λ a. rw (n, a, absent-ends c x a, absent-height x a, t)
    (there room 0 h at.ends true true true 0 ps us (sym (le-leb 0 room (omega arith)))))
    (λ a. rw (n, a, none-shaped s x n a) refl))
    (λ n. let a : is_absent x ≡ false = not-absent x n in
    let E = ends_before c (edge_of x) in
    rw (n, a)
    (behind-if room h ps ts (is_low room s x && E) record { kid = at.kid + 1; ends = ends_of x }
    ∙ (ap (λ us. if is_low room s x && E then judged room h (ends_of x) ps us else None) t
    ∙ there room 0 h (ends_of x) (is_shaped s x) (nat_le (height x) room) E (height x) ps us refl)))

pub piece-optional : (room : ℕ) (h : Head) (s : Sort) (at : At) (ps : List Piece) (ts xs : Nodes) →
    nodes_from (at.kid + 1) ts ≡ tail_of xs →
    judged_behind room h ps ts (option_map st.Next (judged_optional room s (behind_kid ps (edges (tail_of xs))) at xs)) ≡ judged room h
    at.ends (pi.Optional s ∷ ps) xs
unfolding is_shaped stops height optional_judged
piece-optional room h s at ps ts none t = optional-core room h s (behind_kid ps (edges none)) at ps ts none t
piece-optional room h s at ps ts (more x us) t = optional-core room h s (behind_kid ps (edges us)) at ps ts (more x us) t

pub piece-led : (room : ℕ) (h : Head) (a : Sign) (s : Sort) (e : Ends) (at : At) (ps : List Piece) (ts xs : Nodes) →
    nodes_from (at.kid + 1) ts ≡ tail_of xs → at.ends.before_else ≡ (e.before_else && not (is_sign a si.Else)) →
    at.ends.before_comma ≡ (e.before_comma && not (is_sign a si.Comma)) →
    judged_behind room h ps ts (option_map st.Next (judged_optional room s (behind_kid ps (edges (tail_of xs))) at xs)) ≡ judged room h e
    (pi.Led a s ∷ ps) xs
unfolding is_shaped stops height optional_judged
piece-led room h a s e at ps ts none t e1 e2 = optional-core room h s (behind_kid ps (edges none)) at ps ts none t
piece-led room h a s e at ps ts (more x us) t e1 e2 =
    rw (← e1, ← e2) (optional-core room h s (behind_kid ps (edges us)) at ps ts (more x us) t)

pub piece-value : (room : ℕ) (h : Head) (s : Sort) (e : Ends) (at : At) (ps : List Piece) (ts xs : Nodes) →
    nodes_from (at.kid + 1) ts ≡ tail_of xs → at.ends.before_else ≡ true → at.ends.before_comma ≡ is_empty h.text →
    judged_behind room h ps ts (option_map st.Next (judged_optional room s (behind_kid ps (edges (tail_of xs))) at xs)) ≡ judged room h e
    (pi.Value s ∷ ps) xs
unfolding is_shaped stops height optional_judged
piece-value room h s e at ps ts none t e1 e2 = optional-core room h s (behind_kid ps (edges none)) at ps ts none t
piece-value room h s e at ps ts (more x us) t e1 e2 =
    let a : at.ends.before_else ≡ (is_empty h.text || not (is_sign si.Comma si.Else)) = e1 ∙ sym (or-true (is_empty h.text)) in
    let b : at.ends.before_comma ≡ (is_empty h.text || not (is_sign si.Comma si.Comma)) = e2 ∙ sym (or-false (is_empty h.text)) in
    rw (← a, ← b) (optional-core room h s (behind_kid ps (edges us)) at ps ts (more x us) t)

pub piece-followed : (room : ℕ) (h : Head) (a : Sign) (s : Sort) (at : At) (ps : List Piece) (ts xs : Nodes) →
    nodes_from (at.kid + 1) ts ≡ tail_of xs → judged_behind room h ps ts (option_map st.Next (judged_followed room s at xs)) ≡ judged room h
    at.ends (pi.Followed s a ∷ ps) xs
unfolding is_shaped stops height
piece-followed room h a s at ps ts none t = refl
piece-followed room h a s at ps ts (more x us) t =
    by-kind (is_none (head x).kind)
    (λ n. by-kind (is_absent x)
    (λ a. rw (n, a, absent-height x a, t) (there room 0 h at.ends true true true 0 ps us (sym (le-leb 0 room (omega arith)))))
    (λ a. rw (n, a, none-shaped s x n a) refl))
    (λ n. let a : is_absent x ≡ false = not-absent x n in
    rw (n, a)
    (behind-if room h ps ts (is_low room s x) record { kid = at.kid + 1; ends = both }
    ∙ (ap (λ us. if is_low room s x then judged room h both ps us else None) t
    ∙ (ap (λ b. if b then judged room h both ps us else None) (sym (and_true' (is_low room s x)))
    ∙ there room 0 h both (is_shaped s x) (nat_le (height x) room) true (height x) ps us refl))))

-- ---- lists

each-bools : (A L K G : Bool) → ((A && K) && (L && G)) ≡ ((A && L) && (K && G))
each-bools true L true G = refl
each-bools true true false G = refl
each-bools true false false G = refl
each-bools false L K G = refl

pub each-is : (room n : ℕ) (s : Sort) (ps : List Piece) (ts : Nodes) → are_low room n (pi.Each s ∷ ps) ts ≡ spec.all_low room s ts
unfolding is_shaped height
each-is room n s ps none = le-leb 0 room (omega arith)
each-is room n s ps (more t us) =
    ap (λ b. (is_shaped s t && are_kids n (pi.Each s ∷ kid_pieces ps) us) && b) (nat_le-max (height t) (greatest_height us) room)
    ∙ (each-bools (is_shaped s t) (nat_le (height t) room) (are_kids n (pi.Each s ∷ kid_pieces ps) us) (nat_le (greatest_height us) room) ∙
    ap (λ b. is_low room s t && b) (each-is room n s ps us))

pub each_led-is : (room n : ℕ) (c : Sign) (s : Sort) (ps : List Piece) (ts : Nodes) →
    are_low room n (pi.EachLed c s ∷ ps) ts ≡ spec.all_low room s ts
unfolding is_shaped height
each_led-is room n c s ps none = le-leb 0 room (omega arith)
each_led-is room n c s ps (more t us) =
    ap (λ b. (is_shaped s t && are_kids n (pi.EachLed c s ∷ kid_pieces ps) us) && b) (nat_le-max (height t) (greatest_height us) room)
    ∙ (each-bools (is_shaped s t) (nat_le (height t) room) (are_kids n (pi.EachLed c s ∷ kid_pieces ps) us)
    (nat_le (greatest_height us) room) ∙ ap (λ b. is_low room s t && b) (each_led-is room n c s ps us))

pub each_followed-is : (room n : ℕ) (s : Sort) (c : Sign) (ps : List Piece) (ts : Nodes) →
    are_low room n (pi.EachFollowed s c ∷ ps) ts ≡ spec.all_low room s ts
unfolding is_shaped height
each_followed-is room n s c ps none = le-leb 0 room (omega arith)
each_followed-is room n s c ps (more t us) =
    ap (λ b. (is_shaped s t && are_kids n (pi.EachFollowed s c ∷ kid_pieces ps) us) && b) (nat_le-max (height t) (greatest_height us) room)
    ∙ (each-bools (is_shaped s t) (nat_le (height t) room) (are_kids n (pi.EachFollowed s c ∷ kid_pieces ps) us)
    (nat_le (greatest_height us) room) ∙ ap (λ b. is_low room s t && b) (each_followed-is room n s c ps us))

low-zero : (a b room : ℕ) → a ≡ 0 → b ≡ 0 → nat_le (max a b) room ≡ true
low-zero a b room e f = le-leb _ _ (omega arith)

pub more-is : (room n : ℕ) (s : Sort) (ps : List Piece) (ts : Nodes) → are_low room n (pi.More s ∷ ps) ts ≡ spec.more_low room s ts
unfolding is_shaped stops height
more-is room n s ps none = refl
more-is room n s ps (more t none) =
    by-kind (is_leaf is_none_or_comma t)
    (λ l. rw l (low-zero (height t) 0 room (comma-height t l) refl))
    (λ l. rw l refl)
more-is room n s ps (more t (more u us)) =
    let K = are_kids n (pi.More s ∷ kid_pieces ps) (more u us) in
    let D = items_end (edges (more u us)) in
    let E = ends_before (behind_item (edges (more u us))) (edge_of t) in
    ap (λ b. (is_shaped s t && K) && ((E && D) && b)) (nat_le-max (height t) (greatest_height (more u us)) room)
    ∙ (kid-bools (is_shaped s t) (nat_le (height t) room) E K D (nat_le (greatest_height (more u us)) room)
    ∙ ap (λ b. (is_low room s t && E) && b) (more-is room n s ps (more u us)))

pub list-is : (room n : ℕ) (s : Sort) (ps : List Piece) (ts : Nodes) → are_low room n (pi.List s ∷ ps) ts ≡ spec.list_low room s ts
unfolding is_shaped stops height
list-is room n s ps none = refl
list-is room n s ps (more t none) =
    by-kind (is_absent t)
    (λ l. rw l (low-zero (height t) 0 room (absent-height t l) refl))
    (λ l. rw l refl)
list-is room n s ps (more t (more u us)) = more-is room n s ps (more t (more u us))

pub more_elements-is : (room n : ℕ) (s : Sort) (ps : List Piece) (ts : Nodes) →
    are_low room n (pi.MoreElements s ∷ ps) ts ≡ spec.more_elements_low room s ts
unfolding is_shaped stops height
more_elements-is room n s ps none = refl
more_elements-is room n s ps (more t none) = refl
more_elements-is room n s ps (more t (more u none)) =
    by-kind (is_leaf is_none_or_dots t)
    (λ l. by-kind (is_leaf is_none_or_comma u)
    (λ m. rw (l, m, dots-ends (behind_item (edges (more u none))) t l)
    (low-zero (height t) (max (height u) 0) room (dots-height t l) (omega (arith, comma-height u m))))
    (λ m. rw (l, m) refl))
    (λ l. rw l refl)
more_elements-is room n s ps (more t (more u (more v us))) =
    let K = are_kids n (pi.MoreElements s ∷ kid_pieces ps) (more u (more v us)) in
    let D = items_end (edges (more u (more v us))) in
    let E = ends_before (behind_item (edges (more u (more v us)))) (edge_of t) in
    ap (λ b. (is_shaped s t && K) && ((E && D) && b)) (nat_le-max (height t) (greatest_height (more u (more v us))) room)
    ∙ (kid-bools (is_shaped s t) (nat_le (height t) room) E K D (nat_le (greatest_height (more u (more v us))) room)
    ∙ ap (λ b. (is_low room s t && E) && b) (more_elements-is room n s ps (more u (more v us))))

pub elements-is : (room n : ℕ) (s : Sort) (ps : List Piece) (ts : Nodes) → are_low room n (pi.Elements s ∷ ps) ts ≡ spec.elements_low room s
    ts
unfolding is_shaped stops height
elements-is room n s ps none = refl
elements-is room n s ps (more t none) = refl
elements-is room n s ps (more t (more u none)) =
    by-kind (is_absent t)
    (λ l. by-kind (is_absent u)
    (λ m. rw (l, m, absent-ends (behind_item (edges (more u none))) t l)
    (low-zero (height t) (max (height u) 0) room (absent-height t l) (omega (arith, absent-height u m))))
    (λ m. rw (l, m) refl))
    (λ l. rw l refl)
elements-is room n s ps (more t (more u (more v us))) = more_elements-is room n s ps (more t (more u (more v us)))

-- a piece that takes all kids
pub piece-last : (room : ℕ) (h : Head) (e : Ends) (p : Piece) (ps : List Piece) (xs ts : Nodes) (b : Bool) →
    are_low room (level h.kind h.text) (p ∷ ps) xs ≡ b → form_ends h e (p ∷ ps) xs ≡ both →
    judged_behind room h ps ts (if b then Some st.Last else None) ≡ judged room h e (p ∷ ps) xs
piece-last room h e p ps xs ts true l f = rw (l, f) refl
piece-last room h e p ps xs ts false l f = rw l refl

-- ---- trees

tree-bools : (K D L Y : Bool) → (((K && D) && Y) && L) ≡ ((K && (D && L)) && Y)
tree-bools true true true Y = and-swap Y
tree-bools true true false true = refl
tree-bools true true false false = refl
tree-bools true false L Y = refl
tree-bools false D L Y = refl

-- of the sort, with what its form asks for, and room for itself
pub tree-is : (room r : ℕ) (s : Sort) (h : Head) (ts : Nodes) (y : Bool) → admits s h.kind h.text ≡ true →
    is_own (own_of (form_of h.kind)) h ≡ true → counted h.kind + r ≡ room → yields_label h ts ≡ y →
    judged_tree room s (branch h ts) ≡ (if y then judged r h both (form_of h.kind) ts else None)
unfolding is_shaped stops height
tree-is room r s h ts y a o e l =
    let n = level h.kind h.text in
    let K = are_kids n (kid_pieces (form_of h.kind)) ts in
    let D = kids_end (form_of h.kind) (edges ts) in
    let L = nat_le (greatest_height ts) r in
    rw (a, o, l, nat_le-room (counted h.kind) (greatest_height ts) r room e, tree-bools K D L y)
    (yielded (K && (D && L)) y (form_ends h both (form_of h.kind) ts))

pub tree-refused : (room : ℕ) (s : Sort) (h : Head) (ts : Nodes) → admits s h.kind h.text ≡ false → judged_tree room s (branch h ts) ≡ None
unfolding is_shaped
tree-refused room s h ts a = rw a refl

pub tree-other : (room : ℕ) (s : Sort) (h : Head) (ts : Nodes) → is_own (own_of (form_of h.kind)) h ≡ false →
    judged_tree room s (branch h ts) ≡ None
unfolding is_shaped
tree-other room s h ts o = rw o (other (admits s h.kind h.text) _ _ _ _ _)

pub tree-full : (room : ℕ) (s : Sort) (h : Head) (ts : Nodes) → counted h.kind ≡ 1 → room ≡ 0 → judged_tree room s (branch h ts) ≡ None
unfolding height
tree-full room s h ts c e =
    let f : nat_le (counted h.kind + greatest_height ts) room ≡ false =
    same_test _ _ (λ t. let k : counted h.kind + greatest_height ts ≤ room = leb-true _ _ t in absurd (omega arith)) (λ t. absurd cc) in
    rw (f, and-false (is_shaped s (branch h ts))) refl

-- ---- kids of a list, one by one

pub all-step : (ks : List Node) (i room : ℕ) (s : Sort) → i < length ks → spec.all_low room s (nodes_from i (nodes_of ks)) ≡
    (spec.kid_low room s (nodes_from i (nodes_of ks)) && spec.all_low room s (nodes_from (i + 1) (nodes_of ks)))
all-step ks i room s lt = let g = nodes_from-one ks i lt in rw (g.1) refl

pub more-step : (ks : List Node) (i room : ℕ) (s : Sort) → i + 1 < length ks → spec.more_low room s (nodes_from i (nodes_of ks)) ≡
    (spec.item_low room s (nodes_from i (nodes_of ks)) && spec.more_low room s (nodes_from (i + 1) (nodes_of ks)))
more-step ks i room s lt =
    let g = nodes_from-one ks i (omega arith) in
    let k = nodes_from-one ks (i + 1) lt in
    rw (g.1, k.1) refl

pub more-end : (ks : List Node) (i room : ℕ) (s : Sort) → i + 1 ≡ length ks → spec.more_low room s (nodes_from i (nodes_of ks)) ≡
    spec.first_is is_none_or_comma (nodes_from i (nodes_of ks))
more-end ks i room s e =
    let g = nodes_from-one ks i (omega arith) in
    let k = nodes_from-past ks (i + 1) (omega arith) in
    rw (g.1, k) refl

pub elements-step : (ks : List Node) (i room : ℕ) (s : Sort) → i + 2 < length ks →
    spec.more_elements_low room s (nodes_from i (nodes_of ks)) ≡
    (spec.item_low room s (nodes_from i (nodes_of ks)) && spec.more_elements_low room s (nodes_from (i + 1) (nodes_of ks)))
elements-step ks i room s lt =
    let g = nodes_from-one ks i (omega arith) in
    let k = nodes_from-one ks (i + 1) (omega arith) in
    let l = nodes_from-one ks (i + 1 + 1) (omega arith) in
    rw (g.1, k.1, l.1) refl

pub elements-end : (ks : List Node) (i room : ℕ) (s : Sort) → i + 2 ≡ length ks → spec.more_elements_low room s (nodes_from i (nodes_of ks))
    ≡ (spec.first_is is_none_or_dots (nodes_from i (nodes_of ks)) && spec.first_is is_none_or_comma (nodes_from (i + 1) (nodes_of ks)))
elements-end ks i room s e =
    let g = nodes_from-one ks i (omega arith) in
    let k = nodes_from-one ks (i + 1) (omega arith) in
    let l = nodes_from-past ks (i + 1 + 1) (omega arith) in
    rw (g.1, k.1, l) refl

pub elements-few : (ks : List Node) (i room : ℕ) (s : Sort) → length ks - i < 2 → spec.more_elements_low room s (nodes_from i (nodes_of ks))
    ≡ false
elements-few [] zero room s e = refl
elements-few [] (suc i) room s e = refl
elements-few (t ∷ []) zero room s e = refl
elements-few (t ∷ u ∷ ts) zero room s e = absurd (omega arith)
elements-few (t ∷ ts) (suc i) room s e = elements-few ts i room s (omega arith)

pub list-one : (ks : List Node) (i room : ℕ) (s : Sort) → length ks - i ≡ 1 → spec.list_low room s (nodes_from i (nodes_of ks)) ≡
    spec.first_is is_none (nodes_from i (nodes_of ks))
list-one ks i room s e =
    let g = nodes_from-one ks i (omega arith) in
    let k = nodes_from-past ks (i + 1) (omega arith) in
    rw (g.1, k) refl

pub list-other : (ks : List Node) (i room : ℕ) (s : Sort) → (length ks - i ≡ 1 → ⊥) →
    spec.list_low room s (nodes_from i (nodes_of ks)) ≡ spec.more_low room s (nodes_from i (nodes_of ks))
list-other [] zero room s n = refl
list-other [] (suc i) room s n = refl
list-other (t ∷ []) zero room s n = absurd (n refl)
list-other (t ∷ u ∷ ts) zero room s n = refl
list-other (t ∷ ts) (suc i) room s n = list-other ts i room s (λ e. n (omega arith))

pub elements-two : (ks : List Node) (i room : ℕ) (s : Sort) → length ks - i ≡ 2 → spec.elements_low room s (nodes_from i (nodes_of ks)) ≡
    (spec.first_is is_none (nodes_from i (nodes_of ks)) && spec.first_is is_none (nodes_from (i + 1) (nodes_of ks)))
elements-two ks i room s e =
    let g = nodes_from-one ks i (omega arith) in
    let k = nodes_from-one ks (i + 1) (omega arith) in
    let l = nodes_from-past ks (i + 1 + 1) (omega arith) in
    rw (g.1, k.1, l) refl

pub elements-other : (ks : List Node) (i room : ℕ) (s : Sort) → (length ks - i ≡ 2 → ⊥) →
    spec.elements_low room s (nodes_from i (nodes_of ks)) ≡ spec.more_elements_low room s (nodes_from i (nodes_of ks))
elements-other [] zero room s n = refl
elements-other [] (suc i) room s n = refl
elements-other (t ∷ []) zero room s n = refl
elements-other (t ∷ u ∷ []) zero room s n = absurd (n refl)
elements-other (t ∷ u ∷ v ∷ ts) zero room s n = refl
elements-other (t ∷ ts) (suc i) room s n = elements-other ts i room s (λ e. n (omega arith))

pub item-refused : (room : ℕ) (s : Sort) (x : Node) (us xs : Nodes) → xs ≡ more x us → None ≡ judged_tree room s x →
    spec.item_low room s xs ≡ false
item-refused room s x us xs e n = let low : is_low room s x ≡ false = some-if _ (ends_of x) n in rw (e, low) refl

pub item-answer : (room : ℕ) (s : Sort) (g : Option Sign) (x : Node) (us xs : Nodes) (ends : Ends) (r : Bool) → xs ≡ more x us →
    Some ends ≡ judged_tree room s x → g ≡ behind_item (edges us) →
    ((k : Kind) → r ≡ ends_before g record { kind = k; before_else = ends.before_else; before_comma = ends.before_comma }) →
    spec.item_low room s xs ≡ r
item-answer room s g x us xs ends r e j gc f =
    let p = some-is (is_low room s x) (ends_of x) ends j in
    let h = rw (p.1, gc) at f (head x).kind in
    rw (e, p.0) (sym h)

pub kid-refused : (room : ℕ) (s : Sort) (x : Node) (us xs : Nodes) → xs ≡ more x us → None ≡ judged_tree room s x →
    spec.kid_low room s xs ≡ false
kid-refused room s x us xs e n = let low : is_low room s x ≡ false = some-if _ (ends_of x) n in rw (e, low) refl

pub kid-answer : (room : ℕ) (s : Sort) (x : Node) (us xs : Nodes) (ends : Ends) → xs ≡ more x us → Some ends ≡ judged_tree room s x →
    spec.kid_low room s xs ≡ true
kid-answer room s x us xs ends e j = let p = some-is (is_low room s x) (ends_of x) ends j in rw (e, p.0) refl

-- ---- what calls have answered

pub followed-none : (room : ℕ) (s : Sort) (c : Option Sign) (at : At) (x : Node) (us xs : Nodes) → xs ≡ more x us →
    is_none (head x).kind ≡ true → judged_followed room s at xs ≡ judged_optional room s c at xs
followed-none room s c at x us xs e n = rw (e, n) refl

pub followed-refused : (room : ℕ) (s : Sort) (at : At) (x : Node) (us xs : Nodes) → xs ≡ more x us → is_none (head x).kind ≡ false →
    None ≡ judged_first room s None at.kid xs → judged_followed room s at xs ≡ None
followed-refused room s at x us xs e n j =
    let j' = rw e at j in
    let low : (is_low room s x && true) ≡ false = some-if _ record { kid = at.kid + 1; ends = ends_of x } j' in
    let low' : is_low room s x ≡ false = sym (and_true' (is_low room s x)) ∙ low in
    rw (e, n, low') refl

pub followed-found : (room : ℕ) (s : Sort) (at f : At) (x : Node) (us xs : Nodes) → xs ≡ more x us → is_none (head x).kind ≡ false →
    Some f ≡ judged_first room s None at.kid xs → judged_followed room s at xs ≡ Some record { kid = f.kid; ends = both }
followed-found room s at f x us xs e n j =
    let p = some-is (is_low room s x && true) record { kid = at.kid + 1; ends = ends_of x } f (rw e at j) in
    let low : is_low room s x ≡ true = sym (and_true' (is_low room s x)) ∙ p.0 in
    rw (e, n, low, p.1) refl

pub at-kid : (room : ℕ) (h : Head) (e : Ends) (s s' : Sort) (ps bs fs : List Piece) (i : ℕ) (kids : Nodes) (r : Option Step)
    (j : Option At) → fs ≡ pi.Kid s ∷ ps → bs ≡ ps → s' ≡ sort_in (level h.kind h.text) s →
    j ≡ judged_first room s' (behind_kid bs (edges (nodes_from (i + 1) kids))) i (nodes_from i kids) → r ≡ option_map st.Next j →
    judged_behind room h ps kids r ≡ judged room h e fs (nodes_from i kids)
at-kid room h e s s' ps bs fs i kids r j ef eb es ej er =
    rw (er, ej, ef, eb, es, nodes_from-tail i kids) (piece-kid room h e s ps i kids (nodes_from i kids) (nodes_from-tail i kids))

pub at-optional : (room : ℕ) (h : Head) (s : Sort) (at : At) (ps bs fs : List Piece) (kids : Nodes) (r : Option Step) (j : Option At) →
    fs ≡ pi.Optional s ∷ ps → bs ≡ ps → j ≡ judged_optional room s (behind_kid bs (edges (nodes_from (at.kid + 1) kids))) at
    (nodes_from at.kid kids) → r ≡ option_map st.Next j → judged_behind room h ps kids r ≡ judged room h at.ends fs (nodes_from at.kid kids)
at-optional room h s at ps bs fs kids r j ef eb ej er =
    rw (er, ej, ef, eb, nodes_from-tail at.kid kids)
    (piece-optional room h s at ps kids (nodes_from at.kid kids) (nodes_from-tail at.kid kids))

-- what is known at a kid that a sign leads: the pieces, the place with its ends, and what the kid's judgement gives
pub record IsAtLed (room : ℕ) (a : Sign) (s : Sort) (at at' : At) (ps bs fs : List Piece) (kids : Nodes) (r : Option Step)
    (j : Option At) : Type 0 where
  pub form : fs ≡ pi.Led a s ∷ ps
  pub behind : bs ≡ ps
  pub same_kid : at'.kid ≡ at.kid
  pub else_ends : at'.ends.before_else ≡ (at.ends.before_else && not (is_sign a si.Else))
  pub comma_ends : at'.ends.before_comma ≡ (at.ends.before_comma && not (is_sign a si.Comma))
  pub judgement : j ≡ judged_optional room s (behind_kid bs (edges (nodes_from (at'.kid + 1) kids))) at' (nodes_from at'.kid kids)
  pub answer : r ≡ option_map st.Next j

pub at-led : (room : ℕ) (h : Head) (a : Sign) (s : Sort) (at at' : At) (ps bs fs : List Piece) (kids : Nodes) (r : Option Step)
    (j : Option At) → IsAtLed room a s at at' ps bs fs kids r j →
    judged_behind room h ps kids r ≡ judged room h at.ends fs (nodes_from at.kid kids)
at-led room h a s at at' ps bs fs kids r j p =
    rw (p.answer, p.judgement, p.form, p.behind, nodes_from-tail at'.kid kids, ← p.same_kid)
    (piece-led room h a s at.ends at' ps kids (nodes_from at'.kid kids) (nodes_from-tail at'.kid kids) p.else_ends p.comma_ends)

-- what is known at a value: the pieces, the place with its ends, and what the value's judgement gives
pub record IsAtValue (room : ℕ) (h : Head) (s : Sort) (at at' : At) (ps bs fs : List Piece) (kids : Nodes) (r : Option Step)
    (j : Option At) : Type 0 where
  pub form : fs ≡ pi.Value s ∷ ps
  pub behind : bs ≡ ps
  pub same_kid : at'.kid ≡ at.kid
  pub else_ends : at'.ends.before_else ≡ true
  pub comma_ends : at'.ends.before_comma ≡ is_empty h.text
  pub judgement : j ≡ judged_optional room s (behind_kid bs (edges (nodes_from (at'.kid + 1) kids))) at' (nodes_from at'.kid kids)
  pub answer : r ≡ option_map st.Next j

pub at-value : (room : ℕ) (h : Head) (s : Sort) (at at' : At) (ps bs fs : List Piece) (kids : Nodes) (r : Option Step) (j : Option At) →
    IsAtValue room h s at at' ps bs fs kids r j → judged_behind room h ps kids r ≡ judged room h at.ends fs (nodes_from at.kid kids)
at-value room h s at at' ps bs fs kids r j p =
    rw (p.answer, p.judgement, p.form, p.behind, nodes_from-tail at'.kid kids, ← p.same_kid)
    (piece-value room h s at.ends at' ps kids (nodes_from at'.kid kids) (nodes_from-tail at'.kid kids) p.else_ends p.comma_ends)

pub at-followed : (room : ℕ) (h : Head) (a : Sign) (s : Sort) (at : At) (ps fs : List Piece) (kids : Nodes) (r : Option Step)
    (j : Option At) → fs ≡ pi.Followed s a ∷ ps → j ≡ judged_followed room s at (nodes_from at.kid kids) → r ≡ option_map st.Next j →
    judged_behind room h ps kids r ≡ judged room h at.ends fs (nodes_from at.kid kids)
at-followed room h a s at ps fs kids r j ef ej er =
    rw (er, ej, ef) (piece-followed room h a s at ps kids (nodes_from at.kid kids) (nodes_from-tail at.kid kids))

pub at-last : (room : ℕ) (h : Head) (e : Ends) (p : Piece) (ps fs : List Piece) (xs kids : Nodes) (r : Option Step) (b w : Bool) → fs ≡ p ∷
    ps → r ≡ (if b then Some st.Last else None) → b ≡ w → are_low room (level h.kind h.text) (p ∷ ps) xs ≡ w →
    form_ends h e (p ∷ ps) xs ≡ both → judged_behind room h ps kids r ≡ judged room h e fs xs
at-last room h e p ps fs xs kids r b w ef er eb l f = rw (er, eb, ef) (piece-last room h e p ps xs kids w l f)

pub done-none : (room : ℕ) (h : Head) (e : Ends) (ps : List Piece) (xs : Nodes) (all : Option Ends) → ps ≡ [] → xs ≡ none →
    judged room h e ps xs ≡ all → Some e ≡ all
unfolding is_shaped height stops
done-none room h e ps xs all ep ex j =
    let l : nat_le 0 room ≡ true = le-leb 0 room (omega arith) in
    sym (rw (ep, ex, l) refl) ∙ j

pub done-some : (room : ℕ) (h : Head) (e : Ends) (ps : List Piece) (x : Node) (us xs : Nodes) (all : Option Ends) → ps ≡ [] →
    xs ≡ more x us → judged room h e ps xs ≡ all → None ≡ all
unfolding is_shaped
done-some room h e ps x us xs all ep ex j = sym (rw (ep, ex) refl) ∙ j

pub tree-parts : (room r : ℕ) (s : Sort) (h : Head) (ts : Nodes) (t : Node) (j : Option Ends) (k : Bool) → branch h ts ≡ t →
    admits s h.kind h.text ≡ true → is_own (own_of (form_of h.kind)) h ≡ true → counted h.kind + r ≡ room →
    j ≡ judged r (head t) both (form_of (head t).kind) (kids_of t) → not k ≡ yields_label (head t) (kids_of t) →
    judged_tree room s t ≡ (if not k then j else None)
tree-parts room r s h ts t j k e a o c ej ek =
    let ej' = rw (← e) at ej in
    let ek' = rw (← e) at ek in
    rw (← e, ej') (tree-is room r s h ts (not k) a o c (sym ek'))

-- the own part that a tree has, by the calls that find it
pub own-is : (h : Head) (ts : Nodes) (t : Node) (f : List Piece) (o : Own) (b : Bool) → branch h ts ≡ t → f ≡ form_of h.kind →
    o ≡ own_of f → b ≡ is_own o (head t) → is_own (own_of (form_of h.kind)) h ≡ b
own-is h ts t f o b e ef eo eb = let eb' = rw (eo, ef, ← e) at eb in sym eb'

pub tree-none : (room r : ℕ) (s : Sort) (h : Head) (ts : Nodes) (t : Node) → branch h ts ≡ t → admits s h.kind h.text ≡ true →
    is_own (own_of (form_of h.kind)) h ≡ true → counted h.kind + r ≡ room → None ≡ judged r (head t) both (form_of (head t).kind)
    (kids_of t) → judged_tree room s t ≡ None
tree-none room r s h ts t e a o c ej =
    let ej' = rw (← e) at ej in
    rw (← e) (tree-is room r s h ts (yields_label h ts) a o c refl ∙
    (ap (λ j. if yields_label h ts then j else None) (sym ej') ∙ nothing (yields_label h ts) None))
