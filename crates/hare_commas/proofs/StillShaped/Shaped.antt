-- Commas behind last items keep a tree in the language: the kids of a list, and trees.
use Rattle.std.proofs.Common.{◌≡◌, ℕ, ◌+◌, [], ◌∷◌, ◌⊎◌, inl, inr, Bool, true, false, ◌&&◌, refl, sym, ap, ◌∙◌, subst, Some, None, if◌then◌else◌}
use Rattle.std.specs.Prelude.{not}
use Rattle.std.proofs.lemmas.Bool.{and_parts}
use Rattle.hare_tree.specs.declared.kind.Kind.{Kind}
use Rattle.hare_tree.specs.declared.kind.Kind.TheVariants as ki
use Rattle.hare_tree.specs.declared.form.Sign.{Sign}
use Rattle.hare_tree.specs.declared.form.Sign.TheVariants as si
use Rattle.hare_tree.specs.declared.form.Sort.{Sort}
use Rattle.hare_tree.specs.declared.form.Sort.TheVariants as so
use Rattle.hare_tree.specs.declared.form.Piece.TheVariants as pi
use Rattle.hare_tree.specs.Node.{Head, Node, Nodes, branch, none, more, head}
use Rattle.hare_tree.specs.Forms.{form_of}
use Rattle.hare_tree.specs.Levels.{level, sort_in}
use Rattle.hare_tree.specs.Shape.{is_shaped, are_kids, is_none, is_dots, is_leaf, is_absent, is_none_or_comma, is_none_or_dots, is_empty, is_yield, kid_pieces, stops, stops_each, form_stops, edges, ends_before, behind_item, items_end, kids_end, begins_labelled, form_begins_labelled}
use Rattle.hare_tree.specs.Depth.{counted, height}
use Rattle.hare_ways.specs.Breaks.{is_list, opening, kids_behind, wants_behind, wants_comma}
use Rattle.hare_ways.specs.Parts.{items_of}
use Rattle.hare_commas.proofs.WaysAgain.Kin.{Adds, Kin, IsNothing, comma_for}
use Rattle.hare_commas.proofs.WaysAgain.Trees.{list-stops}
use Rattle.hare_commas.proofs.StillShaped.Keeps.{Keeps, KeepAll, both, stops-kept, edge_of, edge-kept, edges-kept, first-labelled-kept}
use Rattle.hare_commas.proofs.StillShaped.Keeps.{heights-kept, kids-kept}

false-true : {A : Type 0} → false ≡ true → A
false-true h = cc

true-false : {A : Type 0} → true ≡ false → A
true-false h = cc

more-none : {A : Type 0} (t : Node) (ts : Nodes) → more t ts ≡ none → A
more-none t ts e = cc

-- ---- the kids of a list, behind the last of which a comma is added

comma-leaf : (t u : Node) → u ≡ comma_for t → is_leaf is_none_or_comma t ≡ true → is_leaf is_none_or_comma u ≡ true
comma-leaf (branch h none) u e l =
    let a : is_leaf is_none_or_comma (comma_for (branch h none)) ≡ true = (and_parts (is_none_or_comma h.kind) _ l).1 in
    ap (is_leaf is_none_or_comma) e ∙ a
comma-leaf (branch h (more t ts)) u e l = false-true l

more-comma : (n : ℕ) (s : Sort) (ts us : Nodes) → KeepAll true ts us → are_kids n (pi.More s ∷ []) ts ≡ true
    → are_kids n (pi.More s ∷ []) us ≡ true
unfolding is_shaped
more-comma n s none us k e = false-true e
more-comma n s (more t ts) none k e = absurd k
more-comma n s (more t none) (more u none) (inl k) e = true-false k.1
more-comma n s (more t none) (more u none) (inr k) e = comma-leaf t u k.4 e
more-comma n s (more t none) (more u (more v us)) (inl k) e = absurd k.1
more-comma n s (more t none) (more u (more v us)) (inr k) e = more-none v us k.3
more-comma n s (more t (more x ts)) (more u none) (inl k) e = absurd k.1
more-comma n s (more t (more x ts)) (more u none) (inr k) e = more-none x ts k.2
more-comma n s (more t (more x ts)) (more u (more v us)) (inr k) e = more-none x ts k.2
more-comma n s (more t (more x ts)) (more u (more v us)) (inl k) e =
    let a = and_parts _ _ e in both _ _ (k.0.shaped s a.0) (more-comma n s (more x ts) (more v us) k.1 a.1)

last-two : (t u x v : Node) → Keeps t u → KeepAll true (more x none) (more v none)
    → (is_leaf is_none_or_dots t && is_leaf is_none_or_comma x) ≡ true → (is_leaf is_none_or_dots u && is_leaf is_none_or_comma v) ≡ true
last-two t u x v k (inl l) e = true-false l.1
last-two t u x v k (inr l) e =
    let a = and_parts (is_leaf is_none_or_dots t) (is_leaf is_none_or_comma x) e in
    both _ _ (k.leaf is_none_or_dots a.0) (comma-leaf x v l.4 a.1)

too-many : {A : Type 0} (x v w : Node) (us : Nodes) → KeepAll true (more x none) (more v (more w us)) → A
too-many x v w us (inl l) = absurd l.1
too-many x v w us (inr l) = more-none w us l.3

too-few : {A : Type 0} (x y : Node) (ts : Nodes) (v : Node) → KeepAll true (more x (more y ts)) (more v none) → A
too-few x y ts v (inl l) = absurd l.1
too-few x y ts v (inr l) = more-none y ts l.2

later-comma : (n : ℕ) (s : Sort) (ts us : Nodes) → KeepAll true ts us → are_kids n (pi.MoreElements s ∷ []) ts ≡ true
    → are_kids n (pi.MoreElements s ∷ []) us ≡ true
unfolding is_shaped
later-comma n s none us k e = false-true e
later-comma n s (more t none) us k e = false-true e
later-comma n s (more t (more x ts)) none k e = absurd k
later-comma n s (more t (more x ts)) (more u us) (inr k) e = more-none x ts k.2
later-comma n s (more t (more x ts)) (more u none) (inl k) e = absurd k.1
later-comma n s (more t (more x none)) (more u (more v none)) (inl k) e = last-two t u x v k.0 k.1 e
later-comma n s (more t (more x none)) (more u (more v (more w us))) (inl k) e = too-many x v w us k.1
later-comma n s (more t (more x (more y ts))) (more u (more v none)) (inl k) e = too-few x y ts v k.1
later-comma n s (more t (more x (more y ts))) (more u (more v (more w us))) (inl k) e =
    let a = and_parts _ _ e in both _ _ (k.0.shaped s a.0) (later-comma n s (more x (more y ts)) (more v (more w us)) k.1 a.1)

none-kind : (k : Kind) → is_none k ≡ true → k ≡ ki.None
none-kind ki.None e = refl
none-kind _ e = false-true e

absent-kind : (t : Node) → is_absent t ≡ true → (head t).kind ≡ ki.None
absent-kind (branch h none) e = none-kind h.kind (and_parts _ _ e).0
absent-kind (branch h (more t ts)) e = false-true e

nothing-wants : {A : Type 0} (t : Node) (w : Bool) → is_absent t ≡ true → w ≡ false →
    wants_behind (head t).kind w (stops si.Comma t) ≡ true → A
nothing-wants t w e f h = false-true (sym (ap (λ k. wants_behind k w (stops si.Comma t)) (absent-kind t e) ∙ f) ∙ h)

listed-comma-kids : (n : ℕ) (s : Sort) (ts us : Nodes) → wants_comma false (items_of ts) ≡ true → KeepAll true ts us
    → are_kids n (pi.List s ∷ []) ts ≡ true → are_kids n (pi.List s ∷ []) us ≡ true
unfolding is_shaped
listed-comma-kids n s none us w k e = false-true e
listed-comma-kids n s (more t none) us w k e = nothing-wants t false e refl w
listed-comma-kids n s (more t (more x ts)) none w k e = absurd k
listed-comma-kids n s (more t (more x ts)) (more u us) w (inr k) e = more-none x ts k.2
listed-comma-kids n s (more t (more x ts)) (more u none) w (inl k) e = absurd k.1
listed-comma-kids n s (more t (more x ts)) (more u (more v us)) w (inl k) e =
    let a = and_parts _ _ e in both _ _ (k.0.shaped s a.0) (more-comma n s (more x ts) (more v us) k.1 a.1)

none-stays : (k : Kind) (w e : Bool) → k ≡ ki.None → wants_behind k w e ≡ w
none-stays k w e p = ap (λ x. wants_behind x w e) p

elements-comma-kids : (n : ℕ) (s : Sort) (ts us : Nodes) → wants_comma false (items_of ts) ≡ true → KeepAll true ts us
    → are_kids n (pi.Elements s ∷ []) ts ≡ true → are_kids n (pi.Elements s ∷ []) us ≡ true
unfolding is_shaped
elements-comma-kids n s none us w k e = false-true e
elements-comma-kids n s (more t none) us w k e = false-true e
elements-comma-kids n s (more t (more x none)) us w k e =
    let a = and_parts _ _ e in
    nothing-wants x (wants_behind (head t).kind false (stops si.Comma t)) a.1
    (none-stays (head t).kind false (stops si.Comma t) (absent-kind t a.0)) w
elements-comma-kids n s (more t (more x (more y ts))) none w k e = absurd k
elements-comma-kids n s (more t (more x (more y ts))) (more u us) w (inr k) e = more-none x (more y ts) k.2
elements-comma-kids n s (more t (more x (more y ts))) (more u none) w (inl k) e = absurd k.1
elements-comma-kids n s (more t (more x (more y ts))) (more u (more v none)) w (inl k) e = too-few x y ts v k.1
elements-comma-kids n s (more t (more x (more y ts))) (more u (more v (more z us))) w (inl k) e =
    let a = and_parts _ _ e in both _ _ (k.0.shaped s a.0) (later-comma n s (more x (more y ts)) (more v (more z us)) k.1 a.1)

-- ---- what stands behind items

nothing-kind : (t : Node) → IsNothing t → (head t).kind ≡ ki.None
nothing-kind (branch h none) e = e
nothing-kind (branch h (more t ts)) e = absurd e

none-stops : (t : Node) (c : Sign) → (head t).kind ≡ ki.None → stops c t ≡ true
unfolding stops
none-stops (branch h ts) c e = ap (λ k. form_stops c h true (form_of k) (stops_each c ts)) e

dots-stop : (t : Node) (c : Sign) → (head t).kind ≡ ki.Dots → stops c t ≡ true
unfolding stops
dots-stop (branch h ts) c e = ap (λ k. form_stops c h true (form_of k) (stops_each c ts)) e

wants-ends : (k : Kind) (w ends : Bool) → (k ≡ ki.None → ends ≡ true) → (k ≡ ki.Dots → ends ≡ true) → wants_behind k w ends ≡ true →
    ends ≡ true
wants-ends ki.None w ends f g e = f refl
wants-ends ki.TrailingComma w ends f g e = false-true e
wants-ends ki.Dots w ends f g e = g refl
wants-ends _ w ends f g e = e

-- an item behind which a comma may be added ends before it
item-ends : (t : Node) (w : Bool) → wants_behind (head t).kind w (stops si.Comma t) ≡ true → stops si.Comma t ≡ true
item-ends t w e = wants-ends (head t).kind w (stops si.Comma t) (none-stops t si.Comma) (dots-stop t si.Comma) e

-- the same stands behind, or now a comma where nothing did
abbrev BehindAgain : Nodes → Nodes → Type 0
BehindAgain ts us =
    (behind_item (edges us) ≡ behind_item (edges ts))
    ⊎ ((behind_item (edges us) ≡ Some si.Comma) × ((w : Bool) → wants_comma w (items_of ts) ≡ w))

behind-by : (t u : Node) (ts us : Nodes) → (head u).kind ≡ (head t).kind → BehindAgain ts us → (b : Bool) → is_none (head t).kind ≡ b
    → BehindAgain (more t ts) (more u us)
behind-by t u ts us k (inl e) b n = inl (λ i. if is_none (k i) then e i else if is_dots (k i) then None else Some si.Comma)
behind-by t u ts us k (inr e) true n =
    inr (
      ap (λ x. if is_none x then behind_item (edges us) else if is_dots x then None else Some si.Comma) k
          ∙ ap (λ y. if y then behind_item (edges us) else if is_dots (head t).kind then None else Some si.Comma) n ∙ e.0,
      λ w. e.1 (wants_behind (head t).kind w (stops si.Comma t))
          ∙ none-stays (head t).kind w (stops si.Comma t) (none-kind (head t).kind n),
    )
behind-by t u ts us k (inr e) false n =
    inl (ap (λ x. if is_none x then behind_item (edges us) else if is_dots x then None else Some si.Comma) k
    ∙ ap (λ y. if y then behind_item (edges us) else if is_dots (head t).kind then None else Some si.Comma) n
    ∙ sym (ap (λ y. if y then behind_item (edges ts) else if is_dots (head t).kind then None else Some si.Comma) n))

comma-head-kind : (t : Node) → (head (comma_for t)).kind ≡ ki.TrailingComma
comma-head-kind (branch h ts) = refl

behind-again : (ts us : Nodes) → KeepAll true ts us → BehindAgain ts us
behind-again none none k = true-false k
behind-again none (more u us) k = absurd k
behind-again (more t ts) none k = absurd k
behind-again (more t ts) (more u us) (inl k) =
    behind-by t u ts us k.0.kind (behind-again ts us k.1) (is_none (head t).kind) refl
behind-again (more t ts) (more u us) (inr k) =
    inr (
      ap (λ x. if is_none x then behind_item (edges us) else if is_dots x then None else Some si.Comma)
          (ap (λ v. (head v).kind) k.4 ∙ comma-head-kind t),
      λ w. ap (λ x. wants_comma (wants_behind (head t).kind w (stops si.Comma t)) (items_of x)) k.2
          ∙ none-stays (head t).kind w (stops si.Comma t) (nothing-kind t k.1),
    )

item-by : (t u : Node) (ts us : Nodes) (w : Bool) → Keeps t u → BehindAgain ts us →
    wants_comma (wants_behind (head t).kind w (stops si.Comma t)) (items_of ts) ≡ true
    → ends_before (behind_item (edges ts)) (edge_of t) ≡ true → ends_before (behind_item (edges us)) (edge_of u) ≡ true
item-by t u ts us w k (inl e) v a = (λ i. ends_before (e i) (edge-kept t u k i)) ∙ a
item-by t u ts us w k (inr e) v a =
    ap (λ x. ends_before x (edge_of u)) e.0 ∙ k.stops_same si.Comma
    ∙ item-ends t w (sym (e.1 (wants_behind (head t).kind w (stops si.Comma t))) ∙ v)

items-end-comma : (ts us : Nodes) (w : Bool) → KeepAll true ts us → wants_comma w (items_of ts) ≡ true → items_end (edges ts) ≡ true
    → items_end (edges us) ≡ true
items-end-comma none none w k v e = true-false k
items-end-comma none (more u us) w k v e = absurd k
items-end-comma (more t ts) none w k v e = absurd k
items-end-comma (more t ts) (more u us) w (inl k) v e =
    let a = and_parts _ _ e in
    both _ _ (item-by t u ts us w k.0 (behind-again ts us k.1) v a.0)
    (items-end-comma ts us (wants_behind (head t).kind w (stops si.Comma t)) k.1 v a.1)
items-end-comma (more t ts) (more u us) w (inr k) v e = ap (λ x. items_end (edge_of u ∷ edges x)) k.3

-- ---- forms with a list

pub record ListKept (k : Kind) (n : ℕ) (us : Nodes) : Type 0 where
  pub kids : are_kids n (kid_pieces (form_of k)) us ≡ true
  pub ends : kids_end (form_of k) (edges us) ≡ true

-- a kid in front of the list
kid-more : (n : ℕ) (r s : Sort) (ts us : Nodes) → KeepAll true ts us → are_kids n (pi.Kid r ∷ pi.More s ∷ []) ts ≡ true
    → are_kids n (pi.Kid r ∷ pi.More s ∷ []) us ≡ true
unfolding is_shaped
kid-more n r s none us k e = false-true e
kid-more n r s (more t ts) none k e = absurd k
kid-more n r s (more t ts) (more u us) (inl k) e =
    let a = and_parts _ _ e in both _ _ (k.0.shaped (sort_in n r) a.0) (more-comma n s ts us k.1 a.1)
kid-more n r s (more t none) (more u us) (inr k) e = false-true (and_parts _ _ e).1
kid-more n r s (more t (more x ts)) (more u us) (inr k) e = more-none x ts k.2

two-more : (n : ℕ) (q r s : Sort) (ts us : Nodes) → KeepAll true ts us → are_kids n (pi.Kid q ∷ pi.Kid r ∷ pi.More s ∷ []) ts ≡ true
    → are_kids n (pi.Kid q ∷ pi.Kid r ∷ pi.More s ∷ []) us ≡ true
unfolding is_shaped
two-more n q r s none us k e = false-true e
two-more n q r s (more t ts) none k e = absurd k
two-more n q r s (more t ts) (more u us) (inl k) e =
    let a = and_parts _ _ e in both _ _ (k.0.shaped (sort_in n q) a.0) (kid-more n r s ts us k.1 a.1)
two-more n q r s (more t none) (more u us) (inr k) e = false-true (and_parts _ _ e).1
two-more n q r s (more t (more x ts)) (more u us) (inr k) e = more-none x ts k.2

-- the items behind the first kid, which ends before this sign
ends-behind : (c : Sign) (t u : Node) (ts us : Nodes) (w : Bool) → Keeps t u → KeepAll true ts us → wants_comma w (items_of ts) ≡ true
    → (ends_before (Some c) (edge_of t) && items_end (edges ts)) ≡ true → (ends_before (Some c) (edge_of u) && items_end (edges us)) ≡ true
ends-behind c t u ts us w k l v e =
    let a = and_parts (ends_before (Some c) (edge_of t)) (items_end (edges ts)) e in
    both _ _ (ap (ends_before (Some c)) (edge-kept t u k) ∙ a.0) (items-end-comma ts us w l v a.1)

list-params : (n : ℕ) (ts us : Nodes) → wants_comma false (items_of ts) ≡ true → KeepAll true ts us
    → are_kids n (kid_pieces (form_of ki.Params)) ts ≡ true → items_end (edges ts) ≡ true → ListKept ki.Params n us
list-params n ts us w k a e = record { kids = listed-comma-kids n _ ts us w k a; ends = items-end-comma ts us false k w e }

list-array : (n : ℕ) (ts us : Nodes) → wants_comma false (items_of ts) ≡ true → KeepAll true ts us
    → are_kids n (kid_pieces (form_of ki.Array)) ts ≡ true → items_end (edges ts) ≡ true → ListKept ki.Array n us
list-array n ts us w k a e = record { kids = elements-comma-kids n _ ts us w k a; ends = items-end-comma ts us false k w e }

list-struct : (n : ℕ) (ts us : Nodes) → wants_comma false (items_of ts) ≡ true → KeepAll true ts us
    → are_kids n (kid_pieces (form_of ki.TypeStruct)) ts ≡ true → kids_end (form_of ki.TypeStruct) (edges ts) ≡ true
    → ListKept ki.TypeStruct n us
unfolding is_shaped
list-struct n none us w k a e = false-true a
list-struct n (more t ts) none w k a e = absurd k
list-struct n (more t ts) (more u us) w k a e =
    record {
      kids = kid-more n so.StructField so.StructField (more t ts) (more u us) k a;
      ends = items-end-comma (more t ts) (more u us)
          false k w e;
    }

list-call : (n : ℕ) (ts us : Nodes) → wants_comma false (kids_behind si.LeftParen (form_of ki.Call) (items_of ts)) ≡ true →
    KeepAll true ts us
    → are_kids n (kid_pieces (form_of ki.Call)) ts ≡ true → kids_end (form_of ki.Call) (edges ts) ≡ true → ListKept ki.Call n us
unfolding is_shaped
list-call n none us w k a e = false-true a
list-call n (more t ts) none w k a e = absurd k
list-call n (more t none) (more u us) w (inr k) a e = false-true (and_parts _ _ a).1
list-call n (more t (more x ts)) (more u us) w (inr k) a e = more-none x ts k.2
list-call n (more t ts) (more u us) w (inl k) a e =
    let b = and_parts _ _ a in
    record {
      kids = both _ _ (k.0.shaped _ b.0) (listed-comma-kids n _ ts us w k.1 b.1);
      ends = ends-behind si.LeftParen t u ts us false k.0 k.1 w e;
    }

-- a path, and a list between braces
list-literal : (n : ℕ) (ts us : Nodes) → wants_comma false (kids_behind si.LeftBrace (form_of ki.StructLit) (items_of ts)) ≡ true
    → KeepAll true ts us → are_kids n (kid_pieces (form_of ki.StructLit)) ts ≡ true → kids_end (form_of ki.StructLit) (edges ts) ≡ true
    → ListKept ki.StructLit n us
unfolding is_shaped
list-literal n none us w k a e = false-true a
list-literal n (more t ts) none w k a e = absurd k
list-literal n (more t none) (more u us) w k a e = false-true (and_parts _ _ a).1
list-literal n (more t (more x ts)) (more u us) w (inr k) a e = more-none x ts k.2
list-literal n (more t (more x ts)) (more u none) w (inl k) a e = absurd k.1
list-literal n (more t (more x ts)) (more u (more v us)) w (inl k) a e = record {
  kids = two-more n so.TypePath so.FieldValue so.FieldValue (more t (more x ts)) (more u (more v us)) (inl k) a;
  ends = ends-behind si.LeftBrace t u (more x ts) (more v us) false k.0 k.1 w e;
}

list-names : (n : ℕ) (ts us : Nodes) → wants_comma false (kids_behind si.LeftBrace (form_of ki.UseNames) (items_of ts)) ≡ true
    → KeepAll true ts us → are_kids n (kid_pieces (form_of ki.UseNames)) ts ≡ true → kids_end (form_of ki.UseNames) (edges ts) ≡ true
    → ListKept ki.UseNames n us
unfolding is_shaped
list-names n none us w k a e = false-true a
list-names n (more t ts) none w k a e = absurd k
list-names n (more t none) (more u us) w k a e = false-true (and_parts _ _ a).1
list-names n (more t (more x ts)) (more u us) w (inr k) a e = more-none x ts k.2
list-names n (more t (more x ts)) (more u none) w (inl k) a e = absurd k.1
list-names n (more t (more x ts)) (more u (more v us)) w (inl k) a e = record {
  kids = two-more n so.ImportPath so.Name so.Name (more t (more x ts)) (more u (more v us)) (inl k) a;
  ends = ends-behind si.PathMark t u (more x ts) (more v us) false k.0 k.1 w e;
}

list-tuple : (n : ℕ) (ts us : Nodes) → wants_comma false (items_of ts) ≡ true → KeepAll true ts us
    → are_kids n (kid_pieces (form_of ki.Tuple)) ts ≡ true → kids_end (form_of ki.Tuple) (edges ts) ≡ true → ListKept ki.Tuple n us
unfolding is_shaped
list-tuple n none us w k a e = false-true a
list-tuple n (more t ts) none w k a e = absurd k
list-tuple n (more t none) (more u us) w k a e = false-true (and_parts _ _ a).1
list-tuple n (more t (more x ts)) (more u us) w (inr k) a e = more-none x ts k.2
list-tuple n (more t (more x ts)) (more u none) w (inl k) a e = absurd k.1
list-tuple n (more t (more x ts)) (more u (more v us)) w (inl k) a e = record {
  kids = two-more n (so.Level 1) (so.Level 1) (so.Level 1) (more t (more x ts)) (more u (more v us)) (inl k) a;
  ends = ends-behind si.Comma t u (more x ts) (more v us) (wants_behind (head t).kind false (stops si.Comma t)) k.0 k.1 w e;
}

list-tuple-type : (n : ℕ) (ts us : Nodes) → wants_comma false (items_of ts) ≡ true → KeepAll true ts us
    → are_kids n (kid_pieces (form_of ki.TypeTuple)) ts ≡ true → kids_end (form_of ki.TypeTuple) (edges ts) ≡ true →
    ListKept ki.TypeTuple n us
unfolding is_shaped
list-tuple-type n none us w k a e = false-true a
list-tuple-type n (more t ts) none w k a e = absurd k
list-tuple-type n (more t none) (more u us) w k a e = false-true (and_parts _ _ a).1
list-tuple-type n (more t (more x ts)) (more u us) w (inr k) a e = more-none x ts k.2
list-tuple-type n (more t (more x ts)) (more u none) w (inl k) a e = absurd k.1
list-tuple-type n (more t (more x ts)) (more u (more v us)) w (inl k) a e = record {
  kids = two-more n so.Type so.Type so.Type (more t (more x ts)) (more u (more v us)) (inl k) a;
  ends = ends-behind si.Comma t u (more x ts) (more v us) (wants_behind (head t).kind false (stops si.Comma t)) k.0 k.1 w e;
}

list-kept : (k : Kind) (n : ℕ) (ts us : Nodes) → is_list k ≡ true
    → wants_comma false (kids_behind (opening k) (form_of k) (items_of ts)) ≡ true → KeepAll true ts us
    → are_kids n (kid_pieces (form_of k)) ts ≡ true → kids_end (form_of k) (edges ts) ≡ true → ListKept k n us
list-kept ki.Params n ts us l w k a e = list-params n ts us w k a e
list-kept ki.Call n ts us l w k a e = list-call n ts us w k a e
list-kept ki.StructLit n ts us l w k a e = list-literal n ts us w k a e
list-kept ki.Tuple n ts us l w k a e = list-tuple n ts us w k a e
list-kept ki.TypeTuple n ts us l w k a e = list-tuple-type n ts us w k a e
list-kept ki.Array n ts us l w k a e = list-array n ts us w k a e
list-kept ki.UseNames n ts us l w k a e = list-names n ts us w k a e
list-kept ki.TypeStruct n ts us l w k a e = list-struct n ts us w k a e
list-kept _ n ts us l w k a e = false-true l

-- ---- trees

-- how the kids of a tree are kept
abbrev pub KeptKids : Head → Nodes → Nodes → Type 0
KeptKids h ts us =
    KeepAll false ts us
    ⊎ ((is_list h.kind ≡ true) × (wants_comma false (kids_behind (opening h.kind) (form_of h.kind) (items_of ts)) ≡ true) ×
    KeepAll true ts us)

kept-either : (e : Bool) (ts us : Nodes) → KeepAll e ts us → (x : Bool) × KeepAll x ts us
kept-either e ts us k = (e, k)

some-kept : (h : Head) (ts us : Nodes) → KeptKids h ts us → (x : Bool) × KeepAll x ts us
some-kept h ts us (inl k) = (false, k)
some-kept h ts us (inr k) = (true, k.2)

node-stops : (h : Head) (ts us : Nodes) → KeptKids h ts us → (c : Sign) → stops c (branch h us) ≡ stops c (branch h ts)
unfolding stops
node-stops h ts us (inl k) c = ap (form_stops c h true (form_of h.kind)) (stops-kept c ts us k)
node-stops h ts us (inr k) c =
    list-stops h.kind k.0 c h (stops_each c us) ∙ sym (list-stops h.kind k.0 c h (stops_each c ts))

node-kids : (h : Head) (n : ℕ) (ts us : Nodes) → KeptKids h ts us → are_kids n (kid_pieces (form_of h.kind)) ts ≡ true
    → kids_end (form_of h.kind) (edges ts) ≡ true → ListKept h.kind n us
node-kids h n ts us (inl k) a e = record {
  kids = kids-kept n (kid_pieces (form_of h.kind)) ts us k a;
  ends = ap (kids_end (form_of h.kind)) (edges-kept ts us k) ∙ e;
}
node-kids h n ts us (inr k) a e = list-kept h.kind n ts us k.0 k.1 k.2 a e

leaf-kept : (h : Head) (ts us : Nodes) (e : Bool) → KeepAll e ts us → (p : Kind → Bool) → is_leaf p (branch h ts) ≡ true
    → is_leaf p (branch h us) ≡ true
leaf-kept h none none e k p l = l
leaf-kept h none (more u us) e k p l = absurd k
leaf-kept h (more t ts) us e k p l = false-true l

node-shaped : (h : Head) (ts us : Nodes) → KeptKids h ts us → (s : Sort) → is_shaped s (branch h ts) ≡ true →
    is_shaped s (branch h us) ≡ true
unfolding is_shaped
node-shaped h ts us k s e =
    let a = and_parts _ _ e in
    let b = and_parts _ _ a.0 in
    let c = and_parts _ _ b.0 in
    let kids = node-kids h (level h.kind h.text) ts us k c.1 b.1 in
    let x = some-kept h ts us k in
    both _ _ (both _ _ (both _ _ c.0 kids.kids) kids.ends)
    (ap (λ y. not (is_yield h.kind && is_empty h.text && y)) (first-labelled-kept x.0 ts us x.1) ∙ a.1)

node-keeps : (h : Head) (ts us : Nodes) → KeptKids h ts us → Keeps (branch h ts) (branch h us)
unfolding begins_labelled height
node-keeps h ts us k =
    let x = some-kept h ts us k in
    record {
      kind = refl;
      stops_same = node-stops h ts us k;
      labelled = ap (form_begins_labelled h (form_of h.kind)) (first-labelled-kept x.0 ts us x.1);
      height_same = ap (λ y. counted h.kind + y) (heights-kept x.0 ts us x.1);
      leaf = leaf-kept h ts us x.0 x.1;
      shaped = node-shaped h ts us k;
    }

mutual
  pub adds-keeps : (t u : Node) → Adds t u → Keeps t u
  adds-keeps (branch h ts) (branch g us) (e, inl n) =
      subst (λ x. Keeps (branch h ts) (branch x us)) e (node-keeps h ts us (inl (kin-keeps false ts us n)))
  adds-keeps (branch h ts) (branch g us) (e, inr n) =
      subst (λ x. Keeps (branch h ts) (branch x us)) e (node-keeps h ts us (inr (n.0, n.1, kin-keeps true ts us n.2)))

  pub kin-keeps : (e : Bool) (ts us : Nodes) → Kin e ts us → KeepAll e ts us
  kin-keeps e none none n = n
  kin-keeps e none (more u us) n = absurd n
  kin-keeps e (more t ts) none n = absurd n
  kin-keeps e (more t ts) (more u us) (inl n) = inl (adds-keeps t u n.1, kin-keeps e ts us n.2)
  kin-keeps e (more t ts) (more u us) (inr n) = inr n
