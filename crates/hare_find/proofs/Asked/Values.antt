-- No kid of a node is a list of values, unless the node is a case of a `switch`.
use Rattle.std.proofs.Common.{◌≡◌, ℕ, ◌+◌, Bool, true, false, List, [], ◌∷◌, refl, ap, sym, ◌∙◌, subst, arith, if◌then◌else◌}
use Rattle.std.proofs.lemmas.Bool.{lt-leb}
use Rattle.std.specs.Prelude.{◌&&◌, ◌||◌, nat_le}
use Rattle.hare_tree.specs.declared.kind.Kind.{Kind}
use Rattle.hare_tree.specs.declared.kind.Kind.TheVariants as ki
use Rattle.hare_tree.specs.declared.form.Own.TheVariants as ow
use Rattle.hare_tree.specs.declared.form.Sort.{Sort}
use Rattle.hare_tree.specs.declared.form.Sort.TheVariants as so
use Rattle.hare_tree.specs.declared.form.Piece.{Piece}
use Rattle.hare_tree.specs.declared.form.Piece.TheVariants as pi
use Rattle.hare_tree.specs.Node.{Head, Node, Nodes, branch, none, more, head, kids_of}
use Rattle.hare_tree.specs.Forms.{form_of}
use Rattle.hare_tree.specs.Levels.{operator_level, level, admits, sort_in}
use Rattle.hare_tree.specs.Shape.{is_shaped, is_own, is_leaf, is_absent, is_none, is_none_or_comma, is_none_or_dots, are_kids, kid_pieces}
use Rattle.hare_tree.proofs.TreeKids.ShapedKids.{shaped_admits}
use Rattle.hare_typed.specs.Typed.{TypedNode, marked, typed_nodes}
use Rattle.hare_typed.specs.Erased.{erase_each}
use Rattle.hare_rules.specs.Judged.{hands_on}
use Rattle.hare_told.specs.Settled.{HandNothingOn}

-- ---- what a piece takes

-- a kid of the sort can be a list of values
abbrev pub takes : Sort → Bool
takes s = admits s ki.Values []

abbrev pub piece_takes : ℕ → Piece → Bool
piece_takes n (pi.Fixed s) = false
piece_takes n (pi.Own o) = false
piece_takes n (pi.Kid s) = takes (sort_in n s)
piece_takes n (pi.Optional s) = takes s
piece_takes n (pi.Led a s) = takes s
piece_takes n (pi.Followed s a) = takes s
piece_takes n (pi.Value s) = takes s
piece_takes n (pi.Each s) = takes s
piece_takes n (pi.EachLed a s) = takes s
piece_takes n (pi.EachFollowed s a) = takes s
piece_takes n (pi.More s) = takes s
piece_takes n (pi.List s) = takes s
piece_takes n (pi.Elements s) = takes s
piece_takes n (pi.MoreElements s) = takes s

abbrev pub pieces_take : ℕ → List Piece → Bool
pieces_take n [] = false
pieces_take n (p ∷ ps) = piece_takes n p || pieces_take n ps

or-none : (a b : Bool) → (a || b) ≡ false → (a ≡ false) × (b ≡ false)
or-none true b e = cc
or-none false b e = (refl, e)

and-both : (a b : Bool) → (a && b) ≡ true → (a ≡ true) × (b ≡ true)
and-both true b e = (refl, e)
and-both false b e = cc

-- ---- kids

-- none is a list of values
abbrev pub NoValues : Nodes → Type 0
NoValues none = Unit {0}
NoValues (more t ts) = (hands_on (head t).kind ≡ false) × NoValues ts

any_text : (s : Sort) (x : List ℕ) → admits s ki.Values x ≡ admits s ki.Values []
any_text (so.Level n) x = refl
any_text _ x = refl

kid-shaped : (s : Sort) (t : Node) → takes s ≡ false → is_shaped s t ≡ true → hands_on (head t).kind ≡ false
kid-shaped s (branch h ts) e k = by h.kind refl where
  by : (q : Kind) → h.kind ≡ q → hands_on q ≡ false
  by ki.Values i =
      let p : admits s ki.Values h.text ≡ true = ap (λ x. admits s x h.text) (sym i) ∙ shaped_admits s h ts k in
      let q : admits s ki.Values h.text ≡ false = any_text s h.text ∙ e in
      cc
  by _ i = refl

kid-leaf : (p : Kind → Bool) (t : Node) → p ki.Values ≡ false → is_leaf p t ≡ true → hands_on (head t).kind ≡ false
kid-leaf p (branch h none) e k = by h.kind refl where
  by : (q : Kind) → h.kind ≡ q → hands_on q ≡ false
  by ki.Values i =
      let a : p h.kind ≡ true = (and-both (p h.kind) (is_own ow.Nothing h) k).0 in
      let b : p h.kind ≡ false = ap p i ∙ e in
      cc
  by _ i = refl
kid-leaf p (branch h (more t ts)) e k = cc

kid-maybe : (s : Sort) (t : Node) → takes s ≡ false → (is_absent t || is_shaped s t) ≡ true → hands_on (head t).kind ≡ false
kid-maybe s t e k = by (is_absent t) refl k where
  by : (b : Bool) → is_absent t ≡ b → (b || is_shaped s t) ≡ true → hands_on (head t).kind ≡ false
  by true i k = kid-leaf is_none t refl i
  by false i k = kid-shaped s t e k

pub none_values : (n : ℕ) (ps : List Piece) (ts : Nodes) → pieces_take n ps ≡ false → are_kids n ps ts ≡ true → NoValues ts
unfolding is_shaped
none_values n ps none e k = tt
none_values n (pi.Kid s ∷ ps) (more t ts) e k =
    let a = or-none _ _ e in let b = and-both _ _ k in (kid-shaped (sort_in n s) t a.0 b.0, none_values n ps ts a.1 b.1)
none_values n (pi.Optional s ∷ ps) (more t ts) e k =
    let a = or-none _ _ e in let b = and-both _ _ k in (kid-maybe s t a.0 b.0, none_values n ps ts a.1 b.1)
none_values n (pi.Led c s ∷ ps) (more t ts) e k =
    let a = or-none _ _ e in let b = and-both _ _ k in (kid-maybe s t a.0 b.0, none_values n ps ts a.1 b.1)
none_values n (pi.Followed s c ∷ ps) (more t ts) e k =
    let a = or-none _ _ e in let b = and-both _ _ k in (kid-maybe s t a.0 b.0, none_values n ps ts a.1 b.1)
none_values n (pi.Value s ∷ ps) (more t ts) e k =
    let a = or-none _ _ e in let b = and-both _ _ k in (kid-maybe s t a.0 b.0, none_values n ps ts a.1 b.1)
none_values n (pi.Each s ∷ ps) (more t ts) e k =
    let a = or-none _ _ e in let b = and-both _ _ k in (kid-shaped s t a.0 b.0, none_values n (pi.Each s ∷ ps) ts e b.1)
none_values n (pi.EachLed c s ∷ ps) (more t ts) e k =
    let a = or-none _ _ e in let b = and-both _ _ k in (kid-shaped s t a.0 b.0, none_values n (pi.EachLed c s ∷ ps) ts e b.1)
none_values n (pi.EachFollowed s c ∷ ps) (more t ts) e k =
    let a = or-none _ _ e in let b = and-both _ _ k in (kid-shaped s t a.0 b.0, none_values n (pi.EachFollowed s c ∷ ps) ts e b.1)
none_values n (pi.More s ∷ ps) (more t none) e k = (kid-leaf is_none_or_comma t refl k, tt)
none_values n (pi.More s ∷ ps) (more t (more u ts)) e k =
    let a = or-none _ _ e in let b = and-both _ _ k in (kid-shaped s t a.0 b.0, none_values n (pi.More s ∷ ps) (more u ts) e b.1)
none_values n (pi.List s ∷ ps) (more t none) e k = (kid-leaf is_none t refl k, tt)
none_values n (pi.List s ∷ ps) (more t (more u ts)) e k =
    let a = or-none _ _ e in let b = and-both _ _ k in (kid-shaped s t a.0 b.0, none_values n (pi.More s ∷ ps) (more u ts) e b.1)
none_values n (pi.Elements s ∷ ps) (more t (more u none)) e k =
    let b = and-both _ _ k in (kid-leaf is_none t refl b.0, (kid-leaf is_none u refl b.1, tt))
none_values n (pi.Elements s ∷ ps) (more t (more u (more v ts))) e k =
    let a = or-none _ _ e in let b = and-both _ _ k in
    (kid-shaped s t a.0 b.0, none_values n (pi.MoreElements s ∷ ps) (more u (more v ts)) e b.1)
none_values n (pi.MoreElements s ∷ ps) (more t (more u none)) e k =
    let b = and-both _ _ k in (kid-leaf is_none_or_dots t refl b.0, (kid-leaf is_none_or_comma u refl b.1, tt))
none_values n (pi.MoreElements s ∷ ps) (more t (more u (more v ts))) e k =
    let a = or-none _ _ e in let b = and-both _ _ k in
    (kid-shaped s t a.0 b.0, none_values n (pi.MoreElements s ∷ ps) (more u (more v ts)) e b.1)
none_values n _ (more t ts) e k = cc

-- ---- forms

abbrev pub is_switch_case : Kind → Bool
is_switch_case ki.SwitchCase = true
is_switch_case _ = false

either : (b : Bool) (n m : ℕ) → nat_le n 0 ≡ false → nat_le m 0 ≡ false → nat_le (if b then n else m) 0 ≡ false
either true n m e k = e
either false n m e k = k

operators_bind : (x : List ℕ) → nat_le (operator_level x) 0 ≡ false
operators_bind x =
    search either depth 14

above-zero : (n : ℕ) → nat_le (n + 1) 0 ≡ false
above-zero n = lt-leb (n + 1) 0 (omega arith)

operator-takes : (x : List ℕ) → pieces_take (operator_level x) (pi.Kid so.Left ∷ pi.Kid so.Right ∷ []) ≡ false
operator-takes x = rw (operators_bind x, above-zero (operator_level x)) refl

form-takes : (k : Kind) (x : List ℕ) → is_switch_case k ≡ false → pieces_take (level k x) (kid_pieces (form_of k)) ≡ false
form-takes ki.SwitchCase x e = cc
form-takes ki.Arith x e = operator-takes x
form-takes ki.Shift x e = operator-takes x
form-takes ki.Less x e = operator-takes x
form-takes ki.Equal x e = operator-takes x
form-takes ki.Logic x e = operator-takes x
form-takes _ x e = refl

-- ---- typed kids

hand-on : (xs : List TypedNode) → NoValues (erase_each (typed_nodes xs)) → HandNothingOn xs
hand-on [] k = tt
hand-on (marked h m ts ∷ xs) k = (k.0, hand-on xs k.1)

shaped-values : (s : Sort) (h : Head) (ts : Nodes) → is_switch_case h.kind ≡ false → is_shaped s (branch h ts) ≡ true → NoValues ts
unfolding is_shaped
shaped-values s h ts e k =
    let a = and-both _ _ k in
    let b = and-both _ _ a.0 in
    let c = and-both _ _ b.0 in
    none_values (level h.kind h.text) (kid_pieces (form_of h.kind)) ts (form-takes h.kind h.text e) c.1

pub hand-nothing : (s : Sort) (t : Node) (xs : List TypedNode) → is_switch_case (head t).kind ≡ false → is_shaped s t ≡ true →
    erase_each (typed_nodes xs) ≡ kids_of t → HandNothingOn xs
hand-nothing s (branch h ts) xs e k i = hand-on xs (subst NoValues (sym i) (shaped-values s h ts e k))
