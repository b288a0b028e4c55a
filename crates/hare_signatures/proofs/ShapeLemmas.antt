-- The types that are written in a declaration that is shaped are shaped as types.
use Rattle.std.proofs.Common.{◌≡◌, ℕ, zero, suc, List, [], ◌∷◌, ◌++◌, Bool, true, false}
use Rattle.std.proofs.Common.{cond, not, map, filter, Some, refl, sym, ap, ◌∙◌, subst}
use Rattle.std.specs.Prelude.{◌||◌, slice_get}
use Rattle.std.proofs.lemmas.Bool.{and_parts}
use Rattle.hare_tree.specs.declared.kind.Kind.{Kind}
use Rattle.hare_tree.specs.declared.kind.Kind.TheVariants as ki
use Rattle.hare_tree.specs.declared.form.Own.TheVariants as ow
use Rattle.hare_tree.specs.declared.form.Sign.{Sign}
use Rattle.hare_tree.specs.declared.form.Sign.TheVariants as si
use Rattle.hare_tree.specs.declared.form.Sort.{Sort}
use Rattle.hare_tree.specs.declared.form.Sort.TheVariants as so
use Rattle.hare_tree.specs.declared.form.Piece.{Piece}
use Rattle.hare_tree.specs.declared.form.Piece.TheVariants as pi
use Rattle.hare_tree.specs.Node.{Head, Node, Nodes, branch, none, more, head}
use Rattle.hare_tree.specs.Forms.{form_of}
use Rattle.hare_tree.specs.Levels.{level, admits, sort_in}
use Rattle.hare_tree.specs.Shape.{is_shaped, are_kids, is_own, is_none, is_absent, is_leaf, is_none_or_comma, kid_pieces}
use Rattle.hare_tree.proofs.TreeKids.KidSorts.{shaped_kids}
use Rattle.hare_tree.proofs.TreeKids.ShapedKids.{shaped_admits}
use Rattle.hare_modules.specs.Uses.{listed, kids, kid}
use Rattle.hare_depends.specs.Sorts.{sort_by, sort_of_global, has_type}
use Rattle.hare_rules.specs.Context.{Ordinary, BindingType}
use Rattle.hare_whole.specs.Listing.{Written, is_param, param_types, written_by, written_types}
use Rattle.hare_signatures.specs.Listed.{types_among}

abbrev type : Node → Type 0
type t = is_shaped so.Type t ≡ true

abbrev pub AreShaped : List Written → Type 0
AreShaped [] = Unit {0}
AreShaped (r ∷ rs) = type r.1 × AreShaped rs

shaped-join : (rs qs : List Written) → AreShaped rs → AreShaped qs → AreShaped (rs ++ qs)
shaped-join [] qs h k = k
shaped-join (r ∷ rs) qs h k = (h.0, shaped-join rs qs h.1 k)

pub shaped-at : (rs : List Written) (i : ℕ) (r : Written) → AreShaped rs → slice_get rs i ≡ Some r → is_shaped so.Type r.1 ≡ true
shaped-at [] i r h e = absurd cc
shaped-at (q ∷ rs) zero r h e = let s : q ≡ r = cc in subst (λ (w : Written). type w.1) s h.0
shaped-at (q ∷ rs) (suc i) r h e = shaped-at rs i r h.1 e

-- ---- kids, piece by piece

-- there is a first kid, of which this holds, and those behind it are of these pieces
record Splits (n : ℕ) (P : Node → Type 0) (ps : List Piece) (ts : Nodes) : Type 0 where
  first : Node
  rest : Nodes
  is : ts ≡ more first rest
  holds : P first
  behind : are_kids n ps rest ≡ true

kid-first : (n : ℕ) (s : Sort) (ps : List Piece) (ts : Nodes) → are_kids n (pi.Kid s ∷ ps) ts ≡ true →
    Splits n (λ t. is_shaped (sort_in n s) t ≡ true) ps ts
unfolding are_kids
kid-first n s ps none k = absurd cc
kid-first n s ps (more t ts) k =
    let b = and_parts (is_shaped (sort_in n s) t) (are_kids n ps ts) k in
    record { first = t; rest = ts; is = refl; holds = b.0; behind = b.1 }

optional-first : (n : ℕ) (s : Sort) (ps : List Piece) (ts : Nodes) → are_kids n (pi.Optional s ∷ ps) ts ≡ true →
    Splits n (λ t. (is_absent t || is_shaped s t) ≡ true) ps ts
unfolding are_kids
optional-first n s ps none k = absurd cc
optional-first n s ps (more t ts) k =
    let b = and_parts (is_absent t || is_shaped s t) (are_kids n ps ts) k in
    record { first = t; rest = ts; is = refl; holds = b.0; behind = b.1 }

led-first : (n : ℕ) (a : Sign) (s : Sort) (ps : List Piece) (ts : Nodes) → are_kids n (pi.Led a s ∷ ps) ts ≡ true →
    Splits n (λ t. (is_absent t || is_shaped s t) ≡ true) ps ts
unfolding are_kids
led-first n a s ps none k = absurd cc
led-first n a s ps (more t ts) k =
    let b = and_parts (is_absent t || is_shaped s t) (are_kids n ps ts) k in
    record { first = t; rest = ts; is = refl; holds = b.0; behind = b.1 }

-- the kids of a tree of this kind are those of its form
kids-by : (s : Sort) (k : Kind) (h : Head) (ts : Nodes) → h.kind ≡ k → is_shaped s (branch h ts) ≡ true →
    are_kids (level h.kind h.text) (kid_pieces (form_of k)) ts ≡ true
kids-by s k h ts e q = subst (λ j. are_kids (level h.kind h.text) (kid_pieces (form_of j)) ts ≡ true) e (shaped_kids s h ts q)

-- ---- parameters

param-kind : (k : Kind) (x : List ℕ) → admits so.Param k x ≡ true → k ≡ ki.Param
param-kind ki.Param x e = refl
param-kind _ x e = cc

params-kind : (k : Kind) (x : List ℕ) → admits so.Params k x ≡ true → k ≡ ki.Params
params-kind ki.Params x e = refl
params-kind _ x e = cc

param-type : (t : Node) → is_shaped so.Param t ≡ true → type (kid t 0)
param-type (branch h ts) e =
    let k = param-kind h.kind h.text (shaped_admits so.Param h ts e) in
    let one = kid-first (level h.kind h.text) so.Type [] ts (kids-by so.Param ki.Param h ts k e) in
    subst (λ us. type (kid (branch h us) 0)) (sym one.is) one.holds

-- a comma, or what is not there, is no parameter
no-param : (k : Kind) → is_none_or_comma k ≡ true → is_param k ≡ false
no-param ki.None e = refl
no-param ki.TrailingComma e = refl
no-param _ e = cc

leaf-kind : (p : Kind → Bool) (t : Node) → is_leaf p t ≡ true → p (head t).kind ≡ true
leaf-kind p (branch h none) e = (and_parts (p h.kind) (is_own ow.Nothing h) e).0
leaf-kind p (branch h (more t ts)) e = absurd cc

-- one tree in front of others
param-more : (t : Node) (ts : List Node) → type (kid t 0) → AreShaped (types_among ts) → AreShaped (types_among (t ∷ ts))
param-more t ts e h = by (is_param (head t).kind)
  where
    chosen : List Node
    chosen = filter (λ p. is_param (head p).kind) ts

    by : (b : Bool) → AreShaped (map (λ p. (BindingType, kid p 0)) (cond b (t ∷ chosen) chosen))
    by true = (e, h)
    by false = h

last-param : (t : Node) → is_param (head t).kind ≡ false → AreShaped (types_among (t ∷ []))
last-param t = by (is_param (head t).kind)
  where
    by : (b : Bool) → b ≡ false → AreShaped (map (λ p. (BindingType, kid p 0)) (cond b (t ∷ []) []))
    by true e = absurd cc
    by false e = tt

more-params : (n : ℕ) (ps : List Piece) (ts : Nodes) → are_kids n (pi.More so.Param ∷ ps) ts ≡ true → AreShaped (types_among (listed ts))
unfolding are_kids
more-params n ps none k = absurd cc
more-params n ps (more t none) k = last-param t (no-param (head t).kind (leaf-kind is_none_or_comma t k))
more-params n ps (more t (more u ts)) k =
    let b = and_parts (is_shaped so.Param t) (are_kids n (pi.More so.Param ∷ ps) (more u ts)) k in
    param-more t (listed (more u ts)) (param-type t b.0) (more-params n ps (more u ts) b.1)

absent-kind : (k : Kind) → is_none k ≡ true → is_none_or_comma k ≡ true
absent-kind ki.None e = refl
absent-kind _ e = cc

list-params : (n : ℕ) (ps : List Piece) (ts : Nodes) → are_kids n (pi.List so.Param ∷ ps) ts ≡ true → AreShaped (types_among (listed ts))
unfolding are_kids
list-params n ps none k = absurd cc
list-params n ps (more t none) k = last-param t (no-param (head t).kind (absent-kind (head t).kind (leaf-kind is_none t k)))
list-params n ps (more t (more u ts)) k =
    let b = and_parts (is_shaped so.Param t) (are_kids n (pi.More so.Param ∷ ps) (more u ts)) k in
    param-more t (listed (more u ts)) (param-type t b.0) (more-params n ps (more u ts) b.1)

params-shaped : (t : Node) → is_shaped so.Params t ≡ true → AreShaped (types_among (kids t))
params-shaped (branch h ts) e =
    let k = params-kind h.kind h.text (shaped_admits so.Params h ts e) in
    list-params (level h.kind h.text) [] ts (kids-by so.Params ki.Params h ts k e)

-- ---- the kids of declarations

-- the third kid, and the fourth
third-is : (h : Head) (a b c : Node) (us ts : Nodes) → ts ≡ more a (more b (more c us)) → kid (branch h ts) 2 ≡ c
third-is h a b c us ts e = ap (λ vs. kid (branch h vs) 2) e

fourth-is : (h : Head) (a b c d : Node) (us ts : Nodes) → ts ≡ more a (more b (more c (more d us))) → kid (branch h ts) 3 ≡ d
fourth-is h a b c d us ts e = ap (λ vs. kid (branch h vs) 3) e

-- the type of a type
type-kid : (n : ℕ) (h : Head) (ts : Nodes) → are_kids n (kid_pieces (form_of ki.TypeDecl)) ts ≡ true → type (kid (branch h ts) 2)
type-kid n h ts k =
    let last : List Piece = pi.Kid so.Type ∷ [] in
    let one = optional-first n so.Export (pi.Kid so.Name ∷ last) ts k in
    let two = kid-first n so.Name last one.rest one.behind in
    let three = kid-first n so.Type [] two.rest two.behind in
    let is = one.is ∙ ap (more one.first) (two.is ∙ ap (more two.first) three.is) in
    ap (is_shaped so.Type) (third-is h one.first two.first three.first three.rest ts is) ∙ three.holds

-- the parameters and the result of a function
function-kids : (n : ℕ) (h : Head) (ts : Nodes) → are_kids n (kid_pieces (form_of ki.Fn)) ts ≡ true →
    (is_shaped so.Params (kid (branch h ts) 2) ≡ true) × type (kid (branch h ts) 3)
function-kids n h ts k =
    let body : List Piece = pi.Kid (so.Level 1) ∷ [] in
    let result : List Piece = pi.Kid so.Type ∷ body in
    let params : List Piece = pi.Kid so.Params ∷ result in
    let one = optional-first n so.Export (pi.Kid so.Name ∷ params) ts k in
    let two = kid-first n so.Name params one.rest one.behind in
    let three = kid-first n so.Params result two.rest two.behind in
    let four = kid-first n so.Type body three.rest three.behind in
    let third = one.is ∙ ap (more one.first) (two.is ∙ ap (more two.first) three.is) in
    let fourth = third ∙ ap (λ us. more one.first (more two.first (more three.first us))) four.is in (
      ap (is_shaped so.Params) (third-is h one.first two.first three.first three.rest ts third) ∙ three.holds,
      ap (is_shaped so.Type) (fourth-is h one.first two.first three.first four.first four.rest ts fourth) ∙ four.holds,
    )

-- what is there is a type
there-type : (t : Node) → (is_absent t || is_shaped so.Type t) ≡ true → not (is_none (head t).kind) ≡ true → type t
there-type t e g = by (is_absent t) refl e
  where
    by : (b : Bool) → is_absent t ≡ b → (b || is_shaped so.Type t) ≡ true → type t
    by true a o =
        let n : is_none (head t).kind ≡ true = leaf-kind is_none t a in
        let z : not (is_none (head t).kind) ≡ false = ap not n in
        absurd cc
    by false a o = o

-- the type of a def or a global, where it is written
bound-kid : (n : ℕ) (a : Sign) (h : Head) (ts : Nodes) →
    are_kids n (pi.Optional so.Export ∷ pi.Kid so.Name ∷ pi.Led a so.Type ∷ pi.Kid (so.Level 1) ∷ []) ts ≡ true →
    has_type (branch h ts) ≡ true → type (kid (branch h ts) 2)
bound-kid n a h ts k g =
    let last : List Piece = pi.Kid (so.Level 1) ∷ [] in
    let one = optional-first n so.Export (pi.Kid so.Name ∷ pi.Led a so.Type ∷ last) ts k in
    let two = kid-first n so.Name (pi.Led a so.Type ∷ last) one.rest one.behind in
    let three = led-first n a so.Type last two.rest two.behind in
    let is = one.is ∙ ap (more one.first) (two.is ∙ ap (more two.first) three.is) in
    let third = third-is h one.first two.first three.first three.rest ts is in
    there-type (kid (branch h ts) 2) (ap (λ t. is_absent t || is_shaped so.Type t) third ∙ three.holds) g

-- ---- all types of a declaration

one-bound : (b : Bool) (t : Node) → (b ≡ true → type t) → AreShaped (cond b ((BindingType, t) ∷ []) [])
one-bound true t f = (f refl, tt)
one-bound false t f = tt

global-types : (t : Node) → (has_type t ≡ true → type (kid t 2)) → AreShaped (written_by (sort_of_global (has_type t)) t)
global-types t f = by (has_type t) refl
  where
    by : (b : Bool) → has_type t ≡ b → AreShaped (written_by (sort_of_global b) t)
    by true e = (f e, tt)
    by false e = one-bound (has_type t) (kid t 2) f

by-kind : (k : Kind) (h : Head) (ts : Nodes) → admits so.Decl k h.text ≡ true →
    are_kids (level h.kind h.text) (kid_pieces (form_of k)) ts ≡ true → AreShaped (written_by (sort_by k (branch h ts)) (branch h ts))
by-kind ki.TypeDecl h ts a k = (type-kid (level h.kind h.text) h ts k, tt)
by-kind ki.Fn h ts a k =
    let b = function-kids (level h.kind h.text) h ts k in
    shaped-join (param_types (branch h ts)) ((Ordinary, kid (branch h ts) 3) ∷ []) (params-shaped (kid (branch h ts) 2) b.0) (b.1, tt)
by-kind ki.Def h ts a k = one-bound (has_type (branch h ts)) (kid (branch h ts) 2) (bound-kid (level h.kind h.text) si.Colon h ts k)
by-kind ki.GlobalLet h ts a k = global-types (branch h ts) (bound-kid (level h.kind h.text) si.Colon h ts k)
by-kind ki.GlobalConst h ts a k = global-types (branch h ts) (bound-kid (level h.kind h.text) si.Colon h ts k)
by-kind _ h ts a k = absurd cc

pub types-shaped : (t : Node) → is_shaped so.Decl t ≡ true → AreShaped (written_types t)
types-shaped (branch h ts) e = by-kind h.kind h ts (shaped_admits so.Decl h ts e) (shaped_kids so.Decl h ts e)
