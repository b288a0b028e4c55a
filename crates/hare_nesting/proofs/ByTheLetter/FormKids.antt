-- What shaped trees and the leaves beside them have in common: their kids are those of their forms. And what forms say of tokens: a node
-- has at least one, and an operator one behind its left operand.
use Rattle.std.proofs.Common.{◌≡◌, ℕ, ◌≤◌, List, [], ◌∷◌, ◌++◌, Bool, true, false, ◌&&◌, length, refl, arith, rules, if◌then◌else◌}
use Rattle.std.specs.Prelude.{◌||◌, ◌==◌, nat_le, slice_index}
use Rattle.std.specs.List.{list_all}
use Rattle.std.proofs.lemmas.List.{length-append}
use Rattle.hare_tree.specs.declared.kind.Kind.{Kind}
use Rattle.hare_tree.specs.declared.kind.Kind.TheVariants as ki
use Rattle.hare_tree.specs.declared.form.Own.{Own}
use Rattle.hare_tree.specs.declared.form.Own.TheVariants as ow
use Rattle.hare_tree.specs.declared.form.Sort.{Sort}
use Rattle.hare_tree.specs.declared.form.Sort.TheVariants as so
use Rattle.hare_tree.specs.declared.form.Piece.{Piece}
use Rattle.hare_tree.specs.declared.form.Piece.TheVariants as pi
use Rattle.hare_tree.specs.Node.{Head, Node, Nodes, branch, none, more, head, nodes_of}
use Rattle.hare_tree.specs.Levels.{operator_level, level, sort_in}
use Rattle.hare_tree.specs.Forms.{form_of}
use Rattle.hare_tree.specs.Spell.{Spelled, parts_from, path_tokens, own_tokens, piece_tokens, pieces_tokens, left_behind, spell, spells}
use Rattle.hare_tree.specs.Shape.{is_shaped, is_own, is_leaf, is_absent, is_none, is_none_or_comma, is_none_or_dots, are_kids, kid_pieces}
use Rattle.hare_tree.specs.Depth.{is_node, is_operator}
use Rattle.hare_automaton.proofs.Spelled.Paths.{split}
use Rattle.hare_automaton.proofs.Machine.Edges.{true_le, le_true}
use Rattle.hare_automaton.proofs.Spelled.Lists.{shape}

-- ---- the kids of a form

-- the kids of the tree are those of its form
abbrev pub has_form : Node → Bool
has_form (branch h ts) = are_kids (level h.kind h.text) (kid_pieces (form_of h.kind)) ts

abbrev pub have_forms : Nodes → Bool
have_forms none = true
have_forms (more t ts) = has_form t && have_forms ts

pub shaped_has_form : (s : Sort) (t : Node) → is_shaped s t ≡ true → has_form t ≡ true
shaped_has_form s (branch h ts) e = (shape s h ts e).kids

both : (a b : Bool) → a ≡ true → b ≡ true → (a && b) ≡ true
both a b p q = rw (p, q) refl

-- a leaf of a kind that has no kids
leaf_has_form : (p : Kind → Bool) → ((k : Kind) → p k ≡ true → kid_pieces (form_of k) ≡ []) → (t : Node) → is_leaf p t ≡ true →
    has_form t ≡ true
unfolding is_shaped
leaf_has_form p q (branch h none) e = rw (q h.kind (split (p h.kind) (is_own ow.Nothing h) e).0) refl
leaf_has_form p q (branch h (more t ts)) e = cc

none_has_no_kids : (k : Kind) → is_none k ≡ true → kid_pieces (form_of k) ≡ []
none_has_no_kids ki.None e = refl
none_has_no_kids _ e = cc

pub nothing_in_none : (h : Head) (t : Node) (ts : Nodes) → is_none h.kind ≡ true → has_form (branch h (more t ts)) ≡ true → ⊥
unfolding is_shaped
nothing_in_none h t ts e k = let c = rw (none_has_no_kids h.kind e) at k in cc

comma_has_no_kids : (k : Kind) → is_none_or_comma k ≡ true → kid_pieces (form_of k) ≡ []
comma_has_no_kids ki.None e = refl
comma_has_no_kids ki.TrailingComma e = refl
comma_has_no_kids _ e = cc

dots_have_no_kids : (k : Kind) → is_none_or_dots k ≡ true → kid_pieces (form_of k) ≡ []
dots_have_no_kids ki.None e = refl
dots_have_no_kids ki.Dots e = refl
dots_have_no_kids _ e = cc

absent_has_form : (t : Node) → is_absent t ≡ true → has_form t ≡ true
absent_has_form t e = leaf_has_form is_none none_has_no_kids t e

maybe_has_form : (s : Sort) (t : Node) → (is_absent t || is_shaped s t) ≡ true → has_form t ≡ true
maybe_has_form s t e = by (is_absent t) refl e
  where
    by : (b : Bool) → is_absent t ≡ b → (b || is_shaped s t) ≡ true → has_form t ≡ true
    by true i e = absent_has_form t i
    by false i e = shaped_has_form s t e

-- the kids of a form are such trees
pub kids_have_forms : (m : ℕ) (ps : List Piece) (ts : Nodes) → are_kids m ps ts ≡ true → have_forms ts ≡ true
unfolding is_shaped
kids_have_forms m ps none e = refl
kids_have_forms m (pi.Kid s ∷ ps) (more t ts) e =
    let p = split (is_shaped (sort_in m s) t) (are_kids m ps ts) e in both _ _ (shaped_has_form (sort_in m s) t p.0)
    (kids_have_forms m ps ts p.1)
kids_have_forms m (pi.Optional s ∷ ps) (more t ts) e =
    let p = split (is_absent t || is_shaped s t) (are_kids m ps ts) e in both _ _ (maybe_has_form s t p.0) (kids_have_forms m ps ts p.1)
kids_have_forms m (pi.Led a s ∷ ps) (more t ts) e =
    let p = split (is_absent t || is_shaped s t) (are_kids m ps ts) e in both _ _ (maybe_has_form s t p.0) (kids_have_forms m ps ts p.1)
kids_have_forms m (pi.Followed s a ∷ ps) (more t ts) e =
    let p = split (is_absent t || is_shaped s t) (are_kids m ps ts) e in both _ _ (maybe_has_form s t p.0) (kids_have_forms m ps ts p.1)
kids_have_forms m (pi.Value s ∷ ps) (more t ts) e =
    let p = split (is_absent t || is_shaped s t) (are_kids m ps ts) e in both _ _ (maybe_has_form s t p.0) (kids_have_forms m ps ts p.1)
kids_have_forms m (pi.Each s ∷ ps) (more t ts) e =
    let p = split (is_shaped s t) (are_kids m (pi.Each s ∷ ps) ts) e in both _ _ (shaped_has_form s t p.0)
    (kids_have_forms m (pi.Each s ∷ ps) ts p.1)
kids_have_forms m (pi.EachLed a s ∷ ps) (more t ts) e =
    let p = split (is_shaped s t) (are_kids m (pi.EachLed a s ∷ ps) ts) e in both _ _ (shaped_has_form s t p.0)
    (kids_have_forms m (pi.EachLed a s ∷ ps) ts p.1)
kids_have_forms m (pi.EachFollowed s a ∷ ps) (more t ts) e =
    let p = split (is_shaped s t) (are_kids m (pi.EachFollowed s a ∷ ps) ts) e in both _ _ (shaped_has_form s t p.0)
    (kids_have_forms m (pi.EachFollowed s a ∷ ps) ts p.1)
kids_have_forms m (pi.More s ∷ ps) (more t none) e = both _ _ (leaf_has_form is_none_or_comma comma_has_no_kids t e) refl
kids_have_forms m (pi.More s ∷ ps) (more t (more u ts)) e =
    let p = split (is_shaped s t) (are_kids m (pi.More s ∷ ps) (more u ts)) e in both _ _ (shaped_has_form s t p.0)
    (kids_have_forms m (pi.More s ∷ ps) (more u ts) p.1)
kids_have_forms m (pi.List s ∷ ps) (more t none) e = both _ _ (absent_has_form t e) refl
kids_have_forms m (pi.List s ∷ ps) (more t (more u ts)) e =
    let p = split (is_shaped s t) (are_kids m (pi.More s ∷ ps) (more u ts)) e in both _ _ (shaped_has_form s t p.0)
    (kids_have_forms m (pi.More s ∷ ps) (more u ts) p.1)
kids_have_forms m (pi.Elements s ∷ ps) (more t (more u none)) e =
    let p = split (is_absent t) (is_absent u) e in both _ _ (absent_has_form t p.0) (both _ _ (absent_has_form u p.1) refl)
kids_have_forms m (pi.Elements s ∷ ps) (more t (more u (more v ts))) e =
    let p = split (is_shaped s t) (are_kids m (pi.MoreElements s ∷ ps) (more u (more v ts))) e in
    both _ _ (shaped_has_form s t p.0) (kids_have_forms m (pi.MoreElements s ∷ ps) (more u (more v ts)) p.1)
kids_have_forms m (pi.MoreElements s ∷ ps) (more t (more u none)) e =
    let p = split (is_leaf is_none_or_dots t) (is_leaf is_none_or_comma u) e in
    both _ _ (leaf_has_form is_none_or_dots dots_have_no_kids t p.0)
    (both _ _ (leaf_has_form is_none_or_comma comma_has_no_kids u p.1) refl)
kids_have_forms m (pi.MoreElements s ∷ ps) (more t (more u (more v ts))) e =
    let p = split (is_shaped s t) (are_kids m (pi.MoreElements s ∷ ps) (more u (more v ts))) e in
    both _ _ (shaped_has_form s t p.0) (kids_have_forms m (pi.MoreElements s ∷ ps) (more u (more v ts)) p.1)
kids_have_forms m _ (more t ts) e = cc

-- trees side by side
pub all_have_forms : (s : Sort) (ts : List Node) → list_all (is_shaped s) ts ≡ true → have_forms (nodes_of ts) ≡ true
all_have_forms s [] e = refl
all_have_forms s (t ∷ ts) e =
    let p = split (is_shaped s t) (list_all (is_shaped s) ts) e in
    let q = shaped_has_form s t p.0 in
    let r = all_have_forms s ts p.1 in
    rw (q, r) refl

-- ---- tokens of forms

abbrev is_some : Own → Bool
is_some ow.Nothing = false
is_some ow.Label = false
is_some _ = true

-- a piece that is a token, or a text that has one
abbrev pub has_token : List Piece → Bool
has_token [] = false
has_token (pi.Fixed s ∷ ps) = true
has_token (pi.Own o ∷ ps) = is_some o || has_token ps
has_token (_ ∷ ps) = has_token ps

path_some : (f : ℕ) (p : List ℕ) (xs : List (List ℕ)) → 1 ≤ length (path_tokens f (p ∷ xs))
path_some f p [] = omega arith
path_some f p (x ∷ xs) = omega arith

parts_some : (f : ℕ) (b : Bool) (part text : List ℕ) → 1 ≤ length (path_tokens f (parts_from b part text))
parts_some f b part [] = omega arith
parts_some f true part (c ∷ s) = parts_some f false part s
parts_some f false part (c ∷ s) = by (c == 58 && slice_index s 0 == 58) (parts_some f false (part ++ c ∷ []) s)
  where
    by : (b : Bool) → 1 ≤ length (path_tokens f (parts_from false (part ++ c ∷ []) s)) →
        1 ≤ length (path_tokens f (if b then part ∷ parts_from true [] s else parts_from false (part ++ c ∷ []) s))
    by true k = path_some f part (parts_from true [] s)
    by false k = k

own_some : (h : Head) (o : Own) → is_some o ≡ true → 1 ≤ length (own_tokens 0 h o)
own_some h ow.Nothing e = cc
own_some h ow.Label e = cc
own_some h ow.Path e = parts_some 0 false [] h.text
own_some h _ e = omega arith

pub pieces_some : (h : Head) (ps : List Piece) (us : List Spelled) → has_token ps ≡ true → 1 ≤ length (pieces_tokens 0 h ps us)
pieces_some h [] us e = cc
pieces_some h (pi.Fixed s ∷ ps) us e = omega arith
pieces_some h (pi.Own o ∷ ps) us e = by (is_some o) refl e (λ i. pieces_some h ps us i)
  where
    by : (b : Bool) → is_some o ≡ b → (b || has_token ps) ≡ true → (has_token ps ≡ true → 1 ≤ length (pieces_tokens 0 h ps us)) →
        1 ≤ length (own_tokens 0 h o ++ pieces_tokens 0 h ps us)
    by true i e k = omega (arith, own_some h o i, length-append (own_tokens 0 h o) (pieces_tokens 0 h ps us))
    by false i e k = omega (arith, k e, length-append (own_tokens 0 h o) (pieces_tokens 0 h ps us))
pieces_some h (p ∷ ps) us e = omega (
  arith,
  pieces_some h ps (left_behind p us) e,
  length-append (piece_tokens 0 h p us)
      (pieces_tokens 0 h ps (left_behind p us)),
)

node_token : (k : Kind) → is_node k ≡ true → has_token (form_of k) ≡ true
node_token ki.None e = cc
node_token ki.Params e = refl
node_token ki.ImportPath e = cc
node_token ki.Values e = cc
node_token _ e = refl

-- a node has a token
pub node_some : (t : Node) → is_node (head t).kind ≡ true → 1 ≤ length (spell 0 t)
unfolding spell
node_some (branch h ts) e = pieces_some h (form_of h.kind) (spells 0 ts) (node_token h.kind e)

-- ---- operators

-- the left operand of an operator, and what stands behind it
pub record Operated (k : Kind) : Type 0 where
  pub left : Sort
  pub rest : List Piece
  pub is : form_of k ≡ pi.Kid left ∷ rest
  pub token : has_token rest ≡ true
  pub bound : List ℕ → ℕ
  pub sort : (x : List ℕ) → sort_in (level k x) left ≡ so.Level (bound x)
  pub binds : (x : List ℕ) → nat_le 1 (bound x) ≡ true

either_binds : (b : Bool) (m n : ℕ) → nat_le 1 m ≡ true → nat_le 1 n ≡ true → nat_le 1 (if b then m else n) ≡ true
either_binds true m n e f = e
either_binds false m n e f = f

operator_binds : (x : List ℕ) → nat_le 1 (operator_level x) ≡ true
operator_binds x = search (rules, either_binds)

-- an operator between operands, of one of the levels of its kind
between : (k : Kind) → (rest : List Piece) → form_of k ≡ pi.Kid so.Left ∷ rest → has_token rest ≡ true →
    ((x : List ℕ) → nat_le 1 (level k x) ≡ true) → Operated k
between k rest i t b = record { left = so.Left; rest = rest; is = i; token = t; bound = level k; sort = λ x. refl; binds = b }

-- a form behind an operand that binds at least so tightly
behind : (k : Kind) (m : ℕ) → (rest : List Piece) → form_of k ≡ pi.Kid (so.Level m) ∷ rest → has_token rest ≡ true → nat_le 1 m ≡ true →
    Operated k
behind k m rest i t b = record { left = so.Level m; rest = rest; is = i; token = t; bound = λ x. m; sort = λ x. refl; binds = λ x. b }

pub operated : (k : Kind) → is_operator k ≡ true → Operated k
operated ki.Arith e = between ki.Arith _ refl refl operator_binds
operated ki.Shift e = between ki.Shift _ refl refl operator_binds
operated ki.Less e = between ki.Less _ refl refl operator_binds
operated ki.Equal e = between ki.Equal _ refl refl operator_binds
operated ki.Logic e = between ki.Logic _ refl refl operator_binds
operated ki.Cast e = between ki.Cast _ refl refl (λ x. refl)
operated ki.As e = between ki.As _ refl refl (λ x. refl)
operated ki.Is e = between ki.Is _ refl refl (λ x. refl)
operated ki.OpAssign e = behind ki.OpAssign 14 _ refl refl refl
operated ki.Assign e = behind ki.Assign 14 _ refl refl refl
operated ki.Call e = behind ki.Call 15 _ refl refl refl
operated ki.Index e = behind ki.Index 15 _ refl refl refl
operated ki.Slice e = behind ki.Slice 15 _ refl refl refl
operated ki.Field e = behind ki.Field 15 _ refl refl refl
operated ki.Try e = behind ki.Try 15 _ refl refl refl
operated ki.Force e = behind ki.Force 15 _ refl refl refl
operated _ e = cc

-- what binds is an expression, and a node
level_is_node : (k : Kind) (x : List ℕ) → nat_le 1 (level k x) ≡ true → is_node k ≡ true
level_is_node ki.None x e = cc
level_is_node _ x e = cc

operand_is_node : (m : ℕ) (t : Node) → nat_le 1 m ≡ true → is_shaped (so.Level m) t ≡ true → is_node (head t).kind ≡ true
operand_is_node m (branch h ts) b e =
    let p : 1 ≤ m = true_le 1 m b in
    let q : m ≤ level h.kind h.text = true_le m (level h.kind h.text) (shape (so.Level m) h ts e).admitted in
    level_is_node h.kind h.text (le_true 1 (level h.kind h.text) (omega (arith, p, q)))

-- ---- the first kid of an operator

-- it is a node, and a token stands behind it
pub record Operand (h : Head) (t : Node) : Type 0 where
  pub node : is_node (head t).kind ≡ true
  pub left : Sort
  pub rest : List Piece
  pub form : form_of h.kind ≡ pi.Kid left ∷ rest
  pub token : has_token rest ≡ true

pub operand : (h : Head) (t : Node) (ts : Nodes) → is_operator h.kind ≡ true → has_form (branch h (more t ts)) ≡ true → Operand h t
unfolding is_shaped
operand h t ts e k =
    let o = operated h.kind e in
    let m = level h.kind h.text in
    let s = o.sort h.text in
    let p = split (is_shaped (sort_in m o.left) t) (are_kids m (kid_pieces o.rest) ts) (rw o.is at k) in
    record {
      node = operand_is_node (o.bound h.text) t (o.binds h.text) (rw s at p.0);
      left = o.left;
      rest = o.rest;
      form = o.is;
      token =
          o.token;
    }

pub no_operand : (h : Head) → is_operator h.kind ≡ true → has_form (branch h none) ≡ true → ⊥
unfolding is_shaped
no_operand h e k = let o = operated h.kind e in let c = rw o.is at k in cc
