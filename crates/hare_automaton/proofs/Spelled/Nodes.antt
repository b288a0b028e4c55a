-- Expressions that begin with a sign of their own are read, from the pieces of their form.
use Rattle.std.proofs.Common.{◌≡◌, ℕ, ◌≤◌, List, [], ◌∷◌, ◌++◌, Bool, true, false, ◌&&◌, refl, ap, sym, ◌∙◌, subst, append_assoc}
use Rattle.std.specs.Prelude.{nat_le}
use Rattle.hare_tree.specs.declared.kind.Kind.{Kind}
use Rattle.hare_tree.specs.declared.token.Token.{Token}
use Rattle.hare_tree.specs.declared.form.Sign.{Sign}
use Rattle.hare_tree.specs.declared.form.Own.TheVariants as ow
use Rattle.hare_tree.specs.declared.form.Sort.{Sort}
use Rattle.hare_tree.specs.declared.form.Sort.TheVariants as so
use Rattle.hare_tree.specs.declared.form.Piece.{Piece}
use Rattle.hare_tree.specs.declared.form.Piece.TheVariants as pi
use Rattle.hare_tree.specs.Node.{Head, Nodes, branch, nodes_of, sizes_of}
use Rattle.hare_tree.specs.Forms.{form_of}
use Rattle.hare_tree.specs.Levels.{level, admits}
use Rattle.hare_tree.specs.Spell.{start_of, sign_token, pieces_tokens, spell, spells}
use Rattle.hare_tree.specs.Shape.{is_shaped, are_kids, is_own, kid_pieces, own_of, kids_end, edges, yields_label}
use Rattle.hare_automaton.specs.declared.class.Class.{Class}
use Rattle.hare_automaton.specs.declared.class.Class.TheVariants as cl
use Rattle.hare_automaton.specs.declared.rule.Rule.TheVariants as ru
use Rattle.hare_automaton.specs.declared.rule.Symbol.{Symbol}
use Rattle.hare_automaton.specs.declared.rule.Symbol.TheVariants as sy
use Rattle.hare_automaton.specs.declared.rule.Change.TheVariants as ch
use Rattle.hare_automaton.specs.Classes.{class_of}
use Rattle.hare_automaton.specs.Rows.{Uses, of, before, symbols, opens}
use Rattle.hare_automaton.specs.DeclarationRows.{of_row}
use Rattle.hare_automaton.specs.Table.{row}
use Rattle.hare_automaton.specs.Engine.{Group, begun, add, run}
use Rattle.hare_tree.specs.Shape.{stops, stops_each, form_stops}
use Rattle.hare_automaton.specs.ExpressionRows.{level_row, start_row, start_level}
use Rattle.hare_automaton.specs.OneTree.{plain, plain_head}
use Rattle.hare_automaton.proofs.Machine.Steps.{front, run_close, run_uses}
use Rattle.hare_automaton.proofs.Machine.Tokens.{class_sign}
use Rattle.hare_automaton.proofs.Spelled.Paths.{split}
use Rattle.hare_automaton.proofs.Machine.Edges.{Edge, left, ReadsTo}
use Rattle.hare_automaton.proofs.Spelled.Lists.{plain_list, back, nothing_head}
use Rattle.hare_automaton.proofs.Spelled.Forms.{state, has_own, Owns, Clear}
use Rattle.hare_automaton.proofs.Spelled.Read.{read_pieces}

pub record Whole (s : Sort) (h : Head) (ts : Nodes) : Type 0 where
  pub admitted : admits s h.kind h.text ≡ true
  pub own : is_own (own_of (form_of h.kind)) h ≡ true
  pub kids : are_kids (level h.kind h.text) (kid_pieces (form_of h.kind)) ts ≡ true
  pub ends : kids_end (form_of h.kind) (edges ts) ≡ true
  pub label : yields_label h ts ≡ true

pub whole : (s : Sort) (h : Head) (ts : Nodes) → is_shaped s (branch h ts) ≡ true → Whole s h ts
unfolding is_shaped
whole s h ts e =
    let a = admits s h.kind h.text in
    let b = is_own (own_of (form_of h.kind)) h in
    let c = are_kids (level h.kind h.text) (kid_pieces (form_of h.kind)) ts in
    let d = kids_end (form_of h.kind) (edges ts) in
    let p = split (a && b && c && d) (yields_label h ts) e in
    let q = split (a && b && c) d p.0 in
    let r = split (a && b) c q.0 in
    let v = split a b r.0 in
    record { admitted = v.0; own = v.1; kids = r.1; ends = q.1; label = p.1 }

abbrev pub Claim : ℕ → Sort → Head → Nodes → List Token → List Symbol → Group → List Group → Type 0
Claim f s h ts w st g gs = run f (spell f (branch h ts) ++ w) (of s ∷ st) (g ∷ gs) ≡
    run f w (left s (level h.kind h.text) ++ st) (add (plain f (branch h ts)) (g ∷ gs))

-- the tree under way is whole
pub closed : (f : ℕ) (h : Head) (k : Kind) (b : Bool) (ts : Nodes) → h.kind ≡ k → (b ≡ false → is_own ow.Nothing h ≡ true) →
    (w : List Token) (st : List Symbol) (g : Group) (gs : List Group) →
    run f w (sy.Close k ∷ st) (state b (start_of f) h (plain_list f ts) ∷ g ∷ gs) ≡ run f w st (add (plain f (branch h ts)) (g ∷ gs))
closed f h k true ts i e w st g gs =
    run_close f w k st _
    ∙ ap (λ y. run f w st (add (branch (record { kind = y; place = start_of f; text = h.text; number = h.number; suffix = h.suffix })
    (nodes_of (plain_list f ts))) (g ∷ gs))) (sym i)
    ∙ ap (λ y. run f w st (add (branch (plain_head f h) y) (g ∷ gs))) (back f ts)
closed f h k false ts i e w st g gs =
    run_close f w k st _
    ∙ ap (λ y. run f w st (add (branch y (nodes_of (plain_list f ts))) (g ∷ gs))) (sym (nothing_head f h k i (e refl)))
    ∙ ap (λ y. run f w st (add (branch (plain_head f h) y) (g ∷ gs))) (back f ts)

pub stack : (ss ls st : List Symbol) (k : Kind) → ((ss ++ sy.Close k ∷ []) ++ ls) ++ st ≡ ss ++ sy.Close k ∷ (ls ++ st)
stack ss ls st k = append_assoc (ss ++ sy.Close k ∷ []) ls st ∙ append_assoc ss (sy.Close k ∷ []) (ls ++ st)

-- a tree whose form begins with a sign, before a token of the class
pub record Opening (s : Sort) (k : Kind) (d : Sign) (ps : List Piece) (h : Head) (ts : Nodes) (c : Class) : Type 0 where
  -- its kind
  pub kind_is : h.kind ≡ k
  -- its form: the sign, and the pieces behind it
  pub form : form_of k ≡ pi.Fixed d ∷ ps
  -- where a tree of the sort is wanted, the sign opens one of the kind
  pub row_is : row (ru.Of s) (cl.Sign d) ≡ before (opens k) (left s (level h.kind h.text))
  -- it is a tree of the sort
  pub shaped : Whole s h ts
  -- its text is such as the pieces read
  pub owns : Owns h ps
  -- where no piece reads a text it has none
  pub nothing : has_own ps ≡ false → is_own ow.Nothing h ≡ true
  -- its right edge lets the class stand behind it
  pub edge : Edge s c (branch h ts)
  -- each piece sees where it ends
  pub clear : Clear ps c

pub opens_reads : (f n : ℕ) → ReadsTo f n → (s : Sort) (k : Kind) (d : Sign) (ps : List Piece) (h : Head) (ts : Nodes) → sizes_of ts ≤ n →
    (w : List Token) (st : List Symbol) (g : Group) (gs : List Group) → Opening s k d ps h ts (front w) → Claim f s h ts w st g gs
unfolding spell stops
opens_reads f n ih s k d ps h ts z w st g gs o =
    let a : form_of h.kind ≡ pi.Fixed d ∷ ps = ap form_of o.kind_is ∙ o.form in
    let ls = left s (level h.kind h.text) in
    let kids : are_kids (level h.kind h.text) (kid_pieces ps) ts ≡ true =
    subst (λ y. are_kids (level h.kind h.text) (kid_pieces y) ts ≡ true) a o.shaped.kids in
    let ends : kids_end ps (edges ts) ≡ true = subst (λ y. kids_end y (edges ts) ≡ true) a o.shaped.ends in
    let x' : (y : Sign) → front w ≡ cl.Sign y → form_stops y h true ps (stops_each y ts) ≡ true =
    λ y j. subst (λ b. form_stops y h true b (stops_each y ts) ≡ true) a (o.edge.stops_at y j) in
    let r' : row (ru.Of s) (class_of (sign_token f d)) ≡ Uses (ch.Open ∷ []) ((symbols ps ++ sy.Close k ∷ []) ++ ls) =
    rw (class_sign f d) (o.row_is ∙ (rw o.form refl)) in
    rw a (run_uses f (sign_token f d) (pieces_tokens f h ps (spells f ts) ++ w) (ru.Of s) st (g ∷ gs) (ch.Open ∷ [])
    ((symbols ps ++ sy.Close k ∷ []) ++ ls) r'
    ∙ ap (λ y. run f (pieces_tokens f h ps (spells f ts) ++ w) y (begun (start_of f) [] ∷ g ∷ gs)) (stack (symbols ps) ls st k)
    ∙ read_pieces f n ih h _ ps false ts z kids ends o.owns refl w (sy.Close k ∷ (ls ++ st)) (start_of f) [] (g ∷ gs) (λ y. true) x' o.clear
    ∙ closed f h k (has_own ps) ts o.kind_is o.nothing w (ls ++ st) g gs)

-- ---- the rows of expressions

-- an expression of the level may stand there
abbrev pub tops : Sort → ℕ → Bool
tops (so.Level l) j = nat_le l j
tops so.Statement j = nat_le 1 j
tops _ j = false

pub expr_row : (s : Sort) (c : Class) (j : ℕ) → start_level c ≡ j → of_row so.Statement c ≡ level_row 1 c → tops s j ≡ true →
    row (ru.Of s) c ≡ before (start_row c) (left s j)
expr_row (so.Level l) c j e m a = rw (e, a) refl
expr_row so.Statement c j e m a = rw (m, e, a) refl
expr_row _ c j e m a = cc
