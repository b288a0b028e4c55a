-- What is known of trees that a run has made: of whole ones, and of those whose form is read from some piece on.
use Rattle.std.proofs.Common.{◌≡◌, ℕ, ◌+◌, List, [], ◌∷◌, ◌++◌, Bool, true, false, ◌&&◌, map, refl, ap, sym, ◌∙◌, subst, append_assoc, if◌then◌else◌}
use Rattle.std.specs.Prelude.{Some}
use Rattle.std.proofs.lemmas.List.{append-nil}
use Rattle.hare_tree.specs.declared.kind.Kind.{Kind}
use Rattle.hare_tree.specs.declared.token.Suffix.TheVariants as suffix
use Rattle.hare_tree.specs.declared.token.Token.{Token}
use Rattle.hare_tree.specs.declared.form.Sign.{Sign}
use Rattle.hare_tree.specs.declared.form.Sign.TheVariants as si
use Rattle.hare_tree.specs.declared.form.Own.{Own}
use Rattle.hare_tree.specs.declared.form.Sort.{Sort}
use Rattle.hare_tree.specs.declared.form.Piece.{Piece}
use Rattle.hare_tree.specs.Node.{Head, Node, Nodes, branch, none, more, nodes_of}
use Rattle.hare_tree.specs.Forms.{form_of}
use Rattle.hare_tree.specs.Levels.{level, admits}
use Rattle.hare_tree.specs.Spell.{start_of, own_tokens, piece_tokens, pieces_tokens, spell, spells}
use Rattle.hare_tree.specs.Shape.{is_shaped, are_kids, is_own, is_none, kid_pieces, own_of, kids_end, edges, behind_kid, behind_item, yields_label, stops, stops_each, form_stops}
use Rattle.hare_tree.specs.Depth.{begins, begins_in, place_in}
use Rattle.hare_tree.specs.Grammar.{HasPlaces, HavePlaces, place_of, unplaced}
use Rattle.hare_automaton.specs.declared.class.Class.TheVariants as cl
use Rattle.hare_automaton.specs.Classes.{class_of}
use Rattle.hare_automaton.specs.Engine.{Group, with_kids, head_in, add}
use Rattle.hare_automaton.proofs.Machine.Steps.{front}
use Rattle.hare_automaton.proofs.Spelled.Forms.{has_own, Owns}

-- the tokens that are read, and the number of their file
pub record Source : Type 0 where
  pub file : ℕ
  pub tokens : List Token

-- ---- whole trees

-- A tree of the sort, of the tokens `u` from the token `m` on, in front of the tokens `w`.
pub record IsTree (x : Source) (s : Sort) (m : ℕ) (u w : List Token) (t : Node) : Type 0 where
  pub shaped : is_shaped s t ≡ true
  pub spelled : spell 0 t ≡ map unplaced u
  pub placed : HasPlaces x.file x.tokens m t
  pub ends : (d : Sign) → front w ≡ cl.Sign d → stops d t ≡ true

-- such a tree was read, and is the next kid
pub record Tree (x : Source) (s : Sort) (gs : List Group) (m : ℕ) (u w : List Token) (gs' : List Group) : Type 0 where
  pub t : Node
  pub is : IsTree x s m u w t
  pub adds : gs' ≡ add t gs

-- the parts of a tree of a kind
pub record Made (x : Source) (k : Kind) (m : ℕ) (u w : List Token) (h : Head) (ts : Nodes) : Type 0 where
  pub kind_is : h.kind ≡ k
  pub place_is : h.place ≡ place_of x.tokens (m + place_in h ts)
  pub own : is_own (own_of (form_of k)) h ≡ true
  pub kids : are_kids (level k h.text) (kid_pieces (form_of k)) ts ≡ true
  pub ends : kids_end (form_of k) (edges ts) ≡ true
  pub label : yields_label h ts ≡ true
  pub spelled : pieces_tokens 0 h (form_of k) (spells 0 ts) ≡ map unplaced u
  pub placed : HavePlaces x.file x.tokens (begins h (form_of k) m (spells 0 ts)) ts
  pub stops_at : (d : Sign) → front w ≡ cl.Sign d → form_stops d h true (form_of k) (stops_each d ts) ≡ true

all_five : (a b c d e : Bool) → a ≡ true → b ≡ true → c ≡ true → d ≡ true → e ≡ true → (a && b && c && d && e) ≡ true
all_five a b c d e p q r s t = rw (p, q, r, s, t) refl

pub made_tree : (x : Source) (s : Sort) (k : Kind) (m : ℕ) (u w : List Token) (h : Head) (ts : Nodes) → is_none k ≡ false →
    admits s k h.text ≡ true → Made x k m u w h ts → IsTree x s m u w (branch h ts)
unfolding is_shaped spell stops HasPlaces
made_tree x s k m u w h ts n a q =
    let i : k ≡ h.kind = sym q.kind_is in
    let there : is_none h.kind ≡ false = subst (λ y. is_none y ≡ false) i n in
    record {
      shaped = all_five _ _ _ _ _ (subst (λ y. admits s y h.text ≡ true) i a) (subst (λ y. is_own (own_of (form_of y)) h ≡ true) i q.own)
          (subst (λ y. are_kids (level y h.text) (kid_pieces (form_of y)) ts ≡ true) i q.kids)
          (subst (λ y. kids_end (form_of y) (edges ts) ≡ true) i q.ends) q.label;
      spelled = subst (λ y. pieces_tokens 0 h (form_of y) (spells 0 ts) ≡ map unplaced u) i q.spelled;
      placed = (
        q.place_is ∙ ap (λ b. if b then start_of x.file else place_of x.tokens (m + place_in h ts)) (sym there),
        subst
            (λ y. HavePlaces x.file x.tokens (begins h (form_of y) m (spells 0 ts)) ts) i q.placed,
      );
      ends = λ d j. subst (λ y. form_stops d h true (form_of y) (stops_each d ts) ≡ true) i (q.stops_at d j);
    }

-- a tree of one sort is of another that admits its kind
pub as_sort : (x : Source) (s r : Sort) (m : ℕ) (u w : List Token) (t : Node) →
    ((k : Kind) (y : List ℕ) → admits s k y ≡ true → admits r k y ≡ true) → IsTree x s m u w t → IsTree x r m u w t
unfolding is_shaped
as_sort x s r m u w (branch h ts) f q = record
    { shaped = by (admits s h.kind h.text) (f h.kind h.text) q.shaped; spelled = q.spelled; placed = q.placed; ends = q.ends }
  where
    by : (a : Bool) → (a ≡ true → admits r h.kind h.text ≡ true) →
        (a && is_own (own_of (form_of h.kind)) h && are_kids (level h.kind h.text) (kid_pieces (form_of h.kind)) ts && kids_end
        (form_of h.kind) (edges ts) && yields_label h ts) ≡ true →
        (admits r h.kind h.text && is_own (own_of (form_of h.kind)) h && are_kids (level h.kind h.text) (kid_pieces (form_of h.kind)) ts &&
        kids_end (form_of h.kind) (edges ts) && yields_label h ts) ≡ true
    by true g e = rw (g refl) e
    by false g e = cc

pub tree_as : (x : Source) (s r : Sort) (gs : List Group) (m : ℕ) (u w : List Token) (gs' : List Group) →
    ((k : Kind) (y : List ℕ) → admits s k y ≡ true → admits r k y ≡ true) → Tree x s gs m u w gs' → Tree x r gs m u w gs'
tree_as x s r gs m u w gs' f q = record { t = q.t; is = as_sort x s r m u w q.t f q.is; adds = q.adds }

-- ---- kids side by side

abbrev pub add_all : Nodes → List Group → List Group
add_all none gs = gs
add_all (more t ts) gs = add_all ts (add t gs)

abbrev pub list_of : Nodes → List Node
list_of none = []
list_of (more t ts) = t ∷ list_of ts

pub back : (ts : Nodes) → nodes_of (list_of ts) ≡ ts
back none = refl
back (more t ts) = ap (more t) (back ts)

pub all_kids : (ts : Nodes) (g : Group) (gs : List Group) → add_all ts (g ∷ gs) ≡ with_kids g (g.kids ++ list_of ts) ∷ gs
all_kids none g gs = ap (λ l. with_kids g l ∷ gs) (sym (append-nil g.kids))
all_kids (more t ts) g gs = all_kids ts (with_kids g (g.kids ++ t ∷ [])) gs ∙ ap (λ l. with_kids g l ∷ gs)
    (append_assoc g.kids (t ∷ []) (list_of ts))

-- the kids of a piece were read
pub record Listed (x : Source) (p : Piece) (gs : List Group) (m : ℕ) (u w : List Token) (gs' : List Group) : Type 0 where
  pub ts : Nodes
  pub kids : (n : ℕ) → are_kids n (p ∷ []) ts ≡ true
  pub ends : kids_end (p ∷ []) (edges ts) ≡ true
  pub spelled : (h : Head) → piece_tokens 0 h p (spells 0 ts) ≡ map unplaced u
  pub placed : (h : Head) → HavePlaces x.file x.tokens (begins_in h p m (spells 0 ts)) ts
  pub adds : gs' ≡ add_all ts gs

-- the same of items with commas before them: where one follows, a comma comes next
pub record Items (x : Source) (p : Piece) (gs : List Group) (m : ℕ) (u w : List Token) (gs' : List Group) : Type 0 where
  pub listed : Listed x p gs m u w gs'
  pub comma : behind_item (edges listed.ts) ≡ Some si.Comma → front (u ++ w) ≡ cl.Sign si.Comma

-- ---- one token

-- the token `t` with this sign stands at `n`, in front of `m`
pub record Begun (x : Source) (d : Sign) (t : Token) (n m : ℕ) : Type 0 where
  pub class : class_of t ≡ cl.Sign d
  pub place : place_of x.tokens n ≡ t.place
  pub next : m ≡ n + 1

-- ---- a tree's own text

-- nothing was said yet
pub record Bare (g : Group) : Type 0 where
  pub text : g.text ≡ []
  pub number : g.number ≡ 0
  pub suffix : g.suffix ≡ suffix.None

-- the tokens are the tree's own text
pub record Owned (o : Own) (g : Group) (u : List Token) (g' : Group) : Type 0 where
  pub own : (k : Kind) → is_own o (head_in k g') ≡ true
  pub spelled : (k : Kind) → own_tokens 0 (head_in k g') o ≡ map unplaced u
  pub kids : g'.kids ≡ g.kids
  pub place : g'.place ≡ g.place

-- ---- a tree whose form was read to its end

-- The pieces `ps` were read behind what the group `g` says, and the tree of the kind is whole.
pub record Ended (x : Source) (k : Kind) (ps : List Piece) (g : Group) (hs : List Group) (m : ℕ) (u w : List Token)
    (gs' : List Group) : Type 0 where
  pub h : Head
  pub ts : Nodes
  pub kind_is : h.kind ≡ k
  pub place_is : h.place ≡ g.place
  pub kept : has_own ps ≡ false → h ≡ head_in k g
  pub owns : Owns h ps
  pub kids : (n : ℕ) → are_kids n (kid_pieces ps) ts ≡ true
  pub ends : kids_end ps (edges ts) ≡ true
  pub behind : (d : Sign) → behind_kid ps (edges ts) ≡ Some d → front (u ++ w) ≡ cl.Sign d
  pub spelled : pieces_tokens 0 h ps (spells 0 ts) ≡ map unplaced u
  pub placed : HavePlaces x.file x.tokens (begins h ps m (spells 0 ts)) ts
  pub stops_at : (e : Sign → Bool) → ((d : Sign) → front (u ++ w) ≡ cl.Sign d → e d ≡ true) → (d : Sign) → front w ≡ cl.Sign d →
      form_stops d h (e d) ps (stops_each d ts) ≡ true
  pub adds : gs' ≡ add (branch h (nodes_of (g.kids ++ list_of ts))) hs
