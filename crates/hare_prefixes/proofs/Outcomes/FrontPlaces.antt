-- Where a run is done, the tree has the places of the tokens that were used, whatever stands behind them.
use Rattle.std.proofs.Common.{◌≡◌, ℕ, zero, suc, ◌+◌, List, [], ◌∷◌, ◌++◌, Bool, true, false, map, refl, ap, sym, ◌∙◌, subst, if◌then◌else◌}
use Rattle.std.proofs.lemmas.List.{append_cancel_right}
use Rattle.hare_tree.specs.declared.token.Token.{Token}
use Rattle.hare_tree.specs.declared.form.Sort.{Sort}
use Rattle.hare_tree.specs.Node.{Node, Nodes, branch, none, more}
use Rattle.hare_tree.specs.Forms.{form_of}
use Rattle.hare_tree.specs.Spell.{start_of, spell, spells}
use Rattle.hare_tree.specs.Shape.{is_none, is_shaped}
use Rattle.hare_tree.specs.Depth.{begins, first_number, numbers_behind, place_in}
use Rattle.hare_tree.specs.Grammar.{place_of, HasPlaces, HavePlaces, unplaced}
use Rattle.hare_automaton.specs.declared.class.Class.TheVariants as cl
use Rattle.hare_automaton.specs.Classes.{class_of}
use Rattle.hare_automaton.specs.Rows.{of}
use Rattle.hare_automaton.specs.Engine.{Group, add, Done, Ends, step, run, bottom}
use Rattle.hare_prefixes.proofs.Soundness.TokenKinds.{class_unplaced}
use Rattle.hare_prefixes.proofs.Soundness.Readings.{runs_read_trees}
use Rattle.hare_prefixes.proofs.Completion.Endings.{good}
use Rattle.hare_prefixes.proofs.Completion.Viable.{ends_at, done_there}
use Rattle.hare_prefixes.proofs.Outcomes.Blind.{same_end}

-- ---- lists with the same places

abbrev SamePlaces : List Token → List Token → Type 0
SamePlaces ts us = (k : ℕ) → place_of ts k ≡ place_of us k

mutual
  unfolding HasPlaces

  same_placed : (f : ℕ) (ts us : List Token) (n : ℕ) (t : Node) → SamePlaces ts us → HasPlaces f ts n t → HasPlaces f us n t
  same_placed f ts us n (branch h vs) e p = (
    p.0 ∙ by (is_none h.kind),
    same_all f ts us (begins h (form_of h.kind) n (spells 0 vs)) vs e
        p.1,
  )
    where
      by : (b : Bool) → (if b then start_of f else place_of ts (n + place_in h vs)) ≡
          (if b then start_of f else place_of us (n + place_in h vs))
      by true = refl
      by false = e (n + place_in h vs)

  same_all : (f : ℕ) (ts us : List Token) (ns : List ℕ) (vs : Nodes) → SamePlaces ts us → HavePlaces f ts ns vs → HavePlaces f us ns vs
  same_all f ts us ns none e p = tt
  same_all f ts us ns (more v vs) e p = (same_placed f ts us (first_number ns) v e p.0, same_all f ts us (numbers_behind ns) vs e p.1)

-- a token at the start of file 0 has the place that stands for no token
last_place : (u : List Token) (t : Token) → SamePlaces (u ++ unplaced t ∷ []) u
last_place [] t zero = refl
last_place [] t (suc k) = refl
last_place (y ∷ u) t zero = refl
last_place (y ∷ u) t (suc k) = last_place u t k

-- ---- the tokens that were used

-- a shaped tree of the sort is spelled by the tokens in front of `rest`, and has the places of just these tokens
pub record ReadsUsed (s : Sort) (file : ℕ) (ts rest : List Token) (made : List Group) : Type 0 where
  pub tree : Node
  pub used : List Token
  pub split : ts ≡ used ++ rest
  pub shaped : is_shaped s tree ≡ true
  pub spelled : spell 0 tree ≡ map unplaced used
  pub placed : HasPlaces file used 0 tree
  pub is_made : made ≡ add tree bottom

done_made : (t y : Token) (v w : List Token) (gs hs : List Group) → Done (t ∷ v) gs ≡ Done (y ∷ w) hs → gs ≡ hs
done_made t y v w gs hs e = cc

pub reads_used : (s : Sort) (file : ℕ) (ts : List Token) (t : Token) (rest : List Token) (made : List Group) →
    good (of s ∷ []) cl.Junk ≡ true → run file ts (of s ∷ []) bottom ≡ Done (t ∷ rest) made → ReadsUsed s file ts (t ∷ rest) made
reads_used s file ts t rest made g e =
    let p = ends_at file ts (of s ∷ []) bottom t rest made g e in
    let z = unplaced t in
    let over : step file z (class_of z) p.stop.rest p.stop.trees ≡ Ends p.made =
    subst (λ c. step file z c p.stop.rest p.stop.trees ≡ Ends p.made) (sym (class_unplaced t))
    (same_end file t z (class_of t) p.stop.rest p.stop.trees p.made p.over) in
    let there : run file (p.u ++ z ∷ []) (of s ∷ []) bottom ≡ Done (z ∷ []) p.made =
    p.stop.same (z ∷ []) ∙ done_there file z [] p.stop.rest p.stop.trees p.made over in
    let here : run file ts (of s ∷ []) bottom ≡ Done (t ∷ rest) p.made =
    ap (λ l. run file l (of s ∷ []) bottom) p.is ∙ p.stop.same (t ∷ rest) ∙ done_there file t rest p.stop.rest p.stop.trees p.made
    p.over in
    let r = runs_read_trees s file (p.u ++ z ∷ []) (z ∷ []) p.made there in
    let i : r.used ≡ p.u = append_cancel_right r.used p.u (z ∷ []) (sym r.split) in
    record {
      tree = r.tree;
      used = p.u;
      split = p.is;
      shaped = r.shaped;
      spelled = r.spelled ∙ ap (map unplaced) i;
      placed = same_placed file (p.u ++ z ∷ []) p.u 0 r.tree (last_place p.u t) r.placed;
      is_made = done_made t t rest rest made p.made (sym e ∙ here) ∙ r.is_made;
    }
