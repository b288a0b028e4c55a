-- The first syntax fault at the tokens of the file themselves.
use Rattle.std.proofs.Common.{◌≡◌, ℕ, suc, List, [], ◌∷◌, ◌++◌, Bool, true, false, ◌&&◌, map, take, refl, ap, sym, ◌∙◌, subst, arith, append_assoc}
use Rattle.std.proofs.lemmas.List.{append_cancel_right, map-append}
use Rattle.hare_tree.specs.declared.token.TokenKind.TheVariants as tk
use Rattle.hare_tree.specs.declared.token.Token.{Token}
use Rattle.hare_tree.specs.declared.form.Sort.{Sort}
use Rattle.hare_tree.specs.declared.tree.FileTree.{FileTree}
use Rattle.hare_tree.specs.Node.{Node}
use Rattle.hare_tree.specs.Spell.{word_token, sign_token, spell, spell_file}
use Rattle.hare_tree.specs.Shape.{is_shaped, is_shaped_file}
use Rattle.hare_tree.specs.Grammar.{is_proper_string, joined, ends_in_string, StandsAt, unplaced, Spells, HasPlaces, trees_of, IsViable, IsSyntaxFault}
use Rattle.hare_automaton.specs.declared.rule.Symbol.{Symbol}
use Rattle.hare_automaton.specs.Classes.{class_of}
use Rattle.hare_automaton.specs.Rows.{of}
use Rattle.hare_automaton.specs.Engine.{Group, Step, Goes, Ends, Stuck, step, Outcome, Done, Fails, after, run, bottom}
use Rattle.hare_automaton.specs.OneTree.{is_sort, file_symbols}
use Rattle.hare_automaton.proofs.Spelled.Kids.{closer}
use Rattle.hare_automaton.proofs.Unambiguous.OneTree.{read_whole}
use Rattle.hare_automaton.proofs.Spelled.Files.{read_file}
use Rattle.hare_prefixes.specs.Viable.{has_trees, BeginsTree}
use Rattle.hare_prefixes.specs.Faults.{RunsFault, RunsFaultInTrees, RunsReadFronts, RunsUseAll, FaultsEndRuns}
use Rattle.hare_prefixes.proofs.Outcomes.FrontPlaces.{reads_used}
use Rattle.hare_prefixes.proofs.Outcomes.Alike.{SameStep, same_step, classes, Alike, alike}
use Rattle.hare_prefixes.proofs.Completion.Viable.{StuckAt, stuck_at, EndsAt, ends_at, used_up, viable, not_viable, ends_whole, same_classes}
use Rattle.hare_prefixes.proofs.Outcomes.Breaks.{twice, trees_sort, trees_end}
use Rattle.hare_prefixes.proofs.Outcomes.Moved.{spell_moved}
use Rattle.hare_prefixes.proofs.Joining.UsedApart.{run_apart}
use Rattle.hare_prefixes.proofs.Outcomes.Steady.{end_not_stuck}
use Rattle.hare_prefixes.proofs.Joining.Joined.{Head, head, joined_append, joined_front}
use Rattle.hare_prefixes.proofs.Joining.Loose.{loose, loose_unplaced, loose_joined, proper_class, apart_loose}
use Rattle.hare_prefixes.proofs.Joining.Places.{Spot, spot}

-- ---- in the tokens of a tree no strings stand side by side

pub tree_loose : (s : Sort) (t : Node) → is_sort s ≡ true → is_shaped s t ≡ true → loose false (spell 0 t) ≡ true
tree_loose s t c h =
    let d = sign_token 0 (closer s) in
    let q = run_apart 0 (spell 0 t ++ d ∷ []) (d ∷ []) false (of s ∷ []) bottom _ refl (λ x. cc) (read_whole 0 s t c h) in
    let e : q.used ≡ spell 0 t = append_cancel_right q.used (spell 0 t) (d ∷ []) (sym q.is) in
    ap (loose false) (sym e) ∙ apart_loose false false q.used (λ x. x) q.apart

-- behind tokens in which none stand side by side, one that is no string
pub loose_behind : (b : Bool) (u : List Token) (t : Token) → is_proper_string t ≡ false → loose b u ≡ true → loose b (u ++ t ∷ []) ≡ true
loose_behind b [] t n e = rw n refl
loose_behind b (y ∷ u) t n e = tail _ (loose (is_proper_string y) u) (loose (is_proper_string y) (u ++ t ∷ [])) e
    (λ x. loose_behind (is_proper_string y) u t n x)
  where
    tail : (a p q : Bool) → (a && p) ≡ true → (p ≡ true → q ≡ true) → (a && q) ≡ true
    tail true p q e f = f e
    tail false p q e f = cc

pub file_loose : (t : FileTree) → is_shaped_file t ≡ true → loose false (spell_file t) ≡ true
file_loose t h =
    let k = word_token t.file tk.End [] in
    let q = run_apart t.file (spell_file t) (k ∷ []) false file_symbols bottom _ refl (λ x. cc) (read_file t h) in
    ap (loose false) q.is ∙ loose_behind false q.used k refl (apart_loose false false q.used (λ x. x) q.apart)

-- ---- fronts of joined tokens, and fronts of the file's tokens

-- where tokens of a tree begin with a front's joined tokens, they go on with the front
pub goes_back : (spelled front behind : List Token) → loose false spelled ≡ true →
    map unplaced spelled ≡ map unplaced (joined front ++ behind) → Spells spelled (front ++ behind)
goes_back spelled front behind l e =
    let a : loose false (joined front ++ behind) ≡ true =
    sym (loose_unplaced false (joined front ++ behind)) ∙ ap (loose false) (sym e) ∙ loose_unplaced false spelled ∙ l in
    let k : joined (front ++ behind) ≡ joined front ++ behind = joined_front front behind ∙ loose_joined false (joined front ++ behind) a in
    e ∙ ap (map unplaced) (sym k)

-- where they begin with a front and a token at which no strings are joined, they begin with the joined tokens of both
pub comes_back : (spelled front : List Token) (first : Token) (behind : List Token) →
    (ends_in_string front && is_proper_string first) ≡ false → Spells spelled ((front ++ first ∷ []) ++ behind) →
    map unplaced spelled ≡ map unplaced ((joined front ++ (head first behind).first ∷ []) ++ (head first behind).rest)
comes_back spelled front first behind p e =
    let h = head first behind in
    let x = (front ++ first ∷ []) ++ behind in
    let k : joined x ≡ (joined front ++ h.first ∷ []) ++ h.rest =
    ap joined (append_assoc front (first ∷ []) behind) ∙ joined_append front (first ∷ behind) p ∙ ap (λ l. joined front ++ l) h.is ∙ sym
    (append_assoc (joined front) (h.first ∷ []) h.rest) in
    e ∙ ap (map unplaced) k

-- joined tokens that stand at one token have one class
pub same_class : (first : Token) (u v : List Token) (h : Head first u) (k : Head first v) → class_of h.first ≡ class_of k.first
same_class first u v h k = by (is_proper_string first) refl
  where
    by : (p : Bool) → is_proper_string first ≡ p → class_of h.first ≡ class_of k.first
    by true e = proper_class h.first (h.proper ∙ e) ∙ sym (proper_class k.first (k.proper ∙ e))
    by false e = ap class_of (h.same e ∙ sym (k.same e))

-- ---- where one token of a class stops the run, each does

pub same_stuck : (z y : Step) → SameStep z y → y ≡ Stuck → z ≡ Stuck
same_stuck Stuck y i e = refl
same_stuck (Goes st gs) y i e = let x : SameStep (Goes st gs) Stuck = subst (λ k. SameStep (Goes st gs) k) e i in absurd x
same_stuck (Ends gs) y i e = let x : SameStep (Ends gs) Stuck = subst (λ k. SameStep (Ends gs) k) e i in absurd x

pub same_ends : (z y : Step) (made : List Group) → SameStep z y → y ≡ Ends made → (gs : List Group) × (z ≡ Ends gs)
same_ends Stuck y made i e = let x : SameStep Stuck (Ends made) = subst (λ k. SameStep Stuck k) e i in absurd x
same_ends (Goes st gs) y made i e = let x : SameStep (Goes st gs) (Ends made) = subst (λ k. SameStep (Goes st gs) k) e i in absurd x
same_ends (Ends gs) y made i e = (gs, refl)

pub same_at : (f : ℕ) (t t' : Token) (st : List Symbol) (gs : List Group) → class_of t' ≡ class_of t →
    SameStep (step f t' (class_of t') st gs) (step f t (class_of t) st gs)
same_at f t t' st gs e = subst (λ c. SameStep (step f t' c st gs) (step f t (class_of t) st gs)) (sym e)
    (same_step f f t' t (class_of t) st gs gs)

abbrev pub stuck_like : (f : ℕ) (w : List Token) (st : List Symbol) (gs : List Group) (t t' : Token) (v : List Token)
    (p : StuckAt f w st gs t v) → class_of t' ≡ class_of t → StuckAt f (p.u ++ t' ∷ []) st gs t' []
stuck_like f w st gs t t' v p e = record {
  u = p.u;
  is = refl;
  stop = p.stop;
  stuck = same_stuck _ _
      (same_at f t t' p.stop.rest p.stop.trees e) p.stuck;
}

abbrev pub ends_like : (f : ℕ) (w : List Token) (st : List Symbol) (gs : List Group) (t t' : Token) (v : List Token)
    (p : EndsAt f w st gs t v) → class_of t' ≡ class_of t → EndsAt f (p.u ++ t' ∷ []) st gs t' []
ends_like f w st gs t t' v p e =
    let x = same_ends _ _ p.made (same_at f t t' p.stop.rest p.stop.trees e)
    p.over in record { u = p.u; is = refl; stop = p.stop; made = x.0; over = x.1 }

-- ---- sorts

tree_viable : (s : Sort) (front : List Token) → is_sort s ≡ true → BeginsTree s (joined front) → IsViable (trees_of s) front
tree_viable s front c q =
    let e : map unplaced (spell 0 q.tree) ≡ map unplaced (joined front ++ q.behind) =
    ap (map unplaced) q.spelled ∙ twice (joined front ++ q.behind) in (
      q.tree,
      record {
        shaped = q.shaped;
        behind = q.behind;
        spelled = goes_back (spell 0 q.tree) front q.behind
            (tree_loose s q.tree c q.shaped) e;
      },
    )

-- a tree goes on with the front and the first token at which a joined token stands only where some token of its class goes on with the
-- joined tokens before it
tree_none : (s : Sort) (ts : List Token) (n : ℕ) (t : Token) (rest u : List Token) → is_sort s ≡ true → (p : Spot ts n t rest) →
    u ≡ joined (take n ts) → ((z : Token) → class_of z ≡ class_of t → BeginsTree s (u ++ z ∷ []) → ⊥) →
    IsViable (trees_of s) (take (suc n) ts) → ⊥
tree_none s ts n t rest u c p e k v =
    let g = v.1 in
    let x = p.cut.first in
    let h = head x g.behind in
    let i : Spells (spell 0 v.0) ((take n ts ++ x ∷ []) ++ g.behind) =
    subst (λ l. Spells (spell 0 v.0) (l ++ g.behind)) p.cut.next g.spelled in
    let j = comes_back (spell 0 v.0) (take n ts) x g.behind p.apart i in
    let b : BeginsTree s (joined (take n ts) ++ h.first ∷ []) =
    record { tree = v.0; behind = h.rest; shaped = g.shaped; spelled = sym (spell_moved 0 v.0) ∙ j } in
    k h.first (same_class x g.behind p.cut.behind h p.head ∙ ap class_of (sym p.is))
    (subst (λ l. BeginsTree s (l ++ h.first ∷ [])) (sym e) b)

-- the tokens before a place at which the joined tokens are split
pub before_spot : (ts : List Token) (n : ℕ) (t : Token) (rest u : List Token) → Spot ts n t rest → joined ts ≡ u ++ t ∷ rest →
    u ≡ joined (take n ts)
before_spot ts n t rest u p e = append_cancel_right u (joined (take n ts)) (t ∷ rest) (sym e ∙ p.whole)

pub runs_fault : RunsFault
runs_fault s c file ts n t rest e q =
    let p = stuck_at file (joined ts) (of s ∷ []) bottom t rest (trees_end s c) e in
    let o = spot ts n t rest q in
    let b = before_spot ts n t rest p.u o p.is in
    let d = trees_sort s c in
    record {
      within = o.within;
      before = tree_viable s (take n ts) d (subst (λ l. BeginsTree s l) b (viable s file p.u p.stop));
      ends = tree_none s ts n t rest p.u d o b
          (λ z i. not_viable s file (p.u ++ z ∷ []) z [] d (stuck_like file (joined ts) (of s ∷ []) bottom t z rest p i));
    }

runs_end : (s : Sort) → has_trees s ≡ true → (file : ℕ) (ts : List Token) (n : ℕ) (t : Token) (rest : List Token) (made : List Group) →
    run file (joined ts) (of s ∷ []) bottom ≡ Done (t ∷ rest) made → StandsAt ts n (t ∷ rest) → IsSyntaxFault (trees_of s) ts n
runs_end s c file ts n t rest made e q =
    let p = ends_at file (joined ts) (of s ∷ []) bottom t rest made (trees_end s c) e in
    let o = spot ts n t rest q in
    let b = before_spot ts n t rest p.u o p.is in
    let d = trees_sort s c in
    record {
      within = o.within;
      before = tree_viable s (take n ts) d (subst (λ l. BeginsTree s l) b (viable s file p.u p.stop));
      ends = tree_none s ts n t rest p.u d o b
          (λ z i. ends_whole s file (p.u ++ z ∷ []) z [] d (ends_like file (joined ts) (of s ∷ []) bottom t z rest p i));
    }

pub runs_read_fronts : RunsReadFronts
runs_read_fronts s c file ts n t rest made e q =
    let r = reads_used s file (joined ts) t rest made (trees_end s c) e in
    let b = before_spot ts n t rest r.used (spot ts n t rest q) r.split in
    let i : map unplaced (spell 0 r.tree) ≡ map unplaced (joined (take n ts)) =
    ap (map unplaced) r.spelled ∙ twice r.used ∙ ap (map unplaced) b in
    record {
      tree = r.tree;
      shaped = r.shaped;
      spelled = i;
      placed = subst (λ l. HasPlaces file l 0 r.tree) b r.placed;
      is_made = r.is_made;
      ends = runs_end s c file ts n t rest made e q;
    }

-- a run over one token that is done is over there
over_there : (f : ℕ) (d : Token) (st : List Symbol) (gs : List Group) (v : List Token) (made : List Group) →
    run f (d ∷ []) st gs ≡ Done v made → step f d (class_of d) st gs ≡ Ends made
unfolding run
over_there f d st gs v made e = by (step f d (class_of d) st gs) refl e
  where
    by : (z : Step) → step f d (class_of d) st gs ≡ z → after z d [] (λ st' gs'. run f [] st' gs') ≡ Done v made →
        step f d (class_of d) st gs ≡ Ends made
    by (Goes st' gs') i k = cc
    by (Ends gs') i k = let x : gs' ≡ made = cc in i ∙ ap Ends x
    by Stuck i k = cc

like_done : (o y : Outcome) (v : List Token) (made : List Group) → y ≡ Done v made → Alike o y → (w : List Token) × (hs : List Group) ×
    (o ≡ Done w hs)
like_done (Done w hs) y v made e a = (w, hs, refl)
like_done (Fails w) y v made e a = let b : Alike (Fails w) (Done v made) = subst (λ k. Alike (Fails w) k) e a in absurd b

-- where the run is stuck, the tokens that it has used are those of no tree
pub stuck_in_tree : (s : Sort) (f : ℕ) (w : List Token) (t : Token) (v : List Token) (tree : Node) → is_sort s ≡ true →
    is_shaped s tree ≡ true → (p : StuckAt f w (of s ∷ []) bottom t v) → spell 0 tree ≡ map unplaced p.u → ⊥
stuck_in_tree s f w t v tree c h p e =
    let d = sign_token 0 (closer s) in
    let k : classes (p.u ++ d ∷ []) ≡ classes (spell 0 tree ++ d ∷ []) =
    map-append class_of p.u (d ∷ []) ∙ ap (λ l. l ++ class_of d ∷ []) (sym (same_classes p.u) ∙ ap classes (sym e)) ∙ sym
    (map-append class_of (spell 0 tree) (d ∷ [])) in
    let x = like_done _ _ _ _ (read_whole 0 s tree c h) (alike f 0 (p.u ++ d ∷ []) (spell 0 tree ++ d ∷ []) (of s ∷ []) bottom bottom k) in
    let o = over_there f d p.stop.rest p.stop.trees x.0 x.1 (sym (p.stop.same (d ∷ [])) ∙ x.2) in
    end_not_stuck f d t (class_of d) (class_of t) p.stop.rest p.stop.trees p.stop.trees x.1 o p.stuck

pub runs_fault_in_trees : RunsFaultInTrees
runs_fault_in_trees s c file ts n t rest e q tree h i =
    let p = stuck_at file (joined ts) (of s ∷ []) bottom t rest (trees_end s c) e in
    let b = before_spot ts n t rest p.u (spot ts n t rest q) p.is in
    let d = trees_sort s c in
    stuck_in_tree s file (joined ts) t rest tree d h p (sym (spell_moved 0 tree) ∙ i ∙ ap (map unplaced) (sym b))

pub runs_use_all : RunsUseAll
runs_use_all s c file ts e = tree_viable s ts (trees_sort s c)
    (viable s file (joined ts) (used_up file (joined ts) (of s ∷ []) bottom (trees_end s c) e))

pub faults_end_runs : FaultsEndRuns
faults_end_runs s ts n f = record { within = omega (arith, f.within); viable = f.before; longest = λ x v. f.ends v }
