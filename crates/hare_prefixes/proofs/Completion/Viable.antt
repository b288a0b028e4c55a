-- Where a run stops, what was read so far goes on to a whole tree, and with the token at which it stops nothing does.
use Rattle.std.proofs.Common.{◌≡◌, ℕ, List, [], ◌∷◌, ◌++◌, true, map, length, refl, ap, sym, ◌∙◌, subst, arith, append_assoc}
use Rattle.std.proofs.lemmas.List.{length-append, length-map, map-append}
use Rattle.std.proofs.lemmas.List.{append_cancel_right}
use Rattle.hare_tree.specs.declared.token.TokenKind.TheVariants as tk
use Rattle.hare_tree.specs.declared.token.Token.{Token}
use Rattle.hare_tree.specs.declared.form.Sort.{Sort}
use Rattle.hare_tree.specs.Spell.{word_token, sign_token, spell}
use Rattle.hare_tree.specs.Grammar.{unplaced}
use Rattle.hare_automaton.specs.declared.class.Class.TheVariants as cl
use Rattle.hare_automaton.specs.declared.rule.Symbol.{Symbol}
use Rattle.hare_automaton.specs.Classes.{class_of}
use Rattle.hare_automaton.specs.Rows.{of}
use Rattle.hare_automaton.specs.Engine.{Group, Step, Goes, Ends, Stuck, step, Outcome, Done, Fails, after, run, bottom}
use Rattle.hare_automaton.specs.OneTree.{is_sort}
use Rattle.hare_automaton.proofs.Machine.Steps.{run_done}
use Rattle.hare_automaton.proofs.Spelled.Kids.{closer}
use Rattle.hare_automaton.proofs.Unambiguous.OneTree.{read_whole}
use Rattle.hare_prefixes.specs.Viable.{BeginsTree}
use Rattle.hare_prefixes.proofs.Soundness.TokenKinds.{class_unplaced}
use Rattle.hare_prefixes.proofs.Soundness.Readings.{runs_read_trees}
use Rattle.hare_prefixes.proofs.Completion.Endings.{closing, good}
use Rattle.hare_prefixes.proofs.Completion.Closing.{closes}
use Rattle.hare_prefixes.proofs.Completion.Good.{step_good, class_proper}
use Rattle.hare_prefixes.proofs.Outcomes.Alike.{classes, Alike, alike}

-- ---- where a run stops

-- the tokens in front of the place where the run stops, and what is waited for there, whatever stands behind
pub record Stopped (f : ℕ) (u : List Token) (st : List Symbol) (gs : List Group) : Type 0 where
  pub rest : List Symbol
  pub trees : List Group
  pub is_good : good rest cl.Junk ≡ true
  pub same : (v : List Token) → run f (u ++ v) st gs ≡ run f v rest trees

stopped_here : (f : ℕ) (st : List Symbol) (gs : List Group) → good st cl.Junk ≡ true → Stopped f [] st gs
stopped_here f st gs g = record { rest = st; trees = gs; is_good = g; same = λ v. refl }

stopped_behind : (f : ℕ) (t : Token) (u : List Token) (st st' : List Symbol) (gs gs' : List Group) →
    step f t (class_of t) st gs ≡ Goes st' gs' → Stopped f u st' gs' → Stopped f (t ∷ u) st gs
unfolding run
stopped_behind f t u st st' gs gs' i s = record {
  rest = s.rest;
  trees = s.trees;
  is_good = s.is_good;
  same = λ v. ap (λ z. after z t (u ++ v) (λ st2 gs2. run f (u ++ v) st2 gs2)) i ∙
      s.same v;
}

-- at a token that cannot stand there
pub record StuckAt (f : ℕ) (w : List Token) (st : List Symbol) (gs : List Group) (t : Token) (v : List Token) : Type 0 where
  pub u : List Token
  pub is : w ≡ u ++ t ∷ v
  pub stop : Stopped f u st gs
  pub stuck : step f t (class_of t) stop.rest stop.trees ≡ Stuck

pub stuck_at : (f : ℕ) (w : List Token) (st : List Symbol) (gs : List Group) (t : Token) (v : List Token) → good st cl.Junk ≡ true →
    run f w st gs ≡ Fails (t ∷ v) → StuckAt f w st gs t v
unfolding run stopped_behind stopped_here
stuck_at f [] st gs t v g e = cc
stuck_at f (y ∷ w) st gs t v g e = by (step f y (class_of y) st gs) refl e (λ st' gs' g' q. stuck_at f w st' gs' t v g' q)
  where
    by : (z : Step) → step f y (class_of y) st gs ≡ z → after z y w (λ st' gs'. run f w st' gs') ≡ Fails (t ∷ v) →
        ((st' : List Symbol) (gs' : List Group) → good st' cl.Junk ≡ true → run f w st' gs' ≡ Fails (t ∷ v) → StuckAt f w st' gs' t v) →
        StuckAt f (y ∷ w) st gs t v
    by (Goes st' gs') i e k =
        let r = k st' gs' (step_good f y (class_of y) st st' gs gs' cl.Junk g (class_proper y) i) e in
        record { u = y ∷ r.u; is = ap (λ l. y ∷ l) r.is; stop = stopped_behind f y r.u st st' gs gs' i r.stop; stuck = r.stuck }
    by (Ends gs') i e k = cc
    by Stuck i e k =
        let a : y ≡ t = cc in
        let b : w ≡ v = cc in
        record {
          u = [];
          is = (rw (a, b) refl);
          stop = stopped_here f st gs g;
          stuck = subst (λ z. step f z (class_of z) st gs ≡ Stuck) a
              i;
        }

-- at a token at which nothing more is waited for
pub record EndsAt (f : ℕ) (w : List Token) (st : List Symbol) (gs : List Group) (t : Token) (v : List Token) : Type 0 where
  pub u : List Token
  pub is : w ≡ u ++ t ∷ v
  pub stop : Stopped f u st gs
  pub made : List Group
  pub over : step f t (class_of t) stop.rest stop.trees ≡ Ends made

pub ends_at : (f : ℕ) (w : List Token) (st : List Symbol) (gs : List Group) (t : Token) (v : List Token) (made : List Group) →
    good st cl.Junk ≡ true → run f w st gs ≡ Done (t ∷ v) made → EndsAt f w st gs t v
unfolding run stopped_behind stopped_here
ends_at f [] st gs t v made g e = cc
ends_at f (y ∷ w) st gs t v made g e = by (step f y (class_of y) st gs) refl e (λ st' gs' g' q. ends_at f w st' gs' t v made g' q)
  where
    by : (z : Step) → step f y (class_of y) st gs ≡ z → after z y w (λ st' gs'. run f w st' gs') ≡ Done (t ∷ v) made →
        ((st' : List Symbol) (gs' : List Group) → good st' cl.Junk ≡ true → run f w st' gs' ≡ Done (t ∷ v) made → EndsAt f w st' gs' t v) →
        EndsAt f (y ∷ w) st gs t v
    by (Goes st' gs') i e k =
        let r = k st' gs' (step_good f y (class_of y) st st' gs gs' cl.Junk g (class_proper y) i) e in
        record {
          u = y ∷ r.u;
          is = ap (λ l. y ∷ l) r.is;
          stop = stopped_behind f y r.u st st' gs gs' i r.stop;
          made = r.made;
          over =
              r.over;
        }
    by (Ends gs') i e k =
        let a : y ≡ t = cc in
        let b : w ≡ v = cc in
        record {
          u = [];
          is = (rw (a, b) refl);
          stop = stopped_here f st gs g;
          made = gs';
          over = subst
              (λ z. step f z (class_of z) st gs ≡ Ends gs') a i;
        }
    by Stuck i e k = cc

-- where the tokens are used up
pub used_up : (f : ℕ) (w : List Token) (st : List Symbol) (gs : List Group) → good st cl.Junk ≡ true → run f w st gs ≡ Fails [] →
    Stopped f w st gs
unfolding run
used_up f [] st gs g e = stopped_here f st gs g
used_up f (y ∷ w) st gs g e = by (step f y (class_of y) st gs) refl e (λ st' gs' g' q. used_up f w st' gs' g' q)
  where
    by : (z : Step) → step f y (class_of y) st gs ≡ z → after z y w (λ st' gs'. run f w st' gs') ≡ Fails [] →
        ((st' : List Symbol) (gs' : List Group) → good st' cl.Junk ≡ true → run f w st' gs' ≡ Fails [] → Stopped f w st' gs') →
        Stopped f (y ∷ w) st gs
    by (Goes st' gs') i e k = stopped_behind f y w st st' gs gs' i
        (k st' gs' (step_good f y (class_of y) st st' gs gs' cl.Junk g (class_proper y) i) e)
    by (Ends gs') i e k = cc
    by Stuck i e k = cc

-- ---- what was read goes on to a whole tree

-- what stands behind all tokens
abbrev pub end : Token
end = word_token 0 tk.End []

pub goes_on : (f : ℕ) (u : List Token) (st : List Symbol) (gs : List Group) → Stopped f u st gs → (more : List Token) ×
    (made : List Group) × (run f (u ++ (more ++ end ∷ [])) st gs ≡ Done (end ∷ []) made)
goes_on f u st gs s =
    let c = closes f s.rest (end ∷ []) s.trees s.is_good in
    (closing s.rest, c.trees, s.same (closing s.rest ++ end ∷ []) ∙ c.is ∙ run_done f end [] c.trees)

pub viable : (s : Sort) (f : ℕ) (u : List Token) → Stopped f u (of s ∷ []) bottom → BeginsTree s u
viable s f u p =
    let g = goes_on f u (of s ∷ []) bottom p in
    let r = runs_read_trees s f (u ++ (g.0 ++ end ∷ [])) (end ∷ []) g.1 g.2 in
    let e : u ++ g.0 ≡ r.used = append_cancel_right (u ++ g.0) r.used (end ∷ []) (append_assoc u g.0 (end ∷ []) ∙ r.split) in
    record { tree = r.tree; behind = g.0; shaped = r.shaped; spelled = r.spelled ∙ ap (map unplaced) (sym e) }

-- ---- with the token at which the run stops nothing goes on

pub same_classes : (u : List Token) → classes (map unplaced u) ≡ classes u
same_classes [] = refl
same_classes (t ∷ u) = ap (λ c. c ∷ classes (map unplaced u)) (class_unplaced t) ∙ ap (λ l. class_of t ∷ l) (same_classes u)

pub not_done : (o o' : Outcome) (u v : List Token) (hs : List Group) → o ≡ Fails u → o' ≡ Done v hs → Alike o o' → ⊥
not_done o o' u v hs e d a = let b : Alike (Fails u) (Done v hs) = subst (λ y. Alike (Fails u) y) d (subst (λ y. Alike y o') e a) in b

-- the run over a tree's tokens, in front of which these stand
tree_alike : (s : Sort) (f : ℕ) (u : List Token) → is_sort s ≡ true → (q : BeginsTree s u) →
    Alike (run f (u ++ (q.behind ++ sign_token 0 (closer s) ∷ [])) (of s ∷ []) bottom)
    (run 0 (spell 0 q.tree ++ sign_token 0 (closer s) ∷ []) (of s ∷ []) bottom)
tree_alike s f u c q =
    let d = sign_token 0 (closer s) in
    let e : classes (u ++ (q.behind ++ d ∷ [])) ≡ classes (spell 0 q.tree ++ d ∷ []) =
    ap classes (sym (append_assoc u q.behind (d ∷ []))) ∙ map-append class_of (u ++ q.behind) (d ∷ []) ∙ ap (λ l. l ++ class_of d ∷ [])
    (sym (same_classes (u ++ q.behind)) ∙ ap classes (sym q.spelled)) ∙ sym (map-append class_of (spell 0 q.tree) (d ∷ [])) in
    alike f 0 (u ++ (q.behind ++ d ∷ [])) (spell 0 q.tree ++ d ∷ []) (of s ∷ []) bottom bottom e

pub fails_there : (f : ℕ) (t : Token) (v : List Token) (st : List Symbol) (gs : List Group) → step f t (class_of t) st gs ≡ Stuck →
    run f (t ∷ v) st gs ≡ Fails (t ∷ v)
unfolding run
fails_there f t v st gs e = ap (λ z. after z t v (λ st' gs'. run f v st' gs')) e

pub done_there : (f : ℕ) (t : Token) (v : List Token) (st : List Symbol) (gs made : List Group) → step f t (class_of t) st gs ≡ Ends made →
    run f (t ∷ v) st gs ≡ Done (t ∷ v) made
unfolding run
done_there f t v st gs made e = ap (λ z. after z t v (λ st' gs'. run f v st' gs')) e

pub not_viable : (s : Sort) (f : ℕ) (w : List Token) (t : Token) (v : List Token) → is_sort s ≡ true →
    (p : StuckAt f w (of s ∷ []) bottom t v) → BeginsTree s (p.u ++ t ∷ []) → ⊥
not_viable s f w t v c p q =
    let d = sign_token 0 (closer s) in
    let x = q.behind ++ d ∷ [] in
    let a : run f ((p.u ++ t ∷ []) ++ x) (of s ∷ []) bottom ≡ Fails (t ∷ x) =
    ap (λ l. run f l (of s ∷ []) bottom) (append_assoc p.u (t ∷ []) x) ∙ p.stop.same (t ∷ x) ∙ fails_there f t x p.stop.rest
    p.stop.trees p.stuck in
    not_done _ _ _ _ _ a (read_whole 0 s q.tree c q.shaped) (tree_alike s f (p.u ++ t ∷ []) c q)

pub done_lengths : (o o' : Outcome) (u v : List Token) (gs hs : List Group) → o ≡ Done u gs → o' ≡ Done v hs → Alike o o' →
    length u ≡ length v
done_lengths o o' u v gs hs e d a =
    let b : classes u ≡ classes v = subst (λ y. Alike (Done u gs) y) d (subst (λ y. Alike y o') e a) in
    sym (length-map u class_of) ∙ ap length b ∙ length-map v class_of

pub ends_whole : (s : Sort) (f : ℕ) (w : List Token) (t : Token) (v : List Token) → is_sort s ≡ true →
    (p : EndsAt f w (of s ∷ []) bottom t v) → BeginsTree s (p.u ++ t ∷ []) → ⊥
ends_whole s f w t v c p q =
    let d = sign_token 0 (closer s) in
    let x = q.behind ++ d ∷ [] in
    let a : run f ((p.u ++ t ∷ []) ++ x) (of s ∷ []) bottom ≡ Done (t ∷ x) p.made =
    ap (λ l. run f l (of s ∷ []) bottom) (append_assoc p.u (t ∷ []) x) ∙ p.stop.same (t ∷ x) ∙ done_there f t x p.stop.rest p.stop.trees
    p.made p.over in
    let n : length (t ∷ x) ≡ length (d ∷ []) =
    done_lengths _ _ (t ∷ x) (d ∷ []) _ _ a (read_whole 0 s q.tree c q.shaped) (tree_alike s f (p.u ++ t ∷ []) c q) in
    absurd (omega (arith, n, length-append q.behind (d ∷ [])))
