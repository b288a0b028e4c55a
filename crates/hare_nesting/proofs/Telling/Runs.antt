-- Runs that are done in front of a token: what they use, and what the gauge tells of it.
use Rattle.std.proofs.Common.{◌≡◌, ℕ, ◌<◌, List, [], ◌∷◌, ◌++◌, length, refl, ap, sym, ◌∙◌, subst, arith}
use Rattle.std.proofs.lemmas.List.{append-nil, length-append, length-map}
use Rattle.hare_tree.specs.declared.token.Token.{Token}
use Rattle.hare_tree.specs.Grammar.{IsOn}
use Rattle.hare_automaton.specs.declared.rule.Symbol.{Symbol}
use Rattle.hare_automaton.specs.Classes.{class_of}
use Rattle.hare_automaton.specs.Engine.{Group, Step, Goes, Ends, Stuck, step, Outcome, Done, Fails, after, run, bottom}
use Rattle.hare_prefixes.proofs.Outcomes.Alike.{classes, Alike, alike}
use Rattle.hare_nesting.specs.Gauge.{nodes_in}
use Rattle.hare_nesting.proofs.UnderWay.Stacks.{frames, stack_faults, Gains, Held}
use Rattle.hare_nesting.proofs.Telling.Claims.{StepsGain, StepsEnd}
use Rattle.hare_nesting.proofs.UnderWay.Lists.{on_left, gains_after}
use Rattle.hare_nesting.proofs.Telling.Reaches.{Reaches, parts, reaches_once, run_reaches}
use Rattle.hare_nesting.proofs.Telling.Halts.{stops_done}
use Rattle.hare_nesting.proofs.Telling.Gaining.{Ascends, reaches_gained}
use Rattle.hare_nesting.proofs.Telling.Likewise.{reaches_likewise}
use Rattle.hare_nesting.proofs.OverFiles.Numbers.{ascends_to}
use Rattle.hare_nesting.proofs.OverFiles.Fronts.{IsFront}
use Rattle.hare_nesting.proofs.OverFiles.Lines.{ascends_apart, ascends_first, front_long, front}

-- ---- where a run is done

-- a run that is done is so in front of a token
pub done_somewhere : (f : ℕ) (w : List Token) (st : List Symbol) (gs made : List Group) → run f w st gs ≡ Done [] made → ⊥
unfolding run
done_somewhere f [] st gs made e = cc
done_somewhere f (t ∷ w) st gs made e = by (step f t (class_of t) st gs) e (λ st1 gs1 d. done_somewhere f w st1 gs1 made d)
  where
    by : (z : Step) → after z t w (λ st1 gs1. run f w st1 gs1) ≡ Done [] made →
        ((st1 : List Symbol) (gs1 : List Group) → run f w st1 gs1 ≡ Done [] made → ⊥) → ⊥
    by (Goes st1 gs1) d k = k st1 gs1 d
    by (Ends gs1) d k = cc
    by Stuck d k = cc

-- like a run that is done in front of a token
pub first_token : (o : Outcome) (t : Token) (v : List Token) (hs : List Group) → Alike o (Done (t ∷ v) hs) → (z : Token) ×
    (w : List Token) × (gs : List Group) × (o ≡ Done (z ∷ w) gs) × (length w ≡ length v)
first_token (Done [] gs) t v hs a = let b : classes [] ≡ classes (t ∷ v) = a in cc
first_token (Done (z ∷ w) gs) t v hs a =
    let b : classes (z ∷ w) ≡ classes (t ∷ v) = a in
    let n : length (z ∷ w) ≡ length (t ∷ v) = sym (length-map (z ∷ w) class_of) ∙ ap length b ∙ length-map (t ∷ v) class_of in
    (z, w, gs, refl, omega (arith, n))
first_token (Fails v') t v hs a = absurd a

pub last_same : (a b : List Token) (x y : Token) → a ++ x ∷ [] ≡ b ++ y ∷ [] → (a ≡ b) × (x ≡ y)
last_same [] [] x y e = (refl, cc)
last_same [] (z ∷ []) x y e = cc
last_same [] (z ∷ w ∷ b) x y e = cc
last_same (z ∷ []) [] x y e = cc
last_same (z ∷ w ∷ a) [] x y e = cc
last_same (z ∷ a) (w ∷ b) x y e =
    let h : z ≡ w = cc in
    let r : a ++ x ∷ [] ≡ b ++ y ∷ [] = cc in
    let i = last_same a b x y r in
    (rw (h, i.0) refl, i.1)

empty : (w : List Token) → length w ≡ 0 → w ≡ []
empty [] e = refl
empty (t ∷ w) e = absurd (omega (arith, e))

-- a run that is like one that is done in front of one token
pub done_like : (f f' : ℕ) (u w : List Token) (z t : Token) (st : List Symbol) (gs gs' hs : List Group) →
    classes (u ++ z ∷ []) ≡ classes w → run f' w st gs' ≡ Done (t ∷ []) hs → (made : List Group) ×
    (run f (u ++ z ∷ []) st gs ≡ Done (z ∷ []) made)
done_like f f' u w z t st gs gs' hs e d =
    let a : Alike (run f (u ++ z ∷ []) st gs) (Done (t ∷ []) hs) =
    subst (λ o. Alike (run f (u ++ z ∷ []) st gs) o) d (alike f f' (u ++ z ∷ []) w st gs gs' e) in
    let r = first_token _ t [] hs a in
    let i : run f (u ++ z ∷ []) st gs ≡ Done (r.0 ∷ []) r.2 = r.3 ∙ ap (λ v. Done (r.0 ∷ v) r.2) (empty r.1 r.4) in
    let s = stops_done f (u ++ z ∷ []) st gs r.0 [] r.2 i in
    (r.2, i ∙ ap (λ x. Done (x ∷ []) r.2) (sym (last_same u s.used z r.0 s.split).1))

-- ---- what is told of a run that is done

-- the run uses these tokens, and the gauge tells the faults of what is made
pub record Whole (st : List Symbol) (u : List Token) (made : List Group) : Type 0 where
  pub next : List Symbol
  pub trees : List Group
  pub told : List ℕ
  pub reaches : Reaches 0 u st bottom next trees told
  pub gains : Gains [] (stack_faults [] made) told

pub whole : StepsGain → StepsEnd → (st : List Symbol) → Held 1 st (frames bottom) → stack_faults (nodes_in st) bottom ≡ [] →
    (u : List Token) (z : Token) (top : ℕ) (made : List Group) → Ascends 1 (u ++ z ∷ []) top →
    run 0 (u ++ z ∷ []) st bottom ≡ Done (z ∷ []) made → Whole st u made
whole sg se st h n u z top made a d =
    let s = stops_done 0 (u ++ z ∷ []) st bottom z [] made d in
    let i : s.used ≡ u = sym (last_same u s.used z z s.split).0 in
    let r : Reaches 0 u st bottom s.next s.trees s.told = subst (λ l. Reaches 0 l st bottom s.next s.trees s.told) i s.reaches in
    let p = ascends_apart 1 u (z ∷ []) top a in
    let g = reaches_gained sg 0 u st s.next bottom s.trees s.told 1 z.place.line
    (ascends_to 1 u p.0 z.place.line (ascends_first p.0 z [] top p.2) p.1) h r in
    let q = se 0 z s.next s.trees made g.held s.stops in
    record {
      next = s.next;
      trees = s.trees;
      told = s.told;
      reaches = r;
      gains = subst (λ l. Gains l (stack_faults [] made) s.told) n
          (gains_after (stack_faults (nodes_in st) bottom) _ _ s.told g.gains q);
    }

-- ---- fronts of what a run uses

-- what a run tells behind a front of its tokens
pub record Through (st : List Symbol) (u : List Token) (ws : List ℕ) : Type 0 where
  pub next : List Symbol
  pub trees : List Group
  pub sooner : List ℕ
  pub later : List ℕ
  pub tells : ws ≡ sooner ++ later
  pub reaches : Reaches 0 u st bottom next trees sooner

pub through : (st : List Symbol) (u w : List Token) (next : List Symbol) (trees : List Group) (ws : List ℕ) →
    Reaches 0 w st bottom next trees ws → IsFront u w → Through st u ws
through st u w next trees ws r f =
    let a = front u w f in
    let p = parts 0 a.first a.behind st next bottom trees ws (subst (λ x. Reaches 0 x st bottom next trees ws) a.is r) in
    let k = reaches_likewise 0 0 a.first u st p.next bottom p.trees bottom p.sooner a.same refl p.before in
    record { next = p.next; trees = k.trees; sooner = p.sooner; later = p.later; tells = p.tells; reaches = k.reaches }

-- where all of these tokens are used, nothing is done in front of the last
pub not_all_used : (st next : List Symbol) (u w : List Token) (z : Token) (trees made : List Group) (told : List ℕ) →
    Reaches 0 u st bottom next trees told → IsFront u (w ++ z ∷ []) → length w < length u →
    run 0 (w ++ z ∷ []) st bottom ≡ Done (z ∷ []) made → ⊥
unfolding run
not_all_used st next u w z trees made told r f e d =
    let v = w ++ z ∷ [] in
    let g = front_long u v [] (subst (IsFront u) (sym (append-nil v)) f) (omega (arith, e, length-append w (z ∷ []))) in
    let k = through st v u next trees told r g in
    let x : run 0 v st bottom ≡ Fails [] = ap (λ y. run 0 y st bottom) (sym (append-nil v)) ∙ run_reaches 0 v st k.next bottom k.trees
    k.sooner k.reaches [] in
    cc

-- what is told behind a front is told behind the whole
pub told_in_front : (st next next' : List Symbol) (u w : List Token) (trees trees' : List Group) (told ws : List ℕ) →
    Reaches 0 u st bottom next trees told → Reaches 0 w st bottom next' trees' ws → IsFront u w → (x : ℕ) → IsOn x told → IsOn x ws
told_in_front st next next' u w trees trees' told ws r q f x i =
    let t = through st u w next' trees' ws q f in
    let o = reaches_once 0 u st t.next next bottom t.trees trees t.sooner told t.reaches r in
    subst (IsOn x) (sym t.tells) (on_left x t.sooner t.later (subst (IsOn x) (sym o.2) i))
