-- Where a run halts: what it has used up to there, and what the gauge says.
use Rattle.std.proofs.Common.{◌≡◌, ℕ, List, [], ◌∷◌, ◌++◌, Bool, true, false, map, refl, ap, ◌∙◌, subst, append-nil}
use Rattle.std.proofs.lemmas.List.{map-append}
use Rattle.hare_tree.specs.declared.token.Token.{Token}
use Rattle.hare_automaton.specs.declared.rule.Symbol.{Symbol}
use Rattle.hare_automaton.specs.Classes.{class_of}
use Rattle.hare_automaton.specs.Engine.{Group, Step, Goes, Ends, Stuck, step, Done, after, run}
use Rattle.hare_nesting.specs.Gauge.{Gauged, seen_in, with_faults, nodes_in, found, gauge}
use Rattle.hare_nesting.specs.Gauge as gauges
use Rattle.hare_nesting.proofs.UnderWay.Stacks.{frames}
use Rattle.hare_nesting.proofs.Telling.Claims.{seen_step}
use Rattle.hare_nesting.proofs.UnderWay.SeenSteps.{steps_are_seen}
use Rattle.hare_nesting.proofs.Telling.Reaches.{Reaches, reaches_none, reaches_more, gauge_reaches}

-- ---- at a token that is not used, or behind all

abbrev pub is_halt : Step → Bool
is_halt (Goes st gs) = false
is_halt (Ends gs) = true
is_halt Stuck = true

-- the first of these tokens is not used, if there is one
abbrev pub Halts : ℕ → List Token → List Symbol → List Group → Type 0
Halts f [] st gs = Unit {0}
Halts f (t ∷ v) st gs = is_halt (step f t (class_of t) st gs) ≡ true

-- the tokens that the machine uses, with what the gauge tells behind them, and the others
pub record Halting (f : ℕ) (w : List Token) (st : List Symbol) (gs : List Group) : Type 0 where
  pub used : List Token
  pub rest : List Token
  pub next : List Symbol
  pub trees : List Group
  pub told : List ℕ
  pub split : w ≡ used ++ rest
  pub reaches : Reaches f used st gs next trees told
  pub halts : Halts f rest next trees

pub halting : (f : ℕ) (w : List Token) (st : List Symbol) (gs : List Group) → Halting f w st gs
halting f [] st gs = record {
  used = [];
  rest = [];
  next = st;
  trees = gs;
  told = [];
  split = refl;
  reaches = reaches_none f st gs;
  halts =
      tt;
}
halting f (t ∷ w) st gs = by (step f t (class_of t) st gs) refl (λ st1 gs1. halting f w st1 gs1)
  where
    here : is_halt (step f t (class_of t) st gs) ≡ true → Halting f (t ∷ w) st gs
    here e = record { used = []; rest = t ∷ w; next = st; trees = gs; told = []; split = refl; reaches = reaches_none f st gs; halts = e }

    by : (z : Step) → step f t (class_of t) st gs ≡ z → ((st1 : List Symbol) (gs1 : List Group) → Halting f w st1 gs1) →
        Halting f (t ∷ w) st gs
    by (Goes st1 gs1) i k =
        let h = k st1 gs1 in
        record {
          used = t ∷ h.used;
          rest = h.rest;
          next = h.next;
          trees = h.trees;
          told = found (nodes_in st1) (frames gs1) ++ h.told;
          split = ap (λ l. t ∷ l) h.split;
          reaches = reaches_more f t h.used st st1 h.next gs gs1 h.trees h.told i h.reaches;
          halts = h.halts;
        }
    by (Ends made) i k = here (ap is_halt i)
    by Stuck i k = here (ap is_halt i)

-- the gauge tells nothing at a token that is not used
halts_faults : (f : ℕ) (v : List Token) (st : List Symbol) (gs : List Group) → Halts f v st gs →
    (gauge (map seen_in v) st (frames gs)).faults ≡ []
unfolding gauge
halts_faults f [] st gs h = refl
halts_faults f (t ∷ v) st gs h = ap (λ z. (gauges.after z (seen_in t) (map seen_in v) (λ st2 fs2. gauge (map seen_in v) st2 fs2)).faults)
    (steps_are_seen f t (class_of t) st gs) ∙ by (step f t (class_of t) st gs) h
  where
    by : (z : Step) → is_halt z ≡ true → (gauges.after (seen_step z) (seen_in t) (map seen_in v)
        (λ st2 fs2. gauge (map seen_in v) st2 fs2)).faults ≡ []
    by (Goes st1 gs1) e = cc
    by (Ends made) e = refl
    by Stuck e = refl

pub gauge_faults : (f : ℕ) (u v : List Token) (st st' : List Symbol) (gs gs' : List Group) (ns : List ℕ) → Reaches f u st gs st' gs' ns →
    Halts f v st' gs' → (gauge (map seen_in (u ++ v)) st (frames gs)).faults ≡ ns
gauge_faults f u v st st' gs gs' ns r h =
    ap (λ l. (gauge l st (frames gs)).faults) (map-append seen_in u v)
    ∙ ap (λ g. g.faults) (gauge_reaches f u st st' gs gs' ns r (map seen_in v))
    ∙ ap (λ l. ns ++ l) (halts_faults f v st' gs' h)
    ∙ append-nil ns

-- what is told are the faults of the gauge
pub halting_faults : (f : ℕ) (w : List Token) (st : List Symbol) (gs : List Group) → (h : Halting f w st gs) →
    (gauge (map seen_in w) st (frames gs)).faults ≡ h.told
halting_faults f w st gs h = ap (λ l. (gauge (map seen_in l) st (frames gs)).faults) h.split ∙ gauge_faults f h.used h.rest st h.next gs
    h.trees h.told h.reaches h.halts

-- ---- what a run came to

-- the tokens in front of `t`, at which the machine comes to the step `z`
pub record StopsAt (f : ℕ) (w : List Token) (st : List Symbol) (gs : List Group) (t : Token) (v : List Token) (z : Step) : Type 0 where
  pub used : List Token
  pub next : List Symbol
  pub trees : List Group
  pub told : List ℕ
  pub split : w ≡ used ++ t ∷ v
  pub reaches : Reaches f used st gs next trees told
  pub stops : step f t (class_of t) next trees ≡ z

stops_here : (f : ℕ) (w : List Token) (st : List Symbol) (gs : List Group) (y t : Token) (v : List Token) (z : Step) → y ≡ t → w ≡ v →
    step f y (class_of y) st gs ≡ z → StopsAt f (y ∷ w) st gs t v z
stops_here f w st gs y t v z a b i =
    record {
      used = [];
      next = st;
      trees = gs;
      told = [];
      split = (rw (a, b) refl);
      reaches = reaches_none f st gs;
      stops = subst
          (λ x. step f x (class_of x) st gs ≡ z) a i;
    }

stops_behind : (f : ℕ) (y : Token) (w : List Token) (st st1 : List Symbol) (gs gs1 : List Group) (t : Token) (v : List Token) (z : Step) →
    step f y (class_of y) st gs ≡ Goes st1 gs1 → StopsAt f w st1 gs1 t v z → StopsAt f (y ∷ w) st gs t v z
stops_behind f y w st st1 gs gs1 t v z i s =
    record {
      used = y ∷ s.used;
      next = s.next;
      trees = s.trees;
      told = found (nodes_in st1) (frames gs1) ++ s.told;
      split = ap (λ l. y ∷ l) s.split;
      reaches = reaches_more f y s.used st st1 s.next gs gs1 s.trees s.told i s.reaches;
      stops = s.stops;
    }

pub stops_done : (f : ℕ) (w : List Token) (st : List Symbol) (gs : List Group) (t : Token) (v : List Token) (made : List Group) →
    run f w st gs ≡ Done (t ∷ v) made → StopsAt f w st gs t v (Ends made)
unfolding run
stops_done f [] st gs t v made e = cc
stops_done f (y ∷ w) st gs t v made e = by (step f y (class_of y) st gs) refl e (λ st1 gs1 q. stops_done f w st1 gs1 t v made q)
  where
    by : (z : Step) → step f y (class_of y) st gs ≡ z → after z y w (λ st1 gs1. run f w st1 gs1) ≡ Done (t ∷ v) made →
        ((st1 : List Symbol) (gs1 : List Group) → run f w st1 gs1 ≡ Done (t ∷ v) made → StopsAt f w st1 gs1 t v (Ends made)) →
        StopsAt f (y ∷ w) st gs t v (Ends made)
    by (Goes st1 gs1) i e k = stops_behind f y w st st1 gs gs1 t v (Ends made) i (k st1 gs1 e)
    by (Ends gs1) i e k =
        let a : gs1 ≡ made = cc in
        let b : y ≡ t = cc in
        let c : w ≡ v = cc in
        stops_here f w st gs y t v (Ends made) b c (i ∙ ap Ends a)
    by Stuck i e k = cc
