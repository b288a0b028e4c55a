-- Where a run comes to over tokens that it uses all, and what the gauge tells on the way.
use Rattle.std.proofs.Common.{◌≡◌, ℕ, List, [], ◌∷◌, ◌++◌, true, map, refl, ap, sym, ◌∙◌, subst, append_assoc}
use Rattle.hare_tree.specs.declared.token.Token.{Token}
use Rattle.hare_automaton.specs.declared.class.Class.TheVariants as cl
use Rattle.hare_automaton.specs.declared.rule.Symbol.{Symbol}
use Rattle.hare_automaton.specs.Classes.{class_of}
use Rattle.hare_automaton.specs.Engine.{Group, Step, Goes, Ends, Stuck, step, after, run}
use Rattle.hare_prefixes.proofs.Completion.Endings.{good}
use Rattle.hare_prefixes.proofs.Completion.Good.{step_good, class_proper}
use Rattle.hare_nesting.specs.Gauge.{Gauged, Seen, seen_in, with_faults, nodes_in, found, gauge}
use Rattle.hare_nesting.specs.Gauge as gauges
use Rattle.hare_nesting.proofs.UnderWay.Stacks.{frames}
use Rattle.hare_nesting.proofs.Telling.Claims.{seen_step}
use Rattle.hare_nesting.proofs.UnderWay.SeenSteps.{steps_are_seen}

-- what comes of tokens: the symbols and the trees behind them, and what the gauge told; or a token among them is not used
pub data Way : Type 0 where
  Comes : List Symbol → List Group → List ℕ → Way
  Breaks : Way

-- this first
abbrev pub telling : List ℕ → Way → Way
telling ns (Comes st gs ms) = Comes st gs (ns ++ ms)
telling ns Breaks = Breaks

abbrev pub onward : Step → (List Symbol → List Group → Way) → Way
onward (Goes st gs) go = telling (found (nodes_in st) (frames gs)) (go st gs)
onward (Ends gs) go = Breaks
onward Stuck go = Breaks

unfoldable pub way : ℕ → List Token → List Symbol → List Group → Way
way f [] st gs = Comes st gs []
way f (t ∷ w) st gs = onward (step f t (class_of t) st gs) (λ st' gs'. way f w st' gs')

-- The machine uses all tokens `w` and comes from `st` and `gs` to `st'` and `gs'`; the gauge tells `ns` behind the tokens, in their order.
pub record Reaches (f : ℕ) (w : List Token) (st : List Symbol) (gs : List Group) (st' : List Symbol) (gs' : List Group) (ns : List ℕ) : Type
    0 where
  pub is : way f w st gs ≡ Comes st' gs' ns

-- ---- token by token

pub reaches_none : (f : ℕ) (st : List Symbol) (gs : List Group) → Reaches f [] st gs st gs []
unfolding way
reaches_none f st gs = record { is = refl }

pub reaches_more : (f : ℕ) (t : Token) (w : List Token) (st st1 st' : List Symbol) (gs gs1 gs' : List Group) (ns : List ℕ) →
    step f t (class_of t) st gs ≡ Goes st1 gs1 → Reaches f w st1 gs1 st' gs' ns →
    Reaches f (t ∷ w) st gs st' gs' (found (nodes_in st1) (frames gs1) ++ ns)
unfolding way
reaches_more f t w st st1 st' gs gs1 gs' ns i r =
    record { is = ap (λ z. onward z (λ st2 gs2. way f w st2 gs2)) i ∙ ap (telling (found (nodes_in st1) (frames gs1))) r.is }

-- over no token
pub record Stays (st : List Symbol) (gs : List Group) (st' : List Symbol) (gs' : List Group) (ns : List ℕ) : Type 0 where
  pub symbols : st ≡ st'
  pub trees : gs ≡ gs'
  pub tells : ns ≡ []

pub stays : (f : ℕ) (st st' : List Symbol) (gs gs' : List Group) (ns : List ℕ) → Reaches f [] st gs st' gs' ns → Stays st gs st' gs' ns
unfolding way
stays f st st' gs gs' ns r =
    let e : Comes st gs [] ≡ Comes st' gs' ns = r.is in
    record { symbols = cc; trees = cc; tells = cc }

-- over a first token and the others
pub record Onward (f : ℕ) (t : Token) (w : List Token) (st : List Symbol) (gs : List Group) (st' : List Symbol) (gs' : List Group)
    (ns : List ℕ) : Type 0 where
  pub next : List Symbol
  pub trees : List Group
  pub later : List ℕ
  pub steps : step f t (class_of t) st gs ≡ Goes next trees
  pub tells : ns ≡ found (nodes_in next) (frames trees) ++ later
  pub goes : Reaches f w next trees st' gs' later

pub goes_onward : (f : ℕ) (t : Token) (w : List Token) (st st' : List Symbol) (gs gs' : List Group) (ns : List ℕ) →
    Reaches f (t ∷ w) st gs st' gs' ns → Onward f t w st gs st' gs' ns
unfolding way
goes_onward f t w st st' gs gs' ns r = by (step f t (class_of t) st gs) refl r.is
  where
    later : (st1 : List Symbol) (gs1 : List Group) (y : Way) → step f t (class_of t) st gs ≡ Goes st1 gs1 → way f w st1 gs1 ≡ y →
        telling (found (nodes_in st1) (frames gs1)) y ≡ Comes st' gs' ns → Onward f t w st gs st' gs' ns
    later st1 gs1 (Comes st2 gs2 ms) i j e =
        let a : st2 ≡ st' = cc in
        let b : gs2 ≡ gs' = cc in
        let d : found (nodes_in st1) (frames gs1) ++ ms ≡ ns = cc in
        record {
          next = st1;
          trees = gs1;
          later = ms;
          steps = i;
          tells = sym d;
          goes =
              record { is = j ∙ ap (λ x. Comes x gs2 ms) a ∙ ap (λ x. Comes st' x ms) b };
        }
    later st1 gs1 Breaks i j e = cc

    by : (z : Step) → step f t (class_of t) st gs ≡ z → onward z (λ st1 gs1. way f w st1 gs1) ≡ Comes st' gs' ns →
        Onward f t w st gs st' gs' ns
    by (Goes st1 gs1) i e = later st1 gs1 (way f w st1 gs1) i refl e
    by (Ends gs1) i e = cc
    by Stuck i e = cc

-- ---- side by side

-- over the first tokens, and over the others
pub record Parts (f : ℕ) (w v : List Token) (st : List Symbol) (gs : List Group) (st' : List Symbol) (gs' : List Group) (ns : List ℕ) : Type
    0 where
  pub next : List Symbol
  pub trees : List Group
  pub sooner : List ℕ
  pub later : List ℕ
  pub tells : ns ≡ sooner ++ later
  pub before : Reaches f w st gs next trees sooner
  pub behind : Reaches f v next trees st' gs' later

pub parts : (f : ℕ) (w v : List Token) (st st' : List Symbol) (gs gs' : List Group) (ns : List ℕ) → Reaches f (w ++ v) st gs st' gs' ns →
    Parts f w v st gs st' gs' ns
parts f [] v st st' gs gs' ns r = record {
  next = st;
  trees = gs;
  sooner = [];
  later = ns;
  tells = refl;
  before = reaches_none f st gs;
  behind = r;
}
parts f (t ∷ w) v st st' gs gs' ns r =
    let o = goes_onward f t (w ++ v) st st' gs gs' ns r in
    let p = parts f w v o.next st' o.trees gs' o.later o.goes in
    record {
      next = p.next;
      trees = p.trees;
      sooner = found (nodes_in o.next) (frames o.trees) ++ p.sooner;
      later = p.later;
      tells = o.tells ∙ ap (λ l. found (nodes_in o.next) (frames o.trees) ++ l) p.tells ∙ sym (append_assoc _ p.sooner p.later);
      before = reaches_more f t w st o.next p.next gs o.trees p.trees p.sooner o.steps p.before;
      behind = p.behind;
    }

-- there is one way over the tokens
pub reaches_once : (f : ℕ) (w : List Token) (st st1 st2 : List Symbol) (gs gs1 gs2 : List Group) (ns ms : List ℕ) →
    Reaches f w st gs st1 gs1 ns → Reaches f w st gs st2 gs2 ms → (st1 ≡ st2) × (gs1 ≡ gs2) × (ns ≡ ms)
reaches_once f w st st1 st2 gs gs1 gs2 ns ms r q =
    let e : Comes st1 gs1 ns ≡ Comes st2 gs2 ms = sym r.is ∙ q.is in
    (cc, cc, cc)

-- ---- what a run and the gauge do behind the tokens

pub run_reaches : (f : ℕ) (w : List Token) (st st' : List Symbol) (gs gs' : List Group) (ns : List ℕ) → Reaches f w st gs st' gs' ns →
    (v : List Token) → run f (w ++ v) st gs ≡ run f v st' gs'
unfolding run
run_reaches f [] st st' gs gs' ns r v = let s = stays f st st' gs gs' ns r in rw (s.symbols, s.trees) refl
run_reaches f (t ∷ w) st st' gs gs' ns r v =
    let o = goes_onward f t w st st' gs gs' ns r in
    ap (λ z. after z t (w ++ v) (λ st2 gs2. run f (w ++ v) st2 gs2)) o.steps ∙ run_reaches f w o.next st' o.trees gs' o.later o.goes v

with_both : (ns ms : List ℕ) (g : Gauged) → with_faults ns (with_faults ms g) ≡ with_faults (ns ++ ms) g
with_both ns ms g = ap (λ l. record { faults = l; rest = g.rest; over = g.over }) (sym (append_assoc ns ms g.faults))

pub gauge_reaches : (f : ℕ) (w : List Token) (st st' : List Symbol) (gs gs' : List Group) (ns : List ℕ) → Reaches f w st gs st' gs' ns →
    (v : List Seen) → gauge (map seen_in w ++ v) st (frames gs) ≡ with_faults ns (gauge v st' (frames gs'))
unfolding gauge
gauge_reaches f [] st st' gs gs' ns r v = let s = stays f st st' gs gs' ns r in rw (s.symbols, s.trees, s.tells) refl
gauge_reaches f (t ∷ w) st st' gs gs' ns r v =
    let o = goes_onward f t w st st' gs gs' ns r in
    let i : gauges.step t.place.line (class_of t) st (frames gs) ≡ gauges.Goes o.next (frames o.trees) =
    steps_are_seen f t (class_of t) st gs ∙ ap seen_step o.steps in
    ap (λ z. gauges.after z (seen_in t) (map seen_in w ++ v) (λ st2 fs2. gauge (map seen_in w ++ v) st2 fs2)) i
    ∙ ap (with_faults (found (nodes_in o.next) (frames o.trees))) (gauge_reaches f w o.next st' o.trees gs' o.later o.goes v)
    ∙ with_both (found (nodes_in o.next) (frames o.trees)) o.later (gauge v st' (frames gs'))
    ∙ ap (λ l. with_faults l (gauge v st' (frames gs'))) (sym o.tells)

-- ---- what can be closed

pub reaches_good : (f : ℕ) (w : List Token) (st st' : List Symbol) (gs gs' : List Group) (ns : List ℕ) → good st cl.Junk ≡ true →
    Reaches f w st gs st' gs' ns → good st' cl.Junk ≡ true
reaches_good f [] st st' gs gs' ns g r = let s = stays f st st' gs gs' ns r in subst (λ x. good x cl.Junk ≡ true) s.symbols g
reaches_good f (t ∷ w) st st' gs gs' ns g r =
    let o = goes_onward f t w st st' gs gs' ns r in
    reaches_good f w o.next st' o.trees gs' o.later (step_good f t (class_of t) st o.next gs o.trees cl.Junk g (class_proper t) o.steps)
    o.goes
