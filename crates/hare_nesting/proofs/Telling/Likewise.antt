-- Where a run comes to depends on the classes of its tokens alone, and what the gauge tells on the classes and numbers.
use Rattle.std.proofs.Common.{◌≡◌, ℕ, List, [], ◌∷◌, ◌++◌, map, refl, ap, sym, ◌∙◌, subst}
use Rattle.hare_tree.specs.declared.token.Token.{Token}
use Rattle.hare_automaton.specs.declared.class.Class.{Class}
use Rattle.hare_automaton.specs.declared.rule.Symbol.{Symbol}
use Rattle.hare_automaton.specs.Classes.{class_of}
use Rattle.hare_automaton.specs.Engine.{Group, Step, Goes, Ends, Stuck, step}
use Rattle.hare_nesting.specs.Marks.{Frame}
use Rattle.hare_nesting.specs.Gauge.{Seen, seen_in, nodes_in, found}
use Rattle.hare_nesting.specs.Gauge as gauges
use Rattle.hare_nesting.proofs.UnderWay.Stacks.{frames}
use Rattle.hare_nesting.proofs.Telling.Claims.{seen_step}
use Rattle.hare_nesting.proofs.UnderWay.SeenSteps.{steps_are_seen}
use Rattle.hare_nesting.proofs.Telling.Reaches.{Reaches, reaches_none, reaches_more, stays, goes_onward}

-- ---- tokens of the same classes

record Same (c c' : Class) (cs cs' : List Class) : Type 0 where
  pub class : c ≡ c'
  pub others : cs ≡ cs'

firsts : (c c' : Class) (cs cs' : List Class) → c ∷ cs ≡ c' ∷ cs' → Same c c' cs cs'
firsts c c' cs cs' e = record { class = cc; others = cc }

-- ---- tokens of the same classes and numbers

-- the tokens lead to these symbols and marks, and the gauge tells the same
pub record Likewise (f : ℕ) (w : List Token) (st : List Symbol) (gs : List Group) (st' : List Symbol) (fs' : List Frame)
    (ns : List ℕ) : Type 0 where
  pub trees : List Group
  pub marked : frames trees ≡ fs'
  pub reaches : Reaches f w st gs st' trees ns

record SameSeen (s s' : Seen) (w w' : List Seen) : Type 0 where
  pub class : s.class ≡ s'.class
  pub number : s.number ≡ s'.number
  pub others : w ≡ w'

first_seen : (s s' : Seen) (w w' : List Seen) → s ∷ w ≡ s' ∷ w' → SameSeen s s' w w'
first_seen s s' w w' e = let a : s ≡ s' = cc in record { class = ap (λ x. x.class) a; number = ap (λ x. x.number) a; others = cc }

pub reaches_likewise : (f f' : ℕ) (w w' : List Token) (st st' : List Symbol) (gs gs' hs : List Group) (ns : List ℕ) →
    map seen_in w ≡ map seen_in w' → frames gs ≡ frames hs → Reaches f w st gs st' gs' ns → Likewise f' w' st hs st' (frames gs') ns
reaches_likewise f f' [] [] st st' gs gs' hs ns e m r =
    let s = stays f st st' gs gs' ns r in
    record { trees = hs; marked = sym m ∙ ap frames s.trees; reaches = (rw (sym s.symbols, s.tells) (reaches_none f' st hs)) }
reaches_likewise f f' [] (t' ∷ w') st st' gs gs' hs ns e m r = cc
reaches_likewise f f' (t ∷ w) [] st st' gs gs' hs ns e m r = cc
reaches_likewise f f' (t ∷ w) (t' ∷ w') st st' gs gs' hs ns e m r =
    let p = first_seen (seen_in t) (seen_in t') (map seen_in w) (map seen_in w') e in
    let o = goes_onward f t w st st' gs gs' ns r in
    let x : seen_step (step f' t' (class_of t') st hs) ≡ gauges.Goes o.next (frames o.trees) =
    sym (steps_are_seen f' t' (class_of t') st hs)
    ∙ ap (λ fs. gauges.step t'.place.line (class_of t') st fs) (sym m)
    ∙ ap (λ n. gauges.step n (class_of t') st (frames gs)) (sym p.number)
    ∙ ap (λ c. gauges.step t.place.line c st (frames gs)) (sym p.class)
    ∙ steps_are_seen f t (class_of t) st gs
    ∙ ap seen_step o.steps in
    by o.next o.trees o.later o.tells (step f' t' (class_of t') st hs) refl x
    (λ hs1 y. reaches_likewise f f' w w' o.next st' o.trees gs' hs1 o.later p.others y o.goes)
  where
    by : (st1 : List Symbol) (gs1 : List Group) (ms : List ℕ) → ns ≡ found (nodes_in st1) (frames gs1) ++ ms → (z : Step) →
        step f' t' (class_of t') st hs ≡ z → seen_step z ≡ gauges.Goes st1 (frames gs1) →
        ((hs1 : List Group) → frames gs1 ≡ frames hs1 → Likewise f' w' st1 hs1 st' (frames gs') ms) →
        Likewise f' (t' ∷ w') st hs st' (frames gs') ns
    by st1 gs1 ms d (Goes st2 hs1) i x k =
        let a : st2 ≡ st1 = cc in
        let b : frames hs1 ≡ frames gs1 = cc in
        let q = k hs1 (sym b) in
        let v : found (nodes_in st1) (frames hs1) ++ ms ≡ ns = ap (λ fs. found (nodes_in st1) fs ++ ms) b ∙ sym d in
        record {
          trees = q.trees;
          marked = q.marked;
          reaches = subst (Reaches f' (t' ∷ w') st hs st' q.trees) v
              (reaches_more f' t' w' st st1 st' hs hs1 q.trees ms (i ∙ ap (λ y. Goes y hs1) a) q.reaches);
        }
    by st1 gs1 ms d (Ends made) i x k = cc
    by st1 gs1 ms d Stuck i x k = cc
