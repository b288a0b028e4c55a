-- A run goes on behind the tokens that it has used, whatever stands there.
use Rattle.std.proofs.Common.{◌≡◌, ℕ, List, [], ◌∷◌, ◌++◌, refl}
use Rattle.hare_tree.specs.declared.token.Token.{Token}
use Rattle.hare_automaton.specs.declared.rule.Symbol.{Symbol}
use Rattle.hare_automaton.specs.Classes.{class_of}
use Rattle.hare_automaton.specs.Engine.{Group, Step, Goes, Ends, Stuck, step, Done, Fails, after, run}
use Rattle.hare_ll_table.specs.declared.answer.Answer.TheVariants as an
use Rattle.hare_parse.specs.Steps.{Says}

-- a token that is used
pub run_on : (f : ℕ) (t : Token) (w : List Token) (st st' : List Symbol) (gs gs' : List Group) →
    Says (step f t (class_of t) st gs) an.Goes st' gs' → run f (t ∷ w) st gs ≡ run f w st' gs'
unfolding run
run_on f t w st st' gs gs' s = by (step f t (class_of t) st gs) s
  where
    by : (z : Step) → Says z an.Goes st' gs' → after z t w (λ a b. run f w a b) ≡ run f w st' gs'
    by (Goes a b) i = rw (i.1, i.2) refl
    by (Ends b) i = cc
    by Stuck i = cc

-- a run that is done at a token, or fails there, does so whatever stands behind
pub done_more : (f : ℕ) (w v : List Token) (st : List Symbol) (gs : List Group) (t : Token) (rest : List Token) (made : List Group) →
    run f w st gs ≡ Done (t ∷ rest) made → run f (w ++ v) st gs ≡ Done (t ∷ (rest ++ v)) made
unfolding run
done_more f [] v st gs t rest made e = cc
done_more f (x ∷ w) v st gs t rest made e = by (step f x (class_of x) st gs) e (λ a b q. done_more f w v a b t rest made q)
  where
    by : (z : Step) → after z x w (λ a b. run f w a b) ≡ Done (t ∷ rest) made →
        ((a : List Symbol) (b : List Group) → run f w a b ≡ Done (t ∷ rest) made → run f (w ++ v) a b ≡ Done (t ∷ (rest ++ v)) made) →
        after z x (w ++ v) (λ a b. run f (w ++ v) a b) ≡ Done (t ∷ (rest ++ v)) made
    by (Goes a b) i k = k a b i
    by (Ends b) i k = let p : x ≡ t = cc in let q : w ≡ rest = cc in let r : b ≡ made = cc in rw (p, q, r) refl
    by Stuck i k = cc

pub fails_more : (f : ℕ) (w v : List Token) (st : List Symbol) (gs : List Group) (t : Token) (rest : List Token) →
    run f w st gs ≡ Fails (t ∷ rest) → run f (w ++ v) st gs ≡ Fails (t ∷ (rest ++ v))
unfolding run
fails_more f [] v st gs t rest e = cc
fails_more f (x ∷ w) v st gs t rest e = by (step f x (class_of x) st gs) e (λ a b q. fails_more f w v a b t rest q)
  where
    by : (z : Step) → after z x w (λ a b. run f w a b) ≡ Fails (t ∷ rest) →
        ((a : List Symbol) (b : List Group) → run f w a b ≡ Fails (t ∷ rest) → run f (w ++ v) a b ≡ Fails (t ∷ (rest ++ v))) →
        after z x (w ++ v) (λ a b. run f (w ++ v) a b) ≡ Fails (t ∷ (rest ++ v))
    by (Goes a b) i k = k a b i
    by (Ends b) i k = cc
    by Stuck i k = let p : x ≡ t = cc in let q : w ≡ rest = cc in rw (p, q) refl

-- a run ends at a token, or else the tokens are used up
pub done_behind : (f : ℕ) (w v : List Token) (st : List Symbol) (gs made : List Group) → run f w st gs ≡ Done v made → (t : Token) ×
    (rest : List Token) × (v ≡ t ∷ rest)
unfolding run
done_behind f [] v st gs made e = cc
done_behind f (t ∷ w) v st gs made e = by (step f t (class_of t) st gs) e (λ st' gs' q. done_behind f w v st' gs' made q)
  where
    by : (z : Step) → after z t w (λ st' gs'. run f w st' gs') ≡ Done v made →
        ((st' : List Symbol) (gs' : List Group) → run f w st' gs' ≡ Done v made → (x : Token) × (rest : List Token) × (v ≡ x ∷ rest)) →
        (x : Token) × (rest : List Token) × (v ≡ x ∷ rest)
    by (Goes st' gs') i k = k st' gs' i
    by (Ends gs') i k = let j : v ≡ t ∷ w = cc in (t, w, j)
    by Stuck i k = cc
