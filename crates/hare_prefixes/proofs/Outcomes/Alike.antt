-- What a run does depends on the classes of its tokens alone.
use Rattle.std.proofs.Common.{◌≡◌, ℕ, List, [], ◌∷◌, Bool, true, false, map, refl, subst}
use Rattle.hare_tree.specs.declared.token.Token.{Token}
use Rattle.hare_automaton.specs.declared.class.Class.{Class}
use Rattle.hare_automaton.specs.declared.rule.Symbol.{Symbol}
use Rattle.hare_automaton.specs.declared.rule.Symbol.TheVariants as sy
use Rattle.hare_automaton.specs.Classes.{class_of}
use Rattle.hare_automaton.specs.Rows.{Row, Fault, Skips, Uses, has_sign}
use Rattle.hare_automaton.specs.Table.{row}
use Rattle.hare_automaton.specs.Engine.{Group, close, Step, Goes, Ends, Stuck, wanted, acted, step, Outcome, Done, Fails, after, run}

-- two steps that wait for the same
abbrev pub SameStep : Step → Step → Type 0
SameStep (Goes st gs) (Goes st' gs') = st ≡ st'
SameStep (Ends gs) (Ends gs') = Unit {0}
SameStep Stuck Stuck = Unit {0}
SameStep _ _ = ⊥

pub same_step : (f f' : ℕ) (t t' : Token) (c : Class) (st : List Symbol) (gs gs' : List Group) →
    SameStep (step f t c st gs) (step f' t' c st gs')
unfolding step
same_step f f' t t' c [] gs gs' = tt
same_step f f' t t' c (sy.Close k ∷ st) gs gs' = same_step f f' t t' c st (close k gs) (close k gs')
same_step f f' t t' c (sy.Want d ∷ st) gs gs' = by (has_sign d c)
  where
    by : (b : Bool) → SameStep (wanted b (Goes st gs)) (wanted b (Goes st gs'))
    by true = refl
    by false = tt
same_step f f' t t' c (sy.Part n ∷ st) gs gs' = by (row n c) (λ hs hs'. same_step f f' t t' c st hs hs')
  where
    by : (r : Row) → ((hs hs' : List Group) → SameStep (step f t c st hs) (step f' t' c st hs')) →
        SameStep (acted r f t st gs (λ hs. step f t c st hs)) (acted r f' t' st gs' (λ hs. step f' t' c st hs))
    by Fault k = tt
    by (Skips cs) k = k _ _
    by (Uses cs ss) k = refl

abbrev pub classes : List Token → List Class
classes u = map class_of u

-- two runs that end at tokens of the same classes
abbrev pub Alike : Outcome → Outcome → Type 0
Alike (Done v gs) (Done v' gs') = classes v ≡ classes v'
Alike (Fails v) (Fails v') = classes v ≡ classes v'
Alike _ _ = ⊥

first_same : (c c' : Class) (cs cs' : List Class) → c ∷ cs ≡ c' ∷ cs' → (c ≡ c') × (cs ≡ cs')
first_same c c' cs cs' e = (cc, cc)

pub alike : (f f' : ℕ) (w w' : List Token) (st : List Symbol) (gs gs' : List Group) → classes w ≡ classes w' →
    Alike (run f w st gs) (run f' w' st gs')
unfolding run
alike f f' [] [] st gs gs' e = refl
alike f f' [] (t' ∷ w') st gs gs' e = cc
alike f f' (t ∷ w) [] st gs gs' e = cc
alike f f' (t ∷ w) (t' ∷ w') st gs gs' e =
    let p = first_same (class_of t) (class_of t') (classes w) (classes w') e in
    let s : SameStep (step f t (class_of t) st gs) (step f' t' (class_of t') st gs') =
    subst (λ c. SameStep (step f t (class_of t) st gs) (step f' t' c st gs')) p.0 (same_step f f' t t' (class_of t) st gs gs') in
    by (step f t (class_of t) st gs) (step f' t' (class_of t') st gs') s (λ st hs hs'. alike f f' w w' st hs hs' p.1)
  where
    by : (a b : Step) → SameStep a b → ((st : List Symbol) (hs hs' : List Group) → Alike (run f w st hs) (run f' w' st hs')) →
        Alike (after a t w (λ st hs. run f w st hs)) (after b t' w' (λ st hs. run f' w' st hs))
    by (Goes st1 hs) (Goes st2 hs') i k = subst (λ y. Alike (run f w st1 hs) (run f' w' y hs')) i (k st1 hs hs')
    by (Goes st1 hs) (Ends hs') i k = absurd i
    by (Goes st1 hs) Stuck i k = absurd i
    by (Ends hs) (Goes st2 hs') i k = absurd i
    by (Ends hs) (Ends hs') i k = e
    by (Ends hs) Stuck i k = absurd i
    by Stuck (Goes st2 hs') i k = absurd i
    by Stuck (Ends hs') i k = absurd i
    by Stuck Stuck i k = e
