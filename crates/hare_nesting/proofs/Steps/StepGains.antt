-- Each token that is used adds to the limits that are passed what the gauge finds then, and where nothing more is waited for nothing is
-- added.
use Rattle.std.proofs.Common.{◌≡◌, ℕ, List, [], ◌∷◌, ◌++◌, Bool, true, false, ◌⊎◌, inl, inr, refl, subst}
use Rattle.hare_tree.specs.declared.token.Token.{Token}
use Rattle.hare_tree.specs.declared.form.Sign.{Sign}
use Rattle.hare_tree.specs.Grammar.{IsOn}
use Rattle.hare_automaton.specs.declared.class.Class.{Class}
use Rattle.hare_automaton.specs.declared.rule.Rule.{Rule}
use Rattle.hare_automaton.specs.declared.rule.Rule.TheVariants as ru
use Rattle.hare_automaton.specs.declared.rule.Symbol.{Symbol}
use Rattle.hare_automaton.specs.declared.rule.Symbol.TheVariants as sy
use Rattle.hare_automaton.specs.declared.rule.Change.{Change}
use Rattle.hare_automaton.specs.Classes.{class_of}
use Rattle.hare_automaton.specs.Rows.{Row, Fault, Skips, Uses, part, has_sign}
use Rattle.hare_automaton.specs.Table.{row}
use Rattle.hare_automaton.specs.Engine.{Group, Goes, Ends, close, all_changed, wanted, acted, step}
use Rattle.hare_nesting.specs.Gauge.{nodes_in, found}
use Rattle.hare_nesting.proofs.UnderWay.Stacks.{frames, stack_faults, Gains, Held}
use Rattle.hare_nesting.proofs.Telling.Claims.{is_calm, calm_row, calm_step, Stepped, StepsGain, StepsEnd}
use Rattle.hare_nesting.proofs.UnderWay.Lists.{gains_refl, gains_then}
use Rattle.hare_nesting.proofs.Steps.Tame.{grows_none}
use Rattle.hare_nesting.proofs.Steps.Stands.{stands_next}
use Rattle.hare_nesting.proofs.Steps.Follow.{ready_next, follows_tail}
use Rattle.hare_nesting.proofs.Steps.Stepped.{held_stands, grown_stepped, Skipped, close_skipped, rule_skipped, rule_stepped}
use Rattle.hare_nesting.proofs.Steps.HandedSteps.{own_stepped, own_skipped, name_never_over, name_stepped}
use Rattle.hare_nesting.proofs.Steps.ClimbSteps.{climb_skipped, climb_stepped}
use Rattle.hare_nesting.proofs.Steps.CommaSteps.{comma_stepped, comma_skipped, element_comma_stepped, element_comma_skipped}
use Rattle.hare_nesting.proofs.Steps.PathSteps.{path_skipped, path_stepped}
use Rattle.hare_nesting.proofs.Steps.LateSteps.{for_name_never_over, for_name_stepped, import_never_over, import_stepped}

-- ---- all rules

row_skipped : (f : ℕ) (t : Token) (c : Class) (r : Rule) (cs : List Change) (st : List Symbol) (gs : List Group) → row r c ≡ Skips cs →
    Held t.place.line (part r ∷ st) (frames gs) → Skipped t.place.line (part r ∷ st) gs st (all_changed f t cs gs)
row_skipped f t c (ru.Own o) cs st gs i h = own_skipped f t c o cs st gs i h
row_skipped f t c ru.PathName cs st gs i h = absurd (name_never_over c cs i)
row_skipped f t c (ru.Climb l k) cs st gs i h = climb_skipped f t c l k cs st gs i h
row_skipped f t c (ru.BehindComma s) cs st gs i h = comma_skipped f t c s cs st gs i h
row_skipped f t c ru.BehindElementComma cs st gs i h = element_comma_skipped f t c cs st gs i h
row_skipped f t c ru.PathOrStruct cs st gs i h = path_skipped f t c cs st gs i h
row_skipped f t c ru.AfterForName cs st gs i h = absurd (for_name_never_over c cs i)
row_skipped f t c ru.AfterUseName cs st gs i h = absurd (import_never_over c cs i)
row_skipped f t c r cs st gs i h = rule_skipped f t c r cs st gs refl i h

row_stepped : (f : ℕ) (t : Token) (c : Class) (r : Rule) (cs : List Change) (ss st : List Symbol) (gs : List Group) → row r c ≡ Uses cs ss →
    Held t.place.line (part r ∷ st) (frames gs) → Stepped t.place.line c (part r ∷ st) gs (ss ++ st) (all_changed f t cs gs)
row_stepped f t c (ru.Own o) cs ss st gs i h = own_stepped f t c o cs ss st gs i h
row_stepped f t c ru.PathName cs ss st gs i h = name_stepped f t c cs ss st gs i h
row_stepped f t c (ru.Climb l k) cs ss st gs i h = climb_stepped f t c l k cs ss st gs i h
row_stepped f t c (ru.BehindComma s) cs ss st gs i h = comma_stepped f t c s cs ss st gs i h
row_stepped f t c ru.BehindElementComma cs ss st gs i h = element_comma_stepped f t c cs ss st gs i h
row_stepped f t c ru.PathOrStruct cs ss st gs i h = path_stepped f t c cs ss st gs i h
row_stepped f t c ru.AfterForName cs ss st gs i h = for_name_stepped f t c cs ss st gs i h
row_stepped f t c ru.AfterUseName cs ss st gs i h = import_stepped f t c cs ss st gs i h
row_stepped f t c r cs ss st gs i h = rule_stepped f t c r cs ss st gs refl i h

-- a sign that is waited for
want_stepped : (t : Token) (c : Class) (d : Sign) (st : List Symbol) (gs : List Group) → Held t.place.line (sy.Want d ∷ st) (frames gs) →
    Stepped t.place.line c (sy.Want d ∷ st) gs st gs
unfolding nodes_in
want_stepped t c d st gs h =
    let n = t.place.line in
    let bs = nodes_in st in
    grown_stepped n c (sy.Want d ∷ st) st gs gs
    (grows_none n (stack_faults bs gs) (stack_faults bs gs) (found bs (frames gs)) (gains_refl (stack_faults bs gs)))
    (stands_next n bs (frames gs) (held_stands n (sy.Want d ∷ st) gs h)) (follows_tail (sy.Want d) st h.following)
    (ready_next (sy.Want d) st (frames gs) refl h.following (λ j. cc))

-- ---- steps

-- a token that is used behind a rule that is over
stepped_behind : (n : ℕ) (c : Class) (st u st' : List Symbol) (gs hs gs' : List Group) → Skipped n st gs u hs →
    (calm_step c st ≡ true → calm_step c u ≡ true) → Stepped n c u hs st' gs' → Stepped n c st gs st' gs'
stepped_behind n c st u st' gs hs gs' k q s =
    record {
      held = s.held;
      gains = gains_then (stack_faults (nodes_in st) gs) (stack_faults (nodes_in u) hs) (stack_faults (nodes_in st') gs')
          (found (nodes_in st') (frames gs')) k.gains s.gains;
      calm = λ e x i. by x (s.calm (q e) x i);
    }
  where
    old : (x : ℕ) → IsOn x (stack_faults (nodes_in st) gs) ⊎ IsOn x [] → IsOn x (stack_faults (nodes_in st) gs) ⊎ (x ≡ n)
    old x (inl i) = inl i
    old x (inr i) = absurd i

    by : (x : ℕ) → IsOn x (stack_faults (nodes_in u) hs) ⊎ (x ≡ n) → IsOn x (stack_faults (nodes_in st) gs) ⊎ (x ≡ n)
    by x (inl i) = old x (k.gains.only x i)
    by x (inr e) = inr e

-- what has come of a step
gone : (n : ℕ) (c : Class) (st u st' : List Symbol) (gs hs gs' : List Group) → Goes u hs ≡ Goes st' gs' → Stepped n c st gs u hs →
    Stepped n c st gs st' gs'
gone n c st u st' gs hs gs' e s =
    let a : u ≡ st' = cc in
    let b : hs ≡ gs' = cc in
    subst (λ y. Stepped n c st gs y gs') a (subst (λ y. Stepped n c st gs u y) b s)

step_gains : (f : ℕ) (t : Token) (c : Class) (st st' : List Symbol) (gs gs' : List Group) → Held t.place.line st (frames gs) →
    step f t c st gs ≡ Goes st' gs' → Stepped t.place.line c st gs st' gs'
unfolding step calm_step
step_gains f t c [] st' gs gs' h e = cc
step_gains f t c (sy.Close k ∷ st) st' gs gs' h e =
    let s = close_skipped t.place.line k st gs h in
    stepped_behind t.place.line c (sy.Close k ∷ st) st st' gs (close k gs) gs' s (λ i. i)
    (step_gains f t c st st' (close k gs) gs' s.held e)
step_gains f t c (sy.Want d ∷ st) st' gs gs' h e = by (has_sign d c) e
  where
    by : (b : Bool) → wanted b (Goes st gs) ≡ Goes st' gs' → Stepped t.place.line c (sy.Want d ∷ st) gs st' gs'
    by true e = gone t.place.line c (sy.Want d ∷ st) st st' gs gs gs' e (want_stepped t c d st gs h)
    by false e = cc
step_gains f t c (sy.Part r ∷ st) st' gs gs' h e = by (row r c) refl e (λ hs i j. step_gains f t c st st' hs gs' i j)
  where
    by : (y : Row) → row r c ≡ y → acted y f t st gs (λ hs. step f t c st hs) ≡ Goes st' gs' →
        ((hs : List Group) → Held t.place.line st (frames hs) → step f t c st hs ≡ Goes st' gs' → Stepped t.place.line c st hs st' gs') →
        Stepped t.place.line c (part r ∷ st) gs st' gs'
    by Fault i e k = cc
    by (Skips cs) i e k =
        let s = row_skipped f t c r cs st gs i h in
        stepped_behind t.place.line c (part r ∷ st) st st' gs (all_changed f t cs gs) gs' s
        (λ j. subst (λ y. calm_row y (is_calm r c) (calm_step c st) ≡ true) i j) (k (all_changed f t cs gs) s.held e)
    by (Uses cs ss) i e k = gone t.place.line c (part r ∷ st) (ss ++ st) st' gs (all_changed f t cs gs) gs' e
        (row_stepped f t c r cs ss st gs i h)

pub steps_gain : StepsGain
steps_gain f t st st' gs gs' h e = step_gains f t (class_of t) st st' gs gs' h e

-- ---- where nothing more is waited for

step_ends : (f : ℕ) (t : Token) (c : Class) (st : List Symbol) (gs made : List Group) → Held t.place.line st (frames gs) →
    step f t c st gs ≡ Ends made → Gains (stack_faults (nodes_in st) gs) (stack_faults [] made) []
unfolding step nodes_in
step_ends f t c [] gs made h e =
    let a : gs ≡ made = cc in subst (λ y. Gains (stack_faults [] gs) (stack_faults [] y) []) a (gains_refl (stack_faults [] gs))
step_ends f t c (sy.Close k ∷ st) gs made h e =
    let s = close_skipped t.place.line k st gs h in
    gains_then (stack_faults (nodes_in (sy.Close k ∷ st)) gs) (stack_faults (nodes_in st) (close k gs)) (stack_faults [] made) [] s.gains
    (step_ends f t c st (close k gs) made s.held e)
step_ends f t c (sy.Want d ∷ st) gs made h e = by (has_sign d c) e
  where
    by : (b : Bool) → wanted b (Goes st gs) ≡ Ends made → Gains (stack_faults (nodes_in st) gs) (stack_faults [] made) []
    by true e = cc
    by false e = cc
step_ends f t c (sy.Part r ∷ st) gs made h e = by (row r c) refl e (λ hs i j. step_ends f t c st hs made i j)
  where
    by : (y : Row) → row r c ≡ y → acted y f t st gs (λ hs. step f t c st hs) ≡ Ends made →
        ((hs : List Group) → Held t.place.line st (frames hs) → step f t c st hs ≡ Ends made →
        Gains (stack_faults (nodes_in st) hs) (stack_faults [] made) []) →
        Gains (stack_faults (nodes_in (part r ∷ st)) gs) (stack_faults [] made) []
    by Fault i e k = cc
    by (Skips cs) i e k =
        let s = row_skipped f t c r cs st gs i h in
        gains_then (stack_faults (nodes_in (part r ∷ st)) gs) (stack_faults (nodes_in st) (all_changed f t cs gs)) (stack_faults [] made) []
        s.gains (k (all_changed f t cs gs) s.held e)
    by (Uses cs ss) i e k = cc

pub steps_end : StepsEnd
steps_end f t st gs made h e = step_ends f t (class_of t) st gs made h e
