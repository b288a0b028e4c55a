-- A token that no tree is spelled by is used by no row, so the gauge finds nothing behind it.
use Rattle.std.proofs.Common.{◌≡◌, ℕ, List, [], ◌∷◌, ◌++◌, Bool, true, false, ◌&&◌, ◌+◌, refl, ap, sym, ◌∙◌, map, length}
use Rattle.std.proofs.lemmas.List.{map-append}
use Rattle.hare_tree.specs.declared.token.Token.{Token}
use Rattle.hare_tree.specs.declared.form.Own.{Own}
use Rattle.hare_tree.specs.declared.form.Own.TheVariants as ow
use Rattle.hare_automaton.specs.declared.class.Class.TheVariants as cl
use Rattle.hare_automaton.specs.declared.rule.Rule.{Rule}
use Rattle.hare_automaton.specs.declared.rule.Rule.TheVariants as ru
use Rattle.hare_automaton.specs.declared.rule.Symbol.{Symbol}
use Rattle.hare_automaton.specs.declared.rule.Symbol.TheVariants as sy
use Rattle.hare_automaton.specs.Rows.{Row, Fault, Skips, Uses}
use Rattle.hare_automaton.specs.Table.{row}
use Rattle.hare_tree.specs.Grammar.{joined, ends_in_string}
use Rattle.hare_prefixes.proofs.Joining.Apart.{of_junk}
use Rattle.hare_prefixes.proofs.Joining.Joined.{joined_append}
use Rattle.hare_prefixes.proofs.Completion.Viable.{end}
use Rattle.hare_nesting.specs.Marks.{Frame, close}
use Rattle.hare_nesting.specs.Gauge.{Step, Goes, Ends, Stuck, acted, step, Seen, found, nodes_in, after, gauge, numbered, seen_in, seen}
use Rattle.hare_nesting.specs.Depth.{closed}
use Rattle.hare_nesting.proofs.OverFiles.Numbers.{numbered_append}

-- the row uses the token
abbrev uses : Row → Bool
uses (Uses cs ss) = true
uses _ = false

own_unused : (o : Own) → uses (row (ru.Own o) cl.Junk) ≡ false
own_unused ow.Label = refl
own_unused _ = refl

unused : (r : Rule) → uses (row r cl.Junk) ≡ false
unused (ru.Of s) = ap uses (of_junk s)
unused (ru.Own o) = own_unused o
unused (ru.Optional s) = rw (of_junk s) refl
unused (ru.Each s) = rw (of_junk s) refl
unused (ru.EachFollowed s a) = rw (of_junk s) refl
unused (ru.List s) = rw (of_junk s) refl
unused (ru.BehindComma s) = rw (of_junk s) refl
unused _ = refl

-- no step uses it
pub step_unused : (n : ℕ) (st st' : List Symbol) (fs fs' : List Frame) → step n cl.Junk st fs ≡ Goes st' fs' → ⊥
unfolding step
step_unused n [] st' fs fs' e = cc
step_unused n (sy.Close k ∷ st) st' fs fs' e = step_unused n st st' (close k fs) fs' e
step_unused n (sy.Want s ∷ st) st' fs fs' e = cc
step_unused n (sy.Part r ∷ st) st' fs fs' e = by (row r cl.Junk) (unused r) e (λ gs q. step_unused n st st' gs fs' q)
  where
    by : (z : Row) → uses z ≡ false → acted z n st fs (λ gs. step n cl.Junk st gs) ≡ Goes st' fs' →
        ((gs : List Frame) → step n cl.Junk st gs ≡ Goes st' fs' → ⊥) → ⊥
    by Fault u e k = cc
    by (Skips cs) u e k = k _ e
    by (Uses cs ss) u e k = cc

-- the gauge tells the same with such a token behind all others
pub gauge_unused : (w : List Seen) (x : Seen) (st : List Symbol) (fs : List Frame) → x.class ≡ cl.Junk →
    (gauge (w ++ x ∷ []) st fs).faults ≡ (gauge w st fs).faults
unfolding gauge
gauge_unused [] x st fs c = by (step x.number x.class st fs) refl
  where
    by : (s : Step) → step x.number x.class st fs ≡ s → (after s x [] (λ st' fs'. gauge [] st' fs')).faults ≡ []
    by (Goes st' fs') e = absurd (step_unused x.number st st' fs fs' (ap (λ y. step x.number y st fs) (sym c) ∙ e))
    by (Ends fs') e = refl
    by Stuck e = refl
gauge_unused (t ∷ w) x st fs c = by (step t.number t.class st fs) (λ st' fs'. gauge_unused w x st' fs' c)
  where
    by : (s : Step) → ((st' : List Symbol) (fs' : List Frame) → (gauge (w ++ x ∷ []) st' fs').faults ≡ (gauge w st' fs').faults) →
        (after s t (w ++ x ∷ []) (λ st' fs'. gauge (w ++ x ∷ []) st' fs')).faults ≡ (after s t w (λ st' fs'. gauge w st' fs')).faults
    by (Goes st' fs') k = ap (λ y. found (nodes_in st') fs' ++ y) (k st' fs')
    by (Ends fs') k = refl
    by Stuck k = refl

-- ---- End behind the tokens of a file

seen_closed : (ts : List Token) → (x : Seen) × ((seen (closed ts) ≡ seen ts ++ x ∷ []) × (x.class ≡ cl.Junk))
seen_closed ts =
    let a : numbered 1 (closed ts) ≡ numbered 1 ts ++ numbered (1 + length ts) (end ∷ []) = numbered_append 1 ts (end ∷ []) in
    let b : joined (numbered 1 (closed ts)) ≡ joined (numbered 1 ts) ++ numbered (1 + length ts) (end ∷ []) =
    ap joined a ∙ joined_append (numbered 1 ts) (numbered (1 + length ts) (end ∷ [])) (apart (ends_in_string (numbered 1 ts))) in (
      record { class = cl.Junk; number = 1 + length ts },
      (ap (map seen_in) b ∙ map-append seen_in (joined (numbered 1 ts)) (numbered (1 + length ts) (end ∷ [])), refl),
    )
  where
    apart : (b : Bool) → (b && false) ≡ false
    apart true = refl
    apart false = refl

-- the gauge tells the same with End behind the tokens
pub gauge_closed : (ts : List Token) (st : List Symbol) (fs : List Frame) →
    (gauge (seen (closed ts)) st fs).faults ≡ (gauge (seen ts) st fs).faults
gauge_closed ts st fs =
    let q = seen_closed ts in
    ap (λ w. (gauge w st fs).faults) q.1.0 ∙ gauge_unused (seen ts) q.0 st fs q.1.1
