-- The label that a `yield` means stands at its level.
use Rattle.std.proofs.Common.{◌≡◌, ℕ, suc, Bool, true, false, cond, List, [], ◌∷◌, ◌++◌, length, Option, Some, None, refl, sym, ◌∙◌, subst, arith, length-append, append_assoc, append-nil}
use Rattle.std.specs.Prelude.{slice_get, find, reverse}
use Rattle.std.proofs.lemmas.List.{reverse-append}
use Rattle.std.proofs.lemmas.Option.{slice_get_within}
use Rattle.hare_types.specs.Store.{Store}
use Rattle.hare_types.proofs.ListLemmas.{slice_get_front, slice_get_end}
use Rattle.hare_rules.specs.declared.inside.Target.{Target}
use Rattle.hare_rules.specs.declared.inside.Target.TheVariants as target
use Rattle.hare_rules.specs.Context.{Open, Given}
use Rattle.hare_rules.specs.Control.{is_loop, is_block_named, takes_yield, block_meant, hint_of_open, level_from, yield_level}
use Rattle.hare_check.specs.Fits.{IsVoidTaken, IsOpenTo}

-- this is the place of that label, which is one of those; or there is neither
abbrev pub Leads : (Open → Bool) → List Open → Option ℕ → Option Open → Type 0
Leads p ls None None = Unit {0}
Leads p ls None (Some l) = ⊥
Leads p ls (Some i) None = ⊥
Leads p ls (Some i) (Some l) = (slice_get ls i ≡ Some l) × (p l ≡ true)

leads-front : (p : Open → Bool) (ls ms : List Open) (o : Option ℕ) (q : Option Open) → Leads p ls o q → Leads p (ls ++ ms) o q
leads-front p ls ms None None h = tt
leads-front p ls ms None (Some l) h = absurd h
leads-front p ls ms (Some i) None h = absurd h
leads-front p ls ms (Some i) (Some l) h = (slice_get_front ls ms i (slice_get_within ls i l h.0) ∙ h.0, h.1)

leads-push : (p : Open → Bool) (ls : List Open) (l : Open) (o : Option ℕ) (q : Option Open) (b : Bool) → p l ≡ b → Leads p ls o q →
    Leads p (ls ++ l ∷ []) (cond b (Some (length ls)) o) (cond b (Some l) q)
leads-push p ls l o q true e h = (slice_get_end ls l [], e)
leads-push p ls l o q false e h = leads-front p ls (l ∷ []) o q h

level-leads : (p : Open → Bool) (done ls : List Open) (o : Option ℕ) → Leads p done o (find p (reverse done)) →
    Leads p (done ++ ls) (level_from p (length done) ls o) (find p (reverse (done ++ ls)))
level-leads p done [] o h = subst (λ (ms : List Open). Leads p ms o (find p (reverse ms))) (sym (append-nil done)) h
level-leads p done (l ∷ ls) o h =
    let more = done ++ l ∷ [] in
    let next = leads-push p done l o (find p (reverse done)) (p l) refl h in
    let turned : reverse more ≡ l ∷ reverse done = reverse-append done (l ∷ []) in
    let step : Leads p more (cond (p l) (Some (length done)) o) (find p (reverse more)) =
    subst (λ (ms : List Open). Leads p more (cond (p l) (Some (length done)) o) (find p ms)) (sym turned) next in
    let all = level-leads p more ls (cond (p l) (Some (length done)) o) step in
    let count : length more ≡ suc (length done) = length-append done (l ∷ []) ∙ (omega arith) in
    let whole : more ++ ls ≡ done ++ l ∷ ls = append_assoc done (l ∷ []) ls in
    let best = cond (p l) (Some (length done)) o in
    let at = subst (λ n. Leads p (more ++ ls) (level_from p n ls best) (find p (reverse (more ++ ls)))) count all in
    subst (λ (ms : List Open). Leads p ms (level_from p (suc (length done)) ls best) (find p (reverse ms))) whole at

meant-leads : (name : List ℕ) (ls : List Open) → Leads (takes_yield name) ls (yield_level name ls) (block_meant name ls)
meant-leads name ls = level-leads (takes_yield name) [] ls None tt

not_loop : (name : List ℕ) (t : Target) (own : List ℕ) → is_block_named name t own ≡ true → is_loop t ≡ false
not_loop name target.Loop own e = cc
not_loop name target.Block own e = refl
not_loop name target.Case own e = refl

-- the value may go to what the `yield` means
pub yield-open : (s : Store) (name : List ℕ) (ls : List Open) (n : ℕ) (g : Given) → yield_level name ls ≡ Some n →
    IsVoidTaken s (hint_of_open (block_meant name ls)) g → IsOpenTo s ls (record { level = n; given = g })
yield-open s name ls n g e v =
    by_meant (block_meant name ls)
    (subst (λ (o : Option ℕ). Leads (takes_yield name) ls o (block_meant name ls)) e (meant-leads name ls)) v
  where
    by_meant : (q : Option Open) → Leads (takes_yield name) ls (Some n) q → IsVoidTaken s (hint_of_open q) g →
        IsOpenTo s ls (record { level = n; given = g })
    by_meant None h w = absurd h
    by_meant (Some l) h w = record { label = l; at = h.0; takes = not_loop name l.target l.name h.1; void = w }
