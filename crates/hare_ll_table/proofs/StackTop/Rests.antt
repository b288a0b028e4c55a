-- What is waited for as the top of the stack is taken or changed.
use Rattle.std.proofs.Common.{◌≡◌, ℕ, List, [], ◌∷◌, ◌++◌, sym, ap, ◌∙◌}
use Rattle.hare_tree.specs.declared.kind.Kind.{Kind}
use Rattle.hare_automaton.specs.declared.rule.Symbol.{Symbol}
use Rattle.hare_automaton.specs.declared.rule.Symbol.TheVariants as sy
use Rattle.hare_automaton.specs.Rows.{rest_of}
use Rattle.hare_ll_table.specs.declared.row.Wait.{Wait}
use Rattle.hare_ll_table.specs.declared.row.Wait.TheVariants as wa
use Rattle.hare_ll_table.specs.Seen.{waited}

-- one symbol
pub one_goes : (old new rest : List Wait) (s : Symbol) → old ≡ wa.One s ∷ rest → new ≡ rest → waited old ≡ s ∷ waited new
one_goes old new rest s a b = ap waited a ∙ ap (λ l. s ∷ waited l) (sym b)

-- the first symbol of what is left of a form
pub rest_goes : (old new rest : List Wait) (from next : ℕ) (k : Kind) (s : Symbol) → old ≡ wa.Rest from k ∷ rest →
    new ≡ wa.Rest next k ∷ rest → rest_of from k ≡ s ∷ rest_of next k → waited old ≡ s ∷ waited new
rest_goes old new rest from next k s a b e = ap waited a ∙ ap (λ l. l ++ waited rest) e ∙ ap (λ l. s ∷ waited l) (sym b)

-- the end of a form
pub rest_ends : (old new rest : List Wait) (from : ℕ) (k : Kind) → old ≡ wa.Rest from k ∷ rest → new ≡ rest →
    rest_of from k ≡ sy.Close k ∷ [] → waited old ≡ sy.Close k ∷ waited new
rest_ends old new rest from k a b e = ap waited a ∙ ap (λ l. l ++ waited rest) e ∙ ap (λ l. sy.Close k ∷ waited l) (sym b)
