-- More turns keep the end and extend the output.
use Rattle.std.proofs.Common.{◌≡◌, ℕ, zero, suc, ◌≤◌, List, [], ◌++◌, Bool, true, false, cond, refl, sym, ap, ◌∙◌, subst, arith, append_assoc}
use Rattle.std.proofs.lemmas.List.{append-nil}
use Rattle.hare_blocks.specs.Trees.{Statement, Statements, declares, assigns, chooses, chooses_one, repeats, puts, exits, nothing, first, exit_of, block_of}
use Rattle.hare_blocks.specs.Evaluation.{holds, Spent, Next, Ends, State, Result, then_go, closed, spends, Less, statement_in, statements_in, below, does, ended}
use Rattle.hare_blocks.specs.Laws.{IsPrefix, MoreTurnsKeepTheEnd, MoreTurnsExtendTheOutput}

-- ---- prefixes

prefix_self : (xs : List ℕ) → IsPrefix xs xs
prefix_self xs = ([], append-nil xs)

prefix_on : (xs ys zs : List ℕ) → IsPrefix xs ys → IsPrefix ys zs → IsPrefix xs zs
prefix_on xs ys zs p q = (p.0 ++ q.0, sym (append_assoc xs p.0 q.0) ∙ ap (λ l. l ++ q.0) p.1 ∙ q.1)

-- ---- the output only grows

abbrev Grows : List ℕ → Result → Type 0
Grows xs r = IsPrefix xs r.1.output

then_grows : (xs : List ℕ) (r : Result) (go : State → Result) → Grows xs r → ((s : State) → Grows s.output (go s)) → Grows xs (then_go r go)
then_grows xs (Next, s) go p h = prefix_on xs s.output (go s).1.output p (h s)
then_grows xs (Ends e, s) go p h = p

closed_grows : (xs : List ℕ) (before : State) (r : Result) → Grows xs r → Grows xs (closed before r)
closed_grows xs before (flow, s) p = p

spends_grows : (n : ℕ) (xs : List ℕ) (a b : Result) → Grows xs a → Grows xs b → Grows xs (spends n a b)
spends_grows zero xs a b p q = p
spends_grows (suc n) xs a b p q = q

either_grows : (b : Bool) (xs : List ℕ) (x y : Result) → Grows xs x → Grows xs y → Grows xs (cond b x y)
either_grows true xs x y p q = p
either_grows false xs x y p q = q

module _ (args n : ℕ) (less : Less) (less_grows : (ss : Statements) (s : State) → Grows s.output (less ss s)) where
  mutual
    statement_grows : (t : Statement) (s : State) → Grows s.output (statement_in args n less t s)
    statement_grows (declares x e) s = prefix_self s.output
    statement_grows (assigns x e) s = prefix_self s.output
    statement_grows (chooses c body) s = either_grows (holds args s.variables c) s.output _ _
        (closed_grows s.output s (statements_in args n less body s) (statements_grow body s)) (prefix_self s.output)
    statement_grows (chooses_one c body other) s =
        either_grows (holds args s.variables c) s.output _ _
        (closed_grows s.output s (statements_in args n less body s) (statements_grow body s))
        (closed_grows s.output s (statements_in args n less other s) (statements_grow other s))
    statement_grows (repeats c body) s = spends_grows n s.output (Ends Spent, s) _ (prefix_self s.output)
        (either_grows (holds args s.variables c) s.output _ _
        (then_grows s.output (closed s (less body s)) _ (closed_grows s.output s (less body s) (less_grows body s))
        (less_grows (first (repeats c body) nothing))) (prefix_self s.output))
    statement_grows (puts text) s = (text, refl)
    statement_grows (exits e) s = prefix_self s.output

    statements_grow : (ts : Statements) (s : State) → Grows s.output (statements_in args n less ts s)
    statements_grow nothing s = prefix_self s.output
    statements_grow (first t ts) s = then_grows s.output (statement_in args n less t s) _ (statement_grows t s) (statements_grow ts)

below_grows : (args n : ℕ) (ss : Statements) (s : State) → Grows s.output (below args n ss s)
below_grows args zero ss s = prefix_self s.output
below_grows args (suc n) ss s = statements_grow args n (below args n) (below_grows args n) ss s

-- ---- the same, or cut short

data Below (r r' : Result) : Type 0 where
  same : r ≡ r' → Below r r'
  cut : r.0 ≡ Ends Spent → IsPrefix r.1.output r'.1.output → Below r r'

then_spent : (r : Result) (go : State → Result) → r.0 ≡ Ends Spent → then_go r go ≡ r
then_spent (Next, s) go e = absurd (cc)
then_spent (Ends f, s) go e = refl

then_same : (r : Result) (go go' : State → Result) → ((s : State) → Below (go s) (go' s)) → Below (then_go r go) (then_go r go')
then_same (Next, s) go go' h = h s
then_same (Ends e, s) go go' h = same refl

then_below : (r r' : Result) (go go' : State → Result) → Below r r' → ((s : State) → Below (go s) (go' s)) →
    ((s : State) → Grows s.output (go' s)) → Below (then_go r go) (then_go r' go')
then_below r r' go go' (same e) h g = subst (λ x. Below (then_go r go) (then_go x go')) e (then_same r go go' h)
then_below r r' go go' (cut e p) h g =
    let x = then_spent r go e in
    cut (ap (λ y. y.0) x ∙ e) (rw x (then_grows r.1.output r' go' p g))

closed_flow : (before : State) (r : Result) → (closed before r).0 ≡ r.0
closed_flow before (flow, s) = refl

closed_output : (before : State) (r : Result) → (closed before r).1.output ≡ r.1.output
closed_output before (flow, s) = refl

closed_below : (before : State) (r r' : Result) → Below r r' → Below (closed before r) (closed before r')
closed_below before r r' (same e) = same (ap (closed before) e)
closed_below before r r' (cut e p) = cut (closed_flow before r ∙ e) (rw (closed_output before r, closed_output before r') p)

spends_below : (k k' : ℕ) (s : State) (r r' : Result) → k ≤ k' → Below r r' → Grows s.output r' →
    Below (spends k (Ends Spent, s) r) (spends k' (Ends Spent, s) r')
spends_below zero zero s r r' l b p = same refl
spends_below zero (suc k') s r r' l b p = cut refl p
spends_below (suc k) zero s r r' l b p = absurd (omega arith)
spends_below (suc k) (suc k') s r r' l b p = b

either_below : (b : Bool) (x x' y y' : Result) → Below x x' → Below y y' → Below (cond b x y) (cond b x' y')
either_below true x x' y y' p q = p
either_below false x x' y y' p q = q

module _ (args n n' : ℕ) (less less' : Less) (le : n ≤ n') (less_below : (ss : Statements) (s : State) → Below (less ss s) (less' ss s))
    (less_grows : (ss : Statements) (s : State) → Grows s.output (less' ss s)) where
  turn_below : (again body : Statements) (s : State) →
      Below (then_go (closed s (less body s)) (less again)) (then_go (closed s (less' body s)) (less' again))
  turn_below again body s = then_below (closed s (less body s)) (closed s (less' body s)) (less again) (less' again)
      (closed_below s (less body s) (less' body s) (less_below body s)) (less_below again) (less_grows again)

  turn_grows : (again body : Statements) (s : State) → Grows s.output (then_go (closed s (less' body s)) (less' again))
  turn_grows again body s = then_grows s.output (closed s (less' body s)) (less' again)
      (closed_grows s.output s (less' body s) (less_grows body s)) (less_grows again)

  mutual
    statement_below : (t : Statement) (s : State) → Below (statement_in args n less t s) (statement_in args n' less' t s)
    statement_below (declares x e) s = same refl
    statement_below (assigns x e) s = same refl
    statement_below (chooses c body) s = either_below (holds args s.variables c) _ _ _ _
        (closed_below s (statements_in args n less body s) (statements_in args n' less' body s) (statements_below body s)) (same refl)
    statement_below (chooses_one c body other) s =
        either_below (holds args s.variables c) _ _ _ _
        (closed_below s (statements_in args n less body s) (statements_in args n' less' body s) (statements_below body s))
        (closed_below s (statements_in args n less other s) (statements_in args n' less' other s) (statements_below other s))
    statement_below (repeats c body) s = spends_below n n' s _ _ le
        (either_below (holds args s.variables c) _ _ _ _ (turn_below (first (repeats c body) nothing) body s) (same refl))
        (either_grows (holds args s.variables c) s.output _ _ (turn_grows (first (repeats c body) nothing) body s) (prefix_self s.output))
    statement_below (puts text) s = same refl
    statement_below (exits e) s = same refl

    statements_below : (ts : Statements) (s : State) → Below (statements_in args n less ts s) (statements_in args n' less' ts s)
    statements_below nothing s = same refl
    statements_below (first t ts) s = then_below (statement_in args n less t s) (statement_in args n' less' t s) _ _ (statement_below t s)
        (statements_below ts) (statements_grow args n' less' less_grows ts)

turns_below : (args n n' : ℕ) → n ≤ n' → (ss : Statements) (s : State) → Below (below args n ss s) (below args n' ss s)
turns_below args zero n' le ss s = cut refl (below_grows args n' ss s)
turns_below args (suc n) zero le ss s = absurd (omega arith)
turns_below args (suc n) (suc n') le ss s =
    let le' : n ≤ n' = omega arith in
    statements_below args n n' (below args n) (below args n') le' (turns_below args n n' le') (below_grows args n') ss s

does_below : (args n n' : ℕ) → n ≤ n' → (ss : Statements) (s : State) → Below (does args n ss s) (does args n' ss s)
does_below args n n' le ss s = statements_below args n n' (below args n) (below args n') le (turns_below args n n' le) (below_grows args n')
    ss s

-- ---- programs

ended_spent : (r : Result) → r.0 ≡ Ends Spent → (ended r).0 ≡ Spent
ended_spent (Next, s) e = absurd (cc)
ended_spent (Ends f, s) e = cc

ended_output : (r : Result) → (ended r).1 ≡ r.1.output
ended_output (Next, s) = refl
ended_output (Ends e, s) = refl

keeps : (r r' : Result) → Below r r' → ¬ ((ended r).0 ≡ Spent) → ended r' ≡ ended r
keeps r r' (same e) h = ap ended (sym e)
keeps r r' (cut e p) h = absurd (h (ended_spent r e))

extends : (r r' : Result) → Below r r' → IsPrefix (ended r).1 (ended r').1
extends r r' (same e) = subst (λ x. IsPrefix (ended r).1 (ended x).1) e (prefix_self (ended r).1)
extends r r' (cut e p) = rw (ended_output r, ended_output r') p

pub more_turns_keep : MoreTurnsKeepTheEnd
more_turns_keep args (exit_of e) n m le h = refl
more_turns_keep args (block_of ss) n m le h = keeps _ _ (does_below args n m le ss _) h

pub more_turns_extend : MoreTurnsExtendTheOutput
more_turns_extend args (exit_of e) n m le = prefix_self []
more_turns_extend args (block_of ss) n m le = extends _ _ (does_below args n m le ss _)
