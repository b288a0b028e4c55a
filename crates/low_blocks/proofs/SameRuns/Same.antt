-- Lowered statements end as the statements do, with the same output, for every number of turns.
use Rattle.std.proofs.Common.{◌≡◌, ℕ, zero, suc, ◌+◌, ◌/◌, ◌%◌, ◌^◌, ◌<◌, ◌≤◌, Bool, true, false, List, [], ◌∷◌, ◌++◌, length, Option, Some, None, refl, sym, ap, ◌∙◌, subst, arith}
use Rattle.std.specs.Prelude.{codes, if◌then◌else◌}
use Rattle.std.proofs.lemmas.List.{append-nil}
use Rattle.hx_base.specs.Runtime.{World, put}
use Rattle.hx_base.specs.Runtime as runtime
use Rattle.flat_code.specs.declared.program.FlatProgram.{FlatProgram}
use Rattle.flat_code.specs.declared.value.Value.TheVariants.{Number, Symbol}
use Rattle.flat_code.specs.Code.{Code, Loop, Leave, Call}
use Rattle.flat_code.specs.Addresses.{address_at}
use Rattle.flat_code.specs.State as flat
use Rattle.flat_code.specs.State.{temp_value, stepped, caught, then_turn}
use Rattle.flat_code.specs.Evaluation.{Less, acted, function_named, flat_begun, flat_below}
use Rattle.hare_blocks.specs.Trees.{Expr, Condition, always, compares, Statement, Statements, declares, assigns, chooses, chooses_one, repeats, puts, exits, nothing, first}
use Rattle.hare_blocks.specs.Evaluation.{assigned, value, holds, Next, State, Result, then_go, closed, statement_in, statements_in, below}
use Rattle.hare_blocks.specs.Scopes.{number_of}
use Rattle.low_blocks.specs.Expressions.{Steps, expr_steps, expr_piece, condition_piece}
use Rattle.low_blocks.specs.Statements.{Site, past, outside, variable_set, seq, branch, turn, statement_code, statements_code, statement_texts, statements_texts}
use Rattle.low_blocks.proofs.Temporaries.Runs.{keeps_on, value_of-stepped, runs, Reaches, reaches_on}
use Rattle.low_blocks.proofs.Temporaries.Scopes.{holds_kept, assigned_nowhere, holds_assigned}
use Rattle.low_blocks.proofs.Temporaries.Pieces.{expr_from, condition_grows}
use Rattle.low_blocks.proofs.SameValues.Values.{word_fits, Leads, Ready, last_sets, expr_leads, piece_gives}
use Rattle.low_blocks.proofs.SameValues.Conditions.{condition_tells}
use Rattle.low_blocks.proofs.SameRuns.Meets.{World_after, Stands, Meets, goes_on, then_meets, turn_meets, closed_meets, then_nothing}
use Rattle.low_blocks.proofs.SameRuns.Meets.{runs_parts}
use Rattle.low_blocks.proofs.SameRuns.Meets as ends
use Rattle.low_blocks.proofs.Temporaries.Sites.{statements_extend, IsSited, sited_past, sited_outside, statement_behind, statements_behind}
use Rattle.low_blocks.proofs.SameRuns.Texts.{IsText, AreTexts, texts_front, texts_back, put_text}
use Rattle.low_blocks.proofs.SameRuns.Branches.{stands_on, either_meets, caught_meets, branch_runs}

exit_cut : (v : ℕ) → (v % 2 ^ 32) % 256 ≡ v % 256
exit_cut v = omega arith

offset_fits : (v : ℕ) → v < 2 ^ 64 → ((v + 0) % 2 ^ 64) % 2 ^ 64 ≡ v
offset_fits v h = omega arith

module _ (p : FlatProgram) (w : World) (args : ℕ) (arguments : w.arguments ≡ args)
    (no_nargs : function_named p.functions (codes "rt.nargs") ≡ None) (no_puts : function_named p.functions (codes "rt.puts") ≡ None)
    (no_exit : function_named p.functions (codes "rt.exit") ≡ None) where
  -- what flat code does within so many turns
  abbrev within : ℕ → List Code → flat.State → flat.Result
  within n = runs p n (flat_below p n)

  -- statements that stand somewhere, where both programs stand there
  abbrev pub Claim : ℕ → Type 0
  Claim n = (site : Site) (ss : Statements) (v : State) (s : flat.State) → IsSited site →
      AreTexts p w.memory site.texts (statements_texts ss) → Stands w site.scope v s →
      Meets w (statements_code site ss).behind.scope (statements_in args n (below args n) ss v) (within n (statements_code site ss).code s)

  -- the same with one turn less, if there is one
  abbrev Before : ℕ → Type 0
  Before zero = Unit {0}
  Before (suc n) = Claim n

  ready : (n : ℕ) (less : Less) (site : Site) (v : State) (s : flat.State) (h : IsSited site) → Stands w site.scope v s →
      Ready p n less args no_nargs site.scope v.variables site.next h.some h.below s
  ready n less site v s h st = (st.holds, ap (λ (x : World). x.arguments) st.world ∙ arguments)

  -- code that runs through to the end
  ended : (n : ℕ) (cs : List Code) (s s' : flat.State) → Reaches p n (flat_below p n) cs s s' → within n cs s ≡ (flat.Next, s')
  ended n cs s s' h = subst (λ x. within n x s ≡ (flat.Next, s')) (append-nil cs) (h [])

  declares_meets : (n : ℕ) (site : Site) (x : List ℕ) (e : Expr) (v : State) (s : flat.State) → IsSited site → Stands w site.scope v s →
      Meets w (statement_code site (declares x e)).behind.scope (statement_in args n (below args n) (declares x e) v)
      (within n (statement_code site (declares x e)).code s)
  declares_meets n site x e v s h st =
      let less = flat_below p n in
      let steps = expr_steps site.scope site.next e in
      let f = expr_from site.scope site.next h.some h.below site.next e (omega arith) in
      let g = expr_leads p n less args no_nargs site.scope v.variables site.next h.some h.below site.next e s (omega arith)
      (ready n less site v s h st) in
      let z = value args v.variables e in
      let k = last_sets p n less no_nargs g.after steps.next steps.last z g.yields g.fits in
      let r = reaches_on p n less steps.code (variable_set (Some steps.next) steps.last) s g.after k.after g.reaches k.reaches in
      let keeps = keeps_on site.next steps.next s g.after k.after f.grows g.keeps (λ u l m. k.others u (λ i. omega arith)) in
      goes_on _ k.after refl (ended n (steps.code ++ variable_set (Some steps.next) steps.last) s k.after r) (record {
        holds = (refl, k.value, g.fits, holds_kept site.next site.scope v.variables s k.after h.below keeps st.holds);
        world = k.world ∙ g.world ∙ st.world;
      })

  -- a variable, if there is one, is set by the last step
  variable_meets : (n : ℕ) (site : Site) (x : List ℕ) (steps : Steps) (z : ℕ) (v : State) (s : flat.State) (o : Option ℕ) → IsSited site →
      Stands w site.scope v s → Leads p n (flat_below p n) s steps z site.next → number_of x site.scope ≡ o →
      Meets w site.scope (Next, record v { variables = assigned x z v.variables }) (within n (steps.code ++ variable_set o steps.last) s)
  variable_meets n site x steps z v s None h st g none =
      let same = assigned_nowhere x z site.scope v.variables s st.holds none in
      goes_on _ g.after refl (g.reaches []) (record {
        holds = rw same (holds_kept site.next site.scope v.variables s g.after h.below g.keeps st.holds);
        world = g.world ∙ st.world;
      })
  variable_meets n site x steps z v s (Some t) h st g some =
      let less = flat_below p n in
      let k = last_sets p n less no_nargs g.after t steps.last z g.yields g.fits in
      let r = reaches_on p n less steps.code (variable_set (Some t) steps.last) s g.after k.after g.reaches k.reaches in
      let before = holds_kept site.next site.scope v.variables s g.after h.below g.keeps st.holds in
      goes_on _ k.after refl (ended n (steps.code ++ variable_set (Some t) steps.last) s k.after r) (record {
        holds = holds_assigned site.next t x z site.scope v.variables g.after k.after h.below before some g.fits k.value k.others;
        world = k.world ∙ g.world ∙ st.world;
      })

  assigns_meets : (n : ℕ) (site : Site) (x : List ℕ) (e : Expr) (v : State) (s : flat.State) → IsSited site → Stands w site.scope v s →
      Meets w site.scope (statement_in args n (below args n) (assigns x e) v) (within n (statement_code site (assigns x e)).code s)
  assigns_meets n site x e v s h st =
      let less = flat_below p n in
      let g = expr_leads p n less args no_nargs site.scope v.variables site.next h.some h.below site.next e s (omega arith)
      (ready n less site v s h st) in
      variable_meets n site x (expr_steps site.scope site.next e) (value args v.variables e) v s (number_of x site.scope) h st g refl

  puts_meets : (n : ℕ) (site : Site) (text : List ℕ) (v : State) (s : flat.State) → IsSited site → IsText p w.memory site.texts text →
      Stands w site.scope v s →
      Meets w site.scope (statement_in args n (below args n) (puts text) v) (within n (statement_code site (puts text)).code s)
  puts_meets n site text v s si h st =
      let less = flat_below p n in
      let c = Call None (codes "rt.puts") (Symbol site.texts 0 ∷ Number (length text) ∷ []) in
      let put : put s.world (((address_at p site.texts + 0) % 2 ^ 64) % 2 ^ 64) (length text % 2 ^ 64) ≡ runtime.Gives 0 (length text)
      (World_after w (v.output ++ text)) = rw (st.world, offset_fits _ h.address, word_fits _ h.short)
      (put_text (World_after w v.output) (address_at p site.texts) text h.mapped h.bytes) in
      let end = stepped (length text / 64) (record (stepped 2 (stepped 1 s)) { world = World_after w (v.output ++ text) }) in
      let e : flat_begun p n less c (stepped 1 s) ≡ (flat.Next, end) = rw no_puts (ap (acted (stepped 2 (stepped 1 s)) None None) put) in
      goes_on _ end refl (then_nothing _ ∙ e)
      (record {
        holds = holds_kept site.next site.scope v.variables s end si.below
            (λ u l m. ap (λ (x : World). temp_value x.memory.fill s.temps u) (sym st.world)) st.holds;
        world = refl;
      })

  exits_meets : (n : ℕ) (site : Site) (e : Expr) (v : State) (s : flat.State) → IsSited site → Stands w site.scope v s →
      Meets w site.scope (statement_in args n (below args n) (exits e) v) (within n (statement_code site (exits e)).code s)
  exits_meets n site e v s h st =
      let less = flat_below p n in
      let piece = expr_piece site.scope site.next e in
      let g = piece_gives p n less args no_nargs site.scope v.variables site.next h.some h.below site.next e s (omega arith)
      (ready n less site v s h st) in
      let z = value args v.variables e in
      let c = Call None (codes "rt.exit") (piece.value ∷ []) in
      let k : flat_begun p n less c (stepped 1 g.after) ≡ (flat.Exit (z % 256), stepped 1 (stepped 1 g.after)) =
      rw (no_exit, value_of-stepped p 1 (stepped 1 g.after) piece.value, value_of-stepped p 1 g.after piece.value, g.value, exit_cut z)
      refl in
      ends.exits (z % 256) v _ refl (g.reaches (c ∷ []) ∙ then_nothing _ ∙ k) (g.world ∙ st.world)

  -- a branch ends as the statements do that are chosen, each by what it is from where the condition was tested
  branch_meets : (n : ℕ) (site : Site) (c : Condition) (does other : List Code) (x y : Result) (v : State) (s : flat.State) → IsSited site →
      Stands w site.scope v s →
      ((s' : flat.State) → Stands w site.scope v s' → Meets w site.scope x (caught (within n does s'))) →
      ((s' : flat.State) → Stands w site.scope v s' → Meets w site.scope y (caught (within n other s'))) →
      Meets w site.scope (if holds args v.variables c then x else y)
      (within n (branch (condition_piece site.scope site.next c) does other) s)
  branch_meets n site c does other x y v s h st mx my =
      let less = flat_below p n in
      let piece = condition_piece site.scope site.next c in
      let t = condition_tells p n less args no_nargs site.scope v.variables site.next h.some h.below c s (ready n less site v s h st) in
      let e = branch_runs p n less s piece (seq does) (seq other) (holds args v.variables c) site.next t in
      let after = stepped 1 (stepped 1 t.after) in
      let stands = stands_on w site.scope site.next v s after h.below t.keeps t.world st in
      rw e (either_meets w site.scope (holds args v.variables c) x y _ _ (mx after stands) (my after stands))

  -- a turn of a loop, and the turns behind it
  turns_meet : (n : ℕ) (site : Site) (c : Condition) (body : List Code) (x : Result) (again : State → Result)
      (again' : flat.State → flat.Result) (v : State) (s : flat.State) → IsSited site → Stands w site.scope v s →
      ((s' : flat.State) → Stands w site.scope v s' → Meets w site.scope x (caught (within n body s'))) →
      ((v' : State) (s' : flat.State) → Stands w site.scope v' s' → Meets w site.scope (again v') (again' s')) →
      Meets w site.scope (if holds args v.variables c then then_go x again else (Next, v))
      (then_turn (flat_begun p n (flat_below p n) (turn c (condition_piece site.scope site.next c) body) s) again')
  turns_meet n site always body x again again' v s h st mx ma = turn_meets w site.scope site.scope x _ again again' (mx s st) ma
  turns_meet n site (compares a r b) body x again again' v s h st mx ma =
      let less = flat_below p n in
      let c = compares a r b in
      let piece = condition_piece site.scope site.next c in
      let t = condition_tells p n less args no_nargs site.scope v.variables site.next h.some h.below c s (ready n less site v s h st) in
      let e = branch_runs p n less s piece (seq body) (Leave 1) (holds args v.variables c) site.next t in
      let after = stepped 1 (stepped 1 t.after) in
      let stands = stands_on w site.scope site.next v s after h.below t.keeps t.world st in
      rw e (pick (holds args v.variables c) after stands)
    where
      pick : (b : Bool) (s' : flat.State) → Stands w site.scope v s' → Meets w site.scope (if b then then_go x again else (Next, v))
          (then_turn (caught (if b then caught (within n body s') else (flat.Left 1, s'))) again')
      pick true s' h = turn_meets w site.scope site.scope x _ again again' (caught_meets w site.scope x _ (mx s' h)) ma
      pick false s' h = goes_on v s' refl refl h

  repeats_meets : (n : ℕ) (site : Site) (c : Condition) (body : Statements) (v : State) (s : flat.State) → Before n → IsSited site →
      AreTexts p w.memory site.texts (statements_texts body) → Stands w site.scope v s →
      Meets w site.scope (statement_in args n (below args n) (repeats c body) v) (within n (statement_code site (repeats c body)).code s)
  repeats_meets zero site c body v s prev h ts st = ends.spent v _ refl refl st.world
  repeats_meets (suc n) site c body v s prev h ts st =
      let piece = condition_piece site.scope site.next c in
      let inner = sited_past site piece.next h (condition_grows site.scope site.next h.some h.below site.next c (omega arith)) in
      let low = statements_code (past site piece.next) body in
      let b = statements_behind (past site piece.next) body inner in
      let loop = Loop (turn c piece low.code) in
      let m = turns_meet n site c low.code (closed v (below args (suc n) body v)) (below args (suc n) (first (repeats c body) nothing))
      (flat_below p (suc n) loop) v (stepped 1 (stepped 1 s)) h
      (stands_on w site.scope site.next v s (stepped 1 (stepped 1 s)) h.below (λ u l m. refl) refl st)
      (λ s' k. closed_meets w site.scope low.behind.scope v s' _ _ (statements_extend (past site piece.next) body) k.holds
      (prev (past site piece.next) body v s' inner ts (record { holds = k.holds; world = k.world })))
      (λ v' s' k. subst (λ r. Meets w site.scope (below args (suc n) (first (repeats c body) nothing) v') r) (then_nothing _)
      (prev site (first (repeats c body) nothing) v' s' h
      (subst (λ x. AreTexts p w.memory site.texts x) (sym (append-nil (statements_texts body))) ts) k)) in
      rw (then_nothing (flat_begun p (suc n) (flat_below p (suc n)) loop (stepped 1 s))) m

  module _ (n : ℕ) (prev : Before n) where
    mutual
      statement_meets : (site : Site) (t : Statement) (v : State) (s : flat.State) → IsSited site →
          AreTexts p w.memory site.texts (statement_texts t) → Stands w site.scope v s →
          Meets w (statement_code site t).behind.scope (statement_in args n (below args n) t v) (within n (statement_code site t).code s)
      statement_meets site (declares x e) v s h ts st = declares_meets n site x e v s h st
      statement_meets site (assigns x e) v s h ts st = assigns_meets n site x e v s h st
      statement_meets site (chooses c body) v s h ts st =
          let piece = condition_piece site.scope site.next c in
          let inner = sited_past site piece.next h (condition_grows site.scope site.next h.some h.below site.next c (omega arith)) in
          let low = statements_code (past site piece.next) body in
          let b = statements_behind (past site piece.next) body inner in
          branch_meets n site c low.code [] (closed v (statements_in args n (below args n) body v)) (Next, v) v s h st
          (λ s' k. closed_meets w site.scope low.behind.scope v s' _ _ (statements_extend (past site piece.next) body) k.holds
          (statements_meet (past site piece.next) body v s' inner ts (record { holds = k.holds; world = k.world })))
          (λ s' k. goes_on v s' refl refl k)
      statement_meets site (chooses_one c body other) v s h ts st =
          let piece = condition_piece site.scope site.next c in
          let g = condition_grows site.scope site.next h.some h.below site.next c (omega arith) in
          let inner = sited_past site piece.next h g in
          let low = statements_code (past site piece.next) body in
          let b = statements_behind (past site piece.next) body inner in
          let le : site.next ≤ low.behind.next = omega (arith, g, b.grows) in
          let inner' = sited_outside site low.behind h le in
          let low' = statements_code (outside site low.behind) other in
          let o = statements_behind (outside site low.behind) other inner' in
          branch_meets n site c low.code low'.code (closed v (statements_in args n (below args n) body v))
          (closed v (statements_in args n (below args n) other v)) v s h st
          (λ s' k. closed_meets w site.scope low.behind.scope v s' _ _ (statements_extend (past site piece.next) body) k.holds
          (statements_meet (past site piece.next) body v s' inner
          (texts_front p w.memory site.texts (statements_texts body) (statements_texts other) ts)
          (record { holds = k.holds; world = k.world })))
          (λ s' k. closed_meets w site.scope low'.behind.scope v s' _ _ (statements_extend (outside site low.behind) other) k.holds
          (statements_meet (outside site low.behind) other v s' inner'
          (texts_back p w.memory site.texts low.behind.texts (statements_texts body) (statements_texts other) b.counts ts)
          (record { holds = k.holds; world = k.world })))
      statement_meets site (repeats c body) v s h ts st = repeats_meets n site c body v s prev h ts st
      statement_meets site (puts text) v s h ts st = puts_meets n site text v s h ts.0 st
      statement_meets site (exits e) v s h ts st = exits_meets n site e v s h st

      statements_meet : (site : Site) (ss : Statements) (v : State) (s : flat.State) → IsSited site →
          AreTexts p w.memory site.texts (statements_texts ss) → Stands w site.scope v s →
          Meets w (statements_code site ss).behind.scope (statements_in args n (below args n) ss v)
          (within n (statements_code site ss).code s)
      statements_meet site nothing v s h ts st = goes_on v s refl refl st
      statements_meet site (first t ss) v s h ts st =
          let low = statement_code site t in
          let b = statement_behind site t h in
          let m = statement_meets site t v s h (texts_front p w.memory site.texts (statement_texts t) (statements_texts ss) ts) st in
          rw (runs_parts p n (flat_below p n) low.code (statements_code low.behind ss).code s)
          (then_meets w low.behind.scope (statements_code low.behind ss).behind.scope _ _ (statements_in args n (below args n) ss)
          (within n (statements_code low.behind ss).code) m
          (λ v' s' k. statements_meet low.behind ss v' s' b.sited
          (texts_back p w.memory site.texts low.behind.texts (statement_texts t) (statements_texts ss) b.counts ts) k))

  -- lowered statements end as the statements do
  pub all_meet : (n : ℕ) → Claim n
  all_meet zero site ss v s h ts st = statements_meet zero tt site ss v s h ts st
  all_meet (suc n) site ss v s h ts st = statements_meet (suc n) (all_meet n) site ss v s h ts st
