-- The code of an expression leads to its value.
use Rattle.std.proofs.Common.{◌≡◌, ◌≢◌, ℕ, suc, ◌+◌, ◌-◌, ◌*◌, ◌%◌, ◌^◌, ◌<◌, ◌≤◌, List, [], ◌∷◌, ◌++◌, Some, None, refl, ap, ◌∙◌, subst, arith}
use Rattle.std.specs.Prelude.{codes}
use Rattle.hx_base.specs.declared.Class.TheVariants.{L}
use Rattle.hx_base.specs.Runtime.{World}
use Rattle.flat_code.specs.declared.op.Op.{Op}
use Rattle.flat_code.specs.declared.op.Op.TheVariants.{Copy, Add, Sub, Mul}
use Rattle.flat_code.specs.declared.program.FlatProgram.{FlatProgram}
use Rattle.flat_code.specs.declared.value.Value.TheVariants.{Temp, Number}
use Rattle.flat_code.specs.Code.{Code, Call}
use Rattle.flat_code.specs.Operations.{gives}
use Rattle.flat_code.specs.State.{State, value_of, set_temp, stepped}
use Rattle.flat_code.specs.Evaluation.{Less, function_named}
use Rattle.hare_blocks.specs.Trees.{Expr, Terms, Term, Factors, Factor, sum_of, no_term, plus, minus, product_of, no_factor, times, number, arg_count, variable, group}
use Rattle.hare_blocks.specs.Evaluation.{Variables, value, terms_value, term_value, factors_value, factor_value}
use Rattle.low_blocks.specs.declared.last.Last.{Last}
use Rattle.low_blocks.specs.declared.last.Last.TheVariants.{Operand, Operation, ArgCount}
use Rattle.low_blocks.specs.Expressions.{Scope, last_set, Steps, Piece, settled, operand_of, operated, expr_steps, terms_steps, term_steps, factors_steps, factor_steps, expr_piece}
use Rattle.low_blocks.proofs.Temporaries.Runs.{temp_of, temp_of-same, temp_of-other, Keeps, keeps_on, IsBelow, operand_kept, Reaches}
use Rattle.low_blocks.proofs.Temporaries.Runs.{reaches_none, reaches_on, reaches_one, reaches_set}
use Rattle.low_blocks.proofs.Temporaries.Scopes.{Below, Holds, holds_kept, held_value, value_fits}
use Rattle.low_blocks.proofs.Temporaries.Pieces.{AreFrom, operand_from, joined_from, after_operand, expr_from, term_from, factor_from}

cut_word : (v : ℕ) → v % 2 ^ 64 < 2 ^ 64
cut_word v = omega arith

pub word_fits : (v : ℕ) → v < 2 ^ 64 → v % 2 ^ 64 ≡ v
word_fits v h = omega arith

module _ (p : FlatProgram) (n : ℕ) (less : Less) where
  -- From this state the piece runs through, and its operand is the value then. The world is as it was, and so are the temporaries below
  -- `t`.
  pub record Gives (s : State) (piece : Piece) (v t : ℕ) : Type 0 where
    pub after : State
    pub reaches : Reaches p n less piece.code s after
    pub value : value_of p after piece.value ≡ v
    pub fits : v < 2 ^ 64
    pub world : after.world ≡ s.world
    pub keeps : Keeps t s after

  -- ---- last steps

  -- what a last step comes to
  abbrev pub Yields : State → Last → ℕ → Type 0
  Yields s (Operand x) v = value_of p s x ≡ v
  Yields s (Operation op a b) v = (r : ℕ) × (gives L op (value_of p s a) (value_of p s b) ≡ Some r) × (r % 2 ^ 64 ≡ v)
  Yields s ArgCount v = s.world.arguments % 2 ^ 64 ≡ v

  -- the statement sets this temporary to the value, and changes nothing else
  pub record SetsTo (s : State) (c : Code) (t v : ℕ) : Type 0 where
    pub after : State
    pub reaches : Reaches p n less (c ∷ []) s after
    pub value : temp_of after t ≡ v
    pub others : (u : ℕ) → t ≢ u → temp_of after u ≡ temp_of s u
    pub world : after.world ≡ s.world

  sets_number : (s : State) (c : Code) (t r v : ℕ) → Reaches p n less (c ∷ []) s (set_temp (stepped 1 s) t L r) → r % 2 ^ 64 ≡ v →
      SetsTo s c t v
  sets_number s c t r v h e = record {
    after = set_temp (stepped 1 s) t L r;
    reaches = h;
    value = temp_of-same (stepped 1 s) t L r ∙ e;
    others = λ u ne. temp_of-other (stepped 1 s) t L r u ne;
    world = refl;
  }

  -- a step that runs through up to its last one, which then comes to the value
  pub record Leads (s : State) (steps : Steps) (v t : ℕ) : Type 0 where
    pub after : State
    pub reaches : Reaches p n less steps.code s after
    pub yields : Yields after steps.last v
    pub fits : v < 2 ^ 64
    pub world : after.world ≡ s.world
    pub keeps : Keeps t s after

  -- an operation on two pieces
  operated_leads : (s : State) (op : Op) (a b : Piece) (v w r z t : ℕ) → t ≤ a.next → IsBelow a.next a.value → (h : Gives s a v t) →
      (k : Gives h.after b w a.next) → gives L op v w ≡ Some r → r % 2 ^ 64 ≡ z → Leads s (operated op a b) z t
  operated_leads s op a b v w r z t ta av h k e f =
      let left : value_of p k.after a.value ≡ v = operand_kept p a.next h.after k.after a.value av k.keeps ∙ h.value in
      let m : gives L op (value_of p k.after a.value) (value_of p k.after b.value) ≡ Some r = rw (left, k.value) e in
      record {
        after = k.after;
        reaches = reaches_on p n less a.code b.code s h.after k.after h.reaches k.reaches;
        yields = (r, m, f);
        fits = subst (λ x. x < 2 ^ 64) f (cut_word r);
        world = k.world ∙ h.world;
        keeps = keeps_on t a.next s h.after k.after ta h.keeps k.keeps;
      }

  module _ (nargs : function_named p.functions (codes "rt.nargs") ≡ None) where
    -- a temporary is set by a last step
    pub last_sets : (s : State) (t : ℕ) (last : Last) (v : ℕ) → Yields s last v → v < 2 ^ 64 → SetsTo s (last_set t last) t v
    last_sets s t (Operand x) v e fits =
        sets_number s _ t v v (reaches_set p n less s t L Copy x (Number 0) v (rw e refl)) (word_fits v fits)
    last_sets s t (Operation op a b) v e fits = sets_number s _ t e.0 v (reaches_set p n less s t L op a b e.0 e.1) e.2
    last_sets s t ArgCount v e fits =
        let end = set_temp (stepped 0 (stepped 0 (stepped 1 s))) t L s.world.arguments in
        record {
          after = end;
          reaches = reaches_one p n less (Call (Some t) (codes "rt.nargs") []) s end (rw nargs refl);
          value = temp_of-same (stepped 1 s) t L s.world.arguments ∙ e;
          others = λ u ne. temp_of-other (stepped 1 s) t L s.world.arguments u ne;
          world = refl;
        }

    -- the next temporary is set by it
    taken_gives : (s : State) (last : Last) (cs : List Code) (next v t : ℕ) → t ≤ next →
        (h : Leads s (record { code = cs; last = last; next = next }) v t) → SetsTo h.after (last_set next last) next v →
        Gives s (record { code = cs ++ last_set next last ∷ []; value = Temp next; next = suc next }) v t
    taken_gives s last cs next v t le h k = record {
      after = k.after;
      reaches = reaches_on p n less cs (last_set next last ∷ []) s h.after k.after h.reaches k.reaches;
      value = k.value;
      fits = h.fits;
      world = k.world ∙ h.world;
      keeps = keeps_on t next s h.after k.after le h.keeps (λ u l m. k.others u (λ e. omega arith));
    }

    settled_gives : (s : State) (last : Last) (cs : List Code) (next v t : ℕ) → t ≤ next →
        Leads s (record { code = cs; last = last; next = next }) v t → Gives s (settled last cs next) v t
    settled_gives s (Operand x) cs next v t le h =
        record { after = h.after; reaches = h.reaches; value = h.yields; fits = h.fits; world = h.world; keeps = h.keeps }
    settled_gives s (Operation op a b) cs next v t le h =
        taken_gives s (Operation op a b) cs next v t le h (last_sets h.after next (Operation op a b) v h.yields h.fits)
    settled_gives s ArgCount cs next v t le h =
        taken_gives s ArgCount cs next v t le h (last_sets h.after next ArgCount v h.yields h.fits)

    operand_gives : (s : State) (steps : Steps) (v t : ℕ) → t ≤ steps.next → Leads s steps v t → Gives s (operand_of steps) v t
    operand_gives s steps v t le h = settled_gives s steps.last steps.code steps.next v t le h

  module _ (args : ℕ) (nargs : function_named p.functions (codes "rt.nargs") ≡ None) (scope : Scope) (vs : Variables) (bound : ℕ)
      (pos : 0 < bound) (below : Below bound scope) where
    -- the variables stand in the state, and it has so many arguments
    abbrev pub Ready : State → Type 0
    Ready s = Holds scope vs s × (s.world.arguments ≡ args)

    pub ready_on : (s s' : State) (t : ℕ) → bound ≤ t → Ready s → s'.world ≡ s.world → Keeps t s s' → Ready s'
    ready_on s s' t le r w k =
        (holds_kept bound scope vs s s' below (λ u l m. k u l (omega arith)) r.0, ap (λ (x : World). x.arguments) w ∙ r.1)

    -- an operation on what two steps lead to
    joined_leads : (s : State) (op : Op) (left right : Steps) (v w r z t : ℕ) → 0 < t → AreFrom t left →
        AreFrom (operand_of left).next right → (g : Gives s (operand_of left) v t) → Leads g.after right w (operand_of left).next →
        gives L op v w ≡ Some r → r % 2 ^ 64 ≡ z →
        Leads s (operated op (operand_of left) (operand_of right)) z t
    joined_leads s op left right v w r z t some i j g k e f =
        let x = operand_from t left some i in
        operated_leads s op (operand_of left) (operand_of right) v w r z t x.grows x.value g
        (operand_gives nargs g.after right w (operand_of left).next j.grows k) e f

    mutual
      pub expr_leads : (t : ℕ) (e : Expr) (s : State) → bound ≤ t → Ready s → Leads s (expr_steps scope t e) (value args vs e) t
      expr_leads t (sum_of a ts) s le r =
          terms_leads t (term_steps scope t a) ts s _ le r (term_from scope bound pos below t a le) (term_leads t a s le r)

      terms_leads : (t : ℕ) (left : Steps) (ts : Terms) (s : State) (v : ℕ) → bound ≤ t → Ready s → AreFrom t left → Leads s left v t →
          Leads s (terms_steps scope left ts) (terms_value args vs v ts) t
      terms_leads t left no_term s v le r i h = h
      terms_leads t left (plus a ts) s v le r i h =
          let x = operand_of left in
          let l = after_operand scope bound pos below t left le i in
          let j = term_from scope bound pos below x.next a l in
          let g = operand_gives nargs s left v t i.grows h in
          let k = term_leads x.next a g.after l (ready_on s g.after t le r g.world g.keeps) in
          terms_leads t _ ts s _ le r (joined_from t Add left (term_steps scope x.next a) (omega arith) i j)
          (joined_leads s Add left (term_steps scope x.next a) v (term_value args vs a) (v + term_value args vs a) _ t
          (omega arith) i j g k refl refl)
      terms_leads t left (minus a ts) s v le r i h =
          let x = operand_of left in
          let l = after_operand scope bound pos below t left le i in
          let j = term_from scope bound pos below x.next a l in
          let g = operand_gives nargs s left v t i.grows h in
          let k = term_leads x.next a g.after l (ready_on s g.after t le r g.world g.keeps) in
          terms_leads t _ ts s _ le r (joined_from t Sub left (term_steps scope x.next a) (omega arith) i j)
          (joined_leads s Sub left (term_steps scope x.next a) v (term_value args vs a) (v + 2 ^ 64 - term_value args vs a) _ t
          (omega arith) i j g k refl refl)

      term_leads : (t : ℕ) (a : Term) (s : State) → bound ≤ t → Ready s → Leads s (term_steps scope t a) (term_value args vs a) t
      term_leads t (product_of f fs) s le r =
          factors_leads t (factor_steps scope t f) fs s _ le r (factor_from scope bound pos below t f le) (factor_leads t f s le r)

      factors_leads : (t : ℕ) (left : Steps) (fs : Factors) (s : State) (v : ℕ) → bound ≤ t → Ready s → AreFrom t left → Leads s left v t →
          Leads s (factors_steps scope left fs) (factors_value args vs v fs) t
      factors_leads t left no_factor s v le r i h = h
      factors_leads t left (times f fs) s v le r i h =
          let x = operand_of left in
          let l = after_operand scope bound pos below t left le i in
          let j = factor_from scope bound pos below x.next f l in
          let g = operand_gives nargs s left v t i.grows h in
          let k = factor_leads x.next f g.after l (ready_on s g.after t le r g.world g.keeps) in
          factors_leads t _ fs s _ le r (joined_from t Mul left (factor_steps scope x.next f) (omega arith) i j)
          (joined_leads s Mul left (factor_steps scope x.next f) v (factor_value args vs f) (v * factor_value args vs f) _ t
          (omega arith) i j g k refl refl)

      factor_leads : (t : ℕ) (f : Factor) (s : State) → bound ≤ t → Ready s → Leads s (factor_steps scope t f) (factor_value args vs f) t
      factor_leads t (number m) s le r =
          record { after = s; reaches = reaches_none p n less s; yields = refl; fits = cut_word m; world = refl; keeps = λ u l k. refl }
      factor_leads t arg_count s le r = record {
        after = s;
        reaches = reaches_none p n less s;
        yields = ap (λ (m : ℕ). m % 2 ^ 64) r.1;
        fits = cut_word args;
        world = refl;
        keeps = λ u l k. refl;
      }
      factor_leads t (variable x) s le r = record {
        after = s;
        reaches = reaches_none p n less s;
        yields = held_value p x scope vs s r.0;
        fits = value_fits x scope vs s r.0;
        world = refl;
        keeps = λ u l k. refl;
      }
      factor_leads t (group e) s le r = expr_leads t e s le r

    -- the operand that an expression becomes is its value
    pub piece_gives : (t : ℕ) (e : Expr) (s : State) → bound ≤ t → Ready s → Gives s (expr_piece scope t e) (value args vs e) t
    piece_gives t e s le r =
        operand_gives nargs s (expr_steps scope t e) (value args vs e) t (expr_from scope bound pos below t e le).grows
        (expr_leads t e s le r)
