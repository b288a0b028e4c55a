-- Branches and turns of loops.
use Rattle.std.proofs.Common.{◌≡◌, ℕ, Bool, true, false, [], ◌∷◌, ◌++◌, refl, ap, ◌∙◌}
use Rattle.std.specs.Prelude.{not, ◌==◌, if◌then◌else◌}
use Rattle.hx_base.specs.declared.Class.TheVariants.{W}
use Rattle.hx_base.specs.Runtime.{World}
use Rattle.flat_code.specs.declared.program.FlatProgram.{FlatProgram}
use Rattle.flat_code.specs.declared.value.Value.{Value}
use Rattle.flat_code.specs.Code.{Code, If}
use Rattle.flat_code.specs.State as flat
use Rattle.flat_code.specs.State.{cut, value_of, stepped, caught}
use Rattle.flat_code.specs.Evaluation.{Less, flat_begun}
use Rattle.hare_blocks.specs.Evaluation.{State, Result}
use Rattle.low_blocks.specs.Expressions.{Scope, Piece}
use Rattle.low_blocks.proofs.Temporaries.Runs.{Keeps, runs, value_of-stepped}
use Rattle.low_blocks.proofs.Temporaries.Scopes.{Below, holds_kept}
use Rattle.low_blocks.proofs.SameValues.Conditions.{Tells}
use Rattle.low_blocks.proofs.SameRuns.Meets.{Stands, Meets, goes_on, exits, spent, then_nothing}

-- the state is read no more than so far
pub stands_on : (w : World) (scope : Scope) (t : ℕ) (v : State) (s s' : flat.State) → Below t scope → Keeps t s s' → s'.world ≡ s.world →
    Stands w scope v s → Stands w scope v s'
stands_on w scope t v s s' b k e h = record { holds = holds_kept t scope v.variables s s' b k h.holds; world = e ∙ h.world }

pub either_meets : (w : World) (scope : Scope) (b : Bool) (x y : Result) (x' y' : flat.Result) → Meets w scope x x' → Meets w scope y y' →
    Meets w scope (if b then x else y) (if b then x' else y')
either_meets w scope true x y x' y' h k = h
either_meets w scope false x y x' y' h k = k

-- a Seq round what meets
pub caught_meets : (w : World) (scope : Scope) (r : Result) (r' : flat.Result) → Meets w scope r r' → Meets w scope r (caught r')
caught_meets w scope r r' (goes_on v s e f h) = goes_on v s e (ap caught f) h
caught_meets w scope r r' (exits k v s e f h) = exits k v s e (ap caught f) h
caught_meets w scope r r' (spent v s e f h) = spent v s e (ap caught f) h

module _ (p : FlatProgram) (n : ℕ) (less : Less) where
  -- what an If does, by what its condition tells
  if_runs : (s : flat.State) (c : Value) (does other : Code) (b : Bool) → (cut W (value_of p s c) == 0) ≡ not b →
      runs p n less (If c does other ∷ []) s ≡
      (if b then flat_begun p n less does (stepped 1 (stepped 1 s)) else flat_begun p n less other (stepped 1 (stepped 1 s)))
  if_runs s c does other true e = then_nothing _ ∙ rw (value_of-stepped p 1 s c, e) refl
  if_runs s c does other false e = then_nothing _ ∙ rw (value_of-stepped p 1 s c, e) refl

  -- the same behind the piece of the condition
  pub branch_runs : (s : flat.State) (c : Piece) (does other : Code) (b : Bool) (t : ℕ) → (h : Tells p n less s c b t) →
      runs p n less (c.code ++ If c.value does other ∷ []) s ≡
      (if b then flat_begun p n less does (stepped 1 (stepped 1 h.after))
      else flat_begun p n less other (stepped 1 (stepped 1 h.after)))
  branch_runs s c does other b t h = h.reaches (If c.value does other ∷ []) ∙ if_runs h.after c.value does other b h.test
