-- Ends of a program and of flat code that are the same.
use Rattle.std.proofs.Common.{◌≡◌, ℕ, List, [], ◌∷◌, ◌++◌, refl, ◌∙◌, sym}
use Rattle.hx_base.specs.Runtime.{World}
use Rattle.flat_code.specs.declared.program.FlatProgram.{FlatProgram}
use Rattle.flat_code.specs.Code.{Code}
use Rattle.flat_code.specs.State as flat
use Rattle.flat_code.specs.Evaluation.{Less}
use Rattle.hare_blocks.specs.Evaluation.{Exit, Spent, Next, Ends, State, Result, then_go, closed}
use Rattle.low_blocks.specs.Expressions.{Scope}
use Rattle.low_blocks.proofs.Temporaries.Runs.{runs}
use Rattle.low_blocks.proofs.Temporaries.Scopes.{Extends, Holds, holds_outer}

-- the world of a program that puts out bytes, and changes nothing else
abbrev pub World_after : World → List ℕ → World
World_after w output = record w { output = output }

-- flat code stands where the program stands
pub record Stands (w : World) (scope : Scope) (v : State) (s : flat.State) : Type 0 where
  pub holds : Holds scope v.variables s
  pub world : s.world ≡ World_after w v.output

-- flat code ends as the program does
pub data Meets (w : World) (scope : Scope) (r : Result) (r' : flat.Result) : Type 0 where
  goes_on : (v : State) (s : flat.State) → r ≡ (Next, v) → r' ≡ (flat.Next, s) → Stands w scope v s → Meets w scope r r'
  exits : (k : ℕ) (v : State) (s : flat.State) → r ≡ (Ends (Exit k), v) → r' ≡ (flat.Exit k, s) → s.world ≡ World_after w v.output →
      Meets w scope r r'
  spent : (v : State) (s : flat.State) → r ≡ (Ends Spent, v) → r' ≡ (flat.Spent, s) → s.world ≡ World_after w v.output → Meets w scope r r'

-- what stands behind goes on from where both stand
pub then_meets : (w : World) (scope scope' : Scope) (r : Result) (r' : flat.Result) (go : State → Result) (go' : flat.State → flat.Result) →
    Meets w scope r r' → ((v : State) (s : flat.State) → Stands w scope v s → Meets w scope' (go v) (go' s)) →
    Meets w scope' (then_go r go) (flat.then_go r' go')
then_meets w scope scope' r r' go go' (goes_on v s e f h) on = rw (e, f) (on v s h)
then_meets w scope scope' r r' go go' (exits k v s e f h) on = rw (e, f) (exits k v s refl refl h)
then_meets w scope scope' r r' go go' (spent v s e f h) on = rw (e, f) (spent v s refl refl h)

-- the same where a turn of a Loop ends
pub turn_meets : (w : World) (scope scope' : Scope) (r : Result) (r' : flat.Result) (go : State → Result) (go' : flat.State → flat.Result) →
    Meets w scope r r' → ((v : State) (s : flat.State) → Stands w scope v s → Meets w scope' (go v) (go' s)) →
    Meets w scope' (then_go r go) (flat.then_turn r' go')
turn_meets w scope scope' r r' go go' (goes_on v s e f h) on = rw (e, f) (on v s h)
turn_meets w scope scope' r r' go go' (exits k v s e f h) on = rw (e, f) (exits k v s refl refl h)
turn_meets w scope scope' r r' go go' (spent v s e f h) on = rw (e, f) (spent v s refl refl h)

-- a block ends, and the Seq that it became
pub closed_meets : (w : World) (scope scope' : Scope) (before : State) (s : flat.State) (r : Result) (r' : flat.Result) →
    Extends scope scope' → Holds scope before.variables s → Meets w scope' r r' → Meets w scope (closed before r) (flat.caught r')
closed_meets w scope scope' before s r r' x b (goes_on v t e f h) =
    rw (e, f) (goes_on _ t refl refl
    (record { holds = holds_outer scope scope' before.variables v.variables s t x b h.holds; world = h.world }))
closed_meets w scope scope' before s r r' x b (exits k v t e f h) = rw (e, f) (exits k _ t refl refl h)
closed_meets w scope scope' before s r r' x b (spent v t e f h) = rw (e, f) (spent _ t refl refl h)

-- ---- code in parts

then_go-on : (r : flat.Result) (f g : flat.State → flat.Result) → flat.then_go (flat.then_go r f) g ≡ flat.then_go r
    (λ s. flat.then_go (f s) g)
then_go-on (flat.Next, s) f g = refl
then_go-on (flat.Left k, s) f g = refl
then_go-on (flat.Returned v, s) f g = refl
then_go-on (flat.Exit k, s) f g = refl
then_go-on (flat.Abort b, s) f g = refl
then_go-on (flat.Fault b, s) f g = refl
then_go-on (flat.HeapFull, s) f g = refl
then_go-on (flat.Spent, s) f g = refl

then_alike : (r : flat.Result) (f g : flat.State → flat.Result) → ((s : flat.State) → f s ≡ g s) → flat.then_go r f ≡ flat.then_go r g
then_alike (flat.Next, s) f g h = h s
then_alike (flat.Left k, s) f g h = refl
then_alike (flat.Returned v, s) f g h = refl
then_alike (flat.Exit k, s) f g h = refl
then_alike (flat.Abort b, s) f g h = refl
then_alike (flat.Fault b, s) f g h = refl
then_alike (flat.HeapFull, s) f g h = refl
then_alike (flat.Spent, s) f g h = refl

pub then_nothing : (r : flat.Result) → flat.then_go r (λ s. (flat.Next, s)) ≡ r
then_nothing (flat.Next, s) = refl
then_nothing (flat.Left k, s) = refl
then_nothing (flat.Returned v, s) = refl
then_nothing (flat.Exit k, s) = refl
then_nothing (flat.Abort b, s) = refl
then_nothing (flat.Fault b, s) = refl
then_nothing (flat.HeapFull, s) = refl
then_nothing (flat.Spent, s) = refl

module _ (p : FlatProgram) (n : ℕ) (less : Less) where
  -- code runs part by part
  pub runs_parts : (a b : List Code) (s : flat.State) → runs p n less (a ++ b) s ≡ flat.then_go (runs p n less a s) (runs p n less b)
  runs_parts [] b s = refl
  runs_parts (c ∷ a) b s = then_alike _ _ _ (runs_parts a b) ∙ sym (then_go-on _ (runs p n less a) (runs p n less b))
