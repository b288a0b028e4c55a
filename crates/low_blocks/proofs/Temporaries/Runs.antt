-- Code that runs through to what stands behind it, and what it leaves of the temporaries.
use Rattle.std.proofs.Common.{◌≡◌, ◌≢◌, ℕ, ◌<◌, ◌≤◌, Bool, true, false, List, [], ◌∷◌, ◌++◌, Some, refl, ap, ◌∙◌, arith, append_assoc}
use Rattle.std.specs.Prelude.{nat_eq}
use Rattle.std.proofs.lemmas.Bool.Decides.{nat_tests}
use Rattle.hx_base.specs.declared.Class.{Class}
use Rattle.flat_code.specs.declared.op.Op.{Op}
use Rattle.flat_code.specs.declared.program.FlatProgram.{FlatProgram}
use Rattle.flat_code.specs.declared.value.Value.{Value}
use Rattle.flat_code.specs.declared.value.Value.TheVariants.{Temp, Number, Symbol, Frame}
use Rattle.flat_code.specs.Code.{Code, Set, codes_of}
use Rattle.flat_code.specs.Operations.{gives}
use Rattle.flat_code.specs.State.{State, cut, temp_value, value_of, set_temp, stepped, Next, Result, then_go}
use Rattle.flat_code.specs.Evaluation.{Less, computed, flat_begun, flats_in}

-- ---- temporaries

-- what a temporary holds
abbrev pub temp_of : State → ℕ → ℕ
temp_of s t = temp_value s.world.memory.fill s.temps t

pub temp_of-same : (s : State) (t : ℕ) (class : Class) (v : ℕ) → temp_of (set_temp s t class v) t ≡ cut class v
temp_of-same s t class v = pick (nat_eq t t) refl
  where
    pick : (b : Bool) → nat_eq t t ≡ b → temp_of (set_temp s t class v) t ≡ cut class v
    pick true e = rw e refl
    pick false e = absurd (grind (arith, nat_tests))

pub temp_of-other : (s : State) (t : ℕ) (class : Class) (v u : ℕ) → t ≢ u → temp_of (set_temp s t class v) u ≡ temp_of s u
temp_of-other s t class v u h = pick (nat_eq t u) refl
  where
    pick : (b : Bool) → nat_eq t u ≡ b → temp_of (set_temp s t class v) u ≡ temp_of s u
    pick true e = absurd (h (grind (arith, nat_tests)))
    pick false e = rw e refl

-- the temporaries below `t`, but for that of tests, are kept
abbrev pub Keeps : ℕ → State → State → Type 0
Keeps t s s' = (u : ℕ) → 0 < u → u < t → temp_of s' u ≡ temp_of s u

pub keeps_on : (t t' : ℕ) (s s' s'' : State) → t ≤ t' → Keeps t s s' → Keeps t' s' s'' → Keeps t s s''
keeps_on t t' s s' s'' le h k u l m = k u l (omega arith) ∙ h u l m

pub set_keeps : (s : State) (t t' : ℕ) (class : Class) (v : ℕ) → t ≤ t' → Keeps t s (set_temp s t' class v)
set_keeps s t t' class v le u l m = temp_of-other s t' class v u (λ e. omega arith)

-- an operand that is a number or a temporary below `t`
abbrev pub IsBelow : ℕ → Value → Type 0
IsBelow t (Temp u) = (0 < u) × (u < t)
IsBelow t (Number n) = Unit {0}
IsBelow t (Symbol i offset) = ⊥
IsBelow t (Frame offset) = ⊥

pub operand_kept : (p : FlatProgram) (t : ℕ) (s s' : State) (v : Value) → IsBelow t v → Keeps t s s' → value_of p s' v ≡ value_of p s v
operand_kept p t s s' (Temp u) h k = k u h.0 h.1
operand_kept p t s s' (Number n) h k = refl
operand_kept p t s s' (Symbol i offset) h k = absurd h
operand_kept p t s s' (Frame offset) h k = absurd h

-- steps change no operand
pub value_of-stepped : (p : FlatProgram) (k : ℕ) (s : State) (v : Value) → value_of p (stepped k s) v ≡ value_of p s v
value_of-stepped p k s (Temp u) = refl
value_of-stepped p k s (Number n) = refl
value_of-stepped p k s (Symbol i offset) = refl
value_of-stepped p k s (Frame offset) = refl

-- ---- runs

module _ (p : FlatProgram) (n : ℕ) (less : Less) where
  -- what statements do, one after the other
  abbrev pub runs : List Code → State → Result
  runs cs s = flats_in p n less (codes_of cs) s

  -- behind this code, what stands there goes on from that state
  abbrev pub Reaches : List Code → State → State → Type 0
  Reaches cs s s' = (rest : List Code) → runs (cs ++ rest) s ≡ runs rest s'

  pub reaches_none : (s : State) → Reaches [] s s
  reaches_none s rest = refl

  pub reaches_on : (a b : List Code) (s s' s'' : State) → Reaches a s s' → Reaches b s' s'' → Reaches (a ++ b) s s''
  reaches_on a b s s' s'' h k rest = ap (λ cs. runs cs s) (append_assoc a b rest) ∙ h (b ++ rest) ∙ k rest

  pub reaches_one : (c : Code) (s s' : State) → flat_begun p n less c (stepped 1 s) ≡ (Next, s') → Reaches (c ∷ []) s s'
  reaches_one c s s' e rest = ap (λ r. then_go r (flats_in p n less (codes_of rest))) e

  -- a temporary is set to what an operation gives
  pub reaches_set : (s : State) (t : ℕ) (class : Class) (op : Op) (a b : Value) (v : ℕ) →
      gives class op (value_of p s a) (value_of p s b) ≡ Some v → Reaches (Set t class op a b ∷ []) s (set_temp (stepped 1 s) t class v)
  reaches_set s t class op a b v e =
      let k : gives class op (value_of p (stepped 1 s) a) (value_of p (stepped 1 s) b) ≡ Some v =
      rw (value_of-stepped p 1 s a, value_of-stepped p 1 s b) e in
      reaches_one (Set t class op a b) s (set_temp (stepped 1 s) t class v) (ap (computed (stepped 1 s) t class) k)
