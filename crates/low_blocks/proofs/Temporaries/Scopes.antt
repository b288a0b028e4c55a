-- Scopes, and what their temporaries hold.
use Rattle.std.proofs.Common.{◌≡◌, ◌≢◌, ℕ, suc, ◌+◌, ◌-◌, ◌^◌, ◌<◌, ◌≤◌, Bool, true, false, List, [], ◌∷◌, ◌++◌, length, drop, Some, None, refl, sym, ap, ◌∙◌, subst, arith}
use Rattle.std.specs.Prelude.{bytes_eq}
use Rattle.std.proofs.lemmas.Slice.Eq.{bytes_eq-Decides}
use Rattle.flat_code.specs.declared.program.FlatProgram.{FlatProgram}
use Rattle.flat_code.specs.State.{State, value_of}
use Rattle.hare_blocks.specs.Evaluation.{Variables, variable_value, assigned}
use Rattle.hare_blocks.specs.Scopes.{number_of}
use Rattle.low_blocks.specs.Expressions.{Scope, held}
use Rattle.low_blocks.proofs.Temporaries.Runs.{temp_of, Keeps, IsBelow}

-- ---- where variables are

-- the variables have temporaries below `t`, a newer one above the older ones, and none that of tests
abbrev pub Below : ℕ → Scope → Type 0
Below t [] = Unit {0}
Below t (x ∷ xs) = (0 < x.1) × (x.1 < t) × Below x.1 xs

pub below_more : (t t' : ℕ) (scope : Scope) → t ≤ t' → Below t scope → Below t' scope
below_more t t' [] le h = tt
below_more t t' (x ∷ xs) le h = (h.0, omega (arith, h.1), h.2)

pub held_below : (t : ℕ) (x : List ℕ) (scope : Scope) → Below t scope → IsBelow t (held (number_of x scope))
held_below t x [] h = tt
held_below t x (v ∷ vs) h = pick (bytes_eq v.0 x) refl (held_below t x vs (below_more v.1 t vs (omega (arith, h.1)) h.2))
  where
    pick : (b : Bool) → bytes_eq v.0 x ≡ b → IsBelow t (held (number_of x vs)) → IsBelow t (held (number_of x (v ∷ vs)))
    pick true e on = rw e (h.0, h.1)
    pick false e on = rw e on

-- a scope that grew by inner variables
abbrev pub Extends : Scope → Scope → Type 0
Extends scope scope' = (inner : Scope) × (scope' ≡ inner ++ scope)

-- ---- what they hold

-- the temporaries hold the values of the variables with the same names
abbrev pub Holds : Scope → Variables → State → Type 0
Holds [] [] s = Unit {0}
Holds [] (v ∷ vs) s = ⊥
Holds (x ∷ xs) [] s = ⊥
Holds (x ∷ xs) (v ∷ vs) s = (x.0 ≡ v.0) × (temp_of s x.1 ≡ v.1) × (v.1 < 2 ^ 64) × Holds xs vs s

pub holds_kept : (t : ℕ) (scope : Scope) (vs : Variables) (s s' : State) → Below t scope → Keeps t s s' → Holds scope vs s →
    Holds scope vs s'
holds_kept t [] [] s s' b k h = tt
holds_kept t [] (v ∷ vs) s s' b k h = absurd h
holds_kept t (x ∷ xs) [] s s' b k h = absurd h
holds_kept t (x ∷ xs) (v ∷ vs) s s' b k h =
    (h.0, k x.1 b.0 b.1 ∙ h.1, h.2, holds_kept x.1 xs vs s s' b.2 (λ u l m. k u l (omega (arith, b.1))) h.3)

-- a variable is read
pub held_value : (p : FlatProgram) (x : List ℕ) (scope : Scope) (vs : Variables) (s : State) → Holds scope vs s →
    value_of p s (held (number_of x scope)) ≡ variable_value x vs
held_value p x [] [] s h = refl
held_value p x [] (v ∷ vs) s h = absurd h
held_value p x (y ∷ ys) [] s h = absurd h
held_value p x (y ∷ ys) (v ∷ vs) s h = pick (bytes_eq v.0 x) refl (held_value p x ys vs s h.3)
  where
    pick : (b : Bool) → bytes_eq v.0 x ≡ b → value_of p s (held (number_of x ys)) ≡ variable_value x vs →
        value_of p s (held (number_of x (y ∷ ys))) ≡ variable_value x (v ∷ vs)
    pick true e on = rw (h.0, e) h.1
    pick false e on = rw (h.0, e) on

pub value_fits : (x : List ℕ) (scope : Scope) (vs : Variables) (s : State) → Holds scope vs s → variable_value x vs < 2 ^ 64
value_fits x [] [] s h = omega arith
value_fits x [] (v ∷ vs) s h = absurd h
value_fits x (y ∷ ys) [] s h = absurd h
value_fits x (y ∷ ys) (v ∷ vs) s h = pick (bytes_eq v.0 x) refl (value_fits x ys vs s h.3)
  where
    pick : (b : Bool) → bytes_eq v.0 x ≡ b → variable_value x vs < 2 ^ 64 → variable_value x (v ∷ vs) < 2 ^ 64
    pick true e on = rw e h.2
    pick false e on = rw e on

-- ---- assignments

-- no variable is assigned to where there is none with the name
pub assigned_nowhere : (x : List ℕ) (n : ℕ) (scope : Scope) (vs : Variables) (s : State) → Holds scope vs s → number_of x scope ≡ None →
    assigned x n vs ≡ vs
assigned_nowhere x n [] [] s h e = refl
assigned_nowhere x n [] (v ∷ vs) s h e = absurd h
assigned_nowhere x n (y ∷ ys) [] s h e = absurd h
assigned_nowhere x n (y ∷ ys) (v ∷ vs) s h e = pick (bytes_eq v.0 x) refl (assigned_nowhere x n ys vs s h.3)
  where
    pick : (b : Bool) → bytes_eq v.0 x ≡ b → (number_of x ys ≡ None → assigned x n vs ≡ vs) → assigned x n (v ∷ vs) ≡ v ∷ vs
    pick true f on = let g : number_of x (y ∷ ys) ≡ Some y.1 = rw (h.0, f) refl in absurd (cc)
    pick false f on =
        let g : number_of x (y ∷ ys) ≡ number_of x ys = rw (h.0, f) refl in
        rw f (ap (λ w. v ∷ w) (on (sym g ∙ e)))

-- a place is one of those of the scope
pub place_under : (t u : ℕ) (x : List ℕ) (scope : Scope) → Below t scope → number_of x scope ≡ Some u → u < t
place_under t u x [] b e = absurd (cc)
place_under t u x (y ∷ ys) b e = pick (bytes_eq y.0 x) refl (place_under y.1 u x ys b.2)
  where
    pick : (c : Bool) → bytes_eq y.0 x ≡ c → (number_of x ys ≡ Some u → u < y.1) → u < t
    pick true f on = let g : number_of x (y ∷ ys) ≡ Some y.1 = rw f refl in let k : y.1 ≡ u = cc in omega (arith, b.1)
    pick false f on = let g : number_of x (y ∷ ys) ≡ number_of x ys = rw f refl in omega (arith, b.1, on (sym g ∙ e))

-- and none is that of tests
pub place_above : (t u : ℕ) (x : List ℕ) (scope : Scope) → Below t scope → number_of x scope ≡ Some u → 0 < u
place_above t u x [] b e = absurd (cc)
place_above t u x (y ∷ ys) b e = pick (bytes_eq y.0 x) refl (place_above y.1 u x ys b.2)
  where
    pick : (c : Bool) → bytes_eq y.0 x ≡ c → (number_of x ys ≡ Some u → 0 < u) → 0 < u
    pick true f on = let g : number_of x (y ∷ ys) ≡ Some y.1 = rw f refl in let k : y.1 ≡ u = cc in omega (arith, b.0)
    pick false f on = let g : number_of x (y ∷ ys) ≡ number_of x ys = rw f refl in on (sym g ∙ e)

-- the temporary of the variable gets the value, and no other changes
pub holds_assigned : (t u : ℕ) (x : List ℕ) (n : ℕ) (scope : Scope) (vs : Variables) (s s' : State) → Below t scope → Holds scope vs s →
    number_of x scope ≡ Some u → n < 2 ^ 64 → temp_of s' u ≡ n → ((w : ℕ) → u ≢ w → temp_of s' w ≡ temp_of s w) →
    Holds scope (assigned x n vs) s'
holds_assigned t u x n [] vs s s' b h e f same other = absurd (cc)
holds_assigned t u x n (y ∷ ys) [] s s' b h e f same other = absurd h
holds_assigned t u x n (y ∷ ys) (v ∷ vs) s s' b h e f same other =
    pick (bytes_eq v.0 x) refl (λ g. holds_assigned y.1 u x n ys vs s s' b.2 h.3 g f same other)
  where
    pick : (c : Bool) → bytes_eq v.0 x ≡ c → (number_of x ys ≡ Some u → Holds ys (assigned x n vs) s') →
        Holds (y ∷ ys) (assigned x n (v ∷ vs)) s'
    pick true g on =
        let k : number_of x (y ∷ ys) ≡ Some y.1 = rw (h.0, g) refl in
        let at : y.1 ≡ u = cc in
        let name : v.0 ≡ x = (bytes_eq-Decides v.0 x).0 g in
        rw g (h.0 ∙ name, ap (temp_of s') at ∙ same, f, holds_kept y.1 ys vs s s' b.2 (λ w l m. other w (λ i. omega arith)) h.3)
    pick false g on =
        let k : number_of x (y ∷ ys) ≡ number_of x ys = rw (h.0, g) refl in
        let le = place_under y.1 u x ys b.2 (sym k ∙ e) in
        rw g (h.0, other y.1 (λ i. omega arith) ∙ h.1, h.2, on (sym k ∙ e))

-- ---- ends of blocks

pub length_holds : (scope : Scope) (vs : Variables) (s : State) → Holds scope vs s → length vs ≡ length scope
length_holds [] [] s h = refl
length_holds [] (v ∷ vs) s h = absurd h
length_holds (x ∷ xs) [] s h = absurd h
length_holds (x ∷ xs) (v ∷ vs) s h = ap suc (length_holds xs vs s h.3)

holds_inner : (inner scope : Scope) (vs : Variables) (s : State) → Holds (inner ++ scope) vs s → Holds scope (drop (length inner) vs) s ×
    (length vs ≡ length inner + length scope)
holds_inner [] scope vs s h = (h, omega (arith, length_holds scope vs s h))
holds_inner (x ∷ inner) scope [] s h = absurd h
holds_inner (x ∷ inner) scope (v ∷ vs) s h = let k = holds_inner inner scope vs s h.3 in (k.0, omega (arith, k.1))

-- the inner variables end, and the outer ones are left
pub holds_outer : (scope scope' : Scope) (vs vs' : Variables) (s s' : State) → Extends scope scope' → Holds scope vs s →
    Holds scope' vs' s' → Holds scope (drop (length vs' - length vs) vs') s'
holds_outer scope scope' vs vs' s s' e h h' =
    let k = holds_inner e.0 scope vs' s' (subst (λ x. Holds x vs' s') e.1 h') in
    let m : length vs' - length vs ≡ length e.0 = omega (arith, k.1, length_holds scope vs s h) in
    rw m k.0
