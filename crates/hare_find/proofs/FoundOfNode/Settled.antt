-- How many kids a finding speaks of, and that the types to which they go are defined.
use Rattle.std.proofs.Common.{◌≡◌, ℕ, suc, Bool, true, false, cond, List, [], ◌∷◌, ◌++◌, map, length, refl, ap, sym, ◌∙◌, subst, Option, Some, None}
use Rattle.std.specs.Prelude.{replicate}
use Rattle.std.proofs.lemmas.List.{length-map, length-replicate}
use Rattle.hare_tree.specs.declared.kind.Kind.{Kind}
use Rattle.hare_types.specs.declared.coercion.Coercion.{Coercion}
use Rattle.hare_types.specs.Store.{Store}
use Rattle.hare_typed.specs.Typed.{TypedNode}
use Rattle.hare_rules.specs.Context.{Context}
use Rattle.hare_rules.specs.Judged.{was_hinted, unless, coercions_from}
use Rattle.hare_rules.specs.Settles.{kid_coercion}
use Rattle.rule_judge.specs.Defined.{AreDefinedCoercions}
use Rattle.hare_find.specs.declared.listed.Settling.{Settling}
use Rattle.hare_find.specs.Findings.{lists, AreDefinedSettlings}
use Rattle.hare_find.specs.Listed.{listed_each}
use Rattle.hare_find.specs.Settling.{option_in}
use Rattle.hare_find.proofs.SettlingNothing.AsFound.{nones_defined}

-- ---- how many

pub length-options : (ks : List Settling) (os : List (Option Coercion)) → map option_in ks ≡ os → length ks ≡ length os
length-options ks os e = sym (length-map ks option_in) ∙ ap length e

pub length-nones : (ks : List Settling) (n : ℕ) → map option_in ks ≡ replicate n None → length ks ≡ n
length-nones ks n e = length-options ks (replicate n None) e ∙ length-replicate n None

pub length-listed_each : (c : Context) (i : ℕ) (xs : List TypedNode) → length (listed_each c i xs) ≡ length xs
length-listed_each c i [] = refl
length-listed_each c i (x ∷ xs) = ap suc (length-listed_each c (suc i) xs)

-- ---- what a verdict lists

one_defined : (s : Store) (b : Bool) (r : Coercion) (os : List (Option Coercion)) (rs rest : List Coercion) →
    AreDefinedCoercions s ((unless b r ++ rs) ++ rest) → (AreDefinedCoercions s (rs ++ rest) → AreDefinedSettlings s os) →
    AreDefinedSettlings s (cond b None (Some r) ∷ os)
one_defined s true r os rs rest h g = (tt, g h)
one_defined s false r os rs rest h g = (h.0, g h.1)

-- each type to which a kid goes is defined, where those of the verdict are
pub listed_defined : (s : Store) (c : Context) (i : ℕ) (xs : List TypedNode) (rest : List Coercion) →
    AreDefinedCoercions s (coercions_from c i xs ++ rest) → AreDefinedSettlings s (listed_each c i xs)
listed_defined s c i [] rest h = tt
listed_defined s c i (x ∷ xs) rest h =
    one_defined s (was_hinted c i) (kid_coercion c i) (listed_each c (suc i) xs) (coercions_from c (suc i) xs) rest h
    (listed_defined s c (suc i) xs rest)

-- ---- what is settled of kids

-- what is settled of the kids of a node of this kind is what is listed for them, or nothing
pub record AreSettled (k : Kind) (n : ℕ) (ls ks : List Settling) : Type 0 where
  pub listed : lists k ≡ true → ks ≡ ls
  pub nones : lists k ≡ false → map option_in ks ≡ replicate n None

-- for each kid one
pub settled_many : (k : Kind) (n : ℕ) (ls ks : List Settling) → AreSettled k n ls ks → length ls ≡ n → length ks ≡ n
settled_many k n ls ks q e = by (lists k) refl
  where
    by : (b : Bool) → lists k ≡ b → length ks ≡ n
    by true h = ap length (q.listed h) ∙ e
    by false h = length-nones ks n (q.nones h)

-- and each is defined
pub settled_defined : (s : Store) (k : Kind) (n : ℕ) (ls ks : List Settling) → AreSettled k n ls ks →
    AreDefinedSettlings s (map option_in ls) → AreDefinedSettlings s (map option_in ks)
settled_defined s k n ls ks q d = by (lists k) refl
  where
    by : (b : Bool) → lists k ≡ b → AreDefinedSettlings s (map option_in ks)
    by true h = subst (λ zs. AreDefinedSettlings s (map option_in zs)) (sym (q.listed h)) d
    by false h = subst (AreDefinedSettlings s) (sym (q.nones h)) (nones_defined s n)
