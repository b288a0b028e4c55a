-- The tests of names, part by part.
use Rattle.std.proofs.Common.{◌≡◌, ℕ, zero, suc, ◌+◌, ◌<◌, ◌≤◌, List, [], ◌∷◌, length, drop, get_or, Bool, true, false, ◌&&◌, ◌||◌, cond, Some, is_some, bytes_eq, refl, arith, add-one, drop-cons}
use Rattle.hare_blocks.specs.declared.expr.Sign.{Sign}
use Rattle.hare_blocks.specs.declared.expr.Sign.TheVariants as sign
use Rattle.hare_blocks.specs.declared.expr.SignedTerm.{SignedTerm}
use Rattle.hare_blocks.specs.declared.expr.Factor as read_factor
use Rattle.hare_blocks.specs.Trees.{Terms, Term}
use Rattle.std.specs.Prelude.{slice_get}
use Rattle.hare_blocks.specs.Names as names
use Rattle.hare_blocks.specs.Trees.{Statement}
use Rattle.hare_blocks.specs.Class.{declared_behind}
use Rattle.hare_blocks.specs.Sizes.{list_of_statements}
use Rattle.hare_blocks.proofs.Parts.{drop_statement}
use Rattle.hare_blocks.specs.Names.{names_of}
use Rattle.hare_blocks.specs.Scopes.{number_of}
use Rattle.hare_blocks.specs.Shape.{signed, terms_of, factor_of, factors_of}

-- a name is in the scope where it has a number there
pub has_number : (x : List ℕ) (bs : List (List ℕ × ℕ)) → is_some (number_of x bs) ≡ names.has_name (names_of bs) x
has_number x [] = refl
has_number x (b ∷ bs) = by (has_number x bs) (bytes_eq b.0 x)
  where
    by : is_some (number_of x bs) ≡ names.has_name (names_of bs) x → (c : Bool) →
        is_some (cond c (Some b.1) (number_of x bs)) ≡ (c || names.has_name (names_of bs) x)
    by rest true = refl
    by rest false = rest

-- ---- further terms and factors

module _ (declared : List (List ℕ)) where
  signed_holds : (s : Sign) (t : Term) (ts : Terms) →
      names.terms_hold declared (signed s t ts) ≡ (names.term_holds declared t && names.terms_hold declared ts)
  signed_holds sign.Plus t ts = refl
  signed_holds sign.Minus t ts = refl

  -- the terms that are left, where the next one holds or does not
  pub next_term : (ts : List SignedTerm) (i : ℕ) (d : SignedTerm) → i < length ts →
      names.terms_hold declared (terms_of (drop i ts)) ≡
      (names.term_holds declared (get_or ts i d).term && names.terms_hold declared (terms_of (drop (i + 1) ts)))
  next_term ts i d h = rw (add-one, drop-cons ts i d) (signed_holds (get_or ts i d).sign (get_or ts i d).term (terms_of (drop (suc i) ts)))

  pub next_factor : (fs : List read_factor.Factor) (i : ℕ) (d : read_factor.Factor) → i < length fs →
      names.factors_hold declared (factors_of (drop i fs)) ≡
      (names.factor_holds declared (factor_of (get_or fs i d)) && names.factors_hold declared (factors_of (drop (i + 1) fs)))
  next_factor fs i d h = rw (add-one, drop-cons fs i d) refl

  -- none are left
  pub last_term : (ts : List SignedTerm) (i : ℕ) → length ts ≤ i → names.terms_hold declared (terms_of (drop i ts)) ≡ true
  last_term [] zero h = refl
  last_term [] (suc i) h = refl
  last_term (t ∷ ts) zero h = absurd (omega arith)
  last_term (t ∷ ts) (suc i) h = last_term ts i (omega arith)

  pub last_factor : (fs : List read_factor.Factor) (i : ℕ) → length fs ≤ i → names.factors_hold declared (factors_of (drop i fs)) ≡ true
  last_factor [] zero h = refl
  last_factor [] (suc i) h = refl
  last_factor (t ∷ fs) zero h = absurd (omega arith)
  last_factor (t ∷ fs) (suc i) h = last_factor fs i (omega arith)

-- ---- statements

-- the statements that are left, behind one that holds
pub next_statement : (declared behind : List (List ℕ)) (ss : List Statement) (i : ℕ) (s : Statement) → slice_get ss i ≡ Some s →
    names.statement_holds declared s ≡ true → behind ≡ declared_behind s declared →
    names.statements_hold behind (list_of_statements (drop (i + 1) ss)) ≡ names.statements_hold declared (list_of_statements (drop i ss))
next_statement declared behind ss i s at holds is = rw (drop_statement ss i s at, holds, is, add-one) refl
