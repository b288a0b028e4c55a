-- An operator by its sign gives what the definition of exact numbers gives.
use Rattle.std.proofs.Common.{◌≡◌, Bool, true, false, cond, List, [], ◌∷◌, Option, Some, None, refl, ap, sym, ◌∙◌}
use Rattle.std.specs.Prelude.{ℕ, ℤ, bytes_eq, map}
use Rattle.hare_tree.specs.declared.kind.Kind.{Kind}
use Rattle.hare_types.specs.declared.coercion.Ty.{Ty}
use Rattle.hare_types.specs.declared.coercion.Ty.TheVariants as ty
use Rattle.hare_rules.specs.Exact.{chosen, exact, exact_of, is_shift}
use Rattle.rule_ops.specs.declared.exact.Operator.{Operator}
use Rattle.rule_ops.specs.Signs.{applied, arithmetic_signs, shift_signs, operator_from, operator_of, applied_by}

chosen_by : (sign : List ℕ) (a b : ℤ) (cs : List (List ℕ × Operator)) →
    chosen sign (map (λ c. (c.0, applied c.1 a b)) cs) ≡ applied_by (operator_from sign cs) a b
chosen_by sign a b [] = refl
chosen_by sign a b (c ∷ cs) = by (chosen_by sign a b cs) (bytes_eq sign c.0)
  where
    by : chosen sign (map (λ d. (d.0, applied d.1 a b)) cs) ≡ applied_by (operator_from sign cs) a b → (x : Bool)
        → cond x (applied c.1 a b) (chosen sign (map (λ d. (d.0, applied d.1 a b)) cs)) ≡
        applied_by (cond x (Some c.1) (operator_from sign cs)) a b
    by ih true = refl
    by ih false = ih

by_kind : (x : Bool) (sign : List ℕ) (a b : ℤ)
    → cond x (chosen sign (map (λ c. (c.0, applied c.1 a b)) shift_signs))
    (chosen sign (map (λ c. (c.0, applied c.1 a b)) arithmetic_signs))
    ≡ applied_by (cond x (operator_from sign shift_signs) (operator_from sign arithmetic_signs)) a b
by_kind true sign a b = chosen_by sign a b shift_signs
by_kind false sign a b = chosen_by sign a b arithmetic_signs

pub by_sign : (k : Kind) (sign : List ℕ) (a b : ℤ) → exact k sign a b ≡ applied_by (operator_of k sign) a b
by_sign k sign a b = by_kind (is_shift k) sign a b

pub some_operator : (k : Kind) (sign : List ℕ) (x y : Ty) (a b : ℤ) (o : Operator) (r : Option ℤ) → x ≡ ty.Iconst a → y ≡ ty.Iconst b →
    Some o ≡ operator_of k sign → r ≡ applied o a b
    → r ≡ exact_of k sign x y
some_operator k sign x y a b o r e f g h =
    h ∙ ap (λ p. applied_by p a b) g ∙ sym (by_sign k sign a b) ∙ sym (ap (λ p. exact_of k sign p (ty.Iconst b)) e) ∙ sym
    (ap (λ p. exact_of k sign x p) f)

pub no_operator : (k : Kind) (sign : List ℕ) (x y : Ty) (a b : ℤ) → x ≡ ty.Iconst a → y ≡ ty.Iconst b → None ≡ operator_of k sign →
    None ≡ exact_of k sign x y
no_operator k sign x y a b e f g =
    ap (λ p. applied_by p a b) g ∙ sym (by_sign k sign a b) ∙ sym (ap (λ p. exact_of k sign p (ty.Iconst b)) e) ∙ sym
    (ap (λ p. exact_of k sign x p) f)
