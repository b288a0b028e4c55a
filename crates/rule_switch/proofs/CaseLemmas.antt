-- The operand of a `switch` and its cases.
use Rattle.std.proofs.Common.{◌≡◌, ℕ, zero, suc, Bool, true, Option, Some, refl, ap, ap₂, sym, ◌∙◌}
use Rattle.hare_tree.specs.declared.kind.Kind.{Kind}
use Rattle.hare_tree.specs.declared.kind.Kind.TheVariants as ki
use Rattle.hare_types.specs.declared.coercion.Ty.{Ty}
use Rattle.hare_rules.specs.Context.{Context}
use Rattle.hare_rules.specs.Control.{cases_type}
use Rattle.hare_rules.specs.Settles.{target_of, case_target, switch_target}
use Rattle.hare_rules.specs.Types.{type_by}
use Rattle.rule_judge.specs.Asked.{asks_as}
use Rattle.rule_switch.specs.Kinds.{judges}

pub is_switch : (k : Kind) → judges k ≡ true → k ≡ ki.Switch
is_switch ki.Switch e = refl
is_switch _ e = absurd cc

-- ---- the type

pub switch_typed : (c : Context) (k : Kind) (a : Ty) → judges k ≡ true → cases_type c ≡ Some a → type_by c k ≡ Some a
switch_typed c k a j e = ap (type_by c) (is_switch k j) ∙ e

pub cases_typed : (c : Context) (k : Kind) (a : Ty) → judges k ≡ true → type_by c k ≡ Some a → cases_type c ≡ Some a
cases_typed c k a j e = sym (ap (type_by c) (is_switch k j)) ∙ e

-- ---- what is asked

pub cases_asked : (c : Context) (i : ℕ) (k : Kind) (b : Bool) → judges k ≡ true → b ≡ asks_as c i ki.Match → b ≡ asks_as c i k
cases_asked c i k b j e = e ∙ sym (ap (asks_as c i) (is_switch k j))

-- ---- where kids go

pub operand_goes : (c : Context) (i : ℕ) (k : Kind) (o : Option ℕ) → judges k ≡ true → i ≡ 0 → o ≡ switch_target c 0 → o ≡ target_of c k i
operand_goes c i k o j e h = h ∙ sym (ap₂ (target_of c) (is_switch k j) e)

case_goes_to : (c : Context) (i : ℕ) (o : Option ℕ) → (i ≡ 0 → ⊥) → o ≡ case_target c i → o ≡ switch_target c i
case_goes_to c zero o e h = absurd (e refl)
case_goes_to c (suc i) o e h = h

pub case_goes : (c : Context) (i : ℕ) (k : Kind) (o : Option ℕ) → judges k ≡ true → (i ≡ 0 → ⊥) → o ≡ case_target c i → o ≡ target_of c k i
case_goes c i k o j e h = case_goes_to c i o e h ∙ sym (ap (λ k. target_of c k i) (is_switch k j))
