-- The types of operators on two operands, by the operands.
use Rattle.std.specs.Prelude.{ℕ, Bool, true, false, cond, List, Option, option_map, is_some}
use Rattle.hare_tree.specs.declared.kind.Kind.{Kind}
use Rattle.hare_types.specs.declared.coercion.Ty.{Ty}
use Rattle.hare_types.specs.declared.coercion.Ty.TheVariants as ty
use Rattle.hare_types.specs.Store.{Store}
use Rattle.std.specs.Option.{option_or}
use Rattle.hare_rules.specs.Operators.{goes_to_other}
use Rattle.hare_rules.specs.Settles.{only_where}
use Rattle.hare_rules.specs.Words.{are_iconsts, id_in, common, common_type, default_in, has_default, typed_as}
use Rattle.hare_rules.specs.Exact.{exact_of}
use Rattle.rule_judge.specs.declared.turn.Turn.{Turn}
use Rattle.rule_judge.specs.Turns.{head_in}

abbrev pub text_in : Turn → List ℕ
text_in t = (head_in t).text

abbrev pub exact_type_of : Kind → List ℕ → Ty → Ty → Option Ty
exact_type_of k sign a b = option_map ty.Iconst (exact_of k sign a b)

abbrev pub arith_type_of : Store → Kind → List ℕ → Ty → Ty → Option Ty
arith_type_of s k sign a b = cond (are_iconsts a b) (exact_type_of k sign a b) (typed_as (common_type (common s a b)))

abbrev pub shift_type_of : Store → Kind → List ℕ → Ty → Ty → Option Ty
shift_type_of s k sign a b = cond (are_iconsts a b) (exact_type_of k sign a b) (typed_as (default_in s a))

-- whether there is one
abbrev pub has_shift_type : Kind → List ℕ → Ty → Ty → Bool
has_shift_type k sign a b = cond (are_iconsts a b) (is_some (exact_of k sign a b)) (has_default a)

-- the type of the second operand of a comparison, where the first goes there
abbrev pub other_target_of : Store → Ty → Ty → Option ℕ
other_target_of s a b = only_where (goes_to_other s a b) (id_in b)

-- where the left operand goes, or the right one
abbrev pub equal_target_of : Store → Ty → Ty → Bool → Option ℕ
equal_target_of s a b true = option_or (common_type (common s a b)) (other_target_of s a b)
equal_target_of s a b false = option_or (common_type (common s a b)) (other_target_of s b a)
