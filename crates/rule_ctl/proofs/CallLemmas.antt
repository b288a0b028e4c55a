-- Calls, their callees and their arguments.
use Rattle.std.proofs.Common.{◌≡◌, ℕ, suc, ◌-◌, cond, List, [], ◌∷◌, length, drop, take, Option, Some, None, is_some, refl, ap, sym, ◌∙◌, arith}
use Rattle.hare_tree.specs.declared.kind.Kind.{Kind}
use Rattle.hare_tree.specs.declared.kind.Kind.TheVariants as ki
use Rattle.hare_tree.specs.declared.token.Meaning.TheVariants as means
use Rattle.hare_typed.specs.Typed.{TypedNode, mark_of}
use Rattle.hare_typed.specs.Numbers.{kind_of}
use Rattle.hare_typed.specs.Order.{tree_from_front}
use Rattle.hare_rules.specs.Above.{argument_hint, param_at}
use Rattle.hare_rules.specs.Aggregates.{Signature, is_path, but_last, callee, callee_meaning}
use Rattle.hare_rules.specs.Context.{Setting}
use Rattle.hare_rules.specs.Judged.{is_type_hint}
use Rattle.rule_ctl.specs.Calls.{count_of}
use Rattle.rule_ctl.proofs.AskLemmas.{hint_to-asks, first_take}

-- ---- arguments

pub arguments_counted : (xs : List TypedNode) → length xs - 2 ≡ length (but_last (drop 1 xs))
arguments_counted [] = refl
arguments_counted (x ∷ xs) = by xs
  where
    by : (ys : List TypedNode) → suc (length ys) - 2 ≡ length (but_last ys)
    by [] = refl
    by (y ∷ []) = refl
    by (y ∷ z ∷ zs) = omega (arith, by (z ∷ zs))

-- of an argument the type of the parameter, where there is one
pub argument_asked : (w : Setting) (xs : List TypedNode) (i n : ℕ) → length (take i xs) ≡ suc n
    → is_some (param_at (callee w (tree_from_front 0 xs)) n) ≡ is_type_hint (argument_hint w (take i xs) (length (take i xs)))
argument_asked w xs i n e =
    ap (λ (x : TypedNode). is_some (param_at (callee w x) n)) (sym (first_take xs i n e)) ∙ sym
    (hint_to-asks (param_at (callee w (tree_from_front 0 (take i xs))) n))
    ∙ sym (ap (λ k. is_type_hint (argument_hint w (take i xs) k)) e)

-- ---- callees

pub path_means : (x : TypedNode) → kind_of x ≡ ki.Path → (mark_of x).meaning ≡ callee_meaning x
path_means x e = sym (ap (λ k. cond (is_path k) (mark_of x).meaning means.None) e)

pub other_means : (x : TypedNode) → (kind_of x ≡ ki.Path → ⊥) → means.None ≡ callee_meaning x
other_means x h = by (kind_of x) h
  where
    by : (k : Kind) → (k ≡ ki.Path → ⊥) → means.None ≡ cond (is_path k) (mark_of x).meaning means.None
    by ki.Path g = absurd (g refl)
    by _ g = refl

pub counted : (o : Option Signature) → is_some (count_of o) ≡ is_some o
counted None = refl
counted (Some g) = refl
