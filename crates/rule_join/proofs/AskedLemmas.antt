-- What nodes ask of their kids.
use Rattle.std.proofs.Common.{◌≡◌, ℕ, zero, suc, Bool, true, false, not, ◌&&◌, cond, List, [], ◌∷◌, length, take, drop, Option, Some, None, refl, ap, ap₂, sym, ◌∙◌, arith}
use Rattle.hare_tree.specs.declared.kind.Kind.{Kind}
use Rattle.hare_tree.specs.declared.kind.Kind.TheVariants as ki
use Rattle.hare_tree.specs.Node.{head}
use Rattle.hare_tree.specs.Shape.{is_none as is_left_out}
use Rattle.hare_types.specs.declared.coercion.Ty.{Ty}
use Rattle.hare_types.specs.declared.row.Scalar.TheVariants as keyword
use Rattle.hare_typed.specs.Typed.{TypedNode, marked, typed_nodes}
use Rattle.hare_typed.specs.Erased.{erase, erase_each}
use Rattle.hare_typed.specs.Numbers.{kind_of}
use Rattle.hare_typed.specs.Order.{tree_from_front}
use Rattle.hare_rules.specs.declared.hint.Hint.{Hint}
use Rattle.hare_rules.specs.declared.hint.Hint.TheVariants as hint
use Rattle.hare_rules.specs.Context.{Context, store_of, is_there}
use Rattle.hare_rules.specs.Control.{has_else, branches, if_type}
use Rattle.hare_rules.specs.Joined.{joined}
use Rattle.hare_rules.specs.Types.{type_by}
use Rattle.hare_rules.specs.Words.{word_id, typed_as}
use Rattle.hare_rules.specs.Above.{by_place, next_kind, then_hint}
use Rattle.hare_rules.specs.Judged.{is_type_hint}
use Rattle.hare_rules.specs.Settles.{only_where}
use Rattle.rule_judge.proofs.KidLemmas.{drop_past}

erased_kind : (x : TypedNode) → (head (erase x)).kind ≡ kind_of x
erased_kind (marked h m ts) = refl

-- what stands behind the second kid
next_is : (xs : List TypedNode) (i : ℕ) → length (take i xs) ≡ 1 →
    next_kind (erase_each (typed_nodes (drop (suc i) xs))) ≡ kind_of (tree_from_front 2 xs)
next_is [] zero e = absurd (omega (arith, e))
next_is [] (suc i) e = absurd (omega (arith, e))
next_is (x ∷ xs) zero e = absurd (omega (arith, e))
next_is (x ∷ []) (suc i) e = ap (λ ys. next_kind (erase_each (typed_nodes ys))) (drop_past (x ∷ []) (suc (suc i)) (omega arith))
next_is (x ∷ y ∷ []) (suc zero) e = refl
next_is (x ∷ y ∷ z ∷ zs) (suc zero) e = erased_kind z
next_is (x ∷ y ∷ ys) (suc (suc i)) e = absurd (omega (arith, e))

then_asks : (own : Hint) (b : Bool) → (not b && is_type_hint own) ≡ is_type_hint (cond b hint.Drop own)
then_asks own true = refl
then_asks own false = refl

-- the first branch is asked for a type where there are two, and the node is
pub second_asked : (w own : Hint) (xs : List TypedNode) (i : ℕ) → length (take i xs) ≡ 1
    → (is_there (tree_from_front 2 xs) && is_type_hint own)
    ≡ is_type_hint (by_place (length (take i xs)) (w ∷ then_hint own (erase_each (typed_nodes (drop (suc i) xs))) ∷ []) own)
second_asked w own xs i e =
    then_asks own (is_left_out (kind_of (tree_from_front 2 xs)))
    ∙ ap (λ k. is_type_hint (cond (is_left_out k) hint.Drop own)) (sym (next_is xs i e))
    ∙ sym (ap (λ n. is_type_hint (by_place n (w ∷ then_hint own (erase_each (typed_nodes (drop (suc i) xs))) ∷ []) own)) e)

-- each behind those is asked for what the node is
pub later_asked : (n : ℕ) (w g own : Hint) → (n ≡ 0 → ⊥) → (n ≡ 1 → ⊥) → is_type_hint own ≡ is_type_hint (by_place n (w ∷ g ∷ []) own)
later_asked zero w g own a b = absurd (a refl)
later_asked (suc zero) w g own a b = absurd (b refl)
later_asked (suc (suc n)) w g own a b = refl

-- ---- where branches go

pub target_without : (b d : Bool) (o : Option ℕ) → false ≡ d → None ≡ only_where (b && d) o
target_without true d o e = ap (λ x. only_where x o) e
target_without false d o e = refl

pub target_with : (b d : Bool) (o q : Option ℕ) → b ≡ true → true ≡ d → q ≡ o → q ≡ only_where (b && d) o
target_with b d o q e h k = k ∙ ap₂ (λ x y. only_where (x && y) o) (sym e) h

pub branches_typed : (c : Context) (a : Ty) → true ≡ has_else c → if_type c ≡ Some a
    → typed_as (joined (store_of c) c.hint (branches c)) ≡ Some a
branches_typed c a h e =
    ap (λ b. typed_as (cond b (joined (store_of c) c.hint (branches c)) (word_id (store_of c) keyword.Void))) h ∙ e

pub if_typed : (c : Context) (k : Kind) (a : Ty) → k ≡ ki.If → type_by c k ≡ Some a → if_type c ≡ Some a
if_typed c k a e g = ap (type_by c) (sym e) ∙ g
