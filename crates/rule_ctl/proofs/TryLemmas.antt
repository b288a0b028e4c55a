-- Errors that are handed on, and what an allocation under `?` or `!` is asked for.
use Rattle.std.proofs.Common.{◌≡◌, ℕ, suc, ◌+◌, ◌<◌, Bool, true, false, not, ◌&&◌, cond, List, ◌∷◌, length, drop, get_or, Option, Some, None, is_some, refl, ap, sym, ◌∙◌, add-one, drop-cons}
use Rattle.std.specs.Prelude.{option_and_then, filter}
use Rattle.std.specs.Option.{option_or}
use Rattle.hare_tree.specs.Node.{Node}
use Rattle.hare_types.specs.declared.coercion.Ty.TheVariants as ty
use Rattle.hare_types.specs.declared.row.Row.TheVariants as row
use Rattle.hare_types.specs.Store.{Store}
use Rattle.hare_types.specs.ByIds.{is_error_at}
use Rattle.hare_types.specs.Unions.{id_of}
use Rattle.hare_typed.specs.Given.{base_row}
use Rattle.hare_rules.specs.declared.hint.Hint.{Hint}
use Rattle.hare_rules.specs.declared.hint.Hint.TheVariants as hint
use Rattle.hare_rules.specs.Above.{allocates, made_by, asked, leads_to, hint_id, refusable_hint, tried_hint}
use Rattle.hare_rules.specs.Aggregates.{pointer_to, slice_of, all_fit}
use Rattle.hare_rules.specs.Context.{Setting}
use Rattle.hare_rules.specs.Judged.{is_type_hint}
use Rattle.hare_rules.specs.Words.{fits, allocation, with_refusal}
use Rattle.rule_ctl.specs.Tried.{rejected, element_of, made_of, asks_refusable}
use Rattle.rule_ctl.proofs.AskLemmas.{hint_to-asks}

-- ---- allocations

refusable_asked : (w : Setting) (o : Option ℕ)
    → is_type_hint (refusable_hint w o) ≡ is_some
    (option_and_then (λ t. option_and_then (with_refusal w.store) (made_by w (base_row w.store (ty.Of t)))) o)
refusable_asked w None = refl
refusable_asked w (Some t) = hint_to-asks (option_and_then (with_refusal w.store) (made_by w (base_row w.store (ty.Of t))))

-- an allocation is asked for what the hint asks for
pub allocation_asked : (w : Setting) (h : Hint) (t : Node) → allocates t ≡ true → asks_refusable w.store h ≡ is_type_hint (tried_hint w h t)
allocation_asked w h t e = sym (refusable_asked w (asked w h)) ∙ sym
    (ap (λ b. is_type_hint (cond b (refusable_hint w (asked w h)) hint.None)) e)

-- and nothing else is
pub other_unasked : (w : Setting) (h : Hint) (t : Node) → allocates t ≡ false → false ≡ is_type_hint (tried_hint w h t)
other_unasked w h t e = sym (ap (λ b. is_type_hint (cond b (refusable_hint w (asked w h)) hint.None)) e)

-- what is made is a pointer
pub made_pointer : (f : Store) (t u p : ℕ) → Some u ≡ leads_to (base_row f (ty.Of t)) → id_of f (row.Pointer u) ≡ Some p →
    Some p ≡ made_of f t
made_pointer f t u p e h =
    sym (ap (λ o. option_or (pointer_to f o) (slice_of f (element_of (base_row f (ty.Of t))))) (sym e) ∙ ap
    (λ o. option_or o (slice_of f (element_of (base_row f (ty.Of t))))) h)

-- or a slice
pub made_slice : (f : Store) (t u p : ℕ) → None ≡ leads_to (base_row f (ty.Of t)) → Some u ≡ element_of (base_row f (ty.Of t)) →
    id_of f (row.Slice u) ≡ Some p → Some p ≡ made_of f t
made_slice f t u p e g h =
    sym (ap (λ o. option_or (pointer_to f o) (slice_of f (element_of (base_row f (ty.Of t))))) (sym e) ∙ ap (slice_of f) (sym g) ∙ h)

pub no_type : (o : Option ℕ) → ((u : ℕ) → ¬ (o ≡ Some u)) → None ≡ o
no_type None h = refl
no_type (Some u) h = absurd (h u refl)

module _ (f : Store) (h : Hint) (t : ℕ) (e : Some t ≡ option_and_then (allocation f) (hint_id h)) where
  of_hint : asks_refusable f h ≡ is_some (option_and_then (with_refusal f) (made_of f t))
  of_hint = sym (ap (λ o. is_some (option_and_then (λ u. option_and_then (with_refusal f) (made_of f u)) o)) e)

  -- the hint asks for nothing that is made
  pub asked_none : None ≡ made_of f t → false ≡ asks_refusable f h
  asked_none k = ap (λ o. is_some (option_and_then (with_refusal f) o)) k ∙ sym of_hint

  -- it does, and the union is in the store
  pub asked_some : (p u : ℕ) → Some p ≡ made_of f t → with_refusal f p ≡ Some u → true ≡ asks_refusable f h
  asked_some p u k g = sym (ap is_some g) ∙ ap (λ o. is_some (option_and_then (with_refusal f) o)) k ∙ sym of_hint

-- ---- errors, one by one

module _ (f : Store) (ts : List ℕ) (i u d to : ℕ) (h : i < length ts) (e : u ≡ get_or ts i d) where
  here : filter (is_error_at f) (drop i ts) ≡
      cond (is_error_at f u) (u ∷ filter (is_error_at f) (drop (i + 1) ts)) (filter (is_error_at f) (drop (i + 1) ts))
  here = rw add-one (ap (filter (is_error_at f)) (drop-cons ts i d h ∙ ap (λ v. v ∷ drop (suc i) ts) (sym e)))

  by : (a b : Bool) (us : List ℕ) → fits f (ty.Of u) to ≡ b → all_fit f (cond a (u ∷ us) us) to ≡ cond (a && not b) false (all_fit f us to)
  by true true us k = ap (λ c. c && all_fit f us to) k
  by true false us k = ap (λ c. c && all_fit f us to) k
  by false b us k = refl

  pub rejected_here : true ≡ rejected f u to → false ≡ all_fit f (filter (is_error_at f) (drop i ts)) to
  rejected_here k =
      sym (ap (λ us. all_fit f us to) here ∙ by (is_error_at f u) (fits f (ty.Of u) to) (filter (is_error_at f) (drop (i + 1) ts)) refl
      ∙ ap (λ c. cond c false (all_fit f (filter (is_error_at f) (drop (i + 1) ts)) to)) (sym k))

  pub rejected_none : false ≡ rejected f u to →
      all_fit f (filter (is_error_at f) (drop i ts)) to ≡ all_fit f (filter (is_error_at f) (drop (i + 1) ts)) to
  rejected_none k =
      ap (λ us. all_fit f us to) here ∙ by (is_error_at f u) (fits f (ty.Of u) to) (filter (is_error_at f) (drop (i + 1) ts)) refl
      ∙ ap (λ c. cond c false (all_fit f (filter (is_error_at f) (drop (i + 1) ts)) to)) (sym k)
