-- Breaks, tree by tree.
use Rattle.std.proofs.Common.{◌≡◌, ℕ, zero, suc, ◌+◌, Bool, true, false, not, ◌&&◌, ◌||◌, ◌==◌, List, [], ◌∷◌, length, drop, Some, refl, ap, ap₂, sym, ◌∙◌, arith, add-one}
use Rattle.std.specs.Prelude.{slice_get, bytes_eq}
use Rattle.std.specs.List.{list_any}
use Rattle.std.specs.Cmp.{unsigned_Decides}
use Rattle.hare_tree.specs.declared.kind.Kind.{Kind}
use Rattle.hare_tree.specs.declared.kind.Kind.TheVariants as ki
use Rattle.hare_tree.specs.Node.{Head}
use Rattle.hare_typed.specs.Typed.{TypedNode, TypedNodes, Mark, marked, typed_none, typed_more, typed_nodes}
use Rattle.hare_typed.specs.Copies.{is_unlabelled as is_nameless}
use Rattle.hare_rules.specs.Control.{is_break_out, is_loop_kind, breaks, breaks_in}
use Rattle.rule_join.specs.Breaks.{is_break}

-- the trees from one on
drop-suc-get : {A : Type 0} (xs : List A) (i : ℕ) (x : A) → slice_get xs i ≡ Some x → drop i xs ≡ x ∷ drop (suc i) xs
drop-suc-get [] i x e = cc
drop-suc-get (y ∷ ys) zero x e = let same : y ≡ x = cc in ap (λ z. z ∷ ys) same
drop-suc-get (y ∷ ys) (suc i) x e = drop-suc-get ys i x e

pub drop_get : {A : Type 0} (xs : List A) (i : ℕ) (x : A) → slice_get xs i ≡ Some x → drop i xs ≡ x ∷ drop (i + 1) xs
drop_get xs i x e = rw add-one (drop-suc-get xs i x e)

-- ---- inside another loop no `break` means a loop without a name

out_quiet : (k : Kind) (text : List ℕ) → is_break_out [] k text ≡ false
out_quiet ki.Break [] = refl
out_quiet ki.Break (b ∷ bs) = refl
out_quiet _ text = refl

mutual
  quiet : (t : TypedNode) → breaks [] false t ≡ false
  quiet (marked h m ts) = ap₂ (λ a b. a || b) (out_quiet h.kind h.text)
      (quiet_each (is_loop_kind h.kind && bytes_eq h.text [] && not (is_nameless [])) ts)

  quiet_each : (hidden : Bool) (ts : TypedNodes) → breaks_in [] false hidden ts ≡ false
  quiet_each hidden typed_none = refl
  quiet_each true (typed_more t ts) = quiet_each true ts
  quiet_each false (typed_more t ts) = ap₂ (λ a b. a || b) (quiet t) (quiet_each false ts)

and_false : (b : Bool) → (b && false) ≡ false
and_false true = refl
and_false false = refl

-- a loop inside one without a name
pub loop_quiet : (name : List ℕ) (near : Bool) (h : Head) (m : Mark) (ts : TypedNodes) (t : TypedNode) → marked h m ts ≡ t →
    false ≡ is_break name near h.kind h.text
    → true ≡ is_loop_kind h.kind → name ≡ [] → false ≡ breaks name near t
loop_quiet name near h m ts t v e l n =
    sym (sym (ap (breaks name near) v) ∙ ap₂ (λ a b. a || b) (sym e)
    (ap (λ k. breaks_in name (near && not k) (k && bytes_eq h.text name && not (is_nameless name)) ts) (sym l)
    ∙ ap (λ g. breaks_in name g (bytes_eq h.text name && not (is_nameless name)) ts) (and_false near)
    ∙ ap (λ o. breaks_in o false (bytes_eq h.text o && not (is_nameless o)) ts) n
    ∙ quiet_each (bytes_eq h.text [] && not (is_nameless [])) ts))

-- ---- nor a loop with the name of one inside

hidden_each : (name : List ℕ) (near : Bool) (ts : TypedNodes) → breaks_in name near true ts ≡ false
hidden_each name near typed_none = refl
hidden_each name near (typed_more t ts) = hidden_each name near ts

pub empty_is : (name : List ℕ) → true ≡ (length name == 0) → name ≡ []
empty_is [] e = refl
empty_is (b ∷ bs) e = absurd (omega (arith, (unsigned_Decides (suc (length bs)) 0).0 (sym e)))

pub loop_hidden : (name : List ℕ) (near : Bool) (h : Head) (m : Mark) (ts : TypedNodes) (t : TypedNode) → marked h m ts ≡ t →
    false ≡ is_break name near h.kind h.text
    → true ≡ is_loop_kind h.kind → false ≡ (length name == 0) → true ≡ bytes_eq h.text name → false ≡ breaks name near t
loop_hidden name near h m ts t v e l n q =
    sym (sym (ap (breaks name near) v) ∙ ap₂ (λ a b. a || b) (sym e)
    (ap (λ k. breaks_in name (near && not (is_loop_kind h.kind)) (k && bytes_eq h.text name && not (is_nameless name)) ts) (sym l)
    ∙ ap₂ (λ a b. breaks_in name (near && not (is_loop_kind h.kind)) (a && not b) ts) (sym q) (sym n)
    ∙ hidden_each name (near && not (is_loop_kind h.kind)) ts))

-- ---- tree by tree

module _ (name : List ℕ) (near : Bool) (xs : List TypedNode) (i : ℕ) (x : TypedNode) (e : slice_get xs i ≡ Some x) where
  pub breaks_here : true ≡ breaks name near x → true ≡ breaks_in name near false (typed_nodes (drop i xs))
  breaks_here h =
      sym (ap (λ ys. breaks_in name near false (typed_nodes ys)) (drop_get xs i x e) ∙ ap
      (λ b. b || breaks_in name near false (typed_nodes (drop (i + 1) xs))) (sym h))

  pub breaks_next : false ≡ breaks name near x →
      breaks_in name near false (typed_nodes (drop i xs)) ≡ breaks_in name near false (typed_nodes (drop (i + 1) xs))
  breaks_next h =
      ap (λ ys. breaks_in name near false (typed_nodes ys)) (drop_get xs i x e) ∙ ap
      (λ b. b || breaks_in name near false (typed_nodes (drop (i + 1) xs))) (sym h)

-- the kids of a loop are looked at from the first on
pub some_break : (name : List ℕ) (xs : List TypedNode) → breaks_in name true false (typed_nodes xs) ≡ list_any (breaks name true) xs
some_break name [] = refl
some_break name (x ∷ xs) = ap (λ b. breaks name true x || b) (some_break name xs)
