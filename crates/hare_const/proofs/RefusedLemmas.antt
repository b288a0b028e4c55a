-- Whether a node of no constant kind stands in a tree, by what is told of its kids.
use Rattle.std.proofs.Common.{◌≡◌, ◌∙◌, ◌≤◌, ◌+◌, sym, ap, ap₂, subst, refl, ℕ, zero, suc, arith, Bool, true, false, not, List, [], ◌∷◌, length, drop, Option, Some, None}
use Rattle.std.specs.Prelude.{slice_get, is_some, ◌&&◌, ◌||◌, if◌then◌else◌}
use Rattle.hare_tree.specs.Levels.{is_type}
use Rattle.hare_types.specs.Store.{Store}
use Rattle.hare_typed.specs.Typed.{TypedNode, TypedNodes, marked, typed_nodes, mark_of, kids_of}
use Rattle.hare_typed.specs.Constants.{own_kind}
use Rattle.hare_typed.specs.Constancy.{is_constant, hides_kids, or_else, first_inconstant, first_inconstant_of}
use Rattle.hare_typed.proofs.ExitLemmas.{drop-get}
use Rattle.hare_typed.specs.Settled.{IsSettled, AreSettled}
use Rattle.hare_const.specs.Settled.{IsFound, AreFound}
use Rattle.hare_const.proofs.SettledLemmas.{settled_at}

-- one is found in the tree, or among some
abbrev pub refused_by : Store → TypedNode → Bool
refused_by s t = is_some (first_inconstant s (λ u. false) t)

abbrev pub refused_of : Store → TypedNodes → Bool
refused_of s ts = is_some (first_inconstant_of s (λ u. false) ts)

either : (a b : Option TypedNode) → is_some (or_else a b) ≡ (is_some a || is_some b)
either None b = refl
either (Some t) b = refl

chosen : (y hides c : Bool) (x : Option TypedNode) (u : TypedNode) →
    is_some (if y then None else or_else (if hides then None else x) (if not c || false then Some u else None)) ≡
    (not y && (not c || (is_some x && not hides)))
chosen true hides c x u = refl
chosen false true true None u = refl
chosen false true true (Some v) u = refl
chosen false true false x u = refl
chosen false false true None u = refl
chosen false false true (Some v) u = refl
chosen false false false None u = refl
chosen false false false (Some v) u = refl

-- in a node or in its kids
refused_is : (s : Store) (t : TypedNode) →
    refused_by s t
    ≡ (not (is_type (own_kind t)) && (not (is_constant s (own_kind t) (mark_of t) (kids_of t))
    || (refused_of s (kids_of t) && not (hides_kids (own_kind t) (kids_of t)))))
refused_is s (marked h m ts) =
    chosen (is_type h.kind) (hides_kids h.kind ts) (is_constant s h.kind m ts) (first_inconstant_of s (λ u. false) ts) (marked h m ts)

pub refused_type : (s : Store) (t : TypedNode) → is_type (own_kind t) ≡ true → refused_by s t ≡ false
refused_type s t e =
    refused_is s t
    ∙ ap (λ y. not y && (not (is_constant s (own_kind t) (mark_of t) (kids_of t))
    || (refused_of s (kids_of t) && not (hides_kids (own_kind t) (kids_of t))))) e

pub refused_here : (s : Store) (t : TypedNode) → is_type (own_kind t) ≡ false → is_constant s (own_kind t) (mark_of t) (kids_of t) ≡ false →
    refused_by s t ≡ true
refused_here s t e f =
    refused_is s t
    ∙ ap₂ (λ y c. not y && (not c || (refused_of s (kids_of t) && not (hides_kids (own_kind t) (kids_of t))))) e f

pub refused_within : (s : Store) (t : TypedNode) → is_type (own_kind t) ≡ false →
    is_constant s (own_kind t) (mark_of t) (kids_of t) ≡ true →
    refused_by s t ≡ (refused_of s (kids_of t) && not (hides_kids (own_kind t) (kids_of t)))
refused_within s t e f =
    refused_is s t
    ∙ ap₂ (λ y c. not y && (not c || (refused_of s (kids_of t) && not (hides_kids (own_kind t) (kids_of t))))) e f

-- ---- some trees, one behind another

-- the trees from one on, of which so much is found
pub record Finds (s : Store) (ts : List TypedNode) (i : ℕ) (refused : Bool) : Type 0 where
  pub found : (b : Bool) → AreFound s (typed_nodes (drop i ts)) b → AreFound s (typed_nodes ts) (refused || b)
  pub back : AreSettled s (typed_nodes ts) → AreSettled s (typed_nodes (drop i ts))

pub finds_first : (s : Store) (ts : List TypedNode) → Finds s ts 0 false
finds_first s ts = record { found = λ b p. p; back = λ p. p }

regroup : (a r b : Bool) → (a || (r || b)) ≡ ((a || r) || b)
regroup true r b = refl
regroup false r b = refl

pub finds_more : (s : Store) (ts : List TypedNode) (i : ℕ) (x : TypedNode) (refused here new : Bool) → slice_get ts i ≡ Some x →
    IsFound s x here → new ≡ (refused || here) → Finds s ts i refused → Finds s ts (i + 1) new
finds_more s ts i x refused here new e f g p = record {
  found = λ b q.
      let whole : AreFound s (typed_nodes (x ∷ drop (i + 1) ts)) (here || b) = record {
        settled = (f.settled, q.settled);
        refused = ap₂ (λ a c. a || c) f.refused q.refused
            ∙ sym (either (first_inconstant s (λ u. false) x) (first_inconstant_of s (λ u. false) (typed_nodes (drop (i + 1) ts))));
      } in
      let all = p.found (here || b) (subst (λ l. AreFound s (typed_nodes l) (here || b)) (sym (drop-get ts i x e)) whole) in
      let same : (refused || (here || b)) ≡ (new || b) = regroup refused here b ∙ ap (λ a. a || b) (sym g) in
      subst (AreFound s (typed_nodes ts)) same all;
  back = λ q. (subst (λ l. AreSettled s (typed_nodes l)) (drop-get ts i x e) (p.back q)).1;
}

pub finds_not : (s : Store) (ts : List TypedNode) (i : ℕ) (x : TypedNode) (refused : Bool) → slice_get ts i ≡ Some x →
    Finds s ts i refused → (IsSettled s x → ⊥) → AreSettled s (typed_nodes ts) → ⊥
finds_not s ts i x refused e p f q = f (settled_at s ts i x e q)

or_false : (a : Bool) → (a || false) ≡ a
or_false true = refl
or_false false = refl

drop-past : (ts : List TypedNode) (i : ℕ) → length ts ≤ i → drop i ts ≡ []
drop-past [] zero h = refl
drop-past [] (suc i) h = refl
drop-past (t ∷ ts) zero h = absurd (omega arith)
drop-past (t ∷ ts) (suc i) h = drop-past ts i (omega arith)

pub finds_all : (s : Store) (ts : List TypedNode) (i : ℕ) (refused : Bool) → length ts ≤ i → Finds s ts i refused →
    AreFound s (typed_nodes ts) refused
finds_all s ts i refused h p =
    let none : AreFound s (typed_nodes []) false = record { settled = tt; refused = refl } in
    let rest : AreFound s (typed_nodes (drop i ts)) false
    = subst (λ l. AreFound s (typed_nodes l) false) (sym (drop-past ts i h)) none in
    subst (AreFound s (typed_nodes ts)) (or_false refused) (p.found false rest)
