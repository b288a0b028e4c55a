-- Which nodes fit, and which wait, in a later store.
use Rattle.std.proofs.Common.{◌≡◌, ℕ, ◌<◌, true, List, length, Option, Some, None, refl, ap, sym, ◌∙◌, arith}
use Rattle.std.specs.Prelude.{option_map, Contains}
use Rattle.hare_tree.specs.declared.kind.Kind.{Kind}
use Rattle.hare_tree.specs.Node.{head}
use Rattle.hare_types.specs.declared.coercion.Ty.TheVariants as ty
use Rattle.hare_types.specs.declared.extent.Extent.{Extent}
use Rattle.hare_types.specs.Store.{Store, definition_of}
use Rattle.hare_types.specs.ByIds.{extent_at}
use Rattle.hare_types.specs.Later.{IsLater}
use Rattle.hare_typed.specs.Typed.{TypedNode, marked}
use Rattle.hare_typed.specs.Erased.{erase}
use Rattle.hare_typed.specs.Numbers.{kind_of}
use Rattle.hare_rules.specs.Aggregates.{is_small}
use Rattle.hare_rules.specs.Context.{own_type, place_of}
use Rattle.hare_seen.specs.Seen.{DefinesTheSame}
use Rattle.hare_seen.specs.Sizes.{is_small_at, size_row, size_row_by, FitsNode, nodes_of_types, StandIn}
use Rattle.hare_waits.specs.declared.waiting.Waiting.{Waiting}
use Rattle.hare_waits.specs.Held.{WaitsFor}
use Rattle.hare_waits.specs.Nodes.{IsUnmeasured, kept_of}
use Rattle.hare_waits.specs.Lists.{IsAwaited}
use Rattle.hare_waits.specs.Waits.{IsNode, IsWaiting, AreAwaited}
use Rattle.hare_waits.proofs.ElementLemmas.{Contains-get, get-Contains}
use Rattle.hare_waits.proofs.GrowthLemmas.{rows_same, rows_more, extent_stays}
use Rattle.hare_waits.proofs.HeldLemmas.{extent-WaitsFor, undefined-WaitsFor, WaitsFor-later}

pub place-erase : (y : TypedNode) → (head (erase y)).place ≡ place_of y
place-erase (marked h m ts) = refl

-- of a type that waits it is not known that it is too large
pub small-WaitsFor : (s : Store) (t d : ℕ) → WaitsFor s t d → is_small_at s t ≡ true
small-WaitsFor s t d w = ap (λ o. is_small (option_map (λ x. x.size) o)) (extent-WaitsFor s t d w)

module _ (s f : Store) (l : IsLater s f) (q : List (ℕ × Waiting)) (js : List (ℕ × List TypedNode)) (a : AreAwaited s q js) where
  -- the type of a node is in the store
  pub node_within : (m o u : ℕ) (y : TypedNode) → IsNode js m o y → own_type y ≡ ty.Of u → u < length s.rows
  node_within m o u y n e = a.stand m n.types n.judged y u (Contains-get (nodes_of_types n.types) o y n.stands) e

  pub stand-later : (m : ℕ) (ts : List TypedNode) → Contains js (m, ts) → StandIn f ts
  stand-later m ts c y u h e = omega (arith, a.stand m ts c y u h e, rows_more s f l)

  asked_same : (k : Kind) (u : ℕ) → u < length s.rows → size_row f k u ≡ size_row s k u
  asked_same k u h = ap (size_row_by k) (rows_same s f l u h)

  -- what is not measured later was not measured before
  pub unmeasured-before : (m o u : ℕ) (y : TypedNode) → IsNode js m o y → IsUnmeasured f y u → IsUnmeasured s y u
  unmeasured-before m o u y n h = record {
    row = h.row;
    type = h.type;
    asks = sym (asked_same (kind_of y) u (node_within m o u y n h.type)) ∙ h.asks;
    unknown = by (extent_at s u) refl;
  }
    where
      by : (x : Option Extent) → extent_at s u ≡ x → extent_at s u ≡ None
      by None e = e
      by (Some x) e = let still = extent_stays s f l u x e in let gone = h.unknown in absurd cc

  pub unmeasured-later : (m o u : ℕ) (y : TypedNode) → IsNode js m o y → IsUnmeasured s y u → extent_at f u ≡ None → IsUnmeasured f y u
  unmeasured-later m o u y n h e = record {
    row = h.row;
    type = h.type;
    asks = asked_same (kind_of y) u (node_within m o u y n h.type) ∙ h.asks;
    unknown = e;
  }

  pub asked-later : (m o u : ℕ) (y : TypedNode) → IsNode js m o y → (h : IsUnmeasured s y u) → size_row f (kind_of y) u ≡ Some h.row
  asked-later m o u y n h = asked_same (kind_of y) u (node_within m o u y n h.type) ∙ h.asks

  -- a node that was measured fits as it did, and one that was not fits where its type is small now
  pub fits-later : (m o : ℕ) (y : TypedNode) → IsNode js m o y → ((u : ℕ) → IsUnmeasured s y u → is_small_at f u ≡ true) → FitsNode f y
  fits-later m o y n small u e r g = by (extent_at s u) refl
    where
      asks : size_row s (kind_of y) u ≡ Some r
      asks = sym (asked_same (kind_of y) u (node_within m o u y n e)) ∙ g

      by : (x : Option Extent) → extent_at s u ≡ x → is_small_at f u ≡ true
      by None h = small u record { row = r; type = e; asks = asks; unknown = h }
      by (Some x) h =
          ap (λ z. is_small (option_map (λ w. w.size) z)) (extent_stays s f l u x h ∙ sym h)
          ∙ a.fit m n.types n.judged y (Contains-get (nodes_of_types n.types) o y n.stands) u e r asks

  -- where it waits for a name that is not defined later either
  pub waiting-later : (n : ℕ) (w : Waiting) → Contains q (n, w) → definition_of f n ≡ None → IsWaiting f js n w
  waiting-later n w c none =
      let h = a.no_other n w c in
      let waits = WaitsFor-later s f l w.ty n none h.waits in
      record {
        node = h.node;
        stands = h.stands;
        unmeasured = unmeasured-later w.decl w.order w.ty h.node h.stands h.unmeasured (extent-WaitsFor f w.ty n waits);
        place = h.place;
        waits = waits;
      }

  -- ---- where no other name is defined

  pub awaited-later : DefinesTheSame s f → AreAwaited f q js
  awaited-later same = record {
    stand = stand-later;
    fit = λ m ts c y h.
        let o = get-Contains (nodes_of_types ts) y h in
        let n : IsNode js m o.0 y = record { types = ts; judged = c; stands = o.1 } in
        fits-later m o.0 y n (λ u k. let w = still m o.0 u y n k in small-WaitsFor f u w.name w.waits);
    awaited = λ m o u y n h. still m o u y n (unmeasured-before m o u y n h);
    no_other = λ n w c. waiting-later n w c (same n ∙ undefined-WaitsFor s w.ty n (a.no_other n w c).waits);
  }
    where
      still : (m o u : ℕ) (y : TypedNode) → IsNode js m o y → IsUnmeasured s y u → IsAwaited f q (kept_of m o y u)
      still m o u y n h =
          let w = a.awaited m o u y n h in
          record {
            name = w.name;
            entered = w.entered;
            waits = WaitsFor-later s f l u w.name
                (same w.name ∙ undefined-WaitsFor s u w.name w.waits) w.waits;
          }
