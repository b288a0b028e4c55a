-- What waits, and what is too large, once a name is defined.
use Rattle.std.proofs.Common.{◌≡◌, ◌≢◌, ◌⊎◌, inl, inr, ℕ, Bool, true, false, eqb, List, Some, refl, ◌∙◌, subst}
use Rattle.std.specs.Prelude.{Contains}
use Rattle.std.proofs.lemmas.Bool.Decides.{eqb_tells}
use Rattle.hare_types.specs.Store.{Store}
use Rattle.hare_typed.specs.Typed.{TypedNode}
use Rattle.hare_seen.specs.Sizes.{is_small_at, FitsNode, nodes_of_types, IsFirstLarge}
use Rattle.hare_waits.specs.declared.waiting.Waiting.{Waiting}
use Rattle.hare_waits.specs.Held.{WaitsFor}
use Rattle.hare_waits.specs.Nodes.{IsUnmeasured, kept_of, ComesBefore, IsFirstOf}
use Rattle.hare_waits.specs.Lists.{Takes, IsAwaited, Awaits}
use Rattle.hare_waits.specs.Waits.{IsNode, IsWaiting, AreAwaited, DefinesAlso, IsLate}
use Rattle.hare_waits.proofs.ElementLemmas.{get-Contains, before_at, behind_at, split_at, length-before_at, Contains-before_at}
use Rattle.hare_waits.proofs.HeldLemmas.{extent-WaitsFor, undefined-WaitsFor, WaitsFor-later}
use Rattle.hare_waits.proofs.StayLemmas.{place-erase, small-WaitsFor, stand-later, unmeasured-before, unmeasured-later, asked-later, fits-later, waiting-later}

module _ (s f : Store) (n : ℕ) (d : DefinesAlso s f n) (q rest : List (ℕ × Waiting)) (ws : List Waiting) (takes : Takes q rest n ws)
    (js : List (ℕ × List TypedNode)) (a : AreAwaited s q js) where
  -- a node that was not measured waits for another name still, or is among those that are looked at
  Still : (m o u : ℕ) → TypedNode → Type 0
  Still m o u y = IsAwaited f rest (kept_of m o y u) ⊎ Contains ws (kept_of m o y u)

  looked_at : (m o u : ℕ) (y : TypedNode) → IsNode js m o y → IsUnmeasured s y u → Still m o u y
  unfolding Still
  looked_at m o u y k h = by (eqb_tells w.name n)
    where
      w : IsAwaited s q (kept_of m o y u)
      w = a.awaited m o u y k h

      by : ((eqb w.name n ≡ true) × (w.name ≡ n)) ⊎ ((eqb w.name n ≡ false) × (w.name ≢ n)) →
          IsAwaited f rest (kept_of m o y u) ⊎ Contains ws (kept_of m o y u)
      by (inl e) = inr (takes.found (kept_of m o y u) (subst (λ x. Contains q (x, kept_of m o y u)) e.1 w.entered))
      by (inr e) = inl record {
        name = w.name;
        entered = takes.kept w.name (kept_of m o y u) w.entered e.1;
        waits = WaitsFor-later s f d.later u w.name (d.others w.name e.1 ∙ undefined-WaitsFor s u w.name w.waits) w.waits;
      }

  -- ---- where none of those is too large

  module _ (new : List (ℕ × Waiting)) (each : Awaits f rest new ws)
      (small : (w : Waiting) → Contains ws w → is_small_at f w.ty ≡ true) where
    awaited_again : (m o u : ℕ) (y : TypedNode) → IsNode js m o y → IsUnmeasured f y u → IsAwaited f new (kept_of m o y u)
    unfolding Still
    awaited_again m o u y k h = by (looked_at m o u y k (unmeasured-before s f d.later q js a m o u y k h))
      where
        by : IsAwaited f rest (kept_of m o y u) ⊎ Contains ws (kept_of m o y u) → IsAwaited f new (kept_of m o y u)
        by (inl w) = record { name = w.name; entered = each.kept (w.name, kept_of m o y u) w.entered; waits = w.waits }
        by (inr c) = each.awaited (kept_of m o y u) c h.unknown

    small_now : (m o u : ℕ) (y : TypedNode) → IsNode js m o y → IsUnmeasured s y u → is_small_at f u ≡ true
    unfolding Still
    small_now m o u y k h = by (looked_at m o u y k h)
      where
        by : IsAwaited f rest (kept_of m o y u) ⊎ Contains ws (kept_of m o y u) → is_small_at f u ≡ true
        by (inl w) = small-WaitsFor f u w.name w.waits
        by (inr c) = small (kept_of m o y u) c

    no_more : (k : ℕ) (w : Waiting) → Contains new (k, w) → IsWaiting f js k w
    no_more k w c = by (each.only k w c)
      where
        by : Contains rest (k, w) ⊎ (Contains ws w × WaitsFor f w.ty k) → IsWaiting f js k w
        by (inl r) =
            let was = takes.only k w r in
            waiting-later s f d.later q js a k w was.0 (d.others k was.1 ∙ undefined-WaitsFor s w.ty k (a.no_other k w was.0).waits)
        by (inr r) =
            let h = a.no_other n w (takes.taken w r.0) in
            record {
              node = h.node;
              stands = h.stands;
              unmeasured = unmeasured-later s f d.later q js a w.decl w.order w.ty h.node h.stands h.unmeasured
                  (extent-WaitsFor f w.ty k r.1);
              place = h.place;
              waits = r.1;
            }

    pub done-none : AreAwaited f new js
    done-none = record {
      stand = stand-later s f d.later q js a;
      fit = λ m ts c y h.
          let o = get-Contains (nodes_of_types ts) y h in
          let k : IsNode js m o.0 y = record { types = ts; judged = c; stands = o.1 } in
          fits-later s f d.later q js a m o.0 y k (λ u g. small_now m o.0 u y k g);
      awaited = awaited_again;
      no_other = no_more;
    }

  -- ---- where one of them is

  module _ (w : Waiting) (first : IsFirstOf f ws (Some w)) where
    -- a node that stands before it fits
    fits_before : (m o : ℕ) (y : TypedNode) → IsNode js m o y → ((u : ℕ) → ComesBefore (kept_of m o y u) w) → FitsNode f y
    unfolding Still
    fits_before m o y k before = fits-later s f d.later q js a m o y k (λ u h. by u (looked_at m o u y k h))
      where
        small : (u : ℕ) → Contains ws (kept_of m o y u) → (b : Bool) → is_small_at f u ≡ b → is_small_at f u ≡ true
        small u c true e = e
        small u c false e = absurd (first.2 (kept_of m o y u) c e (before u))

        by : (u : ℕ) → IsAwaited f rest (kept_of m o y u) ⊎ Contains ws (kept_of m o y u) → is_small_at f u ≡ true
        by u (inl x) = small-WaitsFor f u x.name x.waits
        by u (inr c) = small u c (is_small_at f u) refl

    here : IsWaiting s js n w
    here = a.no_other n w (takes.taken w first.0)

    first_large : IsFirstLarge f here.stands.types w.order here.node
    first_large = record {
      before = before_at (nodes_of_types here.stands.types) w.order;
      behind = behind_at (nodes_of_types here.stands.types) w.order;
      nodes = split_at (nodes_of_types here.stands.types) w.order here.node here.stands.stands;
      count = length-before_at (nodes_of_types here.stands.types) w.order here.node here.stands.stands;
      fit = λ y c.
          let o = Contains-before_at (nodes_of_types here.stands.types) w.order y c in
          fits_before w.decl o.0 y record { types = here.stands.types; judged = here.stands.judged; stands = o.2 } (λ u. inr (refl, o.1));
      large = record {
        id = w.ty;
        row = here.unmeasured.row;
        type = here.unmeasured.type;
        asks = asked-later s f d.later q js a w.decl w.order w.ty here.node here.stands here.unmeasured;
        large = first.1;
      };
    }

    pub done-some : IsLate f js w.decl w.place
    done-some = record {
      types = here.stands.types;
      judged = here.stands.judged;
      node = here.node;
      order = w.order;
      first = first_large;
      place = place-erase here.node ∙ here.place;
      before = λ k us c l y h.
          let o = get-Contains (nodes_of_types us) y h in
          fits_before k o.0 y record { types = us; judged = c; stands = o.1 } (λ u. inl l);
    }
