-- What the addresses of pointers tell that lead within their objects: they are not null, and tell offsets and live objects apart.
use Rattle.std.proofs.Common.{◌≡◌, ◌≢◌, ℕ, ◌+◌, ◌<◌, ◌≤◌, Some, sym, ◌∙◌, arith}
use Rattle.std.specs.Prelude.{slice_get}
use Rattle.hx_base.specs.Runtime.{World}
use Rattle.hare_typed.specs.Objects.{Object, extent_of}
use Rattle.hare_typed.specs.State.{State}
use Rattle.hare_meaning.specs.Related.{At, Places, IsLive, Points, Ground, Values, objects_in, Related}

module _ (ground : Ground) (ps : Places) (s : State) (w : World) (calls : ℕ) (value : Values) (r : Related ground ps s w calls value) where
  -- the address is the sum, which does not wrap
  pub address_is : (o d a : ℕ) (x : Object) → slice_get (objects_in s) o ≡ Some x → d ≤ extent_of x → (p : Points ps o d a) →
      (a ≡ p.from + d) × (0 < p.from)
  address_is o d a x e l p =
      let h = r.placed o p.from x e p.at in
      let low = h.0 in
      let high = h.2 in
      let i = p.is in
      (omega (arith, l, high, i), low)

  pub pointer_is_not_null : (o d a : ℕ) (x : Object) → slice_get (objects_in s) o ≡ Some x → d ≤ extent_of x → Points ps o d a → a ≢ 0
  pointer_is_not_null o d a x e l p =
      let h = address_is o d a x e l p in
      let f = h.0 in
      let g = h.1 in
      λ z. absurd (omega (arith, f, g, z))

  -- of one object, dead or alive
  pub offsets_are_apart : (o d e a : ℕ) (x : Object) → slice_get (objects_in s) o ≡ Some x → d ≤ extent_of x → e ≤ extent_of x →
      Points ps o d a → Points ps o e a → d ≡ e
  offsets_are_apart o d e a x there l m p q =
      let h = (address_is o d a x there l p).0 in
      let g = (address_is o e a x there m q).0 in
      let same : Some (At p.from) ≡ Some (At q.from) = sym p.at ∙ q.at in
      let from : p.from ≡ q.from = cc in
      omega (arith, h, g, from)

  -- of live ones, where neither address is the end of its object
  pub objects_are_apart : (o u d e a : ℕ) (x y : Object) → IsLive (objects_in s) o x → IsLive (objects_in s) u y →
      d < extent_of x → e < extent_of y → Points ps o d a → Points ps u e a → o ≡ u
  objects_are_apart o u d e a x y f g l m p q =
      let i = (address_is o d a x f.0 (omega (arith, l)) p).0 in
      let j = (address_is u e a y g.0 (omega (arith, m)) q).0 in
      r.apart o u a
      (record { x = x; from = p.from; k = d; live = f; at = p.at; within = l; is = i })
      (record { x = y; from = q.from; k = e; live = g; at = q.at; within = m; is = j })
