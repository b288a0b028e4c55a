-- A type has one base and one extent, and what is known of layout stays known as the store grows.
use Rattle.std.proofs.Common.{◌≡◌, ℕ, ◌+◌, List, [], Option, Some, sym, ◌∙◌, subst, arith}
use Rattle.hare_types.specs.declared.extent.Extent.{Extent}
use Rattle.hare_types.specs.Trees.{Tree, Trees, Union, none, more}
use Rattle.hare_types.specs.Store.{Store, definition_of, meaning_of, Extends}
use Rattle.hare_types.specs.Kept.{LiesIn}
use Rattle.hare_types.specs.Layout.{following, base_with, IsBase, extent_with, HasExtent, HaveExtents}
use Rattle.hare_types.specs.ByIds.{bytes_over}
use Rattle.hare_types.specs.Later.{IsLater}
use Rattle.hare_types.proofs.CallerLemmas.{tree_at-Extends}
use Rattle.hare_types.proofs.FollowLemmas.{found-more}
use Rattle.hare_types.proofs.GrowthLemmas.{Knows, base_with-more, extent_with-more, following-further, IsBase-Extends, HasExtent-Extends}
use Rattle.hare_types.proofs.IdLemmas.{bytes_over-grows}
use Rattle.hare_layout.specs.Small.{IsSmall}
use Rattle.hare_layout.specs.Members.{IsUnion, HoldsMembers}
use Rattle.hare_layout.specs.Offsets.{HasField, StartsAt}
use Rattle.hare_layout.specs.Growth.{LayoutStays}

-- ---- one base and one extent

-- one thing follows for a type, however many names are followed
one_followed : {A : Type 0} (f : (ℕ → Option A) → Tree → Option A) → ((old new : ℕ → Option A) → Knows old new → Knows (f old) (f new))
    → (m : ℕ → Option Tree) (t : Tree) (a b : A) → (n : ℕ) × (following f m n t ≡ Some a) → (n : ℕ) × (following f m n t ≡ Some b) → a ≡ b
one_followed f grows m t a b h k =
    let swap : k.0 + h.0 ≡ h.0 + k.0 = omega arith in
    let first = following-further f grows m h.0 k.0 t a h.1 in
    let second = subst (λ n. following f m n t ≡ Some b) swap (following-further f grows m k.0 h.0 t b k.1) in
    let both : Some a ≡ Some b = sym first ∙ second in
    cc

pub one_base : (s : Store) (t a b : Tree) → IsBase s t a → IsBase s t b → a ≡ b
one_base s t a b h k = one_followed base_with base_with-more (meaning_of s) t a b h k

pub one_extent : (s : Store) (t : Tree) (x y : Extent) → HasExtent s t x → HasExtent s t y → x ≡ y
one_extent s t x y h k = one_followed extent_with extent_with-more (meaning_of s) t x y h k

-- ---- growth

module _ (old new : Store) (grows : Extends old new) where
  LiesIn-Extends : (t : ℕ) (x : Extent) → LiesIn old t x → LiesIn new t x
  LiesIn-Extends t x h = (h.0, tree_at-Extends old new grows t h.0 h.1, HasExtent-Extends old new grows h.0 x h.2)

  HaveExtents-Extends : (ts : Trees) (xs : List Extent) → HaveExtents old ts xs → HaveExtents new ts xs
  HaveExtents-Extends none xs h = h
  HaveExtents-Extends (more t ts) xs h = (h.0, h.1, h.2, HasExtent-Extends old new grows t h.0 h.3, HaveExtents-Extends ts h.1 h.4)

  HasField-Extends : (t k : ℕ) → HasField old t k → HasField new t k
  HasField-Extends t k h = (h.0, h.1, h.2, tree_at-Extends old new grows t h.0 h.3, IsBase-Extends old new grows h.0 h.1 h.4, h.5, h.6)

  StartsAt-Extends : (t k o : ℕ) → StartsAt old t k o → StartsAt new t k o
  StartsAt-Extends t k o h = (
    h.0,
    h.1,
    h.2,
    h.3,
    tree_at-Extends old new grows t h.0 h.4,
    IsBase-Extends old new grows h.0 h.1 h.5,
    h.6,
    HaveExtents-Extends h.2 h.3 h.7,
    h.8,
  )

  IsUnion-Extends : (t : ℕ) → IsUnion old t → IsUnion new t
  IsUnion-Extends t h = (h.0, tree_at-Extends old new grows t (Union h.0) h.1)

  HoldsMembers-Extends : (a b : ℕ) → HoldsMembers old a b → HoldsMembers new a b
  HoldsMembers-Extends a b h =
      (h.0, h.1, tree_at-Extends old new grows a (Union h.0) h.2, tree_at-Extends old new grows b (Union h.1) h.3, h.4)

small_stays : (now later : Store) → IsLater now later → (t : ℕ) → IsSmall now t → IsSmall later t
small_stays now later l t h = record {
  extent = h.extent;
  at = found-more now later l.grows.rows (bytes_over (definition_of now)) (bytes_over (definition_of later))
      (bytes_over-grows (definition_of now) (definition_of later) l.grows.defined) t h.extent h.at;
  few = h.few;
}

pub layout_stays : LayoutStays
layout_stays now later l = record {
  small = small_stays now later l;
  extent = LiesIn-Extends (record now { listed = [] }) later l.grows;
  field = HasField-Extends (record now { listed = [] }) later l.grows;
  start = StartsAt-Extends (record now { listed = [] }) later l.grows;
  union = IsUnion-Extends (record now { listed = [] }) later l.grows;
  members = HoldsMembers-Extends (record now { listed = [] }) later l.grows;
}
