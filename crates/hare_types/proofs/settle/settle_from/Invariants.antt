use Rattle.std.proofs.Common.{◌≡◌, ◌+◌, ◌*◌, ℕ, List, length}
use Rattle.hare_types.specs.Sound.{IsStore}
use Rattle.hare_types.specs.Store.{Store}
use Rattle.hare_types.specs.Kept.{AreBounded, KeepsExtents}
use Rattle.hare_types.specs.Roots.{KeepsRoots}
use Rattle.hare_types.specs.Waiting.{extents, roots, HaveRoots, AreSeen, AreSettling, unknowns, steps}
use Rattle.hare_types.proofs.settle.settle_from.Given as goal

abbrev pub invariant-loop-pile : goal.invariant-loop-pile
invariant-loop-pile l =
    record {
      as_many : length l.kept.items ≡ length l.rows;
      bounded : AreBounded (extents l.kept.items);
      rooted : HaveRoots l.kept.items;
      seen : AreSeen l.rows l.kept.items;
      extents : (s : Store) → s.rows ≡ l.rows → s.declared ≡ l.declared.entries → IsStore s → KeepsExtents s (extents l.fn.kept.items) →
          KeepsExtents s (extents l.kept.items);
      roots : (s : Store) → s.rows ≡ l.rows → s.declared ≡ l.declared.entries → IsStore s → KeepsRoots s (roots l.fn.kept.items) →
          KeepsRoots s (roots l.kept.items);
      lists : (lists : ℕ → List ℕ) × AreSettling l.rows l.declared.entries l.kept.items l.pile lists;
    }

abbrev pub decreases-loop-pile : goal.decreases-loop-pile
decreases-loop-pile l = unknowns l.kept.items * (length l.rows + 1) + steps l.kept.items (length l.rows) l.pile
