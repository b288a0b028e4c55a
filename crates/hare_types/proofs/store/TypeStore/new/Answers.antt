use Rattle.std.proofs.Common.{[], rules, ap}
use Rattle.hare_types.specs.Waiting.{extents, roots}
use Rattle.hare_types.proofs.KeptLemmas.{KeepsExtents-empty}
use Rattle.hare_types.proofs.RootLemmas.{KeepsRoots-empty}
use Rattle.hare_types.proofs.EnterLemmas.{AreSettling-empty, HaveRoots-empty, AreSeen-empty}
use Rattle.hare_types.proofs.FieldLemmas.{KeepsFields-empty}
use Rattle.hare_types.proofs.store.TypeStore.new.Goals as goal

pub invariant_of-result : goal.invariant_of-result
invariant_of-result c = record {
  kept = record {
    store = search rules;
    extents = KeepsExtents-empty _ (extents c.new-5.result.items) c.with_hasher.ensures.empty (ap extents c.new-5.ensures.items);
    roots = KeepsRoots-empty _ (roots c.new-5.result.items) c.with_hasher.ensures.empty (ap roots c.new-5.ensures.items);
    rooted = HaveRoots-empty c.new-5.result.items c.new-5.ensures.items;
    seen = AreSeen-empty c.with_hasher.result.keys c.new-5.result.items c.with_hasher.ensures.empty;
    lists = λ n. [];
    settled = AreSettling-empty c.with_hasher.result.keys c.new-3.result.entries c.new-5.result.items c.with_hasher.ensures.empty
        c.new-5.ensures.items;
  };
  fields = KeepsFields-empty c.with_hasher.result.keys c.new-6.result.entries c.with_hasher.ensures.empty c.new-6.ensures.empty;
}
