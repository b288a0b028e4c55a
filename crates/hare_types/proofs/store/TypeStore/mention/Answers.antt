use Rattle.std.proofs.Common.{refl, sym, nat_eq, []}
use Rattle.std.specs.Cmp.{unsigned_Decides}
use Rattle.std.proofs.lemmas.List.{append-nil}
use Rattle.hare_types.specs.Numbering.{IsNumbered, IsOnce}
use Rattle.hare_types.proofs.NumberingLemmas.{plain_numbered, plain_once}
use Rattle.hare_types.proofs.InternLemmas.{Continues-grows}
use Rattle.hare_types.proofs.SoundLemmas.{IsStore-listed}
use Rattle.hare_types.specs.Waiting.{extents, roots}
use Rattle.hare_types.proofs.KeptLemmas.{KeepsExtents-same}
use Rattle.hare_types.proofs.RootLemmas.{KeepsRoots-same}
use Rattle.hare_types.proofs.LaterLemmas.{later_grown}
use Rattle.hare_types.proofs.IdLemmas.{tag_tells}
use Rattle.hare_types.proofs.store.TypeStore.mention.Goals as goal

numbered : (c : goal.In_ok-place) → IsNumbered c.self.inside.listed.keys c.number.new.set.keys c.args.t c.in_ok-place.place
numbered c = plain_numbered nat_eq unsigned_Decides _ _ _ _ c.in_ok-place.ensures.place c.in_ok-place.ensures.kept
    c.in_ok-place.ensures.added c.self.invariant.kept.store.listed_once

once : (c : goal.In_ok-place) → IsOnce c.number.new.set.keys
once c = plain_once nat_eq unsigned_Decides _ _ _ _ c.in_ok-place.ensures.place c.in_ok-place.ensures.kept c.in_ok-place.ensures.added
    c.self.invariant.kept.store.listed_once

pub invariant_of-self-2 : goal.invariant_of-self-2
invariant_of-self-2 c = record {
  kept = record {
    store = IsStore-listed _ c.number.new.set.keys c.self.invariant.kept.store (once c) c.number.ensures.few;
    extents = KeepsExtents-same _ _ (extents c.self.inside.kept.items) refl refl c.self.invariant.kept.extents;
    roots = KeepsRoots-same _ _ (roots c.self.inside.kept.items) refl refl c.self.invariant.kept.roots;
    rooted = c.self.invariant.kept.rooted;
    seen = c.self.invariant.kept.seen;
    lists = c.self.invariant.kept.lists;
    settled = c.self.invariant.kept.settled;
  };
  fields = c.self.invariant.fields;
}

pub returns-clause-tag : goal.returns-clause-tag
returns-clause-tag c = (tag_tells _ (invariant_of-self-2 c).kept.store c.args.t _).1 (c.in_ok-place.place, refl, (numbered c).stands)

pub returns-clause-numbered : goal.returns-clause-numbered
returns-clause-numbered c = (c.in_ok-place.place, refl, rw (← c.self.view_is) (numbered c))

pub returns-clause-grows : goal.returns-clause-grows
returns-clause-grows c =
    let more = Continues-grows c.self.inside.listed.keys c.number.new.set.keys c.args.t (numbered c).grows in
    rw (← c.self.view_is) (record {
      names = ([], sym (append-nil _));
      rows = ([], sym (append-nil _));
      listed = more;
      sized =
          λ d b e. e;
      defined = λ d t e. e;
    })

pub returns-clause-later : goal.returns-clause-later
returns-clause-later c = later_grown _ _ (returns-clause-grows c) (invariant_of-self-2 c).kept.store
