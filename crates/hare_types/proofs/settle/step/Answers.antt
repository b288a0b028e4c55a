use Rattle.std.proofs.Common.{◌≡◌, ◌<◌, ◌+◌, length, map, Some, ap₂, sym, ◌∙◌, subst, arith, inl}
use Rattle.std.specs.Prelude.{slice_get, slice_index_or}
use Rattle.std.proofs.lemmas.Option.{slice_get-get_or}
use Rattle.hare_types.specs.declared.row.Row.TheVariants as row
use Rattle.hare_types.specs.declared.row.Scalar.TheVariants as keyword
use Rattle.hare_types.specs.Kept.{AreBounded, KeepsExtents, unknown}
use Rattle.hare_types.specs.Packed.{base_in}
use Rattle.hare_types.specs.Roots.{KeepsRoots}
use Rattle.hare_types.specs.Waiting.{IsFound, NoneFollows, unknowns, released}
use Rattle.hare_types.proofs.ChainLemmas.{KeepsFound-trans}
use Rattle.hare_types.proofs.FoundLemmas.{found-rooted, found-seen, found-bounded, found-fewer, found-length, found-links, found-extents, found-roots, found-none, release-settling}
use Rattle.hare_types.proofs.WaitLemmas.{AreSeen-kept, HaveRoots-kept}
use Rattle.hare_types.proofs.settle.step.Goals as goal

pub release-first-requires : goal.release-first-requires
release-first-requires c =
    let ks = c.args.kept.now.items in
    let r = slice_index_or c.args.rows.now c.args.i (row.Scalar keyword.Void) in
    let here : slice_get c.args.rows.now c.args.i ≡ Some r =
    slice_get-get_or c.args.rows.now c.args.i (row.Scalar keyword.Void) c.requires.within in
    let within : c.args.i < length ks = omega (arith, c.requires.within, c.requires.as_many) in
    let es = c.args.declared.now.entries in
    let f : IsFound es ks c.look.new.kept.items c.args.i r = c.look.ensures.found c.if-look.true r here in
    let len = found-length c.args.rows.now es ks c.look.new.kept.items c.args.i r f within c.requires.unknown in
    record {
      within = omega (arith, within, len);
      few = omega (arith, c.requires.few, c.requires.as_many, len);
      linked = (
        c.requires.lists.0,
        found-links c.args.rows.now es ks c.look.new.kept.items c.args.i r f within c.requires.unknown
            c.args.pile c.requires.lists.0 c.requires.lists.1.waiting.links,
      );
    }

pub wait-requires : goal.wait-requires
wait-requires c =
    let ks = c.args.kept.now.items in
    let r = slice_index_or c.args.rows.now c.args.i (row.Scalar keyword.Void) in
    let here : slice_get c.args.rows.now c.args.i ≡ Some r =
    slice_get-get_or c.args.rows.now c.args.i (row.Scalar keyword.Void) c.requires.within in
    let within : c.args.i < length ks = omega (arith, c.requires.within, c.requires.as_many) in
    let es = c.args.declared.now.entries in
    let f : IsFound es ks c.look.new.kept.items c.args.i r = c.look.ensures.found c.if-look.true r here in
    let len = found-length c.args.rows.now es ks c.look.new.kept.items c.args.i r f within c.requires.unknown in
    record {
      within = c.requires.within;
      few = c.requires.few;
      as_many = c.release-first.ensures.found.as_many ∙ len ∙ c.requires.as_many;
      needs = c.requires.needs;
      seen = AreSeen-kept c.args.rows.now c.look.new.kept.items c.release-first.new.kept.items c.release-first.ensures.found
          c.release-first.ensures.seen (found-seen c.args.rows.now es ks c.look.new.kept.items c.args.i r f within c.requires.unknown
          c.requires.seen);
      none = found-none c.args.rows.now es ks c.look.new.kept.items c.args.i r f within c.requires.unknown c.release-first.new.kept.items
          c.release-first.ensures.found here;
    }

pub returns-then-look : goal.returns-then-look
returns-then-look c =
    let ks = c.args.kept.now.items in
    let r = slice_index_or c.args.rows.now c.args.i (row.Scalar keyword.Void) in
    let here : slice_get c.args.rows.now c.args.i ≡ Some r =
    slice_get-get_or c.args.rows.now c.args.i (row.Scalar keyword.Void) c.requires.within in
    let within : c.args.i < length ks = omega (arith, c.requires.within, c.requires.as_many) in
    let es = c.args.declared.now.entries in
    let f : IsFound es ks c.look.new.kept.items c.args.i r = c.look.ensures.found c.if-look.true r here in
    let len = found-length c.args.rows.now es ks c.look.new.kept.items c.args.i r f within c.requires.unknown in
    let both = KeepsFound-trans c.look.new.kept.items c.release-first.new.kept.items c.wait.new.kept.items c.release-first.ensures.found
    c.wait.ensures.found in
    let fewer = found-fewer c.args.rows.now es ks c.look.new.kept.items c.args.i r f within c.requires.unknown in
    record {
      as_many = both.as_many ∙ len ∙ c.requires.as_many;
      bounded = subst AreBounded (sym both.extents)
          (found-bounded c.args.rows.now es ks c.look.new.kept.items c.args.i r f within c.requires.unknown c.requires.bounded);
      rooted = HaveRoots-kept c.look.new.kept.items c.wait.new.kept.items both
          (found-rooted c.args.rows.now es ks c.look.new.kept.items c.args.i r f within c.requires.unknown c.requires.rooted);
      seen = c.wait.ensures.seen;
      extents = λ s e g v k. subst (KeepsExtents s) (sym both.extents)
          (found-extents c.args.rows.now es ks c.look.new.kept.items c.args.i r f within c.requires.unknown s v e g here k);
      roots = λ s e g v k. subst (KeepsRoots s) (sym both.roots)
          (found-roots c.args.rows.now es ks c.look.new.kept.items c.args.i r f within c.requires.unknown s v e g here k);
      settled = λ lists h.
          let links = c.release-first.ensures.lists lists
          (found-links c.args.rows.now es ks c.look.new.kept.items c.args.i r f within c.requires.unknown c.args.pile lists
          h.waiting.links) in
          let settling = release-settling c.args.rows.now es ks c.look.new.kept.items c.args.i r f within c.requires.unknown
          c.release-first.new.kept.items c.release-first.ensures.found c.args.pile c.release-first.result lists links h in
          let w = c.wait.ensures.settled c.release-first.result (released lists c.args.i) settling in
          let same : unknowns c.wait.new.kept.items ≡ unknowns c.look.new.kept.items =
          ap₂ (λ a b. unknown a + unknown b + unknown (map base_in b)) both.extents both.roots in
          (w.0, w.1, inl (omega (arith, same, fewer)));
    }

pub wait-requires-2-clause-none : goal.wait-requires-2-clause-none
wait-requires-2-clause-none c = λ u r e.
    subst (λ ks. NoneFollows c.args.declared.now.entries ks c.args.i r) (sym (c.look.ensures.same c.if-look.false))
    (c.look.ensures.none c.if-look.false r e)
