use Rattle.std.proofs.Common.{rules, Some, nat_eq, refl, sym, ◌∙◌}
use Rattle.std.proofs.lemmas.Option.{IfSome_then}
use Rattle.std.proofs.lemmas.List.{length-map}
use Rattle.indexmap.specs.IndexMap.{Updates}
use Rattle.hare_types.specs.declared.declared.Declared.{Declared}
use Rattle.hare_types.specs.Waiting.{extents, roots}
use Rattle.hare_types.proofs.KeptLemmas.{KeepsExtents-defined}
use Rattle.hare_types.proofs.RootLemmas.{KeepsRoots-defined}
use Rattle.hare_types.proofs.MeaningLemmas.{AreSettling-defined, needs-within}
use Rattle.hare_types.proofs.SoundLemmas.{IsStore-define, definitions-kept, definitions-there}
use Rattle.hare_types.proofs.LaterLemmas.{later_grown}
use Rattle.hare_types.proofs.store.TypeStore.define.Goals as goal

pub invariant_of-self : goal.invariant_of-self
invariant_of-self c =
    let es = c.self.inside.declared.entries in
    let new = c.set_definition.new.declared.entries in
    let ks = c.self.inside.kept.items in
    let declared = rw (← c.self.view_is) at c.requires.declared in
    let fresh = rw (← c.self.view_is) at c.requires.fresh in
    let sized = rw (← c.self.view_is) at c.requires.sized in
    let within = rw (← c.self.view_is) at c.requires.within in
    let finite = rw (← c.self.view_is) at c.requires.finite in
    let put = IfSome_then _ c.set_definition.ensures
    (λ (e : Declared) (h : Updates nat_eq c.self.inside.declared c.set_definition.new.declared c.args.decl
    (Some (record e { definition = Some c.args.t }))). h.0) in
    let store = IsStore-define _ new c.args.decl c.args.t c.self.invariant.kept.store declared fresh sized within finite put in
    let still = definitions-kept es new c.args.decl c.args.t declared fresh put in
    record {
      kept = record {
        store = store;
        extents = c.settle.ensures.extents _ refl refl store (KeepsExtents-defined _ new (extents ks) still c.self.invariant.kept.extents);
        roots = c.settle.ensures.roots _ refl refl store (KeepsRoots-defined _ new (roots ks) still c.self.invariant.kept.roots);
        rooted = c.settle.ensures.rooted;
        seen = c.settle.ensures.seen;
        lists = c.settle.ensures.settled.0;
        settled = c.settle.ensures.settled.1;
      };
      fields = c.self.invariant.fields;
    }

pub settle-requires : goal.settle-requires
settle-requires c =
    let es = c.self.inside.declared.entries in
    let new = c.set_definition.new.declared.entries in
    let ks = c.self.inside.kept.items in
    let declared = rw (← c.self.view_is) at c.requires.declared in
    let fresh = rw (← c.self.view_is) at c.requires.fresh in
    let sized = rw (← c.self.view_is) at c.requires.sized in
    let within = rw (← c.self.view_is) at c.requires.within in
    let finite = rw (← c.self.view_is) at c.requires.finite in
    let put = IfSome_then _ c.set_definition.ensures
    (λ (e : Declared) (h : Updates nat_eq c.self.inside.declared c.set_definition.new.declared c.args.decl
    (Some (record e { definition = Some c.args.t }))). h.0) in
    let store = IsStore-define _ new c.args.decl c.args.t c.self.invariant.kept.store declared fresh sized within finite put in
    record {
      once = c.self.invariant.kept.store.rows_sound.once;
      few = c.self.invariant.kept.store.rows_few;
      as_many = sym (length-map ks (λ k. k.extent)) ∙ c.self.invariant.kept.extents.as_many;
      bounded = c.self.invariant.kept.extents.bounded;
      rooted = c.self.invariant.kept.rooted;
      needs = needs-within _ store;
      seen = c.self.invariant.kept.seen;
      lists = (
        c.self.invariant.kept.lists,
        AreSettling-defined _ ks c.args.decl new c.self.invariant.kept.lists c.self.invariant.kept.store
            c.self.invariant.kept.extents fresh (definitions-there es new c.args.decl c.args.t declared put) c.self.invariant.kept.settled,
      );
    }

pub returns-clause-later : goal.returns-clause-later
returns-clause-later c = later_grown _ _ (search rules) (invariant_of-self c).kept.store
