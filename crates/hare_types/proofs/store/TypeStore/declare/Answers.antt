use Rattle.std.proofs.Common.{rules, ◌≡◌, Option, Some, None, refl, ◌∙◌}
use Rattle.std.specs.Prelude.{nat_eq, option_map}
use Rattle.std.specs.Map.{lookup}
use Rattle.indexmap.proofs.CallerLemmas.{insert_entry-new}
use Rattle.hare_types.specs.declared.declared.Declared.{Declared}
use Rattle.hare_types.proofs.DefinitionLemmas.{declared-definition}
use Rattle.hare_types.specs.Waiting.{nowhere, extents, roots}
use Rattle.hare_types.proofs.KeptLemmas.{KeepsExtents-defined}
use Rattle.hare_types.proofs.RootLemmas.{KeepsRoots-defined}
use Rattle.hare_types.proofs.MeaningLemmas.{AreSettling-declared}
use Rattle.hare_types.proofs.SoundLemmas.{IsStore-declared}
use Rattle.hare_types.proofs.LaterLemmas.{later_grown}
use Rattle.hare_types.proofs.store.TypeStore.declare.Goals as goal

-- an entry of which no size is known is none
no_entry : (o : Option Declared) → option_map (λ e. e.sized) o ≡ None → o ≡ None
no_entry None e = refl
no_entry (Some x) e = absurd cc

fresh : (c : goal.In_ok-insert) → lookup (nat_eq c.args.decl) c.self.inside.declared.entries ≡ None
fresh c = no_entry _ (rw (← c.self.view_is) at c.requires)

pub invariant_of-self-2 : goal.invariant_of-self-2
invariant_of-self-2 c =
    let es = c.self.inside.declared.entries in
    let new = c.insert.new.self.entries in
    let ks = c.self.inside.kept.items in
    let same = declared-definition es new c.args.decl _ refl (fresh c) c.in_ok-insert.ensures.updates.0 in
    record {
      kept = record {
        store = IsStore-declared _ new c.args.decl _ c.self.invariant.kept.store refl (fresh c) c.in_ok-insert.ensures.updates.0;
        extents = KeepsExtents-defined _ new (extents ks) (λ d t e. same d ∙ e) c.self.invariant.kept.extents;
        roots = KeepsRoots-defined _ new (roots ks) (λ d t e. same d ∙ e) c.self.invariant.kept.roots;
        rooted = c.self.invariant.kept.rooted;
        seen = c.self.invariant.kept.seen;
        lists = c.self.invariant.kept.lists;
        settled = AreSettling-declared c.self.inside.rows.keys es new ks nowhere c.self.invariant.kept.lists same
            c.self.invariant.kept.settled;
      };
      fields = c.self.invariant.fields;
    }

pub returns-clause-ok : goal.returns-clause-ok
returns-clause-ok c =
    let e = insert_entry-new nat_eq c.self.inside.declared c.args.decl (record { sized = c.args.sized; definition = None }) (fresh c) in
    rw (← c.self.view_is, c.in_ok-insert.ensures.entries, e) refl

pub returns-clause-later : goal.returns-clause-later
returns-clause-later c = later_grown _ _ (search rules) (invariant_of-self-2 c).kept.store
