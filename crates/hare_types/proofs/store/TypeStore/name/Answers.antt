use Rattle.std.proofs.Common.{◌≡◌, ℕ, ◌≤◌, nat_eq, List, [], length, length-append, Vec, Global, map, refl, ap, sym, ◌∙◌, ◌++◌, arith}
use Rattle.std.specs.Bool.{Decides}
use Rattle.std.specs.Cmp.{unsigned_Decides}
use Rattle.std.specs.Cmp.Lexicographic.{pointwise, pointwise_decides}
use Rattle.std.proofs.lemmas.List.{append-nil, length-map}
use Rattle.hare_types.specs.Numbering.{IsNumbered, IsOnce}
use Rattle.hare_types.proofs.NumberingLemmas.{numbered, once_more}
use Rattle.hare_types.proofs.InternLemmas.{Continues-grows}
use Rattle.hare_types.proofs.SoundLemmas.{IsStore-names}
use Rattle.hare_types.specs.Waiting.{extents, roots}
use Rattle.hare_types.proofs.KeptLemmas.{KeepsExtents-same}
use Rattle.hare_types.proofs.RootLemmas.{KeepsRoots-same}
use Rattle.hare_types.proofs.LaterLemmas.{later_grown}
use Rattle.hare_types.proofs.store.TypeStore.name.Goals as goal

-- the new key is the spelling
owned : (c : goal.In_ok-n) → c.extend_from_slice.new.self.items ≡ c.args.spelling.now
owned c = c.in_ok-extend_from_slice.ensures.items ∙ ap (λ l. l ++ c.args.spelling.now) c.new-owned.ensures.items

spelled : (x : List ℕ) (k v : Vec ℕ Global) → k.items ≡ x → Decides (pointwise nat_eq k.items v.items) (x ≡ v.items)
spelled x k v e = rw (← e) (pointwise_decides unsigned_Decides k.items v.items)

name_numbered : (c : goal.In_ok-n) → IsNumbered (map (λ (v : Vec ℕ Global). v.items) c.self.inside.names.keys)
    (map (λ (v : Vec ℕ Global). v.items) c.number.new.set.keys) c.args.spelling.now c.in_ok-n.n
name_numbered c =
    numbered (λ v. v.items) c.args.spelling.now (λ v. pointwise nat_eq c.extend_from_slice.new.self.items v.items)
    (λ v. spelled c.args.spelling.now c.extend_from_slice.new.self v (owned c))
    c.self.inside.names.keys c.number.new.set.keys c.extend_from_slice.new.self (owned c) c.in_ok-n.n c.in_ok-n.ensures.place
    c.in_ok-n.ensures.kept c.in_ok-n.ensures.added c.self.invariant.kept.store.names_once

name_once : (c : goal.In_ok-n) → IsOnce (map (λ (v : Vec ℕ Global). v.items) c.number.new.set.keys)
name_once c =
    once_more (λ v. v.items) c.args.spelling.now (λ v. pointwise nat_eq c.extend_from_slice.new.self.items v.items)
    (λ v. spelled c.args.spelling.now c.extend_from_slice.new.self v (owned c))
    c.self.inside.names.keys c.number.new.set.keys c.extend_from_slice.new.self (owned c) c.in_ok-n.n c.in_ok-n.ensures.place
    c.in_ok-n.ensures.kept c.in_ok-n.ensures.added c.self.invariant.kept.store.names_once

longer : (c : goal.In_ok-n) → length (map (λ (v : Vec ℕ Global). v.items) c.self.inside.names.keys) ≤ length
    (map (λ (v : Vec ℕ Global). v.items) c.number.new.set.keys)
longer c =
    let old = map (λ (v : Vec ℕ Global). v.items) c.self.inside.names.keys in
    let more = Continues-grows old (map (λ (v : Vec ℕ Global). v.items) c.number.new.set.keys) c.args.spelling.now
    (name_numbered c).grows in
    omega (arith, ap length more.1, length-append old more.0)

pub invariant_of-self-2 : goal.invariant_of-self-2
invariant_of-self-2 c = record {
  kept = record {
    store = IsStore-names _ (map (λ (v : Vec ℕ Global). v.items) c.number.new.set.keys) c.self.invariant.kept.store (name_once c)
        (rw length-map c.number.ensures.few) (longer c);
    extents = KeepsExtents-same _ _ (extents c.self.inside.kept.items) refl refl c.self.invariant.kept.extents;
    roots = KeepsRoots-same _ _ (roots c.self.inside.kept.items) refl refl c.self.invariant.kept.roots;
    rooted = c.self.invariant.kept.rooted;
    seen = c.self.invariant.kept.seen;
    lists = c.self.invariant.kept.lists;
    settled = c.self.invariant.kept.settled;
  };
  fields = c.self.invariant.fields;
}

pub returns-clause-numbered : goal.returns-clause-numbered
returns-clause-numbered c = rw (← c.self.view_is) (name_numbered c)

pub returns-clause-grows : goal.returns-clause-grows
returns-clause-grows c =
    let more = Continues-grows (map (λ (v : Vec ℕ Global). v.items) c.self.inside.names.keys)
    (map (λ (v : Vec ℕ Global). v.items) c.number.new.set.keys) c.args.spelling.now (name_numbered c).grows in
    rw (← c.self.view_is) (record {
      names = more;
      rows = ([], sym (append-nil _));
      listed = ([], sym (append-nil _));
      sized =
          λ d b e. e;
      defined = λ d t e. e;
    })

pub returns-clause-later : goal.returns-clause-later
returns-clause-later c = later_grown _ _ (returns-clause-grows c) (invariant_of-self-2 c).kept.store
