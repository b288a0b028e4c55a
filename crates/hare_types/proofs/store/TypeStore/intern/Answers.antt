use Rattle.std.proofs.Common.{◌≡◌, ℕ, ◌≤◌, List, length, Some, refl, ap, sym, ◌∙◌, subst, arith, [], map}
use Rattle.std.specs.Prelude.{slice_get, option_and_then}
use Rattle.std.proofs.lemmas.List.{append-nil, length-map}
use Rattle.hare_types.specs.declared.lists.Field.{Field}
use Rattle.hare_types.specs.Trees.{Tree}
use Rattle.hare_types.specs.KeyLaws.{row_eq-Decides}
use Rattle.hare_types.specs.Keys.{row_eq}
use Rattle.hare_types.specs.Numbering.{IsNumbered, IsOnce}
use Rattle.hare_types.specs.Rows.{IsWithin, IsReduced, NamesBelow, trees}
use Rattle.hare_types.specs.Store.{Store}
use Rattle.hare_types.specs.Waiting.{AreKept, IsTakenIn}
use Rattle.indexmap.specs.IndexMap.{spare}
use Rattle.hare_types.specs.ByIds.{fields_in, field_in}
use Rattle.hare_types.specs.Fields.{place_of, KeepsFields}
use Rattle.hare_types.proofs.EnterLemmas.{taken_in}
use Rattle.hare_types.proofs.FieldLemmas.{row_behind, none_behind, KeepsFields-taken}
use Rattle.hare_types.proofs.NumberingLemmas.{plain_numbered, plain_once}
use Rattle.hare_types.proofs.InternLemmas.{stands_new, once_new, kept_new, Continues-grows}
use Rattle.hare_types.proofs.IdLemmas.{id_tells}
use Rattle.hare_types.proofs.FollowLemmas.{row-continued}
use Rattle.hare_types.proofs.LaterLemmas.{later_grown}
use Rattle.hare_types.proofs.store.TypeStore.intern.Goals as goal

-- the store as it was
abbrev before : (c : goal.After-at) → Store
before c = record {
  names = map (λ v. v.items) c.self.inside.names.keys;
  rows = c.self.inside.rows.keys;
  declared =
      c.self.inside.declared.entries;
  listed = c.self.inside.listed.keys;
}

numbered : (c : goal.After-at) → IsNumbered c.self.inside.rows.keys c.number.new.set.keys c.args.r c.in_ok-place.place
numbered c = plain_numbered row_eq row_eq-Decides _ _ _ _ c.in_ok-place.ensures.place c.in_ok-place.ensures.kept c.in_ok-place.ensures.added
    c.self.invariant.kept.store.rows_sound.once

once : (c : goal.After-at) → IsOnce c.number.new.set.keys
once c = plain_once row_eq row_eq-Decides _ _ _ _ c.in_ok-place.ensures.place c.in_ok-place.ensures.kept c.in_ok-place.ensures.added
    c.self.invariant.kept.store.rows_sound.once

within : (c : goal.After-at) → IsWithin (length c.self.inside.rows.keys) c.args.r
within c = rw (← c.self.view_is) at c.requires.within

-- as many names are spelled as there are
spelled : {A B : Type 0} (g : A → B) (keys : List A) (n : ℕ) (fs : List Field) → n ≡ length keys → NamesBelow n fs →
    NamesBelow (length (map g keys)) fs
spelled g keys n fs many below f m = omega (arith, below f m, many, length-map keys g)

names : (c : goal.After-at) → NamesBelow (length (before c).names) (fields_in c.args.r)
names c = spelled (λ v. v.items) c.self.inside.names.keys c.len.result (fields_in c.args.r) c.len.ensures.len
    (c.are_named.ensures c.if-not-are_named.false)

reduced : (c : goal.After-at) → IsReduced c.self.inside.rows.keys c.args.r
reduced c = rw (← c.self.view_is) at c.requires.reduced

kept : (c : goal.After-at) (i : ℕ) (u : Tree) → slice_get (trees c.self.inside.rows.keys) i ≡ Some u →
    slice_get (trees c.number.new.set.keys) i ≡ Some u
kept c = kept_new c.self.inside.rows.keys c.args.r c.self.invariant.kept.store.rows_sound (within c) (reduced c) _ _ (numbered c) (once c)

-- the fields that were entered before
kept_fields : (c : goal.After-at) → KeepsFields c.self.inside.rows.keys c.reserve_fields.new.places.entries
kept_fields c = subst (KeepsFields c.self.inside.rows.keys) (sym c.reserve_fields.ensures.same) c.self.invariant.fields

-- the fields of a row that was taken in
own_fields : (c : goal.After-at) (name : ℕ) → place_of c.enter_if_new.new.places.entries c.len-here.result name ≡ option_and_then
    (field_in name) (slice_get c.number.new.set.keys c.len-here.result)
own_fields c name =
    c.enter_if_new.ensures.here name ∙ ap (λ l. option_and_then (field_in name) (slice_get l c.len-here.result)) c.as_slice-2.ensures.keys

pub enter_if_new-requires-clause-room : goal.enter_if_new-requires-clause-room
enter_if_new-requires-clause-room c =
    let numbered : IsNumbered c.self.inside.rows.keys c.number.new.set.keys c.args.r c.in_ok-place.place =
    plain_numbered row_eq row_eq-Decides _ _ _ _ c.in_ok-place.ensures.place c.in_ok-place.ensures.kept c.in_ok-place.ensures.added
    c.self.invariant.kept.store.rows_sound.once in
    let room : length (fields_in c.args.r) ≤ spare c.reserve_fields.new.places = c.in_ok-reserve_fields.ensures.room in
    λ q e.
    let same : q ≡ c.args.r = row_behind c.self.inside.rows.keys c.number.new.set.keys c.args.r c.len-here.result c.len-here.ensures.len
    numbered.grows q (ap (λ l. slice_get l c.len-here.result) (sym c.as_slice-2.ensures.keys) ∙ e) in
    subst (λ x. length (fields_in x) ≤ spare c.reserve_fields.new.places) (sym same) room

pub enter_if_new-requires-clause-none : goal.enter_if_new-requires-clause-none
enter_if_new-requires-clause-none c =
    none_behind c.self.inside.rows.keys c.len-here.result c.len-here.ensures.len c.reserve_fields.new.places.entries
    (subst (KeepsFields c.self.inside.rows.keys) (sym c.reserve_fields.ensures.same) c.self.invariant.fields)

pub keep_if_new-requires-clause-few : goal.keep_if_new-requires-clause-few
keep_if_new-requires-clause-few c = rw c.as_slice.ensures.keys c.number.ensures.few

pub keep_if_new-requires-clause-taken : goal.keep_if_new-requires-clause-taken
keep_if_new-requires-clause-taken c =
    let s : Store = record {
      names = map (λ v. v.items) c.self.inside.names.keys;
      rows = c.self.inside.rows.keys;
      declared =
          c.self.inside.declared.entries;
      listed = c.self.inside.listed.keys;
    } in
    let new = c.number.new.set.keys in
    let v : AreKept s c.self.inside.kept.items = c.self.invariant.kept in
    let numbered : IsNumbered s.rows new c.args.r c.in_ok-place.place =
    plain_numbered row_eq row_eq-Decides _ _ _ _ c.in_ok-place.ensures.place c.in_ok-place.ensures.kept c.in_ok-place.ensures.added
    v.store.rows_sound.once in
    let once : IsOnce new = plain_once row_eq row_eq-Decides _ _ _ _ c.in_ok-place.ensures.place c.in_ok-place.ensures.kept
    c.in_ok-place.ensures.added v.store.rows_sound.once in
    let within : IsWithin (length s.rows) c.args.r = rw (← c.self.view_is) at c.requires.within in
    let reduced : IsReduced s.rows c.args.r = rw (← c.self.view_is) at c.requires.reduced in
    let names : NamesBelow (length s.names) (fields_in c.args.r) =
    spelled (λ v. v.items) c.self.inside.names.keys c.len.result (fields_in c.args.r) c.len.ensures.len
    (c.are_named.ensures c.if-not-are_named.false) in
    let taken : IsTakenIn s c.reserve.new.self.items c.args.r new =
    taken_in s _ _ c.args.r new _ v c.reserve.ensures.items within reduced names numbered once c.number.ensures.few in
    (s, c.args.r, refl, c.len-here.ensures.len, subst (IsTakenIn s c.reserve.new.self.items c.args.r) (sym c.as_slice.ensures.keys) taken)

pub invariant_of-self-2 : goal.invariant_of-self-2
invariant_of-self-2 c =
    let s = before c in
    let es = c.enter_if_new.new.places.entries in
    let fields : KeepsFields c.number.new.set.keys es =
    KeepsFields-taken c.self.inside.rows.keys c.number.new.set.keys c.args.r c.len-here.result c.len-here.ensures.len (numbered c).grows
    c.reserve_fields.new.places.entries es (kept_fields c) (own_fields c) c.enter_if_new.ensures.there in
    let taken : IsTakenIn s c.reserve.new.self.items c.args.r c.number.new.set.keys =
    taken_in s _ _ c.args.r _ _ c.self.invariant.kept c.reserve.ensures.items (within c) (reduced c) (names c) (numbered c) (once c)
    c.number.ensures.few in
    record {
      kept =
          subst (λ l. AreKept (record s { rows = l }) c.keep_if_new.new.kept.items) c.as_slice.ensures.keys
          (c.keep_if_new.ensures.kept s c.args.r refl c.len-here.ensures.len
          (subst (IsTakenIn s c.reserve.new.self.items c.args.r) (sym c.as_slice.ensures.keys) taken));
      fields = fields;
    }

pub returns-clause-numbered : goal.returns-clause-numbered
returns-clause-numbered c = rw (← c.self.view_is, c.at.ensures) (numbered c)

pub returns-clause-stands : goal.returns-clause-stands
returns-clause-stands c = rw (← c.self.view_is, c.at.ensures)
    (stands_new c.self.inside.rows.keys c.args.r c.self.invariant.kept.store.rows_sound (within c) (reduced c) _ _ (numbered c) (once c))

pub returns-clause-once : goal.returns-clause-once
returns-clause-once c = λ i u e h.
    rw c.at.ensures (once_new c.self.inside.rows.keys c.args.r c.self.invariant.kept.store.rows_sound (within c) (reduced c) _ _
    (numbered c) (once c) i u e (rw (← c.self.view_is) at h))

pub returns-clause-kept : goal.returns-clause-kept
returns-clause-kept c = λ i u e. kept c i u (rw (← c.self.view_is) at e)

pub returns-clause-grows : goal.returns-clause-grows
returns-clause-grows c =
    let more = Continues-grows c.self.inside.rows.keys c.number.new.set.keys c.args.r (numbered c).grows in
    rw (← c.self.view_is) (record {
      names = ([], sym (append-nil _));
      rows = more;
      listed = ([], sym (append-nil _));
      sized =
          λ d b e. e;
      defined = λ d t e. e;
    })

pub returns-clause-later : goal.returns-clause-later
returns-clause-later c = later_grown _ _ (returns-clause-grows c) (invariant_of-self-2 c).kept.store

pub returns-clause-id : goal.returns-clause-id
returns-clause-id c = λ later l.
    let now : Store = record (before c) { rows = c.number.new.set.keys } in
    let here : slice_get c.number.new.set.keys c.at.result ≡ Some c.args.r = rw c.at.ensures (numbered c).stands in
    (id_tells later l.sound c.args.r c.at.result).1 (row-continued now later l.grows.rows c.at.result c.args.r here)
