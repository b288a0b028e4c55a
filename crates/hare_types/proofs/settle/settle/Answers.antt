use Rattle.std.proofs.Common.{◌≡◌, ◌≢◌, ℕ, Some, sym, subst}
use Rattle.std.specs.Prelude.{slice_get}
use Rattle.std.proofs.lemmas.List.{map-id}
use Rattle.hare_types.specs.declared.row.Row.TheVariants as row
use Rattle.hare_types.specs.Keys.{row_eq}
use Rattle.hare_types.specs.KeyLaws.{row_eq-Decides}
use Rattle.hare_types.specs.Waiting.{nowhere, AreSettlingBut}
use Rattle.hare_types.proofs.NumberingLemmas.{position_found, position_absent}
use Rattle.hare_types.proofs.WaitLemmas.{name-settling, nameless-settling}
use Rattle.hare_types.proofs.settle.settle.Goals as goal

pub settle_from-requires-clause-unknown : goal.settle_from-requires-clause-unknown
settle_from-requires-clause-unknown c =
    let rows = c.args.rows.now.keys in
    let found = position_found (λ r. r) (row.Named c.args.decl) (row_eq (row.Named c.args.decl)) (row_eq-Decides (row.Named c.args.decl))
    rows c.in-Some.place c.in-Some.ensures.index in
    let here : slice_get rows c.in-Some.place ≡ Some (row.Named c.args.decl) = simp map-id at found in
    (c.requires.lists.1.out c.in-Some.place here).0

pub settle_from-requires-clause-lists : goal.settle_from-requires-clause-lists
settle_from-requires-clause-lists c =
    let rows = c.args.rows.now.keys in
    let found = position_found (λ r. r) (row.Named c.args.decl) (row_eq (row.Named c.args.decl)) (row_eq-Decides (row.Named c.args.decl))
    rows c.in-Some.place c.in-Some.ensures.index in
    let here : slice_get rows c.in-Some.place ≡ Some (row.Named c.args.decl) = simp map-id at found in (
      c.requires.lists.0,
      subst (λ l. AreSettlingBut c.in-Some.place l c.args.declared.now.entries c.args.kept.now.items nowhere c.requires.lists.0)
          (sym c.as_slice.ensures.keys)
          (name-settling c.args.decl rows c.requires.once c.args.declared.now.entries c.args.kept.now.items c.requires.lists.0
          c.in-Some.place here c.requires.lists.1),
    )

pub returns-clause-settled : goal.returns-clause-settled
returns-clause-settled c =
    let rows = c.args.rows.now.keys in
    let absent = position_absent (λ r. r) (row.Named c.args.decl) (row_eq (row.Named c.args.decl)) (row_eq-Decides (row.Named c.args.decl))
    rows c.in-None.ensures.index in
    let nowhere : (m : ℕ) → slice_get rows m ≢ Some (row.Named c.args.decl) = simp map-id at absent in (
      c.requires.lists.0,
      nameless-settling c.args.decl rows c.args.declared.now.entries c.args.kept.now.items c.requires.lists.0 nowhere
          c.requires.lists.1,
    )
