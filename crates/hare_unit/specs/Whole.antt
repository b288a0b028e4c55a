-- What a whole program is: the one condition on programs that what stands on checked programs takes.
use Rattle.std.specs.Prelude.{◌≡◌, ℕ, List, map, Contains}
use Rattle.hare_tree.specs.declared.place.Place.{Place}
use Rattle.hare_tree.specs.declared.token.Meaning.{Meaning}
use Rattle.hare_tree.specs.declared.token.Meaning.TheVariants as me
use Rattle.hare_typed.specs.Typed.{TypedNode}
use Rattle.hare_typed.specs.Erased.{erase}
use Rattle.hare_names.specs.Answers.{meaning_in}
use Rattle.hare_names.specs.Bindings.{IsInScope}
use Rattle.hare_names.specs.Paths.{Path, paths_of}
use Rattle.hare_whole.specs.Listing.{Listing}
use Rattle.hare_whole.specs.Programs.{IsComplete}
use Rattle.harec_words.specs.Commands.{AreFiles}
use Rattle.hare_unit.specs.declared.checked.Checked.{Checked}
use Rattle.hare_unit.specs.Programs.{OverEnds, AreJudged}

-- where a path means a local, that is a binding of its declaration which is in scope there
abbrev pub LocalsAreBound : List TypedNode → (Place → Meaning) → Type 0
LocalsAreBound ds means =
    (d : TypedNode) (p : Path) (n : ℕ)
    → Contains ds d
    → Contains (paths_of (erase d)) p
    → means p.place ≡ me.Local n
    → IsInScope (erase d) p n

-- what the phases behind names looked at, told by the finished trees
abbrev pub listing_told : Checked → Listing
listing_told c = record { decls = map erase c.program.decls; means = meaning_in c.names }

-- A program is whole: its paths are words that name files, each local of a path is a binding in scope there, and all else holds of it that
-- `IsComplete` lists. Of its trees that is said over its own store, where nothing is asked to have a type that the store lacks: so they are
-- well typed over each store that goes on from it, too.
pub record IsWhole (c : Checked) : Type 0 where
  pub files : AreFiles c.program.paths
  pub bound : LocalsAreBound c.program.decls (meaning_in c.names)
  pub complete : IsComplete c.program.types c.program.paths c.program.decls (meaning_in c.names) c.program.entry
  pub judged : OverEnds (listing_told c) c.program.types (AreJudged (listing_told c) c.program.decls)
