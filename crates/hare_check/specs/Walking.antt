-- What the checker relies on of what it knows, as it goes over a body.
use Rattle.std.specs.Prelude.{◌≡◌, ℕ, nat_eq, List, ◌∷◌, find, reverse, Some}
use Rattle.hare_tree.specs.declared.place.Place.{Place}
use Rattle.hare_tree.specs.declared.token.Meaning.{Meaning}
use Rattle.hare_types.specs.Store.{Store}
use Rattle.hare_names.specs.Answers.{meaning_in}
use Rattle.hare_rules.specs.declared.declared.Local.{Local}
use Rattle.hare_rules.specs.declared.declared.DeclType.{DeclType}
use Rattle.hare_rules.specs.Context.{Setting}
use Rattle.hare_rules.specs.Flow.{Flow}
use Rattle.hare_told.specs.Told.{AreToldEntries}
use Rattle.rule_judge.specs.Meant.{IsKnownKind}
use Rattle.hare_walk.specs.Spots.{Spot}
use Rattle.hare_above.specs.Ready.{IsReady, IsKnown}
use Rattle.hare_above.specs.Stands.{Stands}
use Rattle.hare_find.specs.Defined.{AreDefinedLocals, AreDefinedYielded}
use Rattle.hare_check.specs.Spotted.{AreSpotted}

-- the program over a store: what is known of its declarations, and what its paths mean
abbrev pub program_over : List (Place × Meaning) → List DeclType → Store → Setting
program_over ns ds s = record { store = s; decls = ds; means = meaning_in ns }

-- of each declared type its name is defined, and of any other declaration the type of its value
abbrev pub AreKnownDecls : Store → List DeclType → Type 0
AreKnownDecls s ds = (n : ℕ) (d : DeclType) → find (λ e. nat_eq e.decl n) ds ≡ Some d → IsKnownKind s n d d.kind

-- Each type that stands over the tree at hand or was seen before it is in the store, and mentions no name that is not defined; judges are
-- told of what has been seen; and what was yielded may go where the walk stands.
pub record IsWalking (s : Store) (ps : List Spot) (ds : List DeclType) (st : Stands) (f : Flow) (told : List Local) (begun : List ℕ) :
    Type 0 where
  pub standing : IsReady s st
  pub known : IsKnown s ds
  pub decls : AreKnownDecls s ds
  pub entries : AreToldEntries f.locals told
  pub locals : AreDefinedLocals s told
  pub yields : AreDefinedYielded s f.yields
  pub spots : AreSpotted s ps (st.above ∷ st.outer) (reverse begun) f.yields
