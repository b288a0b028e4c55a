-- What becomes of what is ready as more is put there.
use Rattle.std.specs.Prelude.{◌≡◌, ℕ, true, List, Some}
use Rattle.hare_tree.specs.declared.kind.Kind.{Kind}
use Rattle.hare_tree.specs.declared.place.Place.{Place}
use Rattle.hare_tree.specs.declared.token.Meaning.{Meaning}
use Rattle.hare_tree.specs.declared.token.Meaning.TheVariants as means
use Rattle.hare_tree.specs.Node.{Head}
use Rattle.hare_types.specs.Store.{Store}
use Rattle.hare_rules.specs.declared.declared.DeclType.{DeclType}
use Rattle.hare_rules.specs.Flow.{is_path_kind}
use Rattle.hare_names.specs.Answers.{meaning_in}
use Rattle.hare_turns.specs.Stages.{known_of}
use Rattle.hare_readable.specs.Taken.{AreTaken}

-- what is ready is still what is known and defined, and all that was ready still is
pub record TakesMore (s : Store) (known old new : List DeclType) : Type 0 where
  pub taken : AreTaken s known new
  pub kept : (n : ℕ) (d : DeclType) → known_of old n ≡ Some d → known_of new n ≡ Some d

-- of the declaration that a path of this kind at this place means the two say the same
abbrev pub IsEnoughAt : List (Place × Meaning) → (known ready : List DeclType) → Kind → Place → Type 0
IsEnoughAt ns known ready k p = (n : ℕ) → is_path_kind k ≡ true → meaning_in ns p ≡ means.Decl n → known_of ready n ≡ known_of known n

abbrev pub IsEnoughHead : List (Place × Meaning) → (known ready : List DeclType) → Head → Type 0
IsEnoughHead ns known ready h = IsEnoughAt ns known ready h.kind h.place
