-- Of what is known of declarations that part of which all types are defined. Values are judged by it.
use Rattle.std.specs.Prelude.{◌≡◌, ℕ, true, List, Some, Contains}
use Rattle.hare_tree.specs.declared.place.Place.{Place}
use Rattle.hare_tree.specs.declared.token.Meaning.{Meaning}
use Rattle.hare_tree.specs.declared.token.Meaning.TheVariants as means
use Rattle.hare_tree.specs.Node.{Head, Node}
use Rattle.hare_types.specs.Store.{Store}
use Rattle.hare_typed.specs.Erased.{heads}
use Rattle.hare_rules.specs.declared.declared.DeclType.{DeclType}
use Rattle.hare_rules.specs.Flow.{is_path_kind}
use Rattle.hare_names.specs.Answers.{meaning_in}
use Rattle.hare_ready.specs.Ready.{AreReady}
use Rattle.hare_turns.specs.Stages.{known_of}

-- all types of what is ready are defined, and it is what is known
pub record AreTaken (s : Store) (known taken : List DeclType) : Type 0 where
  pub ready : AreReady s taken
  pub same : (n : ℕ) (d : DeclType) → known_of taken n ≡ Some d → known_of known n ≡ Some d

-- of each declaration that a path in the tree means the two say the same
abbrev pub AreEnough : List (Place × Meaning) → (known ready : List DeclType) → Node → Type 0
AreEnough ns known ready t =
    (h : Head) (n : ℕ) → Contains (heads t) h → is_path_kind h.kind ≡ true → meaning_in ns h.place ≡ means.Decl n →
    known_of ready n ≡ known_of known n
