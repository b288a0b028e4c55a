-- What is known of a program while the types that are written in its declarations are judged.
use Rattle.std.specs.Prelude.{◌≡◌, ℕ, nat_eq, List, find, Some}
use Rattle.hare_tree.specs.declared.kind.Kind.TheVariants as ki
use Rattle.hare_tree.specs.declared.place.Place.{Place}
use Rattle.hare_tree.specs.declared.token.Meaning.{Meaning}
use Rattle.hare_types.specs.Store.{Store}
use Rattle.hare_names.specs.Answers.{meaning_in}
use Rattle.hare_rules.specs.declared.declared.DeclType.{DeclType}
use Rattle.hare_rules.specs.Context.{Setting}
use Rattle.rule_judge.specs.Defined.{IsDefined}
use Rattle.hare_written.specs.declared.env.Env.{Env}

-- the program over a store: what is known of its declarations, and what its paths mean
abbrev pub program_over : List (Place × Meaning) → List DeclType → Store → Setting
program_over ns ds s = record { store = s; decls = ds; means = meaning_in ns }

-- the type of each def that is known mentions no name that is not defined
abbrev pub AreDefsDefined : Store → List DeclType → Type 0
AreDefsDefined s ds = (n : ℕ) (d : DeclType) → find (λ e. nat_eq e.decl n) ds ≡ Some d → d.kind ≡ ki.Def → IsDefined s d.ty

abbrev pub program_of : Env → Store → Setting
program_of e = program_over e.names.now e.decls.now
