-- What a judge is told of the program, as its rows read it.
use Rattle.std.specs.Prelude.{List, map}
use Rattle.hare_tree.specs.declared.token.Meaning.TheVariants as means
use Rattle.hare_types.specs.Store.{Store}
use Rattle.hare_rules.specs.declared.declared.Local.{Local}
use Rattle.hare_rules.specs.declared.declared.DeclType.{DeclType}
use Rattle.hare_rules.specs.Context.{Setting, Entry, Known}

-- the meanings of paths stand in the trees
abbrev pub setting_of : Store → List DeclType → Setting
setting_of s decls = record { store = s; decls = decls; means = λ p. means.None }

-- each binding is known that a node can mean
abbrev pub entries : List Local → List Entry
entries locals = map Known locals
