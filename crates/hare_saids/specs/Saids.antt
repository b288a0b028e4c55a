-- What all declarations of a program say of one another.
use Rattle.std.specs.Prelude.{List, length, map}
use Rattle.std.specs.List.{flat_map}
use Rattle.hare_tree.specs.declared.place.Place.{Place}
use Rattle.hare_tree.specs.declared.token.Meaning.{Meaning}
use Rattle.hare_tree.specs.declared.tree.FileTree.{FileTree}
use Rattle.hare_tree.specs.Node.{Node}
use Rattle.hare_depends.specs.declared.said.Said.{Said}
use Rattle.hare_depends.specs.Said.{said_of}

-- the declarations of files, in the order of files and source
abbrev pub decls : List FileTree → List Node
decls fs = flat_map (λ f. f.decls) fs

abbrev pub saids : List FileTree → (Place → Meaning) → List Said
saids fs means = map (said_of (length (decls fs)) means) (decls fs)
