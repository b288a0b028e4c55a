-- What is told of the sizes of nodes. No public clause cites this.
use Rattle.std.specs.Prelude.{ℕ, Bool, true, false}
use Rattle.hare_tree.specs.declared.kind.Kind.{Kind}
use Rattle.hare_tree.specs.declared.kind.Kind.TheVariants as kind

-- The greatest size that is told: it stands for all above 2^40.
abbrev pub most_of_size : ℕ
most_of_size = 1099511627777

-- the mark of a binding says that it is by reference
abbrev pub is_reference : Kind → Bool
is_reference kind.ByRef = true
is_reference _ = false
