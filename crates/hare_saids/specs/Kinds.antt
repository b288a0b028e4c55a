-- Which paths are named and held, by their kinds. No public clause cites this.
use Rattle.std.specs.Prelude.{Bool, true, false, not}
use Rattle.hare_tree.specs.declared.kind.Kind.{Kind}
use Rattle.hare_tree.specs.declared.kind.Kind.TheVariants as ki

abbrev pub is_path : Kind → Bool
is_path ki.TypePath = true
is_path ki.Path = true
is_path _ = false

abbrev pub is_held : Kind → Bool → Bool
is_held ki.TypePath behind = not behind
is_held ki.Path behind = true
is_held _ behind = false
