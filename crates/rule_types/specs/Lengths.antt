-- Which nodes may have a length.
use Rattle.std.specs.Prelude.{Bool, true}
use Rattle.hare_tree.specs.declared.kind.Kind.{Kind}
use Rattle.hare_tree.specs.declared.kind.Kind.TheVariants as ki
use Rattle.hare_typed.specs.Typed.{TypedNode, mark_of}
use Rattle.hare_rules.specs.Context.{Setting}
use Rattle.hare_rules.specs.Constants.{means_def}

-- of paths those to a def alone
abbrev pub counts : Setting → Kind → TypedNode → Bool
counts w ki.Path x = means_def w (mark_of x).meaning
counts w _ x = true
