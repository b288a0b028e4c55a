-- Breaks by themselves.
use Rattle.std.specs.Prelude.{Bool, cond, List, ℕ}
use Rattle.hare_tree.specs.declared.kind.Kind.{Kind}
use Rattle.hare_rules.specs.Control.{is_break_of, is_break_out}

-- a node of this kind and text is a `break` that means the loop with this name
abbrev pub is_break : List ℕ → Bool → Kind → List ℕ → Bool
is_break name is_nearest k text = cond is_nearest (is_break_of name k text) (is_break_out name k text)
