-- The rows that are asked here are the table's.
use Rattle.std.specs.Prelude.{◌≡◌, true, refl}
use Rattle.hare_tree.specs.declared.kind.Kind.{Kind}
use Rattle.hare_tree.specs.declared.kind.Kind.TheVariants as ki
use Rattle.hare_rules.specs.Table.{rows_of}
use Rattle.rule_judge.specs.Asked.{are_asked}
use Rattle.rule_ops.specs.Kinds.{is_operator, is_operator_row}

-- by kinds: each list is made of rows that are asked here, and ends in the two that all kinds share
pub rows_asked : (k : Kind) → is_operator k ≡ true → are_asked is_operator_row (rows_of k) ≡ true
rows_asked ki.Number e = refl
rows_asked ki.Str e = refl
rows_asked ki.RuneLit e = refl
rows_asked ki.Bool e = refl
rows_asked ki.Null e = refl
rows_asked ki.Void e = refl
rows_asked ki.Neg e = refl
rows_asked ki.Not e = refl
rows_asked ki.Bang e = refl
rows_asked ki.Arith e = refl
rows_asked ki.Shift e = refl
rows_asked ki.Less e = refl
rows_asked ki.Equal e = refl
rows_asked ki.Logic e = refl
rows_asked ki.OpAssign e = refl
rows_asked ki.Cast e = refl
rows_asked ki.Size e = refl
rows_asked ki.Align e = refl
rows_asked ki.Paren e = refl
rows_asked _ e = absurd cc
