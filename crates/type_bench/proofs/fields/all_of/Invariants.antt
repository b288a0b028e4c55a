use Rattle.std.proofs.Common.{◌≡◌, ◌<◌, ℕ}
use Rattle.hare_types.specs.Rows.{FieldsBelow}
use Rattle.type_bench.proofs.fields.all_of.Given as goal

-- the fields so far lie in each store in which their type does, and the types of the store are as they were
abbrev pub invariant-loop-n : goal.invariant-loop-n
invariant-loop-n l = record { within : (m : ℕ) → l.ty < m → FieldsBelow m l.fields; rows : l.store.rows ≡ l.initial.store.rows }
