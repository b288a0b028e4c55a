use Rattle.std.proofs.Common.{◌≡◌, take}
use Rattle.std.specs.Prelude.{sum_by}
use Rattle.hx_base.specs.Runtime.{argument_size}
use Rattle.il_load.proofs.arguments.bytes_of.Given as goal

-- the bytes of those before
abbrev pub invariant-loop-argument : goal.invariant-loop-argument
invariant-loop-argument l = l.bytes ≡ sum_by argument_size (take l.argument-index l.arguments)
