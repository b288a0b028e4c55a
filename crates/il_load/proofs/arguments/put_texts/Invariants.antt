use Rattle.std.proofs.Common.{◌≡◌, ◌+◌, take}
use Rattle.std.specs.Prelude.{sum_by}
use Rattle.hx_base.specs.Memory.{Memory}
use Rattle.hx_base.specs.Runtime.{argument_size, write_arguments}
use Rattle.il_load.specs.Puts.{IsReady, Stands}
use Rattle.il_load.proofs.arguments.put_texts.Given as goal

-- the texts before have been put, and all texts are mapped
abbrev pub invariant-loop-argument : goal.invariant-loop-argument
invariant-loop-argument l =
    (l.at ≡ l.texts + sum_by argument_size (take l.argument-index l.arguments)) × (l.memory.ranges ≡ l.initial.memory.ranges)
    × (IsReady l.memory (l.texts + sum_by argument_size l.arguments) (sum_by argument_size l.arguments))
    × ((m : Memory) → Stands l.initial.memory m → Stands l.memory (write_arguments m l.texts (take l.argument-index l.arguments)))
