-- Which modules have a text that shows all of the module.
use Rattle.std.specs.Prelude.{◌^◌, Bool, true, nat_lt, IsTrue}
use Rattle.std.specs.List.{list_all}
use Rattle.il_code.specs.declared.types.IlItem.{IlItem}
use Rattle.il_code.specs.declared.types.IlItem.TheVariants.{Data, Function}
use Rattle.il_code.specs.declared.types.Module.{Module}
use Rattle.il_code.specs.Shaped.{is_shaped}
use Rattle.il_code.specs.Rules.{IsValid}

-- an alignment of 32 bits
abbrev pub is_aligned : IlItem → Bool
is_aligned (Data export name align parts) = nat_lt align (2 ^ 32)
is_aligned (Function export class name params blocks) = true

-- a module that can be read back from its printed text, whether or not it keeps the rules of the language
pub record IsRecoverable (m : Module) : Type 0 where
  -- Names are identifiers, numbers have 64 bits, and strings have no quote, backslash or line feed. Widths are 1, 2, 4 or 8. An operation
  -- has as many operands as its word takes. Phis and the values of a part are some. A function has a block, and its last block has a jump.
  pub shaped : IsTrue (is_shaped m)
  pub aligned : IsTrue (list_all is_aligned m.items)

-- a valid module can be read back
abbrev pub ValidIsRecoverable : Type 0
ValidIsRecoverable = (m : Module) → IsValid m → IsRecoverable m
