-- What holds of all texts: each is that of one module at most.
use Rattle.std.specs.Prelude.{◌≡◌, ℕ, List}
use Rattle.il_code.specs.declared.types.Module.{Module}
use Rattle.il_code.specs.Print.{module_text}
use Rattle.il_code.specs.Grammar.{Spells}
use Rattle.il_code.specs.Rules.{IsValid}

-- two modules that one text spells are the same, whether they are valid or not
abbrev pub TextsSpellOne : Type 0
TextsSpellOne = (text : List ℕ) (m n : Module) → Spells text m → Spells text n → m ≡ n

-- two valid modules that are printed alike are the same
abbrev pub PrintIsInjective : Type 0
PrintIsInjective = (m n : Module) → IsValid m → IsValid n → module_text m ≡ module_text n → m ≡ n
