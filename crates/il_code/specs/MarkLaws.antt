-- What the marks of a module say about the rules.
use Rattle.std.specs.Prelude.{ℕ, List, [], ◌∷◌, Bool, true, false, ◌↔◌, IsTrue}
use Rattle.std.specs.List.{list_all, list_any}
use Rattle.il_code.specs.declared.types.Module.{Module}
use Rattle.il_code.specs.Grammar.{Spells}
use Rattle.il_code.specs.Rules.{IsLawful, IsValidText, is_main, item_is_small, is_small}
use Rattle.il_code.specs.Loose.{LooseItem, loose, settled}
use Rattle.il_code.specs.Marks.{Numbers, marks}
use Rattle.il_code.specs.Faults.{BrokenRule, LacksMain}

-- no rule is broken at the token
abbrev pub is_clean : Numbers → Bool
is_clean [] = true
is_clean (n ∷ ns) = false

-- no token is marked, there is a function `$main`, and the numbers are in their ranges
pub record IsFaultless (items : List LooseItem) : Type 0 where
  pub unmarked : IsTrue (list_all is_clean (marks items))
  pub main : IsTrue (list_any is_main (settled items))
  pub numbers : IsTrue (list_all item_is_small (settled items))
  pub small : IsTrue (is_small (settled items))

-- a module is faultless, as it is read, exactly where it breaks no rule
abbrev pub MarksAreTheRules : Type 0
MarksAreTheRules = (m : Module) → IsFaultless (loose m.items) ↔ IsLawful m.items

-- the text spells the module, nowhere in it a rule is broken, and the numbers are in their ranges
pub record IsFaultlessText (text : List ℕ) (m : Module) : Type 0 where
  pub spells : Spells text m
  pub unbroken : (number : ℕ) (here : List ℕ) → ¬ (BrokenRule text (loose m.items) number here)
  pub main : (number : ℕ) (here : List ℕ) → ¬ (LacksMain (loose m.items) number here)
  pub numbers : IsTrue (list_all item_is_small m.items)
  pub small : IsTrue (is_small m.items)

-- a text of a module is valid exactly where no fault of validity stands in it
abbrev pub FaultsAreTheRules : Type 0
FaultsAreTheRules = (text : List ℕ) (m : Module) → IsFaultlessText text m ↔ IsValidText text m
