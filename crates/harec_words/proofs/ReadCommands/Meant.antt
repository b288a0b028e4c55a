-- What the code finds, as the table has it.
use Rattle.std.proofs.Common.{◌≡◌, ℕ, List, Option, Some, None, option_map, IfSome, MatchOption, IsNone, ◌↔◌, refl, sym, ◌∙◌}
use Rattle.harec_words.specs.declared.command.Command.{Command}
use Rattle.harec_words.specs.Commands.{IsCommand, IsNoCommand}
use Rattle.harec_words.specs.Commands as spec
use Rattle.harec_words.specs.Reading.{command_in}
use Rattle.harec_words.specs.Spans.{meant}
use Rattle.harec_words.proofs.ReadCommands.Commands.{reads, tells}
use Rattle.std.proofs.lemmas.Option.{same_Some}

pub found_is : (words : List (List ℕ)) (r : Option Command) → option_map (meant words) r ≡ command_in words →
    IfSome r (λ c. IsCommand words (meant words c))
found_is words None e = _
found_is words (Some c) e = reads words (meant words c) (sym e)

pub found_only : (words : List (List ℕ)) (r : Option Command) → option_map (meant words) r ≡ command_in words → (c : spec.Command) →
    IsCommand words c → MatchOption r ⊥ (λ found. meant words found ≡ c)
found_only words None e c h = let some = e ∙ tells words c h in absurd cc
found_only words (Some found) e c h = same_Some _ _ (e ∙ tells words c h)

pub none_is : (words : List (List ℕ)) (r : Option Command) → option_map (meant words) r ≡ command_in words → IsNone r ↔ IsNoCommand words
none_is words None e = (λ h c k. let some = e ∙ tells words c k in absurd cc, λ h. refl)
none_is words (Some found) e = (λ h. absurd cc, λ h. absurd (h (meant words found) (reads words (meant words found) (sym e))))
