-- Lines of the log, worked out.
use Rattle.std.proofs.Common.{ℕ, List, [], ◌∷◌, codes, refl}
use Rattle.std.specs.Fmt.{digits}
use Rattle.il_code.specs.declared.types.MachineFault.TheVariants.{Wild}
use Rattle.hare_tree.specs.declared.place.Fault.{Fault}
use Rattle.harec_core.specs.declared.answer.Answer.TheVariants.{Exited, Refused, RefusedText, FileFault, Undefined, Aborted}
use Rattle.harec_core.specs.declared.answer.Undef.TheVariants.{Il}
use Rattle.harec_core.specs.Answers.{not_built}
use Rattle.harec_core.specs.Layouts.{too_large_fault}
use Rattle.harec_core.specs.Log.{IsLine}
use Rattle.harec_core.specs.Texts.{at_start}

-- ---- lines

abbrev files : List (List ℕ)
files = codes "a.ha" ∷ codes "lib/b.ha" ∷ []

not_built_line : IsLine files 0 [] (Refused not_built) (codes "a.ha:1:1: E49 NotBuilt\n")
unfolding digits
not_built_line = record { path = codes "a.ha"; word = refl; text = refl }

too_large_line : IsLine files 0 [] (Refused too_large_fault) (codes "a.ha:1:1: E1 FileTooLarge\n")
unfolding digits
too_large_line = record { path = codes "a.ha"; word = refl; text = refl }

abbrev fault : Fault
fault = record { number = 25; place = record { file = 1; line = 2; column = 13 } }

refused_line : IsLine files 0 [] (Refused fault) (codes "lib/b.ha:2:13: E25 NotAssignable\n")
unfolding digits
refused_line = record { path = codes "lib/b.ha"; word = refl; text = refl }

file_fault_line : IsLine files 7 [] FileFault (codes "lib/b.ha: file fault\n")
file_fault_line = record { number = 1; path = codes "lib/b.ha"; word = refl; text = refl }

wild_line : IsLine files 1000 [] (Undefined (Il Wild)) (codes "harec: undefined Wild\n")
wild_line = refl

exit_line : IsLine files 1000 [] (Exited 64) []
exit_line = refl

-- the text of an abort is its line
abort_line : IsLine files 1000 (codes "a.ha:7:8: abort 8") Aborted (codes "a.ha:7:8: abort 8\n")
abort_line = refl

no_abort_text : IsLine files 1000 [] Aborted (codes "\n")
no_abort_text = refl

abbrev text : List (List ℕ)
text = codes "x.ssa" ∷ []

not_printed_line : IsLine text 1000 [] (RefusedText (at_start 13)) (codes "x.ssa:1:1: I13 NotPrinted\n")
unfolding digits
not_printed_line = record { path = codes "x.ssa"; word = refl; text = refl }

too_large_text_line : IsLine text 1000 [] (RefusedText (at_start 1)) (codes "x.ssa:1:1: I1 TooLarge\n")
unfolding digits
too_large_text_line = record { path = codes "x.ssa"; word = refl; text = refl }
