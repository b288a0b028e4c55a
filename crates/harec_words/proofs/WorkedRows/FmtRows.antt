-- Rows of `fmt`.
use Rattle.std.proofs.Common.{refl}
use Rattle.harec_words.proofs.WorkedRows.Worked.{LaysOut, Is, is, IsNone, none}

fmt_one : Is "fmt x.ha" (LaysOut "x.ha")
fmt_one = is refl

fmt_directory : Is "fmt a/b/x.ha" (LaysOut "a/b/x.ha")
fmt_directory = is refl

fmt_dotted : Is "fmt ./a/x.ha" (LaysOut "./a/x.ha")
fmt_dotted = is refl

fmt_dashed : Is "fmt --.ha" (LaysOut "--.ha")
fmt_dashed = is refl

fmt_name : Is "fmt fmt.ha" (LaysOut "fmt.ha")
fmt_name = is refl

no_alone : IsNone "fmt"
no_alone = none refl

no_two : IsNone "fmt x.ha y.ha"
no_two = none refl

no_arguments : IsNone "fmt x.ha -- a"
no_arguments = none refl

no_dashes : IsNone "fmt x.ha --"
no_dashes = none refl

no_units : IsNone "fmt --units 5 x.ha"
no_units = none refl

no_other_end : IsNone "fmt x.txt"
no_other_end = none refl

no_keyword : IsNone "fmt for/x.ha"
no_keyword = none refl

no_absolute : IsNone "fmt /x.ha"
no_absolute = none refl

no_parent : IsNone "fmt ../x.ha"
no_parent = none refl

no_longer_name : IsNone "fmts x.ha"
no_longer_name = none refl

no_empty : IsNone "fmt "
no_empty = none refl
