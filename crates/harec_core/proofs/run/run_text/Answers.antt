use Rattle.std.proofs.Common.{◌≡◌, Option, Some}
use Rattle.il_code.specs.declared.types.Module.{Module}
use Rattle.harec_core.proofs.run.run_text.Goals as goal

-- two readings of one text
same_module : (o : Option Module) (m n : Module) → o ≡ Some m → o ≡ Some n → m ≡ n
same_module o m n h k = cc

pub run_module-requires-clause-valid : goal.run_module-requires-clause-valid
run_module-requires-clause-valid g c =
    let (source, m, text) = c.requires.text in
    let read = c.in_ok-module.ensures.found m (c.law_recoverable.ensures m text.made.valid) text.printed in
    rw (same_module c.in_ok-module.field-0 c.in-Some.module m c.in-Some.is read) text.made.valid

pub returns-clause-ran : goal.returns-clause-ran
returns-clause-ran g c = λ source m text.
    let read = c.in_ok-module.ensures.found m (c.law_recoverable.ensures m text.made.valid) text.printed in
    let same = same_module c.in_ok-module.field-0 c.in-Some.module m c.in-Some.is read in
    rw same at c.run_module.ensures.ran
