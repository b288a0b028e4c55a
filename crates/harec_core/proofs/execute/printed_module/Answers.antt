use Rattle.std.proofs.Common.{◌≡◌, Bool, true, false, Option, Some, sym, subst, arith}
use Rattle.il_code.specs.declared.types.Module.{Module}
use Rattle.il_code.specs.Rules.{IsValid}
use Rattle.harec_core.specs.Texts.{too_large, not_printed}
use Rattle.harec_core.proofs.execute.printed_module.Goals as goal

-- two readings of one text
same_module : (o : Option Module) (m n : Module) → o ≡ Some m → o ≡ Some n → m ≡ n
same_module o m n h k = cc

-- what is true is not false
never_both : (b : Bool) → b ≡ true → b ≡ false → ⊥
never_both b t f = cc

pub returns-then-text-gt-MOST_OF_TEXT-clause-err : goal.returns-then-text-gt-MOST_OF_TEXT-clause-err
returns-then-text-gt-MOST_OF_TEXT-clause-err c = too_large (omega arith) (cc)

pub returns-in_default-clause-err : goal.returns-in_default-clause-err
returns-in_default-clause-err c =
    not_printed (omega arith) (λ m v e.
    c.in_default.not-Some m (c.in_ok-module.ensures.found m (c.law_recoverable.ensures m v) e)) (cc)

pub returns-else-valid-clause-err : goal.returns-else-valid-clause-err
returns-else-valid-clause-err c = not_printed (omega arith) (λ m v e.
    let read = c.in_ok-module.ensures.found m (c.law_recoverable.ensures m v) e in
    let same = same_module c.in_ok-module.field-0 c.in-Some.module m c.in-Some.is read in
    never_both _ (c.valid.ensures.1 (subst (λ (x : Module). IsValid x) (sym same) v)) c.if-valid.false) (cc)
