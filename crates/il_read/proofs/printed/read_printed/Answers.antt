use Rattle.std.proofs.Common.{◌≡◌, ℕ, List, ◌&&◌, true, false, Some, refl, ap, ◌∙◌}
use Rattle.std.specs.List.{list_all}
use Rattle.std.proofs.lemmas.Bool.{false≢true}
use Rattle.std.proofs.lemmas.Slice.Eq.{bytes_eq-Decides}
use Rattle.il_code.specs.declared.types.Module.{Module}
use Rattle.il_code.specs.Print.{module_text}
use Rattle.il_code.specs.Shaped.{is_shaped}
use Rattle.il_read.specs.Items.{module_at}
use Rattle.il_read.specs.Recoverable.{is_aligned, IsRecoverable}
use Rattle.il_read.proofs.ItemsAgain.{no_memory, module_none, module_some, module_text-again}
use Rattle.il_read.proofs.printed.read_printed.Goals as goal

-- where nothing is read, no recoverable module was printed so
other_than_printed : (c : goal.In-Err-Fault) (m : Module) → IsRecoverable m → c.args.src.now ≡ module_text m → ⊥
other_than_printed c m h e = module_none c.args.src.now m
    (c.in-Err-Fault.ensures (no_memory c.in-Err-Fault.field-0 c.in-Err-Fault.field-0-0 c.in-Err-Fault.field-0-is)) h e

pub returns-in-Err-Fault-clause-found : goal.returns-in-Err-Fault-clause-found
returns-in-Err-Fault-clause-found c = λ m h e. absurd (other_than_printed c m h e)

pub returns-in-Err-Fault-clause-none : goal.returns-in-Err-Fault-clause-none
returns-in-Err-Fault-clause-none c = other_than_printed c

-- what is read is not recoverable, so that no recoverable module was printed so
unrecoverable : (src : List ℕ) (x m : Module) → module_at src ≡ Some x → false ≡ (is_shaped x && list_all is_aligned x.items) →
    IsRecoverable m →
    src ≡ module_text m → ⊥
unrecoverable src x m at fails h e =
    let passes : (is_shaped m && list_all is_aligned m.items) ≡ true = rw (h.shaped, h.aligned) refl in
    false≢true (fails ∙ ap (λ (z : Module). is_shaped z && list_all is_aligned z.items) (module_some src x m at h e) ∙ passes)

pub returns-then-not-is_recoverable-clause-found : goal.returns-then-not-is_recoverable-clause-found
returns-then-not-is_recoverable-clause-found c =
    λ m h e. absurd (unrecoverable c.args.src.now c.in-Ok.module m c.in-Ok.ensures c.if-not-is_recoverable.ensures h e)

pub returns-then-not-is_recoverable-clause-none : goal.returns-then-not-is_recoverable-clause-none
returns-then-not-is_recoverable-clause-none c =
    λ m h e. unrecoverable c.args.src.now c.in-Ok.module m c.in-Ok.ensures c.if-not-is_recoverable.ensures h e

pub returns-then-eq-clause-found : goal.returns-then-eq-clause-found
returns-then-eq-clause-found c = λ m h e. ap Some (module_some c.args.src.now c.in-Ok.module m c.in-Ok.ensures h e)

-- where the texts differ, no recoverable module was printed so
other_text : (c : goal.After-drop-module-else-eq) (m : Module) → IsRecoverable m → c.args.src.now ≡ module_text m → ⊥
other_text c m h e =
    let src = c.args.src.now in
    let same = c.bytes.ensures ∙ c.in_ok-text.ensures ∙ module_text-again src c.in-Ok.module m c.in-Ok.ensures h e in
    false≢true (c.if-eq.ensures ∙ (bytes_eq-Decides c.bytes.result.now src).1 same)

pub returns-else-eq-clause-found : goal.returns-else-eq-clause-found
returns-else-eq-clause-found c = λ m h e. absurd (other_text c m h e)

pub returns-else-eq-clause-none : goal.returns-else-eq-clause-none
returns-else-eq-clause-none c = other_text c
