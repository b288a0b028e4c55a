use Rattle.std.proofs.Common.{sym}
use Rattle.hare_blocks.proofs.ReadStatements.Sources.{no_tokens, no_program, same_program, other_program}
use Rattle.hare_blocks.proofs.file.read.Goals as goal

pub returns-in_default-clause-ok : goal.returns-in_default-clause-ok
returns-in_default-clause-ok c = no_tokens c.args.src.now (rw c.in_default.is at c.in_ok-found.ensures.whole)

pub returns-in_default-clause-only : goal.returns-in_default-clause-only
returns-in_default-clause-only c = no_tokens c.args.src.now (rw c.in_default.is at c.in_ok-found.ensures.whole)

pub returns-in_default-2-clause-ok : goal.returns-in_default-2-clause-ok
returns-in_default-2-clause-ok c = no_program c.args.src.now c.as_slice.result.now
    (rw (sym c.as_slice.ensures.value) at (rw c.in-Some.is at c.in_ok-found.ensures.whole))
    (rw c.in_default-2.is at c.in_ok-program.ensures.whole)

pub returns-in_default-2-clause-only : goal.returns-in_default-2-clause-only
returns-in_default-2-clause-only c = no_program c.args.src.now c.as_slice.result.now
    (rw (sym c.as_slice.ensures.value) at (rw c.in-Some.is at c.in_ok-found.ensures.whole))
    (rw c.in_default-2.is at c.in_ok-program.ensures.whole)

pub returns-then-not-branch-clause-ok : goal.returns-then-not-branch-clause-ok
returns-then-not-branch-clause-ok c = other_program c.args.src.now c.as_slice.result.now
    (rw (sym c.as_slice.ensures.value) at (rw c.in-Some.is at c.in_ok-found.ensures.whole)) c.in-Some-2.program
    (rw c.in-Some-2.is at c.in_ok-program.ensures.whole) (λ h. let k = c.in_ok-is_of_class.ensures.1 h in cc)

pub returns-then-not-branch-clause-only : goal.returns-then-not-branch-clause-only
returns-then-not-branch-clause-only c = other_program c.args.src.now c.as_slice.result.now
    (rw (sym c.as_slice.ensures.value) at (rw c.in-Some.is at c.in_ok-found.ensures.whole)) c.in-Some-2.program
    (rw c.in-Some-2.is at c.in_ok-program.ensures.whole) (λ h. let k = c.in_ok-is_of_class.ensures.1 h in cc)

pub returns-clause-only : goal.returns-clause-only
returns-clause-only c = same_program c.args.src.now c.as_slice.result.now
    (rw (sym c.as_slice.ensures.value) at (rw c.in-Some.is at c.in_ok-found.ensures.whole)) c.in-Some-2.program
    (rw c.in-Some-2.is at c.in_ok-program.ensures.whole)
