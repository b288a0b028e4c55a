use Rattle.std.proofs.Common.{refl}
use Rattle.harec_core.proofs.top.answer_to.Goals as goal

pub lay_out-requires-clause-one : goal.lay_out-requires-clause-one
lay_out-requires-clause-one g c = rw c.in-Layout.is at c.requires.files

pub returns-in-Layout-clause-cause : goal.returns-in-Layout-clause-cause
returns-in-Layout-clause-cause g c =
    let (srcs, told, found) = c.lay_out.ensures.cause in
    rw c.in-Layout.is (srcs, told, found _ _ _ c.requires.empty refl)

pub returns-in-Layout-clause-unread : goal.returns-in-Layout-clause-unread
returns-in-Layout-clause-unread g c = rw c.in-Layout.is refl

pub returns-in-Layout-clause-leaves : goal.returns-in-Layout-clause-leaves
returns-in-Layout-clause-leaves g c = rw c.in-Layout.is c.lay_out.ensures.leaves

pub execute-requires-clause-one : goal.execute-requires-clause-one
execute-requires-clause-one g c = rw c.in-Text.is at c.requires.files

pub execute-requires-clause-few : goal.execute-requires-clause-few
execute-requires-clause-few g c = rw c.in-Text.is at c.requires.few

pub returns-in-Text-clause-cause : goal.returns-in-Text-clause-cause
returns-in-Text-clause-cause g c = rw c.in-Text.is c.execute.ensures.cause

pub returns-in-Text-clause-unread : goal.returns-in-Text-clause-unread
returns-in-Text-clause-unread g c = rw c.in-Text.is c.execute.ensures.unread

pub returns-in-Text-clause-leaves : goal.returns-in-Text-clause-leaves
returns-in-Text-clause-leaves g c = rw c.in-Text.is c.execute.ensures.leaves

pub checked-requires-clause-files : goal.checked-requires-clause-files
checked-requires-clause-files g c = rw c.in-Program.is at c.requires.files

pub checked-requires-clause-few : goal.checked-requires-clause-few
checked-requires-clause-few g c = rw c.in-Program.is at c.requires.few

pub returns-in-Program-clause-cause : goal.returns-in-Program-clause-cause
returns-in-Program-clause-cause g c = rw c.in-Program.is c.checked.ensures.cause

pub returns-in-Program-clause-unread : goal.returns-in-Program-clause-unread
returns-in-Program-clause-unread g c = rw c.in-Program.is c.checked.ensures.unread

pub returns-in-Program-clause-leaves : goal.returns-in-Program-clause-leaves
returns-in-Program-clause-leaves g c = rw c.in-Program.is c.checked.ensures.leaves
