use Rattle.std.proofs.Common.{◌≢◌, refl}
use Rattle.harec_check.proofs.CountLemmas.{StopsAtFault-stands}
use Rattle.harec_core.specs.declared.answer.Answer.TheVariants.{Usage, FileFault, ReadFault, WriteFault}
use Rattle.harec_core.proofs.CausesOfAnswers.Answering.{HasRoom, answered_is, found_answers, found_file_fault, found_read_fault}
use Rattle.harec_core.proofs.CausesOfAnswers.Answering.{found_usage, write_fault_where}
use Rattle.harec_core.proofs.CausesOfAnswers.Causes.{files_of-command_for}
use Rattle.harec_core.proofs.EndsOfRuns.Leaves.{input_part}
use Rattle.harec_core.proofs.top.harec.Goals as goal

usage_differs : Usage ≢ WriteFault
usage_differs e = cc

file_fault_differs : FileFault ≢ WriteFault
file_fault_differs e = cc

read_fault_differs : ReadFault ≢ WriteFault
read_fault_differs e = cc

pub returns-in_default-clause-usage : goal.returns-in_default-clause-usage
returns-in_default-clause-usage g c =
    let answered = answered_is _ _ Usage c.report.result Usage usage_differs c.report.ensures in
    (λ e. (c.in_default.ensures.only, (answered.0 e).1), λ h. answered.1 (refl, h.1))

pub returns-in_default-clause-command : goal.returns-in_default-clause-command
returns-in_default-clause-command g c = λ command w. absurd (c.in_default.ensures.only command w)

pub returns-clause-write_fault : goal.returns-clause-write_fault
returns-clause-write_fault g c =
    let found = c.answer_to-found.ensures.cause.2 in
    let (line, is, logs) = c.tell.ensures.line found.text found.line in
    let few : HasRoom _ = record { input = c.requires.count_of_input; out = c.requires.count_of_out } in
    let all = found_answers c.law_text.ensures _ _ _ _ line (files_of-command_for c.in-Some.task.files.now c.in-Some.task.action)
    (c.units_of.ensures c.in-Some.task.files.now) few found (input_part g.I.Source.faults _ _ _ _ c.answer_to-found.ensures.unread) is in
    write_fault_where _ line _ _ _ few all logs

pub returns-clause-file_fault : goal.returns-clause-file_fault
returns-clause-file_fault g c =
    let found = c.answer_to-found.ensures.cause.2 in
    let (line, is, logs) = c.tell.ensures.line found.text found.line in
    let few : HasRoom _ = record { input = c.requires.count_of_input; out = c.requires.count_of_out } in
    let all = found_answers c.law_text.ensures _ _ _ _ line (files_of-command_for c.in-Some.task.files.now c.in-Some.task.action)
    (c.units_of.ensures c.in-Some.task.files.now) few found (input_part g.I.Source.faults _ _ _ _ c.answer_to-found.ensures.unread) is in
    let answered = answered_is line _ _ c.tell.result FileFault file_fault_differs logs in
    (λ e. (found_file_fault _ _ found.cause (answered.0 e).0, (answered.0 e).1), λ h. answered.1 (all.file_fault h.0, h.1))

pub returns-clause-read_fault : goal.returns-clause-read_fault
returns-clause-read_fault g c =
    let found = c.answer_to-found.ensures.cause.2 in
    let (line, is, logs) = c.tell.ensures.line found.text found.line in
    let few : HasRoom _ = record { input = c.requires.count_of_input; out = c.requires.count_of_out } in
    let all = found_answers c.law_text.ensures _ _ _ _ line (files_of-command_for c.in-Some.task.files.now c.in-Some.task.action)
    (c.units_of.ensures c.in-Some.task.files.now) few found (input_part g.I.Source.faults _ _ _ _ c.answer_to-found.ensures.unread) is in
    let answered = answered_is line _ _ c.tell.result ReadFault read_fault_differs logs in
    (λ e. (found_read_fault _ _ few found.cause (answered.0 e).0, (answered.0 e).1), λ h. answered.1 (all.read_fault h.0, h.1))

pub returns-clause-usage : goal.returns-clause-usage
returns-clause-usage g c =
    let found = c.answer_to-found.ensures.cause.2 in
    let (line, is, logs) = c.tell.ensures.line found.text found.line in
    let answered = answered_is line _ _ c.tell.result Usage usage_differs logs in
    (λ e. absurd (found_usage _ _ found.cause (answered.0 e).0), λ h. absurd (h.0 _ c.in-Some.ensures.found))

pub returns-clause-no_command : goal.returns-clause-no_command
returns-clause-no_command g c = λ none. absurd (none _ c.in-Some.ensures.found)

pub returns-clause-command : goal.returns-clause-command
returns-clause-command g c = λ command w.
    let found = c.answer_to-found.ensures.cause.2 in
    let (line, is, logs) = c.tell.ensures.line found.text found.line in
    let few : HasRoom _ = record { input = c.requires.count_of_input; out = c.requires.count_of_out } in
    let all = found_answers c.law_text.ensures _ _ _ _ line (files_of-command_for c.in-Some.task.files.now c.in-Some.task.action)
    (c.units_of.ensures c.in-Some.task.files.now) few found (input_part g.I.Source.faults _ _ _ _ c.answer_to-found.ensures.unread) is in
    let files = files_of-command_for c.in-Some.task.files.now c.in-Some.task.action in
    rw (← c.in-Some.ensures.only command w) (
      c.answer_to-found.ensures.cause.0,
      rw files c.answer_to-found.ensures.cause.1,
      _,
      line,
      all,
      c.answer_to-found.ensures.unread,
      c.answer_to-found.ensures.leaves,
      c.tell.ensures.leaves,
      logs,
    )

pub tell-requires-clause-brings : goal.tell-requires-clause-brings
tell-requires-clause-brings g c = let found = c.answer_to-found.ensures.cause.2 in (found.text, found.line)

pub returns-in_default-clause-last : goal.returns-in_default-clause-last
returns-in_default-clause-last g c = StopsAtFault-stands _ _ _ refl
