-- What a run may have read and written by its answer.
use Rattle.std.proofs.Common.{ℕ, List, ap}
use Rattle.il_step.specs.declared.end.End.{End}
use Rattle.il_step.specs.declared.end.End.TheVariants.{Exit, Abort, Fault, StackFull, Spent, ReadFault, WriteFault, Memory}
use Rattle.harec_words.specs.Commands.{Command, Check, Emit, Run, Exec, Fmt}
use Rattle.harec_core.specs.declared.answer.Answer.{Answer}
use Rattle.harec_core.specs.declared.answer.Answer.TheVariants as answer
use Rattle.harec_core.specs.Answers.{LeavesInput, LeavesUnread, LeavesOutput}
use Rattle.harec_core.specs.Stages.{answer_of}

-- a run may have read and written whatever it answers
module _ {T : Type 0} (old new : T) where
  pub ran_unread : (e : End) → LeavesUnread (answer_of e) old new
  ran_unread (Exit status) = tt
  ran_unread Abort = tt
  ran_unread (Fault f) = tt
  ran_unread StackFull = tt
  ran_unread Spent = tt
  ran_unread ReadFault = tt
  ran_unread WriteFault = tt
  ran_unread Memory = tt

  pub run_leaves : (units : ℕ) (paths args : List (List ℕ)) (e : End) → LeavesOutput (Run units paths args) (answer_of e) old new
  run_leaves units paths args (Exit status) = tt
  run_leaves units paths args Abort = tt
  run_leaves units paths args (Fault f) = tt
  run_leaves units paths args StackFull = tt
  run_leaves units paths args Spent = tt
  run_leaves units paths args ReadFault = tt
  run_leaves units paths args WriteFault = tt
  run_leaves units paths args Memory = tt

  pub exec_leaves : (units : ℕ) (paths args : List (List ℕ)) (e : End) → LeavesOutput (Exec units paths args) (answer_of e) old new
  exec_leaves units paths args (Exit status) = tt
  exec_leaves units paths args Abort = tt
  exec_leaves units paths args (Fault f) = tt
  exec_leaves units paths args StackFull = tt
  exec_leaves units paths args Spent = tt
  exec_leaves units paths args ReadFault = tt
  exec_leaves units paths args WriteFault = tt
  exec_leaves units paths args Memory = tt

-- what is left as it was is so in each part
module _ {T U : Type 0} (part : T → U) (old new : T) where
  unread_part : (a : Answer) → LeavesUnread a old new → LeavesUnread a (part old) (part new)
  unread_part answer.Accepted h = ap part h
  unread_part (answer.Exited status) h = tt
  unread_part answer.Usage h = ap part h
  unread_part (answer.Refused f) h = ap part h
  unread_part (answer.RefusedText f) h = ap part h
  unread_part answer.FileFault h = ap part h
  unread_part (answer.Undefined act) h = tt
  unread_part answer.Memory h = tt
  unread_part answer.ReadFault h = tt
  unread_part answer.WriteFault h = tt
  unread_part answer.Spent h = tt
  unread_part answer.StackFull h = tt
  unread_part answer.Aborted h = tt

  pub input_part : (c : Command) (a : Answer) → LeavesInput c a old new → LeavesInput c a (part old) (part new)
  input_part (Check paths) a h = ap part h
  input_part (Emit paths) a h = ap part h
  input_part (Run units paths args) a h = unread_part a h
  input_part (Exec units program args) a h = unread_part a h
  input_part (Fmt file) a h = ap part h
