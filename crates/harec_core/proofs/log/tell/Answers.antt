use Rattle.std.proofs.Common.{refl}
use Rattle.std.proofs.lemmas.Option.{slice_get_read}
use Rattle.harec_core.proofs.log.tell.Goals as goal

pub returns-in-Ok-clause-line : goal.returns-in-Ok-clause-line
returns-in-Ok-clause-line g c = λ abort h. rw c.in-Ok.is (c.tell_done.ensures.line abort (rw c.in-Ok.is at h))

pub returns-in-Err-Refused-clause-line : goal.returns-in-Err-Refused-clause-line
returns-in-Err-Refused-clause-line g c = λ abort h.
    let line = rw (c.in-Err-Refused.is, c.in-Err-Refused.field-0-is) at h in
    rw (c.in-Err-Refused.is, c.in-Err-Refused.field-0-is) (_, line, rw c.bytes.ensures at c.report.ensures)

pub returns-in-Err-Unread-clause-line : goal.returns-in-Err-Unread-clause-line
returns-in-Err-Unread-clause-line g c = λ abort h.
    let within = rw (c.in-Err-Unread.is, c.in-Err-Unread.field-0-is) at h in
    let word = slice_get_read c.args.paths.now _ _ _ refl within c.index-paths-number.is in
    rw (c.in-Err-Unread.is, c.in-Err-Unread.field-0-is) (
      _,
      record { number = c.in-Err-Unread.number; path = c.index-paths-number.result; word = word; text = refl },
      rw c.bytes-in-Err-Unread.ensures at c.report_unread.ensures,
    )

pub returns-in-Err-Memory-clause-line : goal.returns-in-Err-Memory-clause-line
returns-in-Err-Memory-clause-line g c = λ abort h.
    rw (c.in-Err-Memory.is, c.in-Err-Memory.field-0-is) (_, refl, c.report-in-Err-Memory.ensures)

pub bounds-paths-number : goal.bounds-paths-number
bounds-paths-number g c = rw (c.in-Err-Unread.is, c.in-Err-Unread.field-0-is) at c.requires.brings.1
