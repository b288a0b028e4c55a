use Rattle.il_mem.proofs.PageWrites.{parts_read}
use Rattle.il_mem.proofs.pages.Pages.read.Goals as goal

pub returns : goal.returns
returns c = λ m holds.
    let s = c.split_at_mut-front in
    parts_read m c.args.at c.in_page-first.result _ s.result.0.now s.result.1.now _ _ (c.get.ensures m holds)
    (c.get-2.ensures m holds) s.ensures.front_len s.ensures.back_len
