use Rattle.std.proofs.Common.{Some, ap, ◌∙◌}
use Rattle.hare_known.proofs.OneMore.WrittenTypes.{written-first}
use Rattle.hare_known.proofs.define.define_written.Goals as goal

pub returns-clause-ok : goal.returns-clause-ok
returns-clause-ok c = record {
  later = c.define.ensures.later;
  declared = c.define.ensures.sized;
  sound = c.define.ensures.later.sound;
  defined = c.define.ensures.entered ∙ ap Some (written-first c.args.types.now c.in_ok-t.t c.in_ok-t.ensures);
  others = c.define.ensures.others;
}
