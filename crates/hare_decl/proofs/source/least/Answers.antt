use Rattle.hare_decl.proofs.OneAnswer.Least.{least_of_syntax, least_behind_file, least_behind_front}
use Rattle.hare_decl.proofs.source.least.Goals as goal

pub returns-in-Ok-Faulty : goal.returns-in-Ok-Faulty
returns-in-Ok-Faulty c =
    least_of_syntax c.args.file c.args.kept c.drop_last.new.self c.args.lexical c.fault_at.result c.in-Ok-Faulty.field-0
    c.in-Ok-Faulty.number c.in-Ok-Faulty.n c.drop_last.ensures c.in-Ok-Faulty.ensures.value c.in-Ok-Faulty.field-0-is c.fault_at.ensures

pub returns-in-Ok-Whole : goal.returns-in-Ok-Whole
returns-in-Ok-Whole c =
    least_behind_file c.args.file c.args.kept c.drop_last.new.self c.args.lexical c.in-Ok-Whole.field-0 c.in-Ok-Whole.field-0-0
    c.drop_last.ensures c.in-Ok-Whole.ensures.value c.in-Ok-Whole.field-0-is

pub returns-in-Ok-Cut : goal.returns-in-Ok-Cut
returns-in-Ok-Cut c =
    least_behind_front c.args.file c.args.kept c.drop_last.new.self c.args.lexical c.in-Ok-Cut.field-0 c.drop_last.ensures
    c.in-Ok-Cut.ensures.value c.in-Ok-Cut.field-0-is
