use Rattle.std.proofs.Common.{◌∙◌}
use Rattle.rule_judge.specs.Settings.{setting_of}
use Rattle.rule_types.proofs.LengthLemmas.{counted_path}
use Rattle.rule_types.proofs.arrays.may_count.Goals as goal

pub returns-in-Path : goal.returns-in-Path
returns-in-Path c s = c.is_def.ensures s ∙ counted_path (setting_of s c.args.decls.now) c.args.kid.now _ _ _ c.kid.view_is c.in-Path.is
