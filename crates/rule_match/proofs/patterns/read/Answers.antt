use Rattle.rule_match.proofs.PatternLemmas.{read_let, read_other}
use Rattle.rule_match.proofs.patterns.read.Goals as goal

pub returns-in-PatternLet : goal.returns-in-PatternLet
returns-in-PatternLet c = read_let _ _ c.tree.inside.kids c.args.tree.now c.tree.view_is c.in-PatternLet.is _ _ c.type_at.ensures
    c.of_type.ensures

pub returns-in_default : goal.returns-in_default
returns-in_default c =
    read_other _ _ c.tree.inside.kids c.args.tree.now c.tree.view_is _ c.of_type-in_default.ensures c.in_default.not-None
    c.in_default.not-PatternNull c.in_default.not-PatternLet
