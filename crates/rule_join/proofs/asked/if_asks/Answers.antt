use Rattle.std.proofs.Common.{◌≡◌, ◌&&◌, length, take, ap, ◌∙◌, arith}
use Rattle.hare_types.specs.declared.row.Scalar.TheVariants as keyword
use Rattle.hare_rules.specs.Above.{hint_word}
use Rattle.hare_rules.specs.Judged.{is_type_hint}
use Rattle.rule_judge.specs.Settings.{setting_of}
use Rattle.rule_join.proofs.AskedLemmas.{second_asked}
use Rattle.rule_join.proofs.asked.if_asks.Goals as goal

pub returns-then-is_there-clause-value : goal.returns-then-is_there-clause-value
returns-then-is_there-clause-value c f l =
    let own = c.args.t.now.case.now.hint in
    let one : length (take c.args.i c.args.t.now.kids.now) ≡ 1 = omega arith in
    c.is_type_hint.ensures ∙ ap (λ b. b && is_type_hint own) c.if-is_there.ensures
    ∙ second_asked (hint_word (setting_of f c.args.t.now.decls.now) keyword.Bool) own c.args.t.now.kids.now c.args.i one

pub returns-else-is_there-clause-value : goal.returns-else-is_there-clause-value
returns-else-is_there-clause-value c f l =
    let own = c.args.t.now.case.now.hint in
    let one : length (take c.args.i c.args.t.now.kids.now) ≡ 1 = omega arith in
    c.if-is_there.false ∙ ap (λ b. b && is_type_hint own) c.if-is_there.ensures
    ∙ second_asked (hint_word (setting_of f c.args.t.now.decls.now) keyword.Bool) own c.args.t.now.kids.now c.args.i one
