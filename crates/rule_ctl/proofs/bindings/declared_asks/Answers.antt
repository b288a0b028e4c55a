use Rattle.std.proofs.Common.{◌≡◌, ◌≤◌, ◌<◌, length, take, ap, sym, ◌∙◌, is_some, arith}
use Rattle.hare_rules.specs.Words.{id_in}
use Rattle.rule_ctl.proofs.DeclarationLemmas.{early_asked, unwritten_asked, written_asked}
use Rattle.rule_ctl.proofs.bindings.declared_asks.Goals as goal

pub returns-then-kids_before-lt3 : goal.returns-then-kids_before-lt3
returns-then-kids_before-lt3 c f =
    let few : length (take c.args.i c.args.t.now.kids.now) < 3 = omega arith in
    early_asked c.args.t.now.kids.now c.args.i few

pub returns-then-not-is_there : goal.returns-then-not-is_there
returns-then-not-is_there c f =
    let many : 3 ≤ length (take c.args.i c.args.t.now.kids.now) = omega arith in
    unwritten_asked c.args.t.now.kids.now c.args.i many (sym c.is_there.ensures ∙ c.if-not-is_there.true)

pub returns : goal.returns
returns c f =
    let many : 3 ≤ length (take c.args.i c.args.t.now.kids.now) = omega arith in
    c.is_some.ensures ∙ ap is_some (c.id_in.ensures ∙ ap id_in c.own.ensures.value)
    ∙ written_asked c.args.t.now.kids.now c.args.i many (sym c.is_there.ensures ∙ c.if-not-is_there.false)
