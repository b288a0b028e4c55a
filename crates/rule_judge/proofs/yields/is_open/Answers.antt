use Rattle.std.proofs.Common.{◌<◌, not, length, sym, ap, ◌∙◌, subst, arith}
use Rattle.hare_rules.specs.Words.{is_never}
use Rattle.hare_types.specs.Assign.{IsIn}
use Rattle.rule_judge.proofs.DefinedLemmas.{in_store}
use Rattle.rule_judge.proofs.KidLemmas.{own_defined, never_here, never_next}
use Rattle.rule_judge.proofs.yields.is_open.Goals as goal

pub is_never-requires : goal.is_never-requires
is_never-requires c = subst (IsIn c.args.s.now) (sym c.type_at.ensures)
    (in_store c.args.s.now _ (own_defined c.args.s.now c.args.t.now.kids.now c.loop-i.i c.requires.types))

pub returns-then-is_never : goal.returns-then-is_never
returns-then-is_never c f l =
    let xs = c.args.t.now.kids.now in
    let h : c.loop-i.i < length xs = omega (arith, c.loop-i-test.true, c.len-i-end.ensures) in
    let here = sym (ap (is_never f) c.type_at.ensures) ∙ sym (c.is_never.ensures f l) ∙ c.if-is_never.true in
    ap not (sym (c.loop-i.invariant f l ∙ never_here f xs c.loop-i.i h here))

pub loop-i-preserved : goal.loop-i-preserved
loop-i-preserved c f l =
    let xs = c.args.t.now.kids.now in
    let h : c.loop-i.i < length xs = omega (arith, c.loop-i-test.true, c.len-i-end.ensures) in
    let here = sym (ap (is_never f) c.type_at.ensures) ∙ sym (c.is_never.ensures f l) ∙ c.if-is_never.false in
    c.loop-i.invariant f l ∙ never_next f xs c.loop-i.i h here
