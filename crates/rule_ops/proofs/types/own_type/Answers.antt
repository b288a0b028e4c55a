use Rattle.std.proofs.Common.{◌<◌, ◌^◌, IsSome, ap, ap₂, sym, ◌∙◌, subst}
use Rattle.hare_tree.specs.Node.{head}
use Rattle.hare_types.proofs.LaterLemmas.{later_here}
use Rattle.hare_rules.specs.Types.{type_by}
use Rattle.rule_judge.specs.Turns.{context_in}
use Rattle.rule_ops.specs.Typed.{arith_type_of, has_shift_type}
use Rattle.rule_ops.proofs.TypeLemmas.{number_small, arith_is, arith_there, shift_there, some_of}
use Rattle.rule_ops.proofs.types.own_type.Goals as goal

pub number_type-requires : goal.number_type-requires
number_type-requires c =
    let shaped = c.requires.turn.shaped in
    subst (λ n. (head n).number < 2 ^ 127) (sym c.node.view_is)
    (number_small shaped.0 c.args.t.now.node.now shaped.1 (sym (ap (λ n. (head n).kind) c.node.view_is) ∙ c.in-Number.is))

pub unwrap-requires-in-Arith : goal.unwrap-requires-in-Arith
unwrap-requires-in-Arith c =
    let s = c.args.s.now in
    let x = context_in s c.args.t.now in
    let here = later_here s c.declarations-law.ensures.sound in
    let is = c.arith_type.ensures.value s here ∙ ap₂ (arith_type_of s x.head.kind x.head.text) c.operand-a.ensures.value
    c.operand-b.ensures.value in
    subst IsSome (sym is) (arith_there x (sym (ap (λ n. (head n).kind) c.node.view_is) ∙ c.in-Arith.is) (c.requires.rows s here))

pub unwrap-requires-in-Shift : goal.unwrap-requires-in-Shift
unwrap-requires-in-Shift c =
    let s = c.args.s.now in
    let x = context_in s c.args.t.now in
    let here = later_here s c.declarations-law.ensures.sound in
    some_of c.in_ok-shifted-in-Shift.shifted
    (c.in_ok-shifted-in-Shift.ensures.there ∙ ap₂ (has_shift_type x.head.kind x.head.text) c.operand-a.ensures.value
    c.operand-b.ensures.value
    ∙ shift_there x (sym (ap (λ n. (head n).kind) c.node.view_is) ∙ c.in-Shift.is) (c.requires.rows s here))

pub returns-in-Arith-clause-value : goal.returns-in-Arith-clause-value
returns-in-Arith-clause-value c f l =
    let x = context_in f c.args.t.now in
    ap (type_by x) (sym (ap (λ n. (head n).kind) c.node.view_is) ∙ c.in-Arith.is) ∙ arith_is x
    ∙ sym (c.arith_type.ensures.value f l ∙ ap₂ (arith_type_of f x.head.kind x.head.text) c.operand-a.ensures.value
    c.operand-b.ensures.value) ∙ c.unwrap-in-Arith.ensures
