use Rattle.std.proofs.Common.{◌≤◌, length, map, ap, sym, ◌∙◌, arith}
use Rattle.std.proofs.lemmas.List.{length-map}
use Rattle.hare_tree.specs.Node.{head}
use Rattle.hare_typed.specs.Typed.{TypedNode}
use Rattle.hare_typed.specs.Erased.{erase}
use Rattle.hare_whole.specs.Limits.{is_param}
use Rattle.hare_limits.proofs.EntryFound.Kids.{erased-there}
use Rattle.hare_limits.proofs.EntryFound.First.{none-more, any-here, any-nowhere, below-mapped}
use Rattle.hare_limits.proofs.shapes.has_param_among.Goals as goal

pub returns-then-is_param : goal.returns-then-is_param
returns-then-is_param c =
    any-here (λ p. is_param (head p).kind) (map erase c.args.kids.now) c.loop-i.i (erase c.in-Some.t.now)
    (erased-there c.args.kids.now c.loop-i.i c.in-Some.t.now c.in-Some.ensures.found)
    (ap (λ (u : TypedNode). is_param (head (erase u)).kind) (sym c.t.view_is) ∙ sym c.is_param.ensures ∙ c.if-is_param.true)

pub loop-i-preserved : goal.loop-i-preserved
loop-i-preserved c =
    none-more (λ t. is_param (head (erase t)).kind) c.args.kids.now c.loop-i.i c.in-Some.t.now c.in-Some.ensures.found
    (ap (λ (u : TypedNode). is_param (head (erase u)).kind) (sym c.t.view_is) ∙ sym c.is_param.ensures
    ∙ c.if-is_param.false) c.loop-i.invariant

pub returns : goal.returns
returns c =
    let past : length (map erase c.args.kids.now) ≤ c.loop-i.i = omega (arith, length-map c.args.kids.now erase) in
    any-nowhere (λ p. is_param (head p).kind) (map erase c.args.kids.now) c.loop-i.i past
    (below-mapped erase (λ p. is_param (head p).kind) c.args.kids.now c.loop-i.i c.loop-i.invariant)
