use Rattle.std.proofs.Common.{◌≡◌, true, false, ap, refl, arith}
use Rattle.hare_tree.specs.declared.unparse.left.Pieces.{Pieces}
use Rattle.hare_tree.specs.Node.{head}
use Rattle.hare_tree.specs.Spell as spec
use Rattle.hare_tree.proofs.Spelling.Stack.{leave-alone, leave-nothing, leave-before, leave-behind, weight-tree, weight-sign}
use Rattle.hare_tree.proofs.unparse.left.leave_tree.Goals as goal

pub returns-then-stands_alone-clause-tokens : goal.returns-then-stands_alone-clause-tokens
returns-then-stands_alone-clause-tokens c = λ f.
    let p : Pieces = record { tree = c.args.tree; piece = 0; kid = 0 } in
    let kind = ap (λ t. (head t).kind) c.tree.view_is in
    let alone : spec.stands_alone (head c.args.tree.now).kind ≡ true = cc in
    leave-alone f c.args.lead p _ _ refl refl alone c.in_ok-push.ensures.items

pub returns-then-stands_alone-clause-weight : goal.returns-then-stands_alone-clause-weight
returns-then-stands_alone-clause-weight c =
    let p : Pieces = record { tree = c.args.tree; piece = 0; kid = 0 } in
    omega (arith, weight-tree p _ _ refl refl c.in_ok-push.ensures.items)

pub returns-in_ok-push-in-Nothing-clause-tokens : goal.returns-in_ok-push-in-Nothing-clause-tokens
returns-in_ok-push-in-Nothing-clause-tokens c = λ f.
    let p : Pieces = record { tree = c.args.tree; piece = 0; kid = 0 } in
    leave-nothing f c.args.lead p _ _ refl refl c.in-Nothing.is c.in_ok-push-in-Nothing.ensures.items

pub returns-in_ok-push-in-Nothing-clause-weight : goal.returns-in_ok-push-in-Nothing-clause-weight
returns-in_ok-push-in-Nothing-clause-weight c =
    let p : Pieces = record { tree = c.args.tree; piece = 0; kid = 0 } in
    omega (arith, weight-tree p _ _ refl refl c.in_ok-push-in-Nothing.ensures.items)

pub returns-in_ok-push-in-Before-2-clause-tokens :
    goal.returns-in_ok-push-in-Before-2-clause-tokens
returns-in_ok-push-in-Before-2-clause-tokens c = λ f.
    let p : Pieces = record { tree = c.args.tree; piece = 0; kid = 0 } in
    let kind = ap (λ t. (head t).kind) c.tree.view_is in
    let alone : spec.stands_alone (head c.args.tree.now).kind ≡ false = cc in
    leave-before f c.args.lead c.in-Before.s p _ _ _ refl refl alone c.in-Before.is c.in_ok-push-in-Before.ensures.items
    c.in_ok-push-in-Before-2.ensures.items

pub returns-in_ok-push-in-Before-2-clause-weight :
    goal.returns-in_ok-push-in-Before-2-clause-weight
returns-in_ok-push-in-Before-2-clause-weight c =
    let p : Pieces = record { tree = c.args.tree; piece = 0; kid = 0 } in
    omega (
      arith,
      weight-tree p _ _ refl refl c.in_ok-push-in-Before.ensures.items,
      weight-sign c.in-Before.s _ _
          c.in_ok-push-in-Before-2.ensures.items,
    )

pub returns-in_ok-push-in-Behind-2-clause-tokens :
    goal.returns-in_ok-push-in-Behind-2-clause-tokens
returns-in_ok-push-in-Behind-2-clause-tokens c = λ f.
    let p : Pieces = record { tree = c.args.tree; piece = 0; kid = 0 } in
    let kind = ap (λ t. (head t).kind) c.tree.view_is in
    let alone : spec.stands_alone (head c.args.tree.now).kind ≡ false = cc in
    leave-behind f c.args.lead c.in-Behind.s p _ _ _ refl refl alone c.in-Behind.is c.in_ok-push-in-Behind.ensures.items
    c.in_ok-push-in-Behind-2.ensures.items

pub returns-in_ok-push-in-Behind-2-clause-weight :
    goal.returns-in_ok-push-in-Behind-2-clause-weight
returns-in_ok-push-in-Behind-2-clause-weight c =
    let p : Pieces = record { tree = c.args.tree; piece = 0; kid = 0 } in
    omega (
      arith,
      weight-sign c.in-Behind.s _ _ c.in_ok-push-in-Behind.ensures.items,
      weight-tree p _ _ refl refl
          c.in_ok-push-in-Behind-2.ensures.items,
    )
