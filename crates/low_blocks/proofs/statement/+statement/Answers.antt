-- The parts of statements add their code.
use Rattle.std.proofs.Common.{◌≡◌, suc, ◌+◌, arith}
use Rattle.std.proofs.lemmas.Grind.{common_steps}
use Rattle.std.proofs.lemmas.Result.{on_ok_weaker}
use Rattle.hare_blocks.specs.Sizes.{list_of_statements}
use Rattle.hare_blocks.specs.Shape.{condition_of, statement_of}
use Rattle.low_blocks.proofs.LoweredParts.Lowered.{block_lowers, branch_lowers, rest_goes_on}
use Rattle.low_blocks.proofs.statement.+statement.Goals as goal
use Rattle.low_blocks.proofs.statement.+statement.Goals.{lower_statements-in-Some+in_ok-lower_statement, lower_statements-in_default}

pub lower_block-returns : goal.lower_block-returns
lower_block-returns t c =
    let outer = rw c.mark-mark.ensures at c.back_to.ensures in
    block_lowers c.args.draft.now c.new-inner.result c.lower_statements.new.draft c.args.scope.now c.lower_statements.new.scope
    c.back_to.new.self c.args.globals.now c.lower_statements.new.globals (list_of_statements c.args.body.now) c.new-inner.ensures
    c.in_ok-lower_statements.ensures outer

pub lower_statement-returns-in_ok-no-in-IfElse : goal.lower_statement-returns-in_ok-no-in-IfElse
lower_statement-returns-in_ok-no-in-IfElse t c =
    rw c.in-IfElse.is (on_ok_weaker c.branch-draft-in-IfElse.result (λ g.
    branch_lowers (condition_of c.in-IfElse.test) (list_of_statements c.in-IfElse.body) (list_of_statements c.in-IfElse.otherwise)
    c.args.draft.now c.lower_condition-in-IfElse.new.draft c.lower_block-in-IfElse.new.draft c.lower_block-in-IfElse-2.new.draft
    c.branch-draft-in-IfElse.new.draft
    c.args.scope.now c.lower_block-in-IfElse.new.scope c.lower_block-in-IfElse-2.new.scope c.args.globals.now
    c.lower_block-in-IfElse.new.globals c.lower_block-in-IfElse-2.new.globals c.in_ok-cond-in-IfElse.cond c.in_ok-yes-in-IfElse.yes
    c.in_ok-no-in-IfElse.no
    c.in_ok-cond-in-IfElse.ensures c.in_ok-yes-in-IfElse.ensures c.in_ok-no-in-IfElse.ensures g) c.branch-draft-in-IfElse.ensures)

pub lower_statement-returns-in-Puts : goal.lower_statement-returns-in-Puts
lower_statement-returns-in-Puts t c =
    let done = rw c.bytes-in-Puts.ensures at c.puts.ensures in
    rw c.in-Puts.is (on_ok_weaker c.puts.result (λ h. h c.args.scope.now) done)

pub lower_statements-loop-i-preserved : goal.lower_statements-loop-i-preserved
lower_statements-loop-i-preserved t c =
    elim c.match-get.branch [
      | lower_statements-in-Some+in_ok-lower_statement w ↦
          let next : c.loop-i.i + 1 ≡ suc c.loop-i.i = omega arith in
          rw (next, w.draft-is, w.scope-is, w.globals-is)
          (rest_goes_on c.args.draft.now c.loop-i.draft w.lower_statement.new.draft c.args.scope.now c.loop-i.scope
          w.lower_statement.new.scope c.args.globals.now c.loop-i.globals w.lower_statement.new.globals
          (list_of_statements c.args.body.now) c.args.body.now c.loop-i.i (statement_of w.in-Some.s.now) w.in-Some.ensures.found
          c.loop-i.invariant w.in_ok-lower_statement.ensures)
      | lower_statements-in_default w ↦ absurd (grind (arith, common_steps))
    ]
