use Rattle.std.proofs.Common.{◌<◌, ◌++◌, ◌∷◌, [], length, sym, ap, ◌∙◌, append_assoc, arith}
use Rattle.std.proofs.lemmas.Result.{IfOk-weaker}
use Rattle.hare_blocks.specs.Names.{names_of}
use Rattle.hare_blocks.specs.Shape.{statement_of}
use Rattle.hare_blocks.proofs.Declared.{next_statement}
use Rattle.hare_blocks.proofs.names.+block_names.Goals as goal
use Rattle.hare_blocks.proofs.names.+block_names.Goals.{block_holds-in-Some+in_ok-statement_holds+else-not-branch, block_holds-in_default}

pub block_holds-loop-i-preserved : goal.block_holds-loop-i-preserved
block_holds-loop-i-preserved t c =
    elim c.match-get.branch [
      | block_holds-in-Some+in_ok-statement_holds+else-not-branch w ↦
          let k = w.in_ok-statement_holds.ensures in
          let s = statement_of w.in-Some.s.now in
          let holds = sym k.told ∙ w.if-not-branch.false in
          let behind = ap names_of w.scope-is ∙ k.behind w.if-not-branch.false in
          let more = k.grows w.if-not-branch.false in
          record {
            left = next_statement (names_of c.loop-i.scope) (names_of c.match-get.scope) c.args.body.now c.loop-i.i s
                w.in-Some.ensures.found holds behind ∙ c.loop-i.invariant.left;
            grown = (
              more.0 ++ c.loop-i.invariant.grown.0,
              w.scope-is ∙ more.1 ∙ ap (λ x. more.0 ++ x) c.loop-i.invariant.grown.1 ∙ sym
                  (append_assoc more.0 c.loop-i.invariant.grown.0 c.args.scope.now),
            );
          }
      | block_holds-in_default w ↦
          let within : c.loop-i.i < length c.args.body.now = omega (arith, c.loop-i-test.true, c.len-i-end.ensures) in
          absurd (omega (arith, w.in_default.ensures.past, within))
    ]

pub statement_holds-returns-in-Declare-clause-grows : goal.statement_holds-returns-in-Declare-clause-grows
statement_holds-returns-in-Declare-clause-grows t c =
    IfOk-weaker c.declare.result _ _ (λ b k h. ((c.in-Declare.name, 0) ∷ [], k h)) c.declare.ensures.behind
