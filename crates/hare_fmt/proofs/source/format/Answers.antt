use Rattle.hare_again.proofs.WholeLayouts.LaidOut.{layouts-are-laid-out}
use Rattle.hare_fmt.specs.Answer.{GivesText, GivesFault}
use Rattle.hare_fmt.proofs.Answered.{err_gives, laid_out-tree, text-gives}
use Rattle.hare_fmt.proofs.source.format.Goals as goal

-- ---- a fault, or want of memory while the tree is read

pub returns-in_err-tree-clause-only_text : goal.returns-in_err-tree-clause-only_text
returns-in_err-tree-clause-only_text c = λ text l.
    err_gives c.from_residual.result c.in_err-tree.field-0.0 (GivesText text) c.from_residual.ensures.1
    (c.in_err-tree.ensures.only_tree l.tree (laid_out-tree c.args.src.now text l))

pub returns-in_err-tree-clause-only_fault : goal.returns-in_err-tree-clause-only_fault
returns-in_err-tree-clause-only_fault c = λ f h.
    err_gives c.from_residual.result c.in_err-tree.field-0.0 (GivesFault f) c.from_residual.ensures.1
    (c.in_err-tree.ensures.only_fault f h)

-- ---- the text

pub returns-clause-kept : goal.returns-clause-kept
returns-clause-kept c = (c.in_ok-text.ensures, layouts-are-laid-out c.args.src.now c.in_ok-text.text c.in_ok-text.ensures)

pub returns-clause-only_text : goal.returns-clause-only_text
returns-clause-only_text c = λ text l. text-gives c.args.src.now text c.in_ok-text.text (c.in_ok-text.ensures) l

pub returns-clause-only_fault : goal.returns-clause-only_fault
returns-clause-only_fault c = λ f h. absurd (c.in_ok-tree.ensures.only_fault f h)
