use Rattle.std.proofs.Common.{sym, ◌∙◌}
use Rattle.hare_tree.proofs.Spelling.Owned.{names-second, names-byte, names-mark}
use Rattle.hare_tree.proofs.own.next_part.Goals as goal

pub returns-then-part-clause-value : goal.returns-then-part-clause-value
returns-then-part-clause-value c =
    names-second c.args.part.behind_path c.args.text.now c.args.part.start c.args.i c.args.part.taken c.if-part.true
    (c.requires.empty c.if-part.true) c.requires.within

pub returns-then-not-is_path_mark-clause-value : goal.returns-then-not-is_path_mark-clause-value
returns-then-not-is_path_mark-clause-value c =
    names-byte c.args.part.behind_path c.args.text.now c.args.part.start c.args.i c.args.part.taken c.if-part.false c.requires.begun
    c.requires.within (sym c.is_path_mark.ensures ∙ c.if-not-is_path_mark.true)

pub returns-clause-value : goal.returns-clause-value
returns-clause-value c =
    names-mark c.args.part.behind_path c.args.text.now c.args.part.start c.args.i c.args.part.taken c.if-part.false c.requires.within
    (sym c.is_path_mark.ensures ∙ c.if-not-is_path_mark.false) (sym c.is_name.ensures ∙ c.if-not-is_name.false)
