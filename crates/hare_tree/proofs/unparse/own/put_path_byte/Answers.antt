use Rattle.std.proofs.Common.{◌+◌, ◌++◌, drop, ap, sym, ◌∙◌}
use Rattle.hare_tree.specs.Spell.{path_tokens}
use Rattle.hare_tree.proofs.Spelling.Spelled.{parts_from-second, parts_from-mark, path-mark}
use Rattle.hare_tree.proofs.unparse.own.put_path_byte.Goals as goal

pub returns-then-taken : goal.returns-then-taken
returns-then-taken c =
    rw (c.if-taken.true) (ap (λ ps. c.args.out.now ++ path_tokens c.args.file ps)
    (sym (parts_from-second c.args.part.now c.args.text.now c.args.i c.requires)))

pub returns-then-is_path_mark : goal.returns-then-is_path_mark
returns-then-is_path_mark c =
    rw (
      c.if-taken.false,
      parts_from-mark c.args.part.now c.args.text.now c.args.i c.requires
          (sym c.is_path_mark.ensures ∙ c.if-is_path_mark.true),
    )
    (path-mark c.args.file _ _ _ _ _ _ (drop (c.args.i + 1) c.args.text.now) c.in_ok-put_word.ensures c.bytes.ensures
    c.in_ok-put_sign.ensures c.new.ensures)
