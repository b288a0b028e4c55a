use Rattle.std.proofs.Common.{length, ap, arith}
use Rattle.hare_tree.specs.declared.form.Sign.TheVariants as si
use Rattle.hare_tree.specs.Node.{head}
use Rattle.hare_tree.specs.Forms.{form_of}
use Rattle.hare_tree.specs.Spell.{kids_spelled}
use Rattle.hare_tree.proofs.Spelling.Spelled.{spell-pieces}
use Rattle.hare_ways.proofs.FormSteps.{sign-bound}
use Rattle.hare_ways.proofs.breaks.has_own_lines.Goals as goal

pub overflow_add-sign_at : goal.overflow_add-sign_at
overflow_add-sign_at c =
    let t = c.args.t.now in
    omega (
      arith,
      sign-bound si.Arrow (head t) (form_of (head t).kind) c.args.n (kids_spelled 0 t),
      ap length (spell-pieces 0 t),
      c.sign_at.ensures,
      c.requires,
    )
