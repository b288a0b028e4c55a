use Rattle.std.proofs.Common.{sym, ap, ◌∙◌}
use Rattle.std.specs.Prelude.{option_copied}
use Rattle.hare_tree.specs.declared.form.Sort.TheVariants as so
use Rattle.hare_tree.specs.Shape.{is_shaped}
use Rattle.body_table.proofs.ProgramLemmas.{all-at}
use Rattle.body_table.proofs.program.body.Goals as goal

pub body_of-requires : goal.body_of-requires
body_of-requires c =
    let file = c.in-Some.file.now in
    all-at (is_shaped so.Decl) file.decls c.args.number c.in-Some-get.decl.now
    (c.requires file (sym c.get.ensures ∙ ap option_copied c.in-Some.is)) c.in-Some-get.ensures.found
