use Rattle.std.proofs.Common.{ap, sym, ◌∙◌}
use Rattle.std.specs.Option.{option_copied}
use Rattle.hare_find.proofs.SettlingNothing.ArrayLengths.{def_length, other_length}
use Rattle.hare_find.proofs.lengths.def_type.Goals as goal

pub returns-in-Def-clause-value : goal.returns-in-Def-clause-value
returns-in-Def-clause-value c x o e =
    let ds = c.args.decls.now in
    let d = c.in-Some.d.now in
    let there = sym c.find.ensures ∙ ap option_copied c.in-Some.is in
    def_length x ds c.args.meaning c.in-Decl.n d o e c.in-Decl.is there c.in-Def.is

pub returns-in_default : goal.returns-in_default
returns-in_default c =
    let ds = c.args.decls.now in
    let d = c.in-Some.d.now in
    let there = sym c.find.ensures ∙ ap option_copied c.in-Some.is in
    record {
      value = λ x o e. other_length x ds c.args.meaning c.in-Decl.n d o e c.in-Decl.is there c.in_default.not-Def;
      defined = λ s h. tt;
    }
