use Rattle.std.proofs.Common.{ℕ, not, Some, None, ap, sym, ◌∙◌}
use Rattle.std.specs.Prelude.{nat_eq, find, option_copied}
use Rattle.hare_rules.specs.declared.declared.DeclType.{DeclType}
use Rattle.hare_written.proofs.PartOfType.Kinds.{meant-def, not-def}
use Rattle.hare_written.proofs.lengths.means_other.Goals as goal
use Rattle.hare_written.proofs.lengths.means_other.Goals.{in-Def, in_default}

pub returns-after-matches-clause-other : goal.returns-after-matches-clause-other
returns-after-matches-clause-other c e w k =
    let d = c.in-Some.d.now in
    let known = meant-def w c.args.decls.now c.args.meaning c.in-Decl.n (Some d) k c.in-Decl.is
    (sym c.find.ensures ∙ ap option_copied c.in-Some.is) in
    elim c.match-matches.branch [
      | in-Def a ↦ let both = ap not (sym a.matches-is) ∙ e in cc
      | in_default a ↦ known ∙ not-def d.kind a.in_default.not-Def
    ]

pub returns-in-None-clause-other : goal.returns-in-None-clause-other
returns-in-None-clause-other c e w k =
    meant-def w c.args.decls.now c.args.meaning c.in-Decl.n None k c.in-Decl.is (sym c.find.ensures ∙ ap option_copied c.in-None.is)
