use Rattle.std.proofs.Common.{ℕ, Some, sym, ◌∙◌, subst}
use Rattle.std.specs.Prelude.{Contains, IsSome}
use Rattle.rule_mem.proofs.PathLemmas.{named_defined}
use Rattle.rule_mem.proofs.paths.named.Goals as goal

pub returns-clause-defined : goal.returns-clause-defined
returns-clause-defined c =
    named_defined c.args.s.now c.intern.new.self c.declarations-law.ensures.sound c.intern.ensures.later c.args.n c.in_ok-u.u
    c.in_ok-u.ensures.numbered.stands c.requires
