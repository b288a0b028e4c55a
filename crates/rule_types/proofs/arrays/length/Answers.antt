use Rattle.std.proofs.Common.{ap, sym, ◌∙◌, subst}
use Rattle.hare_rules.specs.Context.{own_type}
use Rattle.hare_rules.specs.Constants.{length_of}
use Rattle.rule_judge.specs.Defined.{IsDefinedTy}
use Rattle.rule_judge.specs.Settings.{setting_of}
use Rattle.rule_types.proofs.LengthLemmas.{first_is, no_kid}
use Rattle.rule_types.proofs.arrays.length.Goals as goal

pub length_of-requires : goal.length_of-requires
length_of-requires c = subst (λ x. IsDefinedTy c.args.s.now (own_type x))
    (sym (first_is c.args.kids.now c.in-Some.kid.now c.in-Some.ensures.found)) c.requires

pub returns-in-Some : goal.returns-in-Some
returns-in-Some c f l = c.length_of.ensures f l ∙ ap (length_of (setting_of f c.args.decls.now))
    (first_is c.args.kids.now c.in-Some.kid.now c.in-Some.ensures.found)

pub returns-in-None : goal.returns-in-None
returns-in-None c f l = no_kid (setting_of f c.args.decls.now) c.args.kids.now c.in-None.ensures.none
