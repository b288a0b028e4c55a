-- What is tested is that the module is valid.
use Rattle.std.proofs.Common.{sym, subst, ◌↔◌, Bool, IsTrue}
use Rattle.il_code.specs.Rules.{IsValid}
use Rattle.il_code.proofs.Validates.{valid_is}
use Rattle.il_code.proofs.validity.valid.Goals as goal

pub returns : goal.returns
returns c = subst (λ (b : Bool). IsTrue b ↔ IsValid c.args.m.now) (sym c.passes.ensures) (valid_is c.args.m.now)
