use Rattle.std.proofs.Common.{Option, subst}
use Rattle.std.specs.Prelude.{IfSome}
use Rattle.hare_flow.specs.declared.seen.Binding.{Binding}
use Rattle.hare_flow.specs.Seen.{entry_of}
use Rattle.hare_find.specs.Defined.{IsDefinedEntry}
use Rattle.hare_find.proofs.YieldsSeen.DefinedTypes.{locals_stay}
use Rattle.hare_find.proofs.bindings.bind_behind.Goals as goal

pub returns-in-Some-clause-locals : goal.returns-in-Some-clause-locals
returns-in-Some-clause-locals c h =
    let s = c.known_behind.new.s in
    c.bind.ensures.locals s
    (subst (λ (o : Option Binding). IfSome o (λ b. IsDefinedEntry s (entry_of b))) c.in-Some.is c.in_ok-b.ensures.defined)
    (locals_stay c.args.s.now s c.declarations-law.ensures.sound c.known_behind.ensures.grown.later c.args.told.now h)

pub returns-in_default-clause-locals : goal.returns-in_default-clause-locals
returns-in_default-clause-locals c h =
    locals_stay c.args.s.now c.known_behind.new.s c.declarations-law.ensures.sound c.known_behind.ensures.grown.later c.args.told.now h
