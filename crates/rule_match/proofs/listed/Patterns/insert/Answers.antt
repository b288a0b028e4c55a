use Rattle.std.proofs.Common.{true, refl, ap}
use Rattle.hare_rules.specs.Control.{Default, NullPointer, Member, Lacking}
use Rattle.rule_match.specs.Patterns.{meant}
use Rattle.rule_match.proofs.ListedLemmas.{put, holds-default, holds-null, holds-member, holds-lacking}
use Rattle.rule_match.proofs.listed.Patterns.insert.Goals as goal

pub returns-in-Default : goal.returns-in-Default
returns-in-Default c =
    let old = c.args.self.now in
    let new = record old { has_default = true } in
    put old new Default c.args.p (ap meant c.in-Default.is) (holds-default old new refl refl refl)

pub returns-in-NullPointer : goal.returns-in-NullPointer
returns-in-NullPointer c =
    let old = c.args.self.now in
    let new = record old { has_null = true } in
    put old new NullPointer c.args.p (ap meant c.in-NullPointer.is) (holds-null old new refl refl refl)

pub returns-in_ok-insert-in-Member : goal.returns-in_ok-insert-in-Member
returns-in_ok-insert-in-Member c =
    let old = c.args.self.now in
    let new = record old { types = c.insert.new.self } in
    put old new (Member c.in-Member.t) c.args.p (ap meant c.in-Member.is)
    (holds-member old new c.in-Member.t refl refl c.in_ok-insert-in-Member.ensures.updates.0)

pub returns-in-Lacking : goal.returns-in-Lacking
returns-in-Lacking c = put c.args.self.now c.args.self.now Lacking c.args.p (ap meant c.in-Lacking.is) (holds-lacking c.args.self.now)
