use Rattle.std.proofs.Common.{cond, nat_eq, Some, sym, ap, ◌∙◌, subst}
use Rattle.std.specs.Map.{lookup}
use Rattle.rule_judge.specs.Decls.{AreFirst}
use Rattle.rule_judge.proofs.DeclLemmas.{first-there, first-new, none_there}
use Rattle.rule_judge.proofs.decls.DeclTypes.push.Goals as goal

pub invariant_of-self-in-Ok : goal.invariant_of-self-in-Ok
invariant_of-self-in-Ok c =
    subst (λ l. AreFirst l c.insert.new.self.entries) (sym c.in_ok-push.ensures.ok)
    (first-new c.self.inside.list c.args.d c.reserve.new.self.entries c.insert.new.self.entries
    (subst (AreFirst c.self.inside.list) (sym c.reserve.ensures.entries) c.self.invariant) (none_there _ c.if-not-contains_key.ensures)
    (λ q. c.in-Ok.ensures.updates.0 q ∙ ap (λ n. cond (nat_eq c.args.d.decl q) (Some n) (lookup (nat_eq q) c.reserve.new.self.entries))
    c.len-place.ensures))

pub invariant_of-self-else-not-contains_key : goal.invariant_of-self-else-not-contains_key
invariant_of-self-else-not-contains_key c =
    subst (λ l. AreFirst l c.reserve.new.self.entries) (sym c.in_ok-push.ensures.ok)
    (first-there c.self.inside.list c.args.d c.reserve.new.self.entries
    (subst (AreFirst c.self.inside.list) (sym c.reserve.ensures.entries) c.self.invariant)
    (sym c.if-not-contains_key.ensures))
