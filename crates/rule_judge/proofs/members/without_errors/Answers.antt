use Rattle.std.proofs.Common.{ℕ, List, ◌≤◌, length, not, sym, subst}
use Rattle.std.specs.Prelude.{Contains}
use Rattle.std.proofs.lemmas.Result.{IfOk-weaker}
use Rattle.hare_types.specs.ByIds.{is_error_at}
use Rattle.hare_types.specs.Rows.{AreMembers}
use Rattle.hare_types.proofs.LaterLemmas.{later_here, later_trans}
use Rattle.rule_judge.specs.Defined.{IsDefined}
use Rattle.rule_judge.proofs.MemberLemmas.{filter-held, filter-members, left_over}
use Rattle.rule_judge.proofs.members.without_errors.Goals as goal

pub joined_or_never-requires-clause-defined : goal.joined_or_never-requires-clause-defined
joined_or_never-requires-clause-defined c =
    let s = c.args.s.now in
    subst (λ (is : List ℕ). (i : ℕ) → Contains is i → IsDefined s i)
    (sym (c.in_ok-left.ensures s (later_here s c.declarations-law.ensures.sound)))
    (filter-held s (λ i. not (is_error_at s i)) c.in-Some.members.now c.in-Some.ensures.defined)

pub joined_or_never-requires-clause-reduced : goal.joined_or_never-requires-clause-reduced
joined_or_never-requires-clause-reduced c =
    let s = c.args.s.now in
    subst (λ (is : List ℕ). 2 ≤ length is → AreMembers s.rows is)
    (sym (c.in_ok-left.ensures s (later_here s c.declarations-law.ensures.sound)))
    (filter-members (λ i. not (is_error_at s i)) s.rows c.in-Some.members.now c.in-Some.ensures.reduced)

pub returns-clause-id : goal.returns-clause-id
returns-clause-id c =
    IfOk-weaker c.joined_or_never.result _ _
    (λ t h f l.
    let before = later_trans c.args.s.now c.joined_or_never.new.s f c.joined_or_never.ensures.grown.later l in
    left_over f c.args.a.now c.in-Some.members.now c.in_ok-left.left t (c.in-Some.ensures.value f before) (c.in_ok-left.ensures f before)
    (h f l))
    c.joined_or_never.ensures.id
