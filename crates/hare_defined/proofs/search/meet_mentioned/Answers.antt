use Rattle.std.proofs.Common.{◌∙◌, ap, sym, refl, subst, length, ◌≤◌, arith, true≢false}
use Rattle.hare_defined.specs.Search.{IsSearch, HasOwnDefinition}
use Rattle.hare_defined.proofs.SearchLemmas.{search_begins, next_within, search_goes_on, search_fails, search_ends, few_met, next_is}
use Rattle.hare_defined.proofs.search.meet_mentioned.Goals as goal

pub loop-u-init : goal.loop-u-init
loop-u-init c =
    subst (IsSearch c.args.s.now c.args.t c.args.known.now.keys c.meet.new.met.keys) (sym c.len-next.ensures.len)
    (search_begins c.args.s.now c.args.t c.args.known.now.keys c.meet.new.met.keys c.requires.within c.requires.known
    c.in_ok-meet.ensures.takes c.in_ok-meet.ensures.ok)

pub row-row-requires : goal.row-row-requires
row-row-requires c =
    let here = next_is c.as_slice.result.now c.loop-u.known.keys c.loop-u.next c.in-Some.u.now c.as_slice.ensures.keys
    c.in-Some.ensures.lookup.3.0 c.in-Some.ensures.lookup.1 in
    next_within c.args.s.now c.args.t c.args.known.now.keys c.loop-u.known.keys c.loop-u.next c.in-Some.u.now c.loop-u.invariant here

pub returns-then-not-branch-clause-value : goal.returns-then-not-branch-clause-value
returns-then-not-branch-clause-value c =
    let here = next_is c.as_slice.result.now c.loop-u.known.keys c.loop-u.next c.in-Some.u.now c.as_slice.ensures.keys
    c.in-Some.ensures.lookup.3.0 c.in-Some.ensures.lookup.1 in
    let lacks : ¬ HasOwnDefinition c.args.s.now c.row-row.result.now =
    λ h. true≢false (sym (c.in_ok-meet_parts.ensures.named.1 h) ∙ c.if-not-branch.true) in
    let fails = search_fails c.args.s.now c.args.t c.args.known.now.keys c.row-row.ensures.sound c.loop-u.known.keys c.loop-u.next
    c.in-Some.u.now c.row-row.result.now c.loop-u.invariant here c.row-row.ensures.row lacks in
    ((λ e. absurd (true≢false (sym e))), (λ d. absurd (fails d)))

pub loop-u-smaller : goal.loop-u-smaller
loop-u-smaller c =
    let few = few_met c.args.s.now c.args.t c.args.known.now.keys c.loop-u.known.keys c.loop-u.next c.as_slice.ensures.unique
    c.loop-u.invariant in
    omega (arith, few, c.in-Some.ensures.lookup.3.0, ap length c.as_slice.ensures.keys)

pub loop-u-preserved : goal.loop-u-preserved
loop-u-preserved c =
    let here = next_is c.as_slice.result.now c.loop-u.known.keys c.loop-u.next c.in-Some.u.now c.as_slice.ensures.keys
    c.in-Some.ensures.lookup.3.0 c.in-Some.ensures.lookup.1 in
    search_goes_on c.args.s.now c.args.t c.args.known.now.keys c.row-row.ensures.sound c.loop-u.known.keys c.loop-u.next c.in-Some.u.now
    c.row-row.result.now c.loop-u.invariant here c.row-row.ensures.row
    c.meet_parts.new.met.keys c.in_ok-meet_parts.ensures.takes c.in_ok-meet_parts.ensures.all
    (c.in_ok-meet_parts.ensures.named.0 c.if-not-branch.false)

pub returns-clause-value : goal.returns-clause-value
returns-clause-value c =
    let all : length c.loop-u.known.keys ≤ c.loop-u.next =
    omega (arith, c.in_default.ensures.lookup.3, ap length c.as_slice.ensures.keys) in
    let ends = search_ends c.args.s.now c.args.t c.args.known.now.keys c.loop-u.known.keys c.loop-u.next c.loop-u.invariant c.requires.known
    all in
    ((λ e. ends c.args.t c.loop-u.invariant.begins), (λ d. refl))

pub returns-clause-known : goal.returns-clause-known
returns-clause-known c =
    λ e. search_ends c.args.s.now c.args.t c.args.known.now.keys c.loop-u.known.keys c.loop-u.next c.loop-u.invariant c.requires.known
    (omega (arith, c.in_default.ensures.lookup.3, ap length c.as_slice.ensures.keys))
