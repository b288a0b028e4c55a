use Rattle.std.proofs.Common.{◌≡◌, ◌<◌, length, refl, ap, subst, arith}
use Rattle.hare_layout.specs.Ids.{AreLeftBelow}
use Rattle.hare_layout.proofs.SpreadLemmas.{AreIds-brought}
use Rattle.hare_layout.proofs.LeftLemmas.{left-step, left-stop, passes-spreads}
use Rattle.hare_layout.proofs.members_left.members_left.Goals as goal

pub push_members-requires : goal.push_members-requires
push_members-requires c = AreIds-brought _ _ _ _ c.in-Some.ensures.some

pub returns-in-None-clause-err : goal.returns-in-None-clause-err
returns-in-None-clause-err c =
    let within : c.loop-k.k < length c.args.members.now = omega (arith, ap length c.as_slice-types.ensures, c.loop-k-test.true) in (
      refl,
      (
        c.loop-k.k,
        left-stop c.args.s.now c.args.r.now c.args.members.now c.loop-k.k c.index-types-k.result c.is_spread.result c.requires.union
            c.requires.within within
            (rw c.as_slice-types.ensures at c.index-types-k.is) c.is_spread.ensures c.in-None.ensures.none.0 c.in-None.ensures.none.1,
        c.loop-k.invariant.1,
        c.place_of.ensures,
      ),
    )

pub loop-k-preserved : goal.loop-k-preserved
loop-k-preserved c =
    let within : c.loop-k.k < length c.args.members.now = omega (arith, ap length c.as_slice-types.ensures, c.loop-k-test.true) in
    left-step c.args.s.now c.args.r.now c.args.members.now c.loop-k.k c.index-types-k.result c.is_spread.result c.requires.union
    c.requires.within within
    (rw c.as_slice-types.ensures at c.index-types-k.is) c.is_spread.ensures c.loop-k.left.items c.push_members.new.left.items
    c.in-Some.more.now c.in-Some.ensures.some
    c.in_ok-push_members-in-Some.ensures c.loop-k.invariant.0 c.loop-k.invariant.1

pub returns-clause-ok : goal.returns-clause-ok
returns-clause-ok c =
    let all : c.loop-k.k ≡ length c.args.members.now = omega (arith, ap length c.as_slice-types.ensures, c.loop-k-test.false) in
    subst (λ n. AreLeftBelow c.args.s.now c.args.r.now n c.loop-k.left.items) all c.loop-k.invariant.0

pub returns-clause-passes : goal.returns-clause-passes
returns-clause-passes c =
    passes-spreads c.args.s.now c.args.r.now c.args.place c.args.members.now c.requires.union
    (λ j h. c.loop-k.invariant.1 j (omega (arith, ap length c.as_slice-types.ensures, c.loop-k-test.false)))
