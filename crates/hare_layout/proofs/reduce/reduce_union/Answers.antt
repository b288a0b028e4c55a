use Rattle.std.proofs.Common.{◌≡◌, ◌≤◌, ◌<◌, false, true, [], length, refl, ap, sym, ◌∙◌, subst, arith, inl, inr}
use Rattle.std.specs.List.{list_any}
use Rattle.hare_types.specs.Unions.{put_all}
use Rattle.hare_layout.specs.Ids.{AreIds, unsized_at}
use Rattle.hare_layout.specs.Reduced.{IsOfMembers}
use Rattle.hare_layout.proofs.ReduceLemmas.{AreIds-left, union-unsized, union-sized, union-empty, union-wide, union-passes, union-reduction}
use Rattle.hare_layout.proofs.reduce.reduce_union.Goals as goal

pub any_unsized-requires : goal.any_unsized-requires
any_unsized-requires c =
    subst (λ is. AreIds c.args.s.now is) (sym c.deref.ensures.value)
    (AreIds-left c.args.s.now c.args.r.now c.args.members.now c.in_ok-brought.brought.items c.requires.union c.in_ok-brought.ensures.ok)

pub returns-then-any_unsized-clause-err : goal.returns-then-any_unsized-clause-err
returns-then-any_unsized-clause-err c =
    let found : list_any (unsized_at c.args.s.now) c.in_ok-brought.brought.items ≡ true =
    ap (list_any (unsized_at c.args.s.now)) (sym c.deref.ensures.value) ∙ sym c.any_unsized.ensures ∙ c.if-any_unsized.true in
    inr (
      c.in_ok-brought.ensures.passes,
      inl (
        refl,
        (
          union-unsized c.args.s.now c.args.r.now c.args.members.now c.in_ok-brought.brought.items c.requires.union
              c.in_ok-brought.ensures.ok found,
          refl,
        ),
      ),
    )

pub returns-then-len-eq0-clause-err : goal.returns-then-len-eq0-clause-err
returns-then-len-eq0-clause-err c =
    let none : list_any (unsized_at c.args.s.now) c.in_ok-brought.brought.items ≡ false =
    ap (list_any (unsized_at c.args.s.now)) (sym c.deref.ensures.value) ∙ sym c.any_unsized.ensures ∙ c.if-any_unsized.false in
    let zero : length c.in_ok-left.left.items ≡ 0 = omega (arith, c.len.ensures, c.if-len-eq0.true) in
    let all = c.in_ok-left.ensures.all (omega arith) ∙ ap (λ is. put_all is []) c.deref-2.ensures.value in
    union-empty c.args.s.now c.requires.sound c.args.r.now c.args.place c.args.members.now c.in_ok-brought.brought.items
    c.in_ok-left.left.items c.requires.union c.in_ok-brought.ensures.ok
    c.in_ok-brought.ensures.passes (union-sized c.args.s.now c.args.r.now c.args.members.now c.in_ok-brought.brought.items c.requires.union
    c.in_ok-brought.ensures.ok none) all zero

pub returns-then-len-gt-MOST_MEMBERS-clause-err : goal.returns-then-len-gt-MOST_MEMBERS-clause-err
returns-then-len-gt-MOST_MEMBERS-clause-err c =
    let none : list_any (unsized_at c.args.s.now) c.in_ok-brought.brought.items ≡ false =
    ap (list_any (unsized_at c.args.s.now)) (sym c.deref.ensures.value) ∙ sym c.any_unsized.ensures ∙ c.if-any_unsized.false in
    let many : 64 < length c.in_ok-left.left.items = omega (arith, c.len-2.ensures, c.if-len-gt-MOST_MEMBERS.true) in
    let more : 64 < length (put_all c.in_ok-brought.brought.items []) =
    subst (λ is. 64 < length (put_all is [])) c.deref-2.ensures.value (c.in_ok-left.ensures.more many) in
    union-wide c.args.s.now c.requires.sound c.args.r.now c.args.place c.args.members.now c.in_ok-brought.brought.items
    c.in_ok-left.left.items c.requires.union c.in_ok-brought.ensures.ok
    c.in_ok-brought.ensures.passes (union-sized c.args.s.now c.args.r.now c.args.members.now c.in_ok-brought.brought.items c.requires.union
    c.in_ok-brought.ensures.ok none) more

pub returns-clause-ok : goal.returns-clause-ok
returns-clause-ok c =
    let few : length c.in_ok-left.left.items ≤ 64 = omega (arith, c.len-2.ensures, c.if-len-gt-MOST_MEMBERS.false) in
    let all = c.in_ok-left.ensures.all few ∙ ap (λ is. put_all is []) c.deref-2.ensures.value in
    union-reduction c.args.s.now c.requires.sound c.args.r.now c.args.members.now c.in_ok-brought.brought.items c.in_ok-left.left.items
    c.requires.union c.in_ok-brought.ensures.ok all
    c.in_ok-reduced.reduced (subst (λ is. IsOfMembers is c.in_ok-reduced.reduced) c.deref-3.ensures.value c.in_ok-reduced.ensures)

pub returns-clause-passes : goal.returns-clause-passes
returns-clause-passes c =
    let none : list_any (unsized_at c.args.s.now) c.in_ok-brought.brought.items ≡ false =
    ap (list_any (unsized_at c.args.s.now)) (sym c.deref.ensures.value) ∙ sym c.any_unsized.ensures ∙ c.if-any_unsized.false in
    let few : length c.in_ok-left.left.items ≤ 64 = omega (arith, c.len-2.ensures, c.if-len-gt-MOST_MEMBERS.false) in
    let some : ¬ (length c.in_ok-left.left.items ≡ 0) = omega (arith, c.len.ensures, c.if-len-eq0.false) in
    let all = c.in_ok-left.ensures.all few ∙ ap (λ is. put_all is []) c.deref-2.ensures.value in
    union-passes c.args.s.now c.requires.sound c.args.r.now c.args.place c.args.members.now c.in_ok-brought.brought.items
    c.in_ok-left.left.items c.requires.union c.in_ok-brought.ensures.ok
    c.in_ok-brought.ensures.passes (union-sized c.args.s.now c.args.r.now c.args.members.now c.in_ok-brought.brought.items c.requires.union
    c.in_ok-brought.ensures.ok none) all some few
