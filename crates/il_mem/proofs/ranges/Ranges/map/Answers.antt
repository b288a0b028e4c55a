use Rattle.std.proofs.Common.{◌≡◌, ℕ, ◌+◌, List, true, inl, inr, sym, ap, ◌∙◌, subst, arith}
use Rattle.std.specs.Ordering.{nat_cmp}
use Rattle.std.specs.BTreeMap.{insert_entry}
use Rattle.il_mem.specs.Kept.{IsBare}
use Rattle.il_mem.specs.Laid.{are_laid, AreApart, LeavesOut, EndsBy, with_all}
use Rattle.il_mem.proofs.StackLists.{joined, with_all-push, with_all-other, apart-push, apart-other, leaves_out-insert}
use Rattle.il_mem.proofs.ranges.Ranges.map.Goals as goal

pub invariant_of-self-then-follows : goal.invariant_of-self-then-follows
invariant_of-self-then-follows c =
    let ss = c.self.inside.stack.items in
    let es = c.self.inside.ends.entries in
    let at = c.args.at in
    let bare = subst (λ (rs : List (ℕ × ℕ)). IsBare rs at c.args.n) (sym c.self.view_is) c.requires.bare in
    let behind = subst (λ (rs : List (ℕ × ℕ)). EndsBy at rs) c.deref.ensures.value (c.follows.ensures c.if-follows.true) in (
      subst (λ (rs : List (ℕ × ℕ)). AreApart rs es) (sym c.in_ok-push.ensures.items)
          (apart-push ss es at (at + c.args.n) c.self.invariant.0 behind (omega (arith, c.requires.some)) c.requires.ends bare),
      c.self.invariant.1,
    )

pub returns-then-follows-clause-ok : goal.returns-then-follows-clause-ok
returns-then-follows-clause-ok c =
    ap (λ (rs : List (ℕ × ℕ)). with_all rs c.self.inside.ends.entries) c.in_ok-push.ensures.items
    ∙ with_all-push c.self.inside.stack.items c.self.inside.ends.entries c.args.at (c.args.at + c.args.n)
    ∙ ap (λ (rs : List (ℕ × ℕ)). insert_entry nat_cmp rs c.args.at (c.args.at + c.args.n)) c.self.view_is

pub returns-then-follows-clause-laid : goal.returns-then-follows-clause-laid
returns-then-follows-clause-laid c =
    subst (λ (rs : List (ℕ × ℕ)). are_laid 0 rs ≡ true) c.self.view_is
    (joined c.self.inside.stack.items c.self.inside.ends.entries c.self.invariant.0).laid

pub invariant_of-self-then-self-at-2 : goal.invariant_of-self-then-self-at-2
invariant_of-self-then-self-at-2 c =
    let ss = c.self.inside.stack.items in
    let es = c.self.inside.ends.entries in
    let at = c.args.at in
    let end = c.min-self-inside.result in
    let bare = subst (λ (rs : List (ℕ × ℕ)). IsBare rs at c.args.n) (sym c.self.view_is) c.requires.bare in (
      subst (λ (rs : List (ℕ × ℕ)). AreApart ss rs) (sym c.in_ok-insert.ensures.entries)
          (apart-other ss es at (at + c.args.n) c.self.invariant.0 (omega (arith, c.requires.some)) c.requires.ends bare),
      subst (λ (rs : List (ℕ × ℕ)). LeavesOut c.self.inside.from end rs) (sym c.in_ok-insert.ensures.entries)
          (leaves_out-insert c.self.inside.from c.self.inside.end end at (at + c.args.n) es c.self.invariant.1
          (omega (arith, c.min-self-inside.ensures)) (inr (omega (arith, c.min-self-inside.ensures)))),
    )

pub invariant_of-self-else-self-at-2 : goal.invariant_of-self-else-self-at-2
invariant_of-self-else-self-at-2 c =
    let ss = c.self.inside.stack.items in
    let es = c.self.inside.ends.entries in
    let at = c.args.at in
    let end = c.self.inside.end in
    let bare = subst (λ (rs : List (ℕ × ℕ)). IsBare rs at c.args.n) (sym c.self.view_is) c.requires.bare in (
      subst (λ (rs : List (ℕ × ℕ)). AreApart ss rs) (sym c.in_ok-insert.ensures.entries)
          (apart-other ss es at (at + c.args.n) c.self.invariant.0 (omega (arith, c.requires.some)) c.requires.ends bare),
      subst (λ (rs : List (ℕ × ℕ)). LeavesOut c.self.inside.from end rs) (sym c.in_ok-insert.ensures.entries)
          (leaves_out-insert c.self.inside.from end end at (at + c.args.n) es c.self.invariant.1 (omega arith) (inl c.if-self-at-2.false)),
    )

pub returns-then-self-at-2-clause-ok : goal.returns-then-self-at-2-clause-ok
returns-then-self-at-2-clause-ok c =
    let ss = c.self.inside.stack.items in
    let es = c.self.inside.ends.entries in
    let at = c.args.at in
    let bare = subst (λ (rs : List (ℕ × ℕ)). IsBare rs at c.args.n) (sym c.self.view_is) c.requires.bare in
    ap (λ (rs : List (ℕ × ℕ)). with_all ss rs) c.in_ok-insert.ensures.entries
    ∙ with_all-other ss es at (at + c.args.n) c.self.invariant.0 (bare at (omega arith) (omega (arith, c.requires.some)))
    ∙ ap (λ (rs : List (ℕ × ℕ)). insert_entry nat_cmp rs at (at + c.args.n)) c.self.view_is

pub returns-then-self-at-2-clause-laid : goal.returns-then-self-at-2-clause-laid
returns-then-self-at-2-clause-laid c =
    subst (λ (rs : List (ℕ × ℕ)). are_laid 0 rs ≡ true) c.self.view_is
    (joined c.self.inside.stack.items c.self.inside.ends.entries c.self.invariant.0).laid

pub returns-else-self-at-2-clause-ok : goal.returns-else-self-at-2-clause-ok
returns-else-self-at-2-clause-ok c =
    let ss = c.self.inside.stack.items in
    let es = c.self.inside.ends.entries in
    let at = c.args.at in
    let bare = subst (λ (rs : List (ℕ × ℕ)). IsBare rs at c.args.n) (sym c.self.view_is) c.requires.bare in
    ap (λ (rs : List (ℕ × ℕ)). with_all ss rs) c.in_ok-insert.ensures.entries
    ∙ with_all-other ss es at (at + c.args.n) c.self.invariant.0 (bare at (omega arith) (omega (arith, c.requires.some)))
    ∙ ap (λ (rs : List (ℕ × ℕ)). insert_entry nat_cmp rs at (at + c.args.n)) c.self.view_is

pub returns-else-self-at-2-clause-laid : goal.returns-else-self-at-2-clause-laid
returns-else-self-at-2-clause-laid c =
    subst (λ (rs : List (ℕ × ℕ)). are_laid 0 rs ≡ true) c.self.view_is
    (joined c.self.inside.stack.items c.self.inside.ends.entries c.self.invariant.0).laid
