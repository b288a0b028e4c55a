use Rattle.std.proofs.Common.{◌≡◌, ℕ, List, true, sym, ap, ◌∙◌, subst, arith}
use Rattle.std.specs.Prelude.{not, filter}
use Rattle.hx_base.specs.Memory.{in_range}
use Rattle.il_mem.specs.Laid.{are_laid, AreApart, LeavesOut, with_all}
use Rattle.il_mem.proofs.StackLists.{joined, apart-filter, leaves_out-filter, leaves_out-none, filter-with_all}
use Rattle.il_mem.proofs.ranges.Ranges.unmap.Goals as goal

-- what is left
abbrev out : ℕ → ℕ → List (ℕ × ℕ) → List (ℕ × ℕ)
out at n rs = filter (λ r. not (in_range at n r.0)) rs

-- of both lists
all_out : (at n : ℕ) (ss es ss' es' now : List (ℕ × ℕ)) → AreApart ss es → with_all ss es ≡ now → ss' ≡ out at n ss → es' ≡ out at n es →
    with_all ss' es' ≡ out at n now
all_out at n ss es ss' es' now h view e f =
    ap (λ (rs : List (ℕ × ℕ)). with_all rs es') e ∙ ap (λ (rs : List (ℕ × ℕ)). with_all (out at n ss) rs) f
    ∙ sym (filter-with_all (λ a. not (in_range at n a)) ss es h) ∙ ap (λ (rs : List (ℕ × ℕ)). out at n rs) view

apart_out : (at n : ℕ) (ss es ss' es' : List (ℕ × ℕ)) → AreApart ss es → ss' ≡ out at n ss → es' ≡ out at n es → AreApart ss' es'
apart_out at n ss es ss' es' h e f =
    subst (λ (rs : List (ℕ × ℕ)). AreApart ss' rs) (sym f)
    (subst (λ (rs : List (ℕ × ℕ)). AreApart rs (out at n es)) (sym e) (apart-filter (λ r. not (in_range at n r.0)) ss es h))

pub invariant_of-self : goal.invariant_of-self
invariant_of-self c =
    let same = leaves_out-none c.self.inside.from c.self.inside.end c.args.at c.args.n c.self.inside.ends.entries c.self.invariant.0.ends
    c.self.invariant.1 c.if-at-self.false
    (λ s short l. omega (arith, short, l, c.if-self-saturating_add.false, c.saturating_add.ensures)) in (
      apart_out c.args.at c.args.n c.self.inside.stack.items c.self.inside.ends.entries _ _ c.self.invariant.0 c.cut.ensures (sym same),
      c.self.invariant.1,
    )

pub invariant_of-self-then-at-self : goal.invariant_of-self-then-at-self
invariant_of-self-then-at-self c = (
  apart_out c.args.at c.args.n c.self.inside.stack.items c.self.inside.ends.entries _ _ c.self.invariant.0 c.cut.ensures c.remove.ensures,
  subst (λ (rs : List (ℕ × ℕ)). LeavesOut c.self.inside.from c.self.inside.end rs) (sym c.remove.ensures)
      (leaves_out-filter (λ r. not (in_range c.args.at c.args.n r.0)) c.self.inside.from c.self.inside.end c.self.inside.ends.entries
      c.self.invariant.1),
)

pub returns-then-at-self-clause-value : goal.returns-then-at-self-clause-value
returns-then-at-self-clause-value c =
    all_out c.args.at c.args.n c.self.inside.stack.items c.self.inside.ends.entries _ _ c.args.self.now c.self.invariant.0 c.self.view_is
    c.cut.ensures c.remove.ensures

pub returns-then-at-self-clause-laid : goal.returns-then-at-self-clause-laid
returns-then-at-self-clause-laid c =
    subst (λ (rs : List (ℕ × ℕ)). are_laid 0 rs ≡ true) c.self.view_is
    (joined c.self.inside.stack.items c.self.inside.ends.entries c.self.invariant.0).laid

pub returns-else-self-saturating_add-clause-value : goal.returns-else-self-saturating_add-clause-value
returns-else-self-saturating_add-clause-value c =
    let same = leaves_out-none c.self.inside.from c.self.inside.end c.args.at c.args.n c.self.inside.ends.entries c.self.invariant.0.ends
    c.self.invariant.1 c.if-at-self.false
    (λ s short l. omega (arith, short, l, c.if-self-saturating_add.false, c.saturating_add.ensures)) in
    all_out c.args.at c.args.n c.self.inside.stack.items c.self.inside.ends.entries _ _ c.args.self.now c.self.invariant.0 c.self.view_is
    c.cut.ensures (sym same)

pub returns-else-self-saturating_add-clause-laid : goal.returns-else-self-saturating_add-clause-laid
returns-else-self-saturating_add-clause-laid c =
    subst (λ (rs : List (ℕ × ℕ)). are_laid 0 rs ≡ true) c.self.view_is
    (joined c.self.inside.stack.items c.self.inside.ends.entries c.self.invariant.0).laid
