use Rattle.std.proofs.Common.{◌≡◌, sym, ◌∙◌, subst}
use Rattle.std.specs.Prelude.{◌≤◌}
use Rattle.hare_types.proofs.IdLemmas.{extent_tells}
use Rattle.hare_layout.proofs.SmallLemmas.{told_small}
use Rattle.hare_layout.proofs.size.extent_of.Goals as goal

-- what the store tells is the extent of the type
pub returns-clause-at : goal.returns-clause-at
returns-clause-at c =
    let h = c.requires in
    let both = c.in-Some.ensures.value ∙ told_small c.args.s.now c.args.t h in
    h.at ∙ sym both

pub returns-clause-value : goal.returns-clause-value
returns-clause-value c = (extent_tells c.args.s.now c.extent.ensures.sound c.args.t c.in-Some.x).0 (returns-clause-at c)

pub returns-clause-within : goal.returns-clause-within
returns-clause-within c =
    let h = c.requires in
    let both = c.in-Some.ensures.value ∙ told_small c.args.s.now c.args.t h in
    let same : h.extent ≡ c.in-Some.x = cc in
    record {
      size = subst (λ x. x.size ≤ 67108864) same h.few;
      low = c.in-Some.ensures.within.low;
      high = c.in-Some.ensures.within.high;
    }

pub unreachable-requires : goal.unreachable-requires
unreachable-requires c =
    let both = c.in-None.ensures.value ∙ told_small c.args.s.now c.args.t c.requires in
    cc
