use Rattle.std.proofs.Common.{◌<◌, ◌++◌, ◌∷◌, [], ap, ◌∙◌, subst, length, if◌then◌else◌}
use Rattle.hare_types.proofs.NumberingLemmas.{some_passes}
use Rattle.hare_types.proofs.numbering.number.Goals as goal

pub returns-then-len-lt-MOST-clause-kept : goal.returns-then-len-lt-MOST-clause-kept
returns-then-len-lt-MOST-clause-kept g c = λ h.
    c.in_ok-place.ensures.keys
    ∙ ap (λ b. if b then c.args.set.now.keys else c.args.set.now.keys ++ c.args.key ∷ [])
    (some_passes _ c.args.set.now.keys (subst (λ n. n < length c.args.set.now.keys) c.in_ok-place.ensures.index h))
