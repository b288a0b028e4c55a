use Rattle.std.proofs.Common.{ap, sym, ◌∙◌, ◌+◌, if◌then◌else◌}
use Rattle.std.specs.Option.{unwrap_or}
use Rattle.std.proofs.Common.{ℕ, nat_eq, arith}
use Rattle.indexmap.specs.IndexMap.{get}
use Rattle.rule_mem.proofs.FillLemmas.{spells-some, spells-none}
use Rattle.rule_mem.proofs.fill.count_spelled.Goals as goal

pub returns-in_ok-count_one-in-Some : goal.returns-in_ok-count_one-in-Some
returns-in_ok-count_one-in-Some c n =
    let word = ap {B = ℕ} (λ b. if b then 1 else 0)
    (spells-some c.args.s.now c.declarations-law.ensures.sound c.args.text.now c.in-Some.name n c.in-Some.ensures.found) in
    let more = c.in_ok-count_one-in-Some.ensures n in
    omega (arith, word, more)

pub returns-in-None : goal.returns-in-None
returns-in-None c n =
    let word = ap {B = ℕ} (λ b. if b then 1 else 0)
    (spells-none c.args.s.now c.declarations-law.ensures.sound c.args.text.now n c.in-None.ensures.none) in
    omega (arith, word)
