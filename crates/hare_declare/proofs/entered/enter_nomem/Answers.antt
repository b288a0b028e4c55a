use Rattle.std.proofs.Common.{ap}
use Rattle.hare_types.proofs.CallerLemmas.{Continues-refl}
use Rattle.hare_declare.proofs.TypesEntered.Nomem.{refusal-sized, refusal-finite, row-stays, not-defined, keeps}
use Rattle.hare_declare.proofs.entered.enter_nomem.Goals as goal

pub define-requires-clause-fresh : goal.define-requires-clause-fresh
define-requires-clause-fresh c =
    not-defined c.args.s.now _ _ _ _ _ c.in_ok-declare.ensures.ok c.in_ok-void.ensures.rest c.in_ok-refusal.ensures.rest c.requires.fresh

pub define-requires-clause-sized : goal.define-requires-clause-sized
define-requires-clause-sized c =
    refusal-sized c.intern.new.self c.intern-2.new.self c.in_ok-void.void c.in_ok-refusal.refusal c.in_ok-void.ensures.stands
    c.in_ok-refusal.ensures.stands 4294967295
    (c.in_ok-refusal.ensures.grows.sized _ _ (c.in_ok-void.ensures.grows.sized _ _ c.in_ok-declare.ensures.entered))

pub define-requires-clause-finite : goal.define-requires-clause-finite
define-requires-clause-finite c =
    refusal-finite c.intern.new.self c.intern-2.new.self c.in_ok-void.void c.in_ok-refusal.refusal c.in_ok-void.ensures.stands
    c.in_ok-refusal.ensures.stands 4294967295

pub returns-clause-kept : goal.returns-clause-kept
returns-clause-kept c =
    keeps c.args.s.now _ _ _ _ _ c.in_ok-declare.ensures.ok c.in_ok-void.ensures.rest c.in_ok-refusal.ensures.rest
    c.define.new.self c.define.ensures.sized c.define.ensures.others

pub returns-clause-defined : goal.returns-clause-defined
returns-clause-defined c =
    let rows = ap (λ s. s.rows) c.define.ensures.rest in (
      c.in_ok-refusal.refusal,
      c.in_ok-void.void,
      c.define.ensures.entered,
      row-stays _ _ _ _ _ (Continues-refl c.intern-2.new.self.rows) rows c.in_ok-refusal.ensures.numbered.stands,
      row-stays _ _ _ _ _ c.in_ok-refusal.ensures.grows.rows rows c.in_ok-void.ensures.numbered.stands,
    )
