use Rattle.std.proofs.Common.{ℕ, sym, ◌∙◌, subst, arith}
use Rattle.std.specs.List.{All}
use Rattle.hx_base.specs.Memory.{empty_memory}
use Rattle.hx_base.specs.Runtime.{arguments_start}
use Rattle.hx_base.proofs.Memory.Arguments.{fill-with_arguments}
use Rattle.il_code.specs.Addresses.{with_data}
use Rattle.il_mem.specs.Kept.{Kept}
use Rattle.il_mem.specs.Holds.{Holds}
use Rattle.il_load.specs.Puts.{Stands}
use Rattle.il_load.specs.Start.{LiesBelow}
use Rattle.il_load.proofs.ArgumentLemmas.{below-with_arguments}
use Rattle.il_load.proofs.DataLemmas.{fill-with_data}
use Rattle.il_load.proofs.StartLemmas.{before-bare}
use Rattle.il_load.proofs.start.load.Goals as goal

-- memory in which nothing was written
nothing : (it : Kept) (fill : ℕ) → Holds it (empty_memory fill) → Stands it (empty_memory fill)
nothing it fill h = record { holds = h; pages = λ p t. absurd cc }

pub put_arguments-requires-clause-bare : goal.put_arguments-requires-clause-bare
put_arguments-requires-clause-bare c = λ n.
    before-bare arguments_start arguments_start n c.put_items.new.memory.ranges (omega arith) c.in_ok-put_items.ensures.below

pub put_arguments-requires-clause-some : goal.put_arguments-requires-clause-some
put_arguments-requires-clause-some c = record {
  memory = with_data c.args.m.now (empty_memory c.args.fill) c.args.m.now.items;
  stands = c.in_ok-put_items.ensures.stands (empty_memory c.args.fill) (nothing _ c.args.fill c.new-memory.ensures.holds);
}

pub returns-clause-stands : goal.returns-clause-stands
returns-clause-stands c =
    c.in_ok-put_arguments.ensures.done _
    (c.in_ok-put_items.ensures.stands (empty_memory c.args.fill) (nothing _ c.args.fill c.new-memory.ensures.holds))

pub returns-clause-fill : goal.returns-clause-fill
returns-clause-fill c =
    let m = c.args.m.now in
    let stands = c.in_ok-put_arguments.ensures.done _
    (c.in_ok-put_items.ensures.stands (empty_memory c.args.fill) (nothing _ c.args.fill c.new-memory.ensures.holds)) in
    stands.holds.bytes.fill ∙ fill-with_arguments (with_data m (empty_memory c.args.fill) m.items) c.args.arguments.now
    ∙ fill-with_data m (empty_memory c.args.fill) m.items

pub returns-clause-below : goal.returns-clause-below
returns-clause-below c =
    subst (All LiesBelow) (sym c.in_ok-put_arguments.ensures.ranges)
    (below-with_arguments c.put_items.new.memory.ranges c.args.arguments.now c.requires.few c.in_ok-put_items.ensures.below)
