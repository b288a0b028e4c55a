use Rattle.std.proofs.Common.{drop, fold, sym, ap, ◌∙◌}
use Rattle.hare_modules.specs.Order.{earlier}
use Rattle.hare_modules.specs.Takings.{runtime_files}
use Rattle.hare_modules.proofs.ListLemmas.{drop-none}
use Rattle.hare_modules.proofs.FirstLemmas.{runtime_files-none, runtime_files-on}
use Rattle.hare_modules.proofs.looks.runtime_file.Goals as goal

pub returns-in_default : goal.returns-in_default
returns-in_default c =
    let hs = drop c.loop-i.i c.args.homes.now in
    sym (ap (λ ts. fold earlier c.loop-i.first (runtime_files hs ts)) (drop-none c.args.files.now c.loop-i.i (sym c.in_default.ensures))
    ∙ ap (fold earlier c.loop-i.first) (runtime_files-none hs))
    ∙ c.loop-i.invariant

pub loop-i-preserved : goal.loop-i-preserved
loop-i-preserved c =
    rw c.earlier_of-first.ensures (runtime_files-on c.args.homes.now c.args.files.now c.loop-i.i c.in-Some.tree.now c.loop-i.first _
    c.runtime_fault.result c.loop-i-test.true (sym c.in-Some.ensures) c.runtime_fault.ensures c.loop-i.invariant)
