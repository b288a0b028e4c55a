use Rattle.std.proofs.Common.{◌++◌, map, drop, sym, ap, ◌∙◌, append-nil}
use Rattle.hare_modules.specs.Takings.{using, usings}
use Rattle.hare_modules.proofs.ListLemmas.{drop-none}
use Rattle.hare_modules.proofs.CollectLemmas.{usings-none, usings-on}
use Rattle.hare_modules.proofs.claims.collect_uses.Goals as goal

pub returns-in_default : goal.returns-in_default
returns-in_default c =
    let hs = drop c.loop-file.file c.args.homes.now in
    let none = ap (usings c.args.known.now hs) (drop-none c.args.files.now c.loop-file.file (sym c.in_default.ensures)) ∙ usings-none
    c.args.known.now hs in
    sym (append-nil (map using c.loop-file.collected.items)) ∙ sym (ap (λ us. map using c.loop-file.collected.items ++ us) none) ∙
    c.loop-file.invariant

pub loop-file-preserved : goal.loop-file-preserved
loop-file-preserved c =
    usings-on c.args.known.now c.args.homes.now c.args.files.now c.loop-file.file c.in-Some.tree.now (map using c.loop-file.collected.items)
    (map using c.take_uses.new.collected.items) _ c.loop-file-test.true (sym c.in-Some.ensures) c.in_ok-take_uses.ensures
    c.loop-file.invariant
