use Rattle.std.proofs.Common.{sym}
use Rattle.harec_core.proofs.MadeModule.Compiled.{module_of_file}
use Rattle.harec_core.proofs.compile.module_of.Goals as goal

pub returns : goal.returns
returns c =
    let file = rw c.in-Some.is at c.in_ok-program.ensures.ok in
    let flat = c.in_ok-flat.ensures in
    let made = c.in_ok-module.ensures in
    module_of_file c.law_input.ensures c.args.source.now _ c.in_ok-flat.flat c.in_ok-module.module file
    (λ q s. sym (rw c.in-Some.is at (c.in_ok-program.ensures.only q s)))
    (record { does = flat.does; loops = flat.loops; shape = flat.shape; costs = flat.costs })
    (record { valid = made.valid; reaches = made.reaches; shape = made.shape })
