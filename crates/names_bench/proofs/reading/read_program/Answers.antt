use Rattle.std.proofs.Common.{rules}
use Rattle.hare_sources.specs.Named.{ArePaired}
use Rattle.hare_sources.proofs.CountLemmas.{files-are}
use Rattle.names_bench.proofs.reading.read_program.Goals as goal

pub invariant_of-result : goal.invariant_of-result
invariant_of-result c =
    let paired : ArePaired c.args.program.paths.items c.args.program.sources = search rules in
    files-are c.args.program.paths.items c.args.program.sources c.in-Ok.files paired c.in-Ok.ensures.ok
