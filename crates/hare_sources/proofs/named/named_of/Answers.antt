use Rattle.hare_decl.specs.Answers.{Stops}
use Rattle.hare_sources.specs.Named.{IsEarlyFault}
use Rattle.hare_sources.proofs.ReadLemmas.{err-same}
use Rattle.hare_sources.proofs.CountLemmas.{files-are}
use Rattle.hare_sources.proofs.OnceLemmas.{names-stop}
use Rattle.hare_sources.proofs.named.named_of.Goals as goal

pub resolve-requires : goal.resolve-requires
resolve-requires c = files-are c.args.paths.now c.args.srcs.now c.in_ok-files.files c.requires c.in_ok-files.ensures.ok

pub returns-in_err-names-clause-err : goal.returns-in_err-names-clause-err
returns-in_err-names-clause-err c =
    let e = c.in_err-names.field-0.0 in
    err-same c.from_residual-in_err-names.result e (Stops (IsEarlyFault c.args.paths.now c.args.srcs.now))
    c.from_residual-in_err-names.ensures.1
    (names-stop c.args.paths.now c.args.srcs.now c.in_ok-files.files c.in_ok-files.ensures.ok e c.in_err-names.ensures.err)
