use Rattle.std.proofs.Common.{◌+◌, ◌++◌, ◌∷◌, [], length, sym, subst}
use Rattle.hare_decl.specs.Answers.{Stops}
use Rattle.hare_sources.specs.Files.{IsRead, IsFaultOfFile, IsFaultOfFiles}
use Rattle.hare_sources.proofs.ReadLemmas.{Reading, reading-within, reading-on, reading-stops, err-same, stops-more}
use Rattle.hare_sources.proofs.files.files_of.Goals as goal

pub read_file-requires : goal.read_file-requires
read_file-requires c = reading-within c.args.srcs.now c.loop-i.i c.loop-i.before c.loop-i.trees c.loop-i.invariant

pub returns-in_err-tree-clause-err : goal.returns-in_err-tree-clause-err
returns-in_err-tree-clause-err c =
    let srcs = c.args.srcs.now in
    let s = c.in-Some.src.now in
    let e = c.in_err-tree.field-0.0 in
    let k = subst (λ x. Stops (IsFaultOfFile c.loop-i.before c.loop-i.i x) e) c.bytes.ensures c.in_err-tree.ensures.err in
    err-same c.from_residual.result e (Stops (IsFaultOfFiles srcs)) c.from_residual.ensures.1
    (stops-more (IsFaultOfFile c.loop-i.before c.loop-i.i s) (IsFaultOfFiles srcs)
    (reading-stops srcs c.loop-i.i c.loop-i.before c.loop-i.trees s c.loop-i.invariant (sym c.in-Some.ensures)) e k)

pub loop-i-preserved : goal.loop-i-preserved
loop-i-preserved c =
    let srcs = c.args.srcs.now in
    let i = c.loop-i.i in
    let before = c.loop-i.before in
    let trees = c.loop-i.trees in
    let tree = c.in_ok-tree.tree in
    let s = c.in-Some.src.now in
    let h = subst (λ x. IsRead before i x tree) c.bytes.ensures c.in_ok-tree.ensures.ok in
    let r = reading-on srcs i before trees s c.loop-i.invariant (sym c.in-Some.ensures) tree h in
    subst (λ ts. Reading srcs (i + 1) (before + length c.bytes-in-loop-i.result.now) ts) (sym c.in_ok-push.ensures.ok)
    (subst (λ x. Reading srcs (i + 1) (before + length x) (trees ++ tree ∷ [])) (sym c.bytes-in-loop-i.ensures) r)
