use Rattle.std.proofs.Common.{◌≡◌, length, map, sym, subst, ap, ◌∙◌}
use Rattle.hare_names.specs.Answers.{meaning_in}
use Rattle.hare_depends.specs.Said.{said_of}
use Rattle.hare_depends.specs.Circles.{AllWithin}
use Rattle.hare_saids.specs.Saids.{decls, saids}
use Rattle.hare_saids.proofs.FileLemmas.{all-within, file-done}
use Rattle.hare_saids.proofs.program.saids.Goals as goal

pub returns-clause-within : goal.returns-clause-within
returns-clause-within c =
    let means = meaning_in c.args.names.now in
    let counted : c.count_decls-count.result ≡ length (decls c.args.files.now) = c.count_decls-count.ensures
    ∙ ap (λ fs. length (decls fs)) c.as_slice.ensures in
    let all : c.loop-file.saids.items ≡ saids c.args.files.now means
    = file-done (said_of c.count_decls-count.result means) c.loop-file.saids.items _ c.as_slice-file-items.result.now
    c.loop-file.file-index c.loop-file-test.false c.loop-file.invariant
    ∙ ap (λ n. map (said_of n means) (decls c.as_slice-file-items.result.now)) counted
    ∙ ap (λ fs. map (said_of (length (decls c.args.files.now)) means) (decls fs)) c.as_slice-file-items.ensures in
    subst AllWithin (sym all) (all-within c.args.files.now means)
