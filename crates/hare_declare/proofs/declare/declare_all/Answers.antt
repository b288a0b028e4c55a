use Rattle.std.proofs.Common.{◌≡◌, ap, ◌∙◌, sym, length, subst}
use Rattle.hare_names.specs.Answers.{meaning_in}
use Rattle.hare_saids.specs.Saids.{decls}
use Rattle.hare_whole.specs.Listing.{Listing}
use Rattle.hare_declare.specs.Outlines.{outlines}
use Rattle.hare_declare.specs.Lacking.{AreWithin, TellsLacking}
use Rattle.hare_declare.specs.Entered.{AreEntered}
use Rattle.hare_declare.proofs.TypesSeen.Sizeless.{are-within}
use Rattle.hare_declare.proofs.TypesSeen.Declared.{declared}
use Rattle.hare_declare.proofs.declare.declare_all.Goals as goal

pub lacking-requires-clause-within : goal.lacking-requires-clause-within
lacking-requires-clause-within c =
    let means = meaning_in c.args.names.now in
    let is = c.in_ok-outlines.ensures ∙ ap (λ fs. outlines record { decls = decls fs; means = means }) c.as_slice.ensures in
    subst AreWithin (sym (c.deref.ensures.value ∙ is)) (are-within _)

pub returns-clause-declared : goal.returns-clause-declared
returns-clause-declared c =
    let means = meaning_in c.args.names.now in
    let p : Listing = record { decls = decls c.args.files.now; means = means } in
    let s = c.enter_types.new.s in
    let is : c.in_ok-outlines.outlines.items ≡ outlines p
    = c.in_ok-outlines.ensures ∙ ap (λ fs. outlines record { decls = decls fs; means = means }) c.as_slice.ensures in
    let tells = subst (λ os. TellsLacking os c.in_ok-lacking.lacking.items) (c.deref.ensures.value ∙ is) c.in_ok-lacking.ensures in
    let entered = subst (λ ls. AreEntered s (outlines p) ls (length (outlines p))) c.deref-3.ensures.value
    (subst (λ os. AreEntered s os c.deref-3.result.now (length os)) (c.deref-2.ensures.value ∙ is) c.in_ok-enter_types.ensures.entered) in
    declared p s c.in_ok-lacking.lacking.items entered tells c.enter_nomem.new.s c.in_ok-enter_nomem.ensures.kept
    c.in_ok-enter_nomem.ensures.sound
