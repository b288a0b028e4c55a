use Rattle.std.proofs.Common.{◌+◌, ◌<◌, length, take, sym, subst, arith}
use Rattle.hare_whole.specs.Listing.{written_types}
use Rattle.hare_steps.specs.Plans.{listing}
use Rattle.hare_turns.specs.Types.{AreTypesSoFar}
use Rattle.hare_walk.proofs.Grows.{grown-trans}
use Rattle.hare_walk.proofs.Steps.{err_same}
use Rattle.hare_written.proofs.Fitting.Fits.{grown-later}
use Rattle.hare_written.proofs.PartOfType.Known.{defs-stay}
use Rattle.hare_signatures.specs.Listed.{written_of}
use Rattle.hare_signatures.specs.Signatures.{IsSignatureStop}
use Rattle.hare_signatures.proofs.ListLemmas.{written-there}
use Rattle.hare_signatures.proofs.ShapeLemmas.{shaped-at, types-shaped}
use Rattle.hare_signatures.proofs.TypeLemmas.{types-more, types-stop}
use Rattle.hare_signatures.proofs.signature.judge_types.Goals as goal

pub judge_type-requires-clause-shaped : goal.judge_type-requires-clause-shaped
judge_type-requires-clause-shaped c =
    let t = c.args.decl.now in
    let i = c.loop-i.i in
    let w = c.index.result.now in
    let within : i < length c.in_ok-written.written.items = omega arith in
    shaped-at (written_types t) i (written_of w) (types-shaped t c.requires.shaped)
    (written-there c.in_ok-written.written.items (written_types t) i w c.in_ok-written.ensures within c.index.ensures)

pub judge_type-requires-clause-defs : goal.judge_type-requires-clause-defs
judge_type-requires-clause-defs c =
    let s = c.args.s.now in
    let r = c.loop-i.s in
    let later = grown-later s r c.loop-i.invariant.grown c.loop-i.invariant.sound in
    defs-stay s r c.declarations-law.ensures.sound later c.args.known.now c.requires.defs

pub returns-in_err-typed-clause-err : goal.returns-in_err-typed-clause-err
returns-in_err-typed-clause-err c =
    let p = listing c.args.names.now c.args.files.now in
    let ds = c.args.known.now in
    let n = c.args.own in
    let t = c.args.decl.now in
    let i = c.loop-i.i in
    let w = c.index.result.now in
    let r = c.judge_type.new.s in
    let e = c.in_err-typed.field-0.0 in
    let within : i < length c.in_ok-written.written.items = omega arith in
    let there = written-there c.in_ok-written.written.items (written_types t) i w c.in_ok-written.ensures within c.index.ensures in
    err_same c.from_residual-in_err-typed.result e (IsSignatureStop p ds r n t) c.from_residual-in_err-typed.ensures.1
    (types-stop c.law_types_are_judged.ensures p ds n t c.loop-i.s c.loop-i.invariant.sound i c.loop-i.types c.loop-i.invariant.types
    (written_of w) there r c.judge_type.ensures.grown c.judge_type.ensures.sound e c.in_err-typed.ensures.err)

pub loop-i-preserved : goal.loop-i-preserved
loop-i-preserved c =
    let p = listing c.args.names.now c.args.files.now in
    let ds = c.args.known.now in
    let n = c.args.own in
    let t = c.args.decl.now in
    let i = c.loop-i.i in
    let w = c.index.result.now in
    let r = c.judge_type.new.s in
    let xs = c.loop-i.types in
    let x = c.in_ok-typed.typed in
    let within : i < length c.in_ok-written.written.items = omega arith in
    let there = written-there c.in_ok-written.written.items (written_types t) i w c.in_ok-written.ensures within c.index.ensures in
    record {
      types =
          subst (AreTypesSoFar p ds r n (take (i + 1) (written_types t))) (sym c.in_ok-push.ensures.ok)
          (types-more c.law_types_are_judged.ensures p ds n t c.loop-i.s c.loop-i.invariant.sound i xs c.loop-i.invariant.types
          (written_of w) there r c.judge_type.ensures.grown c.judge_type.ensures.sound x c.in_ok-typed.ensures.ok
          c.in_ok-typed.ensures.fits);
      grown = grown-trans c.args.s.now c.loop-i.s r c.loop-i.invariant.grown c.judge_type.ensures.grown;
      sound = c.judge_type.ensures.sound;
    }
