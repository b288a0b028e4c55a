use Rattle.std.proofs.Common.{◌<◌, Some, ap, ◌∙◌, arith}
use Rattle.hare_types.specs.declared.row.Row.TheVariants as row
use Rattle.hare_layout.proofs.SizedLemmas.{unsized-mark, unsized-wordless, unsized-word, unsized-name, unsized-unknown, unsized-other}
use Rattle.hare_layout.proofs.sized.is_unsized.Goals as goal

pub marks-smaller : goal.marks-smaller
marks-smaller c = c.row.ensures.sound.rows_sound.within c.marks.at (row.Error c.in-Error.inner) (c.row.ensures.row ∙ ap Some c.in-Error.is)

pub marks-preserved : goal.marks-preserved
marks-preserved c =
    let e = c.row.ensures.row ∙ ap Some c.in-Error.is in
    let below : c.in-Error.inner < c.marks.at = c.row.ensures.sound.rows_sound.within c.marks.at (row.Error c.in-Error.inner) e in
    (omega (arith, c.marks.invariant.0), unsized-mark c.args.s.now c.row.ensures.sound c.marks.at c.in-Error.inner e ∙ c.marks.invariant.1)

pub returns-in_default-matches : goal.returns-in_default-matches
returns-in_default-matches c =
    unsized-word c.args.s.now c.row.ensures.sound c.marks.at c.in-Scalar.k (c.row.ensures.row ∙ ap Some c.in-Scalar.is)
    c.in_default-matches.not-Never c.in_default-matches.not-Opaque ∙ c.marks.invariant.1

pub returns-in-Never : goal.returns-in-Never
returns-in-Never c = unsized-wordless c.args.s.now c.row.ensures.sound c.marks.at c.in-Scalar.k (c.row.ensures.row ∙ ap Some c.in-Scalar.is)
    c.in-Never.is ∙ c.marks.invariant.1

pub returns-in-Never-2 : goal.returns-in-Never-2
returns-in-Never-2 c = unsized-wordless c.args.s.now c.row.ensures.sound c.marks.at c.in-Scalar.k
    (c.row.ensures.row ∙ ap Some c.in-Scalar.is) c.in-Never.is ∙ c.marks.invariant.1

pub returns-in-Some : goal.returns-in-Some
returns-in-Some c = unsized-name c.args.s.now c.row.ensures.sound c.marks.at c.in-Named.decl c.in-Some.sized
    (c.row.ensures.row ∙ ap Some c.in-Named.is) c.in-Some.ensures ∙ c.marks.invariant.1

pub returns-in-None : goal.returns-in-None
returns-in-None c = unsized-unknown c.args.s.now c.row.ensures.sound c.marks.at c.in-Named.decl (c.row.ensures.row ∙ ap Some c.in-Named.is)
    c.in-None.ensures ∙ c.marks.invariant.1

pub returns-in_default : goal.returns-in_default
returns-in_default c = unsized-other c.args.s.now c.row.ensures.sound c.marks.at c.row.result.now c.row.ensures.row c.in_default.not-Scalar
    c.in_default.not-Error c.in_default.not-Named ∙ c.marks.invariant.1
