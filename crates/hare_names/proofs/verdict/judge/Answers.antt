use Rattle.std.proofs.Common.{◌≡◌, ◌∷◌, [], ap, ◌∙◌, subst}
use Rattle.std.specs.Prelude.{MatchOption}
use Rattle.hare_tree.specs.Spell.{parts}
use Rattle.hare_directory.specs.Seen.{tables_of}
use Rattle.hare_names.proofs.VerdictLemmas.{verdict-many}
use Rattle.hare_names.proofs.verdict.judge.Goals as goal

pub returns-in-Some-more : goal.returns-in-Some-more
returns-in-Some-more c =
    let x = c.first_name.result.0.now in
    let y = c.first_name-2.result.0.now in
    let first = subst (λ o. MatchOption o (parts c.args.text.now ≡ x ∷ []) (λ r. parts c.args.text.now ≡ x ∷ parts r.now)) c.in-Some.is
    c.first_name.ensures in
    let second = subst (λ o. MatchOption o (parts c.in-Some.rest.now ≡ y ∷ []) (λ r. parts c.in-Some.rest.now ≡ y ∷ parts r.now))
    c.in-Some-more.is c.first_name-2.ensures in
    verdict-many (tables_of c.args.directory.now) c.args.file c.args.is_type c.args.locals.now x y c.in-Some-more.field-0.now
    (parts c.args.text.now) (first ∙ ap (λ ps. x ∷ ps) second)
