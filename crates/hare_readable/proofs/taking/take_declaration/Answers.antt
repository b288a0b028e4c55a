use Rattle.std.proofs.Common.{rules, ◌≡◌, IsTrue, List, [], ◌∷◌, ◌++◌, None, Some, ap, sym, ◌∙◌, subst}
use Rattle.std.specs.Prelude.{option_copied}
use Rattle.hare_rules.specs.declared.declared.DeclType.{DeclType}
use Rattle.hare_turns.specs.Stages.{known_of}
use Rattle.hare_readable.specs.Taking.{TakesMore}
use Rattle.hare_readable.proofs.TakenLemmas.{none-found, same-push, TakesMore-push}
use Rattle.hare_readable.proofs.taking.take_declaration.Goals as goal

pub returns-clause-value : goal.returns-clause-value
returns-clause-value c =
    let ready : List DeclType = c.args.ready.now in
    let known : List DeclType = c.args.known.now in
    let d : DeclType = c.in-Some.d.now in
    let n = c.args.number in
    let new : c.push.new.self ≡ ready ++ d ∷ [] = c.in_ok-push.ensures.ok ∙ ap (λ (x : DeclType). ready ++ x ∷ []) c.in_ok-copy.ensures in
    let there : known_of known n ≡ Some d = sym c.find-2.ensures ∙ ap option_copied c.in-Some.is in
    let none : known_of ready n ≡ None =
    sym c.find.ensures ∙ ap option_copied (none-found _ (sym c.is_some.ensures ∙ c.if-is_some.false)) in
    λ yes. subst (λ (ds : List DeclType). known_of ds n ≡ known_of known n) (sym new) (same-push known ready n d none there)

pub returns-clause-more : goal.returns-clause-more
returns-clause-more c =
    let ready : List DeclType = c.args.ready.now in
    let known : List DeclType = c.args.known.now in
    let d : DeclType = c.in-Some.d.now in
    let n = c.args.number in
    let new : c.push.new.self ≡ ready ++ d ∷ [] = c.in_ok-push.ensures.ok ∙ ap (λ (x : DeclType). ready ++ x ∷ []) c.in_ok-copy.ensures in
    let there : known_of known n ≡ Some d = sym c.find-2.ensures ∙ ap option_copied c.in-Some.is in
    let yes : IsTrue c.in_ok-is_ready.field-0 = search (rules, c.if-not-branch.false) in
    subst (TakesMore c.args.s.now known ready) (sym new)
    (TakesMore-push c.args.s.now known ready n d c.requires.taken there (c.in_ok-is_ready.ensures.value yes))
