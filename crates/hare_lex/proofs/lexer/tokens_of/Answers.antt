use Rattle.std.proofs.Common.{◌≡◌, ◌∙◌, ◌++◌, [], ◌∷◌, ap, arith, length}
use Rattle.std.proofs.lemmas.Bool.Decides.{nat_tests}
use Rattle.hare_lex.specs.Lexing.{advanced}
use Rattle.hare_lex.proofs.Turns.Progress.{reached_at, at_more, at_lines, at_columns, all_read, broken_at}
use Rattle.hare_lex.proofs.Turns.Turn.{token_read, joined, gap_to}
use Rattle.hare_lex.proofs.lexer.tokens_of.Goals as goal

pub advanced-at-requires-clause-columns : goal.advanced-at-requires-clause-columns
advanced-at-requires-clause-columns c =
    let at = reached_at _ _ _ _ _ _ c.loop-text.invariant in
    omega (arith, at_columns _ _ _ _ at)

pub returns-then-is_empty-clause-found : goal.returns-then-is_empty-clause-found
returns-then-is_empty-clause-found c =
    let rest = c.loop-text.rest.now in
    let blank = c.split_at.result.0.now in
    let text = c.split_at.result.1.now in
    let gap = gap_to rest text (c.split_at.ensures.back ∙ c.gap_len.ensures.value) in
    let none : length text ≡ 0 = grind (arith, nat_tests) in
    all_read c.args.file c.args.src.now c.loop-text.tokens c.push.new.self c.loop-text.place c.advanced-at.result c.loop-text.behind_path
    rest blank text gap.0
    c.loop-text.invariant gap.1 (joined c.gap_len.result rest blank text c.split_at.ensures.front c.split_at.ensures.back) none
    c.advanced-at.ensures c.requires.utf8
    (c.in_ok-push.ensures.ok ∙ ap (λ t. c.loop-text.tokens ++ t ∷ []) c.end_at.ensures)

pub advanced-fault-requires-clause-lines : goal.advanced-fault-requires-clause-lines
advanced-fault-requires-clause-lines c =
    let rest = c.loop-text.rest.now in
    let at = at_more c.args.file c.args.src.now c.loop-text.place c.advanced-at.result c.split_at.result.0.now c.split_at.result.1.now rest
    (reached_at _ _ _ _ _ _ c.loop-text.invariant) (joined c.gap_len.result rest _ _ c.split_at.ensures.front c.split_at.ensures.back)
    c.advanced-at.ensures in
    omega (arith, at_lines _ _ _ _ at, c.split_at-in-Fault.ensures.front_len, c.in-Fault.ensures.within)

pub advanced-fault-requires-clause-columns : goal.advanced-fault-requires-clause-columns
advanced-fault-requires-clause-columns c =
    let rest = c.loop-text.rest.now in
    let at = at_more c.args.file c.args.src.now c.loop-text.place c.advanced-at.result c.split_at.result.0.now c.split_at.result.1.now rest
    (reached_at _ _ _ _ _ _ c.loop-text.invariant) (joined c.gap_len.result rest _ _ c.split_at.ensures.front c.split_at.ensures.back)
    c.advanced-at.ensures in
    omega (arith, at_columns _ _ _ _ at, c.split_at-in-Fault.ensures.front_len, c.in-Fault.ensures.within)

pub returns-in-Fault-clause-cause : goal.returns-in-Fault-clause-cause
returns-in-Fault-clause-cause c =
    let rest = c.loop-text.rest.now in
    let blank = c.split_at.result.0.now in
    let text = c.split_at.result.1.now in
    let b = c.loop-text.behind_path in
    let gap = gap_to rest text (c.split_at.ensures.back ∙ c.gap_len.ensures.value) in
    let fault = c.advanced-fault.ensures ∙ ap (λ s. advanced c.advanced-at.result s) c.split_at-in-Fault.ensures.front in
    broken_at c.args.file c.args.src.now c.loop-text.tokens c.loop-text.place c.advanced-at.result c.advanced-fault.result b rest blank text
    gap.0 c.in-Fault.number c.in-Fault.offset c.broken.result
    (record {
      reached = c.loop-text.invariant;
      gap = gap.1;
      passed = joined c.gap_len.result rest blank text c.split_at.ensures.front c.split_at.ensures.back;
      begins_at = c.advanced-at.ensures;
      utf8 = c.requires.utf8;
      breaks = c.in-Fault.ensures.stands;
      breaks_at = fault;
      stopped = c.broken.ensures;
    })

pub advanced-place-requires-clause-lines : goal.advanced-place-requires-clause-lines
advanced-place-requires-clause-lines c =
    let rest = c.loop-text.rest.now in
    let at = at_more c.args.file c.args.src.now c.loop-text.place c.advanced-at.result c.split_at.result.0.now c.split_at.result.1.now rest
    (reached_at _ _ _ _ _ _ c.loop-text.invariant) (joined c.gap_len.result rest _ _ c.split_at.ensures.front c.split_at.ensures.back)
    c.advanced-at.ensures in
    omega (arith, at_lines _ _ _ _ at, c.split_at-in-Token.ensures.front_len, c.in-Token.ensures.within.1)

pub advanced-place-requires-clause-columns : goal.advanced-place-requires-clause-columns
advanced-place-requires-clause-columns c =
    let rest = c.loop-text.rest.now in
    let at = at_more c.args.file c.args.src.now c.loop-text.place c.advanced-at.result c.split_at.result.0.now c.split_at.result.1.now rest
    (reached_at _ _ _ _ _ _ c.loop-text.invariant) (joined c.gap_len.result rest _ _ c.split_at.ensures.front c.split_at.ensures.back)
    c.advanced-at.ensures in
    omega (arith, at_columns _ _ _ _ at, c.split_at-in-Token.ensures.front_len, c.in-Token.ensures.within.1)

pub loop-text-preserved : goal.loop-text-preserved
loop-text-preserved c =
    let rest = c.loop-text.rest.now in
    let blank = c.split_at.result.0.now in
    let text = c.split_at.result.1.now in
    let b = c.loop-text.behind_path in
    let gap = gap_to rest text (c.split_at.ensures.back ∙ c.gap_len.ensures.value) in
    token_read c.args.file c.args.src.now c.loop-text.tokens c.loop-text.place c.advanced-at.result b rest blank text gap.0
    c.in-Token.kind c.in-Token.len c.in-Token.number c.in-Token.suffix c.split_at-in-Token.result.0.now c.split_at-in-Token.result.1.now
    c.in_ok-token-in-Token.token c.push-in-Token.new.self c.advanced-place.result c.is_path_mark-behind_path.result
    (record {
      reached = c.loop-text.invariant;
      gap = gap.1;
      passed = joined c.gap_len.result rest blank text c.split_at.ensures.front c.split_at.ensures.back;
      begins_at = c.advanced-at.ensures;
      stands = c.in-Token.ensures.stands;
      spelling_is = c.split_at-in-Token.ensures.front;
      rest_is = c.split_at-in-Token.ensures.back;
      token_is = c.in_ok-token-in-Token.ensures;
      tokens_are = c.in_ok-push-in-Token.ensures.ok;
      ends_at = c.advanced-place.ensures;
      path_mark = c.is_path_mark-behind_path.ensures;
    })
