use Rattle.std.proofs.Common.{◌≡◌, ◌+◌, ◌<◌, sym, subst, length, arith}
use Rattle.std.proofs.lemmas.Bool.Decides.{nat_tests}
use Rattle.hare_tree.specs.Tokens.{is_path_mark}
use Rattle.hare_pieces.proofs.Walk.Walked.{Walked, walked_start, walked_more, walked_end, no_fault}
use Rattle.hare_pieces.proofs.cut.cut.Goals as goal

pub tokens-init : goal.tokens-init
tokens-init c = rw c.new-pieces.ensures (walked_start c.args.src.now c.requires)

pub returns-then-is_empty : goal.returns-then-is_empty
returns-then-is_empty c =
    let text = c.split_at.result.1.now in
    let none : length text ≡ 0 = grind (arith, nat_tests) in
    let gap = c.in_ok-gap.ensures in
    walked_end c.args.src.now c.tokens.behind_path c.tokens.at c.tokens.pieces c.tokens.rest.now c.put_comments.new.pieces c.in_ok-gap.gap
    text
    (record { walked = c.tokens.invariant; leads = gap.leads; fresh = gap.fresh; text_is = c.split_at.ensures.back }) none

pub unreachable-requires : goal.unreachable-requires
unreachable-requires c =
    let text = c.split_at.result.1.now in
    let some : 0 < length text = grind (arith, nat_tests) in
    let gap = c.in_ok-gap.ensures in
    no_fault c.args.src.now c.tokens.behind_path c.tokens.at c.tokens.pieces c.tokens.rest.now c.put_comments.new.pieces c.in_ok-gap.gap
    text c.in-Fault.field-0 c.in-Fault.field-1
    (record { walked = c.tokens.invariant; leads = gap.leads; fresh = gap.fresh; text_is = c.split_at.ensures.back }) some
    c.in-Fault.ensures.stands

pub tokens-preserved : goal.tokens-preserved
tokens-preserved c =
    let src = c.args.src.now in
    let text = c.split_at.result.1.now in
    let spelling = c.split_at-in-Token.result.0.now in
    let behind = c.split_at-in-Token.result.1.now in
    let to = (c.tokens.at + c.in_ok-gap.gap) + c.in-Token.len in
    let some : 0 < length text = grind (arith, nat_tests) in
    let gap = c.in_ok-gap.ensures in
    let walked = walked_more src c.tokens.behind_path c.tokens.at c.tokens.pieces c.tokens.rest.now c.put_comments.new.pieces
    c.in_ok-gap.gap text c.in-Token.kind c.in-Token.len c.in-Token.field-2 c.in-Token.field-3 spelling behind
    (record { walked = c.tokens.invariant; leads = gap.leads; fresh = gap.fresh; text_is = c.split_at.ensures.back })
    gap.within some c.in-Token.ensures.stands
    (record { front = c.split_at-in-Token.ensures.front; back = c.split_at-in-Token.ensures.back }) in
    subst (λ q. Walked src q to c.push.new.self behind) (sym c.is_path_mark-behind_path.ensures)
    (subst (λ l. Walked src (is_path_mark c.in-Token.kind spelling) to l behind) (sym c.in_ok-push-in-Token.ensures.ok) walked)
