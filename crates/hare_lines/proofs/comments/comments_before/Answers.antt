use Rattle.std.proofs.Common.{false, get_or, ap, sym, subst, ◌∙◌, arith}
use Rattle.hare_pieces.specs.declared.piece.Piece.{Piece}
use Rattle.hare_lines.specs.Read.{is_quoted}
use Rattle.hare_lines.proofs.Steps.Written.{piece_at}
use Rattle.hare_lines.proofs.Steps.CommentCounts.{Counts, counts_start, counts_lies, counts_comment, counts_token, counts_end}
use Rattle.hare_lines.proofs.comments.comments_before.Goals as goal

pub loop-i-init : goal.loop-i-init
loop-i-init c =
    subst (λ xs. Counts c.args.src.now c.args.pieces.now 0 xs 0 false) (sym c.new-counts.ensures.items)
    (counts_start c.args.src.now c.args.pieces.now c.requires)

pub overflow_add-count : goal.overflow_add-count
overflow_add-count c = omega (arith, c.loop-i.invariant.few)

pub loop-i-preserved-then-piece : goal.loop-i-preserved-then-piece
loop-i-preserved-then-piece c =
    let none : Piece = record { from = 0; to = 0; comment = false } in
    let ps = c.args.pieces.now in
    let i = c.loop-i.i in
    counts_comment c.args.src.now ps i (get_or ps i none) c.loop-i.counts.items c.loop-i.count c.loop-i.behind_string
    (piece_at ps i none (omega arith)) c.if-piece.true c.loop-i.invariant

pub body_of-requires-clause-ordered : goal.body_of-requires-clause-ordered
body_of-requires-clause-ordered c =
    let none : Piece = record { from = 0; to = 0; comment = false } in
    let ps = c.args.pieces.now in
    let i = c.loop-i.i in
    let lies = counts_lies c.args.src.now ps i (get_or ps i none) c.loop-i.counts.items c.loop-i.count c.loop-i.behind_string
    (piece_at ps i none (omega arith)) c.loop-i.invariant in
    lies.ordered

pub body_of-requires-clause-within : goal.body_of-requires-clause-within
body_of-requires-clause-within c =
    let none : Piece = record { from = 0; to = 0; comment = false } in
    let ps = c.args.pieces.now in
    let i = c.loop-i.i in
    let lies = counts_lies c.args.src.now ps i (get_or ps i none) c.loop-i.counts.items c.loop-i.count c.loop-i.behind_string
    (piece_at ps i none (omega arith)) c.loop-i.invariant in
    lies.within

pub loop-i-preserved : goal.loop-i-preserved
loop-i-preserved c =
    let none : Piece = record { from = 0; to = 0; comment = false } in
    let ps = c.args.pieces.now in
    let i = c.loop-i.i in
    let p = get_or ps i none in
    counts_token c.args.src.now ps i p c.loop-i.counts.items c.put_count.new.counts.items c.loop-i.count c.loop-i.behind_string
    c.is_quoted-is_string.result (piece_at ps i none (omega arith)) c.if-piece.false
    (c.is_quoted-is_string.ensures ∙ ap is_quoted c.body_of.ensures) c.in_ok-put_count.ensures c.loop-i.invariant

pub returns : goal.returns
returns c =
    c.in_ok-push.ensures.items
    ∙ counts_end c.args.src.now c.args.pieces.now c.loop-i.i c.loop-i.counts.items c.loop-i.count c.loop-i.behind_string (omega arith)
    c.loop-i.invariant
