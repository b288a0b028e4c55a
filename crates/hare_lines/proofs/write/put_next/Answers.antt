use Rattle.std.proofs.Common.{◌∙◌, ◌&&◌, ap, get_or, false}
use Rattle.hare_pieces.specs.declared.piece.Piece.{Piece}
use Rattle.hare_lines.specs.declared.write.State.{State}
use Rattle.hare_lines.specs.Read.{seen_from, is_quoted}
use Rattle.hare_lines.specs.Gaps.{next_is_string}
use Rattle.hare_lines.proofs.Steps.Written.{piece_at, comment_written, token_written}
use Rattle.hare_lines.proofs.write.put_next.Goals as goal

pub returns-then-piece-clause-text : goal.returns-then-piece-clause-text
returns-then-piece-clause-text c =
    let none : Piece = record { from = 0; to = 0; comment = false } in
    let i = c.args.i in
    let ps = c.args.pieces.now in
    let next = c.behind_comment.ensures in
    comment_written c.args.src.now ps i (get_or ps i none) c.args.state c.behind_comment.result c.in_ok-line.line c.way_here-way.result
    c.feeds_in-feeds.result c.body_of-body.result.now c.comment_gap.result c.args.out.now c.put.new.out
    (record {
      here = piece_at ps i none c.requires.within;
      way = c.way_here-way.ensures;
      feeds = c.feeds_in-feeds.ensures;
      body = c.body_of-body.ensures;
      line_is = c.in_ok-line.ensures.line;
      mid = c.put_comma.new.out;
      comma = c.in_ok-line.ensures.text;
      text = c.in_ok-put.ensures;
    })
    c.if-piece.true c.comment_gap.ensures
    (record { at = next.at; ways = next.ways; joined = next.joined; depth = next.depth; line = next.line })

pub returns-clause-text : goal.returns-clause-text
returns-clause-text c =
    let none : Piece = record { from = 0; to = 0; comment = false } in
    let i = c.args.i in
    let ps = c.args.pieces.now in
    let p : Piece = get_or ps i none in
    let next = c.behind_token-next.ensures in
    let body = c.body_of-body.result.now in
    let r = c.behind_token-next.result in
    let made : State = record {
      at = r.at;
      ways = r.ways;
      added = r.added;
      joined = r.joined;
      depth = r.depth;
      line = c.line_behind_token.result;
    } in
    token_written c.args.src.now ps i p c.args.state made c.in_ok-line.line c.way_here-way.result
    c.feeds_in-feeds.result body c.token_gap-gap.result c.args.out.now c.put-2.new.out
    (record {
      here = piece_at ps i none c.requires.within;
      way = c.way_here-way.ensures;
      feeds = c.feeds_in-feeds.ensures;
      body = c.body_of-body.ensures;
      line_is = c.in_ok-line.ensures.line;
      mid = c.put_comma.new.out;
      comma = c.in_ok-line.ensures.text;
      text = c.in_ok-put-2.ensures;
    })
    c.if-piece.false c.token_gap-gap.ensures
    (record {
      at = next.at;
      ways = next.ways;
      joined = next.joined ∙ c.is_joined-joined.ensures
          ∙ ap (λ l. is_quoted body && next_is_string (seen_from c.args.src.now p.to l)) c.split_at.ensures.back;
      depth = next.depth;
      line_is = c.line_behind_token.ensures;
    })
