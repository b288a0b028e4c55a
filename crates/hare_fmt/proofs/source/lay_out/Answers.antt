use Rattle.std.proofs.Common.{◌≡◌, List, false, length, ap, sym, subst, ◌∙◌, arith}
use Rattle.std.proofs.lemmas.Result.{IfOk-weaker}
use Rattle.hare_pieces.specs.declared.piece.Piece.{Piece}
use Rattle.hare_ways.specs.Ways.{file_ways}
use Rattle.hare_ways.proofs.Counted.{files_have_ways}
use Rattle.hare_lines.specs.Read.{seen, comments_before}
use Rattle.hare_lines.specs.Layout.{IsLaidOut, InOrder, written}
use Rattle.hare_lines.proofs.LayoutLaws.Kept.{pieces_are_in_order}
use Rattle.hare_fmt.proofs.Sized.{sources_are_short}
use Rattle.hare_fmt.proofs.source.lay_out.Goals as goal

pub pieces_of-requires-clause-tokens : goal.pieces_of-requires-clause-tokens
pieces_of-requires-clause-tokens c = (c.requires.tree.tokens, c.requires.tree.are)

pub comments_before-requires : goal.comments_before-requires
comments_before-requires c =
    subst (InOrder 0 (length c.args.src.now)) (sym c.as_slice.ensures)
    (pieces_are_in_order c.args.src.now c.in_ok-pieces.pieces c.in_ok-pieces.ensures.ok)

pub file_ways-requires : goal.file_ways-requires
file_ways-requires c =
    omega (
      arith,
      files_have_ways c.as_slice-2.result.now c.args.tree.now c.requires.tree.file_is.read.file_is,
      sources_are_short c.args.src.now c.args.tree.now c.requires.tree,
      c.requires.short,
    )

pub write_pieces-requires : goal.write_pieces-requires
write_pieces-requires c =
    subst (InOrder 0 (length c.args.src.now)) (sym c.as_slice-3.ensures)
    (pieces_are_in_order c.args.src.now c.in_ok-pieces.pieces c.in_ok-pieces.ensures.ok)

pub returns : goal.returns
returns c =
    let src = c.args.src.now in
    let tree = c.args.tree.now in
    let ps = c.in_ok-pieces.pieces in
    let comments : c.as_slice-2.result.now ≡ comments_before 0 false (seen src ps) =
    c.as_slice-2.ensures.value ∙ c.in_ok-comments.ensures ∙ ap (λ qs. comments_before 0 false (seen src qs)) c.as_slice.ensures in
    let ways : c.as_slice-4.result.now ≡ file_ways (comments_before 0 false (seen src ps)) tree =
    c.as_slice-4.ensures.value ∙ c.in_ok-ways.ensures ∙ ap (λ cs. file_ways cs tree) comments in
    IfOk-weaker c.write_pieces.result _ (IsLaidOut src)
    (λ text e. record {
      tokens = c.requires.tree.tokens;
      are = c.requires.tree.are;
      tree = tree;
      file_is = c.requires.tree.file_is.read;
      pieces = ps;
      cut = c.in_ok-pieces.ensures.ok;
      text_is = e ∙ ap (λ ws. written ws (seen src c.as_slice-3.result.now)) ways
          ∙ ap (λ (qs : List Piece). written (file_ways (comments_before 0 false (seen src ps)) tree) (seen src qs)) c.as_slice-3.ensures;
    }) c.write_pieces.ensures
