use Rattle.std.proofs.Common.{◌≡◌, ◌<◌, ◌+◌, ◌++◌, length, get_or, ap, sym, ◌∙◌, refl, arith}
use Rattle.std.proofs.lemmas.Result.{on_ok_weaker}
use Rattle.hare_tree.specs.declared.form.Piece.TheVariants as pi
use Rattle.hare_tree.specs.declared.form.Sign.TheVariants as si
use Rattle.hare_tree.specs.declared.unparse.left.Pieces.{Pieces}
use Rattle.hare_tree.specs.Node.{head, kids_of}
use Rattle.hare_tree.specs.Forms.{form_of}
use Rattle.hare_tree.specs.Spell.{kids_spelled}
use Rattle.hare_tree.specs.Left.{left_tokens, left_weight, count_of}
use Rattle.hare_tree.proofs.Spelling.Spelled.{length-kids_spelled}
use Rattle.hare_tree.proofs.TreeKids.KidsFrom.{kids_of-open}
use Rattle.hare_tree.proofs.Spelling.Stack.{count-nodes, form-left, form-weight}
use Rattle.hare_tree.proofs.unparse.put_pieces.Goals as goal

pub returns-clause-tokens : goal.returns-clause-tokens
returns-clause-tokens c =
    let tree = c.args.pieces.tree.now in
    let ps = c.form_of-form.result.now in
    let x = get_or ps c.args.pieces.piece (pi.Fixed si.Abort) in
    let p : Pieces = record { tree = c.args.pieces.tree; piece = c.args.pieces.piece + 1; kid = c.kid_behind.result } in
    let is : ps ≡ form_of (head tree).kind = c.form_of-form.ensures ∙ ap (λ t. form_of (head t).kind) c.tree.view_is in
    let within : c.args.pieces.piece < length (form_of (head tree).kind) = omega (arith, ap length is) in
    let count : c.len.result ≡ length (kids_spelled c.args.file tree) =
    c.len.ensures ∙ sym (length-kids_spelled c.args.file _ c.tree.inside.kids tree c.tree.view_is) in
    let put = c.put_piece.new.out ++ left_tokens c.args.file c.put_piece.new.left.items in
    on_ok_weaker c.put_piece.result
    (form-left c.args.file c.args.pieces p x (pi.Fixed si.Abort) c.len.result _ _ c.args.out.now put refl refl c.kid_behind.ensures
    count within (ap (λ qs. get_or qs c.args.pieces.piece (pi.Fixed si.Abort)) is) c.in_ok-push.ensures.items)
    c.put_piece.ensures.tokens

pub returns-clause-weight : goal.returns-clause-weight
returns-clause-weight c =
    let tree = c.args.pieces.tree.now in
    let ps = c.form_of-form.result.now in
    let x = get_or ps c.args.pieces.piece (pi.Fixed si.Abort) in
    let p : Pieces = record { tree = c.args.pieces.tree; piece = c.args.pieces.piece + 1; kid = c.kid_behind.result } in
    let is : ps ≡ form_of (head tree).kind = c.form_of-form.ensures ∙ ap (λ t. form_of (head t).kind) c.tree.view_is in
    let within : c.args.pieces.piece < length (form_of (head tree).kind) = omega (arith, ap length is) in
    let count : c.len.result ≡ count_of (kids_of tree) =
    c.len.ensures ∙ sym (count-nodes c.tree.inside.kids) ∙ ap count_of (sym (kids_of-open _ _ _ c.tree.view_is)) in
    on_ok_weaker c.put_piece.result
    (form-weight c.args.pieces p x c.len.result (left_weight c.put_piece.new.left.items) _ _ refl refl c.kid_behind.ensures count within
    c.in_ok-push.ensures.items) c.put_piece.ensures.weight
