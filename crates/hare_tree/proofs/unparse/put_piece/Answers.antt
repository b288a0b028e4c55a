use Rattle.std.proofs.Common.{ap}
use Rattle.std.proofs.lemmas.Result.{on_ok_weaker}
use Rattle.hare_tree.specs.Node.{kids_of}
use Rattle.hare_tree.specs.Left.{left_weight, count_of, kid_behind}
use Rattle.hare_tree.proofs.TreeKids.KidsFrom.{kids_of-open}
use Rattle.hare_tree.proofs.Spelling.Stack.{piece-one, piece-all, either-kid, either-more, either-list}
use Rattle.hare_tree.proofs.unparse.put_piece.Goals as goal

pub returns-in-Kid-clause-weight : goal.returns-in-Kid-clause-weight
returns-in-Kid-clause-weight c =
    let behind = either-kid c.args.piece c.args.at.kid (count_of (kids_of c.args.at.tree.now)) c.in-Kid.is in
    on_ok_weaker c.leave_one.result
    (piece-one c.args.piece c.tree.inside.kids (kids_of c.args.at.tree.now) c.args.at.kid (left_weight c.args.left.now.items)
    (left_weight c.leave_one.new.left.items) behind (kids_of-open _ _ _ c.tree.view_is)) c.leave_one.ensures.weight

pub returns-in-Led-clause-weight : goal.returns-in-Led-clause-weight
returns-in-Led-clause-weight c =
    let behind = ap (λ x. kid_behind x c.args.at.kid (count_of (kids_of c.args.at.tree.now))) c.in-Led.is in
    on_ok_weaker c.leave_one-in-Led.result
    (piece-one c.args.piece c.tree.inside.kids (kids_of c.args.at.tree.now) c.args.at.kid (left_weight c.args.left.now.items)
    (left_weight c.leave_one-in-Led.new.left.items) behind (kids_of-open _ _ _ c.tree.view_is)) c.leave_one-in-Led.ensures.weight

pub returns-in-Followed-clause-weight : goal.returns-in-Followed-clause-weight
returns-in-Followed-clause-weight c =
    let behind = ap (λ x. kid_behind x c.args.at.kid (count_of (kids_of c.args.at.tree.now))) c.in-Followed.is in
    on_ok_weaker c.leave_one-in-Followed.result
    (piece-one c.args.piece c.tree.inside.kids (kids_of c.args.at.tree.now) c.args.at.kid (left_weight c.args.left.now.items)
    (left_weight c.leave_one-in-Followed.new.left.items) behind (kids_of-open _ _ _ c.tree.view_is))
    c.leave_one-in-Followed.ensures.weight

pub returns-in-Value-clause-weight : goal.returns-in-Value-clause-weight
returns-in-Value-clause-weight c =
    let behind = ap (λ x. kid_behind x c.args.at.kid (count_of (kids_of c.args.at.tree.now))) c.in-Value.is in
    on_ok_weaker c.leave_one-in-Value.result
    (piece-one c.args.piece c.tree.inside.kids (kids_of c.args.at.tree.now) c.args.at.kid (left_weight c.args.left.now.items)
    (left_weight c.leave_one-in-Value.new.left.items) behind (kids_of-open _ _ _ c.tree.view_is)) c.leave_one-in-Value.ensures.weight

pub returns-in-Each-clause-weight : goal.returns-in-Each-clause-weight
returns-in-Each-clause-weight c =
    let behind = ap (λ x. kid_behind x c.args.at.kid (count_of (kids_of c.args.at.tree.now))) c.in-Each.is in
    on_ok_weaker c.leave_row.result
    (piece-all c.args.piece c.tree.inside.kids (kids_of c.args.at.tree.now) c.args.at.kid (left_weight c.args.left.now.items)
    (left_weight c.leave_row.new.left.items) behind (kids_of-open _ _ _ c.tree.view_is)) c.leave_row.ensures.weight

pub returns-in-EachLed-clause-weight : goal.returns-in-EachLed-clause-weight
returns-in-EachLed-clause-weight c =
    let behind = ap (λ x. kid_behind x c.args.at.kid (count_of (kids_of c.args.at.tree.now))) c.in-EachLed.is in
    on_ok_weaker c.leave_row-in-EachLed.result
    (piece-all c.args.piece c.tree.inside.kids (kids_of c.args.at.tree.now) c.args.at.kid (left_weight c.args.left.now.items)
    (left_weight c.leave_row-in-EachLed.new.left.items) behind (kids_of-open _ _ _ c.tree.view_is))
    c.leave_row-in-EachLed.ensures.weight

pub returns-in-EachFollowed-clause-weight : goal.returns-in-EachFollowed-clause-weight
returns-in-EachFollowed-clause-weight c =
    let behind = ap (λ x. kid_behind x c.args.at.kid (count_of (kids_of c.args.at.tree.now))) c.in-EachFollowed.is in
    on_ok_weaker c.leave_row-in-EachFollowed.result
    (piece-all c.args.piece c.tree.inside.kids (kids_of c.args.at.tree.now) c.args.at.kid (left_weight c.args.left.now.items)
    (left_weight c.leave_row-in-EachFollowed.new.left.items) behind (kids_of-open _ _ _ c.tree.view_is))
    c.leave_row-in-EachFollowed.ensures.weight

pub returns-in-More-clause-weight : goal.returns-in-More-clause-weight
returns-in-More-clause-weight c =
    let behind = either-more c.args.piece c.args.at.kid (count_of (kids_of c.args.at.tree.now)) c.in-More.is in
    on_ok_weaker c.leave_row-in-More.result
    (piece-all c.args.piece c.tree.inside.kids (kids_of c.args.at.tree.now) c.args.at.kid (left_weight c.args.left.now.items)
    (left_weight c.leave_row-in-More.new.left.items) behind (kids_of-open _ _ _ c.tree.view_is)) c.leave_row-in-More.ensures.weight

pub returns-in-List-clause-weight : goal.returns-in-List-clause-weight
returns-in-List-clause-weight c =
    let behind = either-list c.args.piece c.args.at.kid (count_of (kids_of c.args.at.tree.now)) c.in-List.is in
    on_ok_weaker c.leave_listed.result
    (piece-all c.args.piece c.tree.inside.kids (kids_of c.args.at.tree.now) c.args.at.kid (left_weight c.args.left.now.items)
    (left_weight c.leave_listed.new.left.items) behind (kids_of-open _ _ _ c.tree.view_is)) c.leave_listed.ensures.weight
