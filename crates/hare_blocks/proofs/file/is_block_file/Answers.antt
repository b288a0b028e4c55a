use Rattle.std.proofs.Common.{[], sym, ap, ◌∙◌}
use Rattle.std.proofs.lemmas.Result.{IfOk-weaker}
use Rattle.hare_blocks.specs.Names.{names_of, statements_hold}
use Rattle.hare_blocks.specs.Sizes.{list_of_statements}
use Rattle.hare_blocks.proofs.DeclaredNames.Told.{tell_statements}
use Rattle.hare_blocks.proofs.file.is_block_file.Goals as goal

pub returns : goal.returns
returns c =
    let t = tell_statements (list_of_statements c.args.body.now) [] in
    let none = ap (λ bs. statements_hold (names_of bs) (list_of_statements c.args.body.now)) c.new-scope.ensures in
    IfOk-weaker c.block_holds.result _ _ (λ b k. (λ h. t.told (sym (k ∙ none) ∙ h), λ h. k ∙ none ∙ t.tells h)) c.block_holds.ensures.told
