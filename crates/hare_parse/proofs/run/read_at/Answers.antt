use Rattle.std.proofs.Common.{◌≡◌, false}
use Rattle.hare_tree.specs.Grammar.{is_proper_string}
use Rattle.hare_ll_table.proofs.SeenTokens.Places.{begins_with_other}
use Rattle.hare_parse.proofs.run.read_at.Goals as goal

pub returns : goal.returns
returns c =
    let t = c.args.token.now in
    let e : is_proper_string t ≡ false = cc in
    record {
      token = t;
      begins = begins_with_other c.args.tokens.now c.args.at c.place_behind.result t c.requires e c.place_behind.ensures;
      says = rw (← c.class_of-2.ensures.value) c.in_ok-answer-2.ensures;
    }
