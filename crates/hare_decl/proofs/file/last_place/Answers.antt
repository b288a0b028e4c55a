use Rattle.std.proofs.Common.{◌∙◌, arith}
use Rattle.hare_decl.proofs.OneAnswer.Places.{place_got, some_got, last_is}
use Rattle.hare_decl.proofs.file.last_place.Goals as goal

pub returns-in-Some-get : goal.returns-in-Some-get
returns-in-Some-get c =
    place_got c.args.t.now c.in-Some.last c.in-Some-get.token.now c.in-Some-get.ensures ∙ last_is c.args.file c.args.t.now c.in-Some.last
    (omega (arith, c.in-Some.ensures.0, c.in-Some.ensures.1, c.len.ensures))

pub returns-in_default-get : goal.returns-in_default-get
returns-in_default-get c = absurd (some_got c.args.t.now c.in-Some.last
    (omega (arith, c.in-Some.ensures.0, c.in-Some.ensures.1, c.len.ensures)) c.in_default-get.ensures)
