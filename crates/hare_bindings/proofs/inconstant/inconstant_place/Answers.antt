use Rattle.hare_bindings.proofs.FoundOfDeclaration.Inconstant.{constant_there, value_type, place_among}
use Rattle.hare_bindings.proofs.inconstant.inconstant_place.Goals as goal

pub returns-then-has_constant-clause-place : goal.returns-then-has_constant-clause-place
returns-then-has_constant-clause-place c a f l =
    absurd
    (constant_there c.args.kids.now c.in-Some.value.now c.has_constant.result c.in-Some.ensures.found c.has_constant.ensures
    c.if-has_constant.true a)

pub in_the_end-requires : goal.in_the_end-requires
in_the_end-requires c = value_type c.args.s.now c.args.kids.now c.in-Some.value.now c.requires c.in-Some.ensures.found

pub returns-clause-place : goal.returns-clause-place
returns-clause-place c =
    place_among c.in_the_end.new.s c.args.own c.args.kids.now c.in-Some.value.now c.in_ok-last.last c.is_there.result
    c.place_inside.result c.in-Some.ensures.found c.is_there.ensures c.in_ok-last.ensures.value c.place_inside.ensures
