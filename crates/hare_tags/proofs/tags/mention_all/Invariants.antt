use Rattle.std.proofs.Common.{◌≡◌, fold, drop}
use Rattle.hare_tags.specs.Lists.{with_tag}
use Rattle.hare_tags.proofs.tags.mention_all.Given as goal

-- the list so far, with what is left to be put
abbrev pub invariant-loop-t : goal.invariant-loop-t
invariant-loop-t l = record {
  rest : l.s ≡ record l.initial.s { listed = l.s.listed };
  listed : fold with_tag l.s.listed (drop l.t-index l.types) ≡ fold with_tag l.initial.s.listed l.types;
}
