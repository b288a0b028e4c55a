use Rattle.std.proofs.Common.{sym, subst, [], ◌∷◌}
use Rattle.std.specs.Prelude.{◌↔◌, IsTrue}
use Rattle.hare_typed.specs.Settled.{HasParts, part_with_offset}
use Rattle.hare_const.proofs.settled.has_offset.Goals as goal

pub has_offset_in-requires : goal.has_offset_in-requires
has_offset_in-requires c = sym c.type_with_offset.ensures

pub returns : goal.returns
returns c =
    let s = c.args.s.now in
    let t = c.args.t.now in
    subst (λ f. IsTrue c.has_offset_in.result ↔ HasParts s f (part_with_offset s t ∷ [])) c.type_with_offset.ensures c.has_offset_in.ensures
