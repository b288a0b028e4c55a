use Rattle.std.proofs.Common.{◌≡◌, ◌+◌, ◌-◌, ◌<◌, length, arith}
use Rattle.hare_types.proofs.FieldLemmas.{entered-more}
use Rattle.hare_types.proofs.fields.enter_fields.Goals as goal

pub loop-i-preserved : goal.loop-i-preserved
loop-i-preserved c =
    let within : c.loop-i.i - 1 < length c.args.fields.now = omega (arith, c.loop-i.auto.i, c.loop-i-test.true) in
    let next : c.loop-i.i ≡ c.loop-i.i - 1 + 1 = omega (arith, c.loop-i-test.true) in (
      omega (arith, c.loop-i.invariant.0, c.insert.ensures.spare),
      entered-more c.args.places.now.entries c.loop-i.places.entries c.insert.new.self.entries c.args.t c.args.fields.now (c.loop-i.i - 1)
          c.loop-i.i c.index-fields-i.result within c.index-fields-i.is next
          c.in-Ok.ensures.updates.0 c.loop-i.invariant.1,
    )
