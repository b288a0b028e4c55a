use Rattle.std.proofs.Common.{◌∙◌, ◌+◌, ap, sym, get_or, drop, filter}
use Rattle.std.specs.BTreeSet.{keys}
use Rattle.std.proofs.lemmas.Option.{slice_get-get_or}
use Rattle.hare_types.specs.Unions.{put_all}
use Rattle.hare_depends.specs.Sorts.{is_global}
use Rattle.hare_depends.specs.Dependence.{is_at}
use Rattle.hare_steps.proofs.PlacesListed.Early.{put_all-next, put_all-over}
use Rattle.hare_steps.proofs.early.globals_of.Goals as goal
use Rattle.hare_steps.proofs.early.globals_of.Goals.{then-is_global_at+in_ok-insert, else-is_global_at}

pub loop-i-preserved : goal.loop-i-preserved
loop-i-preserved c =
    let named = c.as_slice-named.result.now in
    let here = slice_get-get_or named c.loop-i.i 0 c.loop-i-test.true in
    elim c.if-is_global_at.branch [
      | then-is_global_at+in_ok-insert w ↦
          put_all-next (is_at is_global c.args.saids.now) named c.loop-i.i (get_or named c.loop-i.i 0) here c.loop-i.globals.keys _
          c.loop-i.invariant
          c.if-is_global_at.globals.keys (sym c.is_global_at.ensures ∙ w.if-is_global_at.true)
          (ap keys w.globals-is ∙ w.in_ok-insert.ensures.keys)
      | else-is_global_at w ↦
          ap (λ gs. put_all (filter (is_at is_global c.args.saids.now) (drop (c.loop-i.i + 1) named)) (keys gs)) w.globals-is
          ∙ put_all-over (is_at is_global c.args.saids.now) named c.loop-i.i (get_or named c.loop-i.i 0) here c.loop-i.globals.keys _
          c.loop-i.invariant
          (sym c.is_global_at.ensures ∙ w.if-is_global_at.false)
    ]
