use Rattle.std.proofs.Common.{◌++◌, [], ◌∷◌, map, ap, ◌∙◌, arith}
use Rattle.hare_modules.specs.declared.claims.Taker.TheVariants as ta
use Rattle.hare_modules.specs.Entries.{entry_of}
use Rattle.hare_modules.specs.Takings.{taking, named}
use Rattle.hare_modules.proofs.CollectLemmas.{decls-on}
use Rattle.hare_modules.proofs.claims.take_decls.Goals as goal

pub loop-i-preserved : goal.loop-i-preserved
loop-i-preserved c =
    let done = map taking c.loop-i.claims.items in
    let f = c.args.spot.file in
    let h = c.args.spot.home in
    record {
      counted = omega (arith, c.loop-i.invariant.counted);
      taken = decls-on f h c.loop-i.next c.args.decls.now c.loop-i.i c.in-Some.tree.now done (map taking c.take.new.claims.items) _
          c.in-Some.ensures.found
          (c.in_ok-take.ensures ∙ ap (λ e. done ++ named f h (ta.Declaration e) c.name_in.result.now ∷ []) c.entry_of.ensures ∙ ap
          (λ t. done ++ named f h (ta.Declaration (entry_of c.in-Some.tree.now c.loop-i.next)) t ∷ []) c.name_in.ensures)
          c.loop-i.invariant.taken;
    }
