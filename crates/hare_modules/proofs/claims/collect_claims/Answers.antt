use Rattle.std.proofs.Common.{◌++◌, map, drop, sym, ap, ◌∙◌, append-nil, arith}
use Rattle.hare_modules.specs.Takings.{taking, takings}
use Rattle.hare_modules.proofs.ListLemmas.{drop-none}
use Rattle.hare_modules.proofs.CollectLemmas.{takings-none, takings-on, few-on}
use Rattle.hare_modules.proofs.claims.collect_claims.Goals as goal

pub returns-in_default : goal.returns-in_default
returns-in_default c =
    let hs = drop c.loop-file.file c.args.homes.now in
    let done = map taking c.loop-file.claims.items in
    let none = ap (takings c.args.known.now c.loop-file.file c.loop-file.number hs)
    (drop-none c.args.files.now c.loop-file.file (sym c.in_default.ensures)) ∙ takings-none c.args.known.now c.loop-file.file
    c.loop-file.number hs in
    sym (append-nil done) ∙ sym (ap (λ ks. done ++ ks) none) ∙ c.loop-file.invariant.taken

pub take_decls-requires : goal.take_decls-requires
take_decls-requires c = omega (
  arith,
  few-on c.args.files.now c.loop-file.file c.loop-file.number c.in-Some.tree.now (sym c.in-Some.ensures)
      c.loop-file.invariant.few,
)

pub loop-file-preserved : goal.loop-file-preserved
loop-file-preserved c =
    let t = c.in-Some.tree.now in
    let i = c.loop-file.file in
    record {
      few = omega (
        arith,
        few-on c.args.files.now i c.loop-file.number t (sym c.in-Some.ensures) c.loop-file.invariant.few,
        c.in_ok-number.ensures.next,
      );
      taken = rw c.in_ok-number.ensures.next
          (takings-on c.args.known.now c.args.homes.now c.args.files.now i c.loop-file.number t (map taking c.loop-file.claims.items)
          (map taking c.take_decls.new.claims.items) (map taking c.take_imports.new.claims.items) _ c.loop-file-test.true
          (sym c.in-Some.ensures) c.in_ok-take_imports.ensures c.in_ok-number.ensures.claims c.loop-file.invariant.taken);
    }
