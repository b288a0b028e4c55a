use Rattle.std.proofs.Common.{◌≡◌, length, ap, sym, ◌∙◌, arith}
use Rattle.std.specs.Prelude.{option_copied}
use borrow.Author.Tests.{leb-true}
use Rattle.body_table.proofs.ToldLemmas.{one_file}
use Rattle.body_table.proofs.known.is_small.Goals as goal

pub returns-in-Some : goal.returns-in-Some
returns-in-Some c =
    λ h.
    let few = leb-true c.len-in-Some.result 1000000 h in
    let one : length c.args.files.now ≡ 1 = omega (arith, c.len.ensures) in
    let same = one_file c.args.files.now c.in-Some.file.now one (sym c.get.ensures ∙ ap option_copied c.in-Some.is) in
    omega (arith, few, same, c.len-in-Some.ensures)
