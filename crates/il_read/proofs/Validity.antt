-- Valid modules are recoverable.
use Rattle.std.proofs.Common.{◌≡◌, ℕ, ◌^◌, List, [], ◌∷◌, true, nat_lt, refl, arith}
use Rattle.std.specs.List.{list_all}
use Rattle.std.proofs.lemmas.Bool.{and_parts}
use Rattle.std.proofs.lemmas.Bool.Decides.{nat_tests}
use Rattle.std.proofs.lemmas.Grind.{common_steps}
use Rattle.il_code.specs.declared.types.IlItem.{IlItem}
use Rattle.il_code.specs.declared.types.IlItem.TheVariants.{Data, Function}
use Rattle.il_code.specs.declared.types.Module.{Module}
use Rattle.il_code.specs.Rules.{is_alignment, part_is_small, item_is_small, IsValid}
use Rattle.il_code.specs.Shaped.{is_shaped, is_lawful}
use Rattle.il_code.proofs.Validates.{valid_is}
use Rattle.il_read.specs.Recoverable.{is_aligned, IsRecoverable}

short : (n : ℕ) → is_alignment n ≡ true → nat_lt n (2 ^ 32) ≡ true
short n h = grind (arith, nat_tests, common_steps)

aligned : (i : IlItem) → item_is_small i ≡ true → is_aligned i ≡ true
aligned (Data export name align parts) h = short align (and_parts (is_alignment align) (list_all part_is_small parts) h).0
aligned (Function export class name params blocks) h = refl

all_aligned : (is : List IlItem) → list_all item_is_small is ≡ true → list_all is_aligned is ≡ true
all_aligned [] h = refl
all_aligned (i ∷ is) h =
    let p = and_parts (item_is_small i) (list_all item_is_small is) h in
    let first = aligned i p.0 in
    rw first (all_aligned is p.1)

pub IsRecoverable-valid : (m : Module) → IsValid m → IsRecoverable m
IsRecoverable-valid m v = record {
  shaped = (and_parts (is_shaped m) (is_lawful m.items) ((valid_is m).1 v)).0;
  aligned = all_aligned m.items
      v.lawful.numbers;
}
