-- When constants cover a type: each value of the type is one of them. A type whose values have no least and no greatest, as `str`, is
-- covered by none.
use Rattle.std.specs.Prelude.{ℕ, List}
use Rattle.std.specs.List.Sorted.{IsSorted}
use Rattle.std.specs.Ordering.{int_cmp}
use Rattle.hare_types.specs.Store.{Store}
use Rattle.hare_types.specs.declared.coercion.Ty.TheVariants as ty
use Rattle.hare_typed.specs.declared.constant.Const.{Const}
use Rattle.hare_typed.specs.Given.{base_row}
use Rattle.hare_typed.specs.Cover.{range_of, ListsAll}
use Rattle.hare_const.specs.Numbers.{numbers_of}

-- the constants ascend by the numbers that they are; one may stand there twice
abbrev pub Ascend : Store → ℕ → List Const → Type 0
Ascend s t cs = IsSorted int_cmp (numbers_of s t cs)

abbrev pub Cover : Store → ℕ → List Const → Type 0
Cover s t cs = ListsAll (range_of (base_row s (ty.Of t))) (numbers_of s t cs)
