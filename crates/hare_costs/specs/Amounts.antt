-- Amounts that stop at a greatest one.
use Rattle.std.specs.Prelude.{ℕ, ◌+◌, ◌*◌, min}
use Rattle.hare_costs.specs.declared.amount.Amount.{Amount}

abbrev pub most : ℕ
most = 1099511627776

abbrev pub amount : (weight frame : ℕ) → Amount
amount w f = record { weight = min w most; frame = min f most }

abbrev pub none : Amount
none = record { weight = 0; frame = 0 }

abbrev pub plus : Amount → Amount → Amount
plus a b = amount (a.weight + b.weight) (a.frame + b.frame)

abbrev pub times : ℕ → Amount → Amount
times n a = amount (n * a.weight) (n * a.frame)
