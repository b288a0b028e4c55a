-- How many tokens signs are that stand with kids. No public clause cites it.
use Rattle.std.specs.Prelude.{ℕ}
use Rattle.hare_tree.specs.declared.form.Lead.{Lead}
use Rattle.hare_tree.specs.declared.form.Lead.TheVariants as le

-- how many tokens a sign that stands with a kid is
abbrev pub lead_count : Lead → ℕ
lead_count le.Nothing = 0
lead_count (le.Before s) = 1
lead_count (le.Behind s) = 1
