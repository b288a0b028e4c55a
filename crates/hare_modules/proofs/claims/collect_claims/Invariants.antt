use Rattle.std.proofs.Common.{◌≡◌, ◌+◌, ◌<◌, ◌^◌, ◌++◌, map, drop, length, sum_by}
use Rattle.hare_modules.specs.Takings.{taking, takings}
use Rattle.hare_modules.proofs.claims.collect_claims.Given as goal

-- what was taken, and the files that are left
abbrev pub invariant-loop-file : goal.invariant-loop-file
invariant-loop-file l = record {
  few : l.number + sum_by (λ t. length t.decls) (drop l.file l.files) < 2 ^ 32;
  taken : map taking l.claims.items ++ takings l.known l.file l.number (drop l.file l.homes) (drop l.file l.files) ≡
      takings l.known 0 0 l.homes l.files;
}
