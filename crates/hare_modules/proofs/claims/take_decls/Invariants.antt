use Rattle.std.proofs.Common.{◌≡◌, ◌+◌, ◌++◌, map, drop}
use Rattle.hare_modules.specs.Takings.{taking, decl_takings}
use Rattle.hare_modules.proofs.claims.take_decls.Given as goal

-- what was taken, and the declarations that are left
abbrev pub invariant-loop-i : goal.invariant-loop-i
invariant-loop-i l = record {
  counted : l.next ≡ l.number + l.i;
  taken : map taking l.claims.items ++ decl_takings l.spot.file l.spot.home l.next (drop l.i l.decls)
      ≡ map taking l.fn.claims.items ++ decl_takings l.spot.file l.spot.home l.number l.decls;
}
