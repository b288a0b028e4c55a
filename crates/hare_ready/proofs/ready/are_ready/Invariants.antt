use Rattle.std.proofs.Common.{◌≡◌, ℕ, ◌<◌, slice_get, Some}
use Rattle.hare_rules.specs.declared.declared.DeclType.{DeclType}
use Rattle.hare_defined.specs.Known.{AreDefined}
use Rattle.hare_ready.specs.Ready.{IsReadyDecl}
use Rattle.hare_ready.proofs.ready.are_ready.Given as goal

-- the declarations before the one at hand are ready
abbrev pub invariant-loop-i : goal.invariant-loop-i
invariant-loop-i l = record {
  known : AreDefined l.s l.defined;
  before : (k : ℕ) (d : DeclType) → k < l.i → slice_get l.decls k ≡ Some d → IsReadyDecl l.s d;
}
