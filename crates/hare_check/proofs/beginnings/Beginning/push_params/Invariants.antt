use Rattle.std.proofs.Common.{◌≡◌, ◌≤◌, ◌++◌, length, map, take}
use Rattle.hare_flow.specs.Seen.{entry_of}
use Rattle.hare_check.specs.Beginnings.{known_params, told_params}
use Rattle.hare_check.proofs.beginnings.Beginning.push_params.Given as goal

abbrev pub invariant-loop-i : goal.invariant-loop-i
invariant-loop-i l = record {
  within : l.i ≤ length l.types;
  bindings : map entry_of l.self.bindings.items ≡ map entry_of l.fn.self.bindings.items ++ known_params (take l.i l.types);
  told : l.self.told ≡ l.fn.self.told ++ told_params (take l.i l.types);
}
