use Rattle.std.proofs.Common.{◌≡◌, ◌++◌, map, replicate, false}
use Rattle.hare_flow.specs.Seen.{entry_of}
use Rattle.hare_rules.specs.Context.{Later}
use Rattle.hare_check.proofs.beginnings.Beginning.push_later.Given as goal

abbrev pub invariant-loop : goal.invariant-loop
invariant-loop l = record {
  bindings : map entry_of l.self.bindings.items ≡ map entry_of l.fn.self.bindings.items ++ replicate l.counter Later;
  told : l.self.told ≡ l.fn.self.told ++ replicate l.counter (record { ty = l.ty; mutable = false });
}
