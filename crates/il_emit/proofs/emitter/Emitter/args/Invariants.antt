-- The arguments so far and what is left are all arguments.
use Rattle.std.proofs.Common.{◌≡◌, ◌+◌, ◌++◌, length}
use Rattle.il_emit.specs.Lines.{args_of, arg_lines, all_addressed}
use Rattle.il_emit.specs.Drafts.{add_all}
use Rattle.il_emit.proofs.emitter.Emitter.args.Given as goal

abbrev pub invariant-each : goal.invariant-each
invariant-each l = record {
  value : l.out ++ args_of l.globals l.classes_left l.left l.self.addresses ≡ args_of l.globals l.initial.classes_left l.initial.left
      l.initial.self.addresses;
  draft : add_all l.self.draft (arg_lines l.globals l.left l.self.addresses) ≡ add_all l.initial.self.draft
      (arg_lines l.globals l.initial.left l.initial.self.addresses);
  labels : l.self.labels ≡ l.initial.self.labels;
  addresses : l.self.addresses + all_addressed l.left ≡ l.initial.self.addresses + all_addressed l.initial.left;
  exits : l.self.exits.items ≡ l.initial.self.exits.items;
}

abbrev pub decreases-each : goal.decreases-each
decreases-each l = length l.left
