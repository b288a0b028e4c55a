-- The lines so far and those of what is left are all lines.
use Rattle.std.proofs.Common.{◌≡◌, ◌+◌, drop}
use Rattle.flat_code.specs.Code.{codes_of}
use Rattle.il_emit.specs.Lines.{each_lines, labels_in_all, addresses_in_all}
use Rattle.il_emit.specs.Drafts.{add_all}
use Rattle.il_emit.proofs.code.+code.Given as goal

abbrev pub invariant-each-loop-i : goal.invariant-each-loop-i
invariant-each-loop-i l = record {
  draft : add_all l.e.draft (each_lines l.s.program.now (codes_of (drop l.i l.kids)) l.goal l.e.labels l.e.addresses
      l.e.exits.items) ≡ add_all
      l.initial.e.draft (each_lines l.s.program.now (codes_of l.kids) l.goal l.initial.e.labels l.initial.e.addresses
      l.initial.e.exits.items);
  labels : l.e.labels + labels_in_all (codes_of (drop l.i l.kids)) ≡ l.initial.e.labels + labels_in_all (codes_of l.kids);
  addresses : l.e.addresses + addresses_in_all (codes_of (drop l.i l.kids)) ≡ l.initial.e.addresses + addresses_in_all (codes_of l.kids);
  exits : l.e.exits.items ≡ l.initial.e.exits.items;
}
