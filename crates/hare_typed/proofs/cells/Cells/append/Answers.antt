use Rattle.std.proofs.Common.{◌≡◌, ◌++◌, map, ◌∙◌, ap, rules}
use Rattle.hare_typed.specs.Repeats.{repeated, moved}
use Rattle.hare_typed.proofs.RepeatLemmas.{fit-appended, repeated-appended}
use Rattle.hare_typed.proofs.cells.Cells.append.Goals as goal

repeats_are : (c : goal.After-drop-repeats-2) →
    c.extend_from_slice-2.new.self.items ≡ c.self.inside.repeats.items ++ map (moved c.self.inside.count) c.other.inside.repeats.items
repeats_are c = search rules

written_are : (c : goal.After-drop-repeats-2) →
    c.extend_from_slice.new.self.items ≡ c.self.inside.written.items ++ c.other.inside.written.items
written_are c = search rules

pub invariant_of-self-2 : goal.invariant_of-self-2
invariant_of-self-2 c =
    fit-appended c.self.inside.repeats.items c.other.inside.repeats.items c.extend_from_slice-2.new.self.items c.self.inside.written.items
    c.other.inside.written.items c.extend_from_slice.new.self.items c.self.inside.count c.other.inside.count c.in-Some.count
    (repeats_are c) (written_are c) (search rules) c.self.invariant.0 c.self.invariant.1 c.other.invariant.0 c.other.invariant.1

pub returns-clause-ok : goal.returns-clause-ok
returns-clause-ok c =
    repeated-appended c.self.inside.repeats.items c.other.inside.repeats.items c.extend_from_slice-2.new.self.items
    c.self.inside.written.items c.other.inside.written.items c.extend_from_slice.new.self.items c.self.inside.count (repeats_are c)
    (written_are c) c.self.invariant.0 c.self.invariant.1
    ∙ ap (λ cs. cs ++ repeated c.other.inside.repeats.items c.other.inside.written.items) c.self.view_is
    ∙ ap (λ cs. c.args.self.now ++ cs) c.other.view_is
