use Rattle.std.proofs.Common.{◌+◌, length, drop, ap, sym, arith, length-append}
use Rattle.hare_tree.specs.declared.kind.Kind.TheVariants as ki
use Rattle.hare_tree.proofs.Spelling.Spelled.{drop-past}
use Rattle.hare_ways.specs.Walk.{mark_ways, path_behind}
use Rattle.hare_ways.proofs.Paths.{path-step, path-count}
use Rattle.hare_ways.proofs.count.count_path.Goals as goal

pub loop-i-init : goal.loop-i-init
loop-i-init c = sym (path-count c.args.text.now)

pub overflow_add-count : goal.overflow_add-count
overflow_add-count c =
    let m = c.is_path_mark-taken.result in
    let rest = path_behind ki.None m (drop (c.loop-i.i + 1) c.args.text.now) in
    let step = path-step ki.None c.loop-i.taken m c.args.text.now c.loop-i.i (omega arith) c.is_path_mark-taken.ensures in
    omega (
      arith,
      c.loop-i.invariant,
      ap length step,
      length-append
          (mark_ways ki.None m) rest,
      c.count_mark-count.ensures ki.None,
      c.requires,
    )

pub loop-i-preserved : goal.loop-i-preserved
loop-i-preserved c =
    let m = c.is_path_mark-taken.result in
    let rest = path_behind ki.None m (drop (c.loop-i.i + 1) c.args.text.now) in
    let step = path-step ki.None c.loop-i.taken m c.args.text.now c.loop-i.i (omega arith) c.is_path_mark-taken.ensures in
    omega (arith, c.loop-i.invariant, ap length step, length-append (mark_ways ki.None m) rest, c.count_mark-count.ensures ki.None)

pub returns : goal.returns
returns c =
    let none = ap (λ s. length (path_behind ki.None c.loop-i.taken s)) (drop-past c.args.text.now c.loop-i.i (omega arith)) in
    omega (arith, c.loop-i.invariant, none)
