use Rattle.std.proofs.Common.{◌≡◌, ◌<◌, ◌≤◌, ◌+◌, ◌^◌, ◌++◌, append_assoc, ap, sym, ◌∙◌, arith}
use Rattle.hare_tree.specs.Node.{nodes_of, size_of, sizes_of}
use Rattle.hare_tree.specs.Judged.{nodes_from}
use Rattle.hare_tree.proofs.TreeKids.KidsFrom.{nodes_from-get, nodes_from-past}
use Rattle.hare_directory.specs.Seen.{tables_of}
use Rattle.hare_names.specs.Scopes.{bindings_in, bindings_among, bound_by, bound_among, bound_itself}
use Rattle.hare_names.proofs.WalkLemmas.{walking-on, walking-past, walking-done, walking-room, back, one-kid, two-kids, counted-one}
use Rattle.hare_names.proofs.WalkLemmas.{counted-two, loop-one, loop-two}
use Rattle.hare_names.proofs.DoubledLemmas.{among-on, among-done, doubled-idle, doubled-one, doubled-two}
use Rattle.hare_names.proofs.walk.+walk.Goals as goal

pub walk_kids-walk-requires : goal.walk_kids-walk-requires
walk_kids-walk-requires t c =
    let less : size_of c.in-Some.kid.now < sizes_of (nodes_of c.args.kids.now) =
    c.in-Some.ensures.smaller in
    let room : c.loop-i.behind + bindings_in c.in-Some.kid.now < 2 ^ 32 =
    walking-room _ _ _ _ _ _ _ c.in-Some.kid.now _ _ _ _
    (nodes_from-get c.args.kids.now c.loop-i.i c.in-Some.kid.now c.in-Some.ensures.found) c.requires c.loop-i.invariant.walking in
    (omega arith, room)

pub walk_kids-loop-i-preserved : goal.walk_kids-loop-i-preserved
walk_kids-loop-i-preserved t c =
    let here = nodes_from-get c.args.kids.now c.loop-i.i c.in-Some.kid.now c.in-Some.ensures.found in
    record {
      walking = walking-on _ _ _ _ _ _ _ c.in-Some.kid.now _ _ _ _ _ _ _ here c.in_ok-behind.ensures.count
          c.in_ok-behind.ensures.locals c.in_ok-behind.ensures.notes c.loop-i.invariant.walking;
      doubled = among-on c.loop-i.doubled.first c.walk.new.doubled.first _ c.in-Some.kid.now _ _ here c.in_ok-behind.ensures.doubled
          c.loop-i.invariant.doubled;
    }

-- a kid that is passed by
pub walk_kids-loop-i-preserved-then-is_idle : goal.walk_kids-loop-i-preserved-then-is_idle
walk_kids-loop-i-preserved-then-is_idle t c =
    let here = nodes_from-get c.args.kids.now c.loop-i.i c.in-Some.kid.now c.in-Some.ensures.found in
    let idle = sym c.is_idle.ensures ∙ c.if-is_idle.true in
    record {
      walking = walking-past _ _ _ _ _ _ _ c.in-Some.kid.now _ _ _ _ here idle c.loop-i.invariant.walking;
      doubled = among-on c.loop-i.doubled.first c.loop-i.doubled.first _ c.in-Some.kid.now _ _ here
          (doubled-idle c.in-Some.kid.now c.loop-i.doubled.first idle) c.loop-i.invariant.doubled;
    }

pub walk_kids-returns-clause-count : goal.walk_kids-returns-clause-count
walk_kids-returns-clause-count t c = (walking-done _ _ _ _ _ _ _ _ _ _
    (nodes_from-past c.args.kids.now c.loop-i.i (omega arith)) c.loop-i.invariant.walking).count

pub walk_kids-returns-clause-locals : goal.walk_kids-returns-clause-locals
walk_kids-returns-clause-locals t c = (walking-done _ _ _ _ _ _ _ _ _ _
    (nodes_from-past c.args.kids.now c.loop-i.i (omega arith)) c.loop-i.invariant.walking).locals

pub walk_kids-returns-clause-notes : goal.walk_kids-returns-clause-notes
walk_kids-returns-clause-notes t c = (walking-done _ _ _ _ _ _ _ _ _ _
    (nodes_from-past c.args.kids.now c.loop-i.i (omega arith)) c.loop-i.invariant.walking).noted_is

pub walk_kids-returns-clause-doubled : goal.walk_kids-returns-clause-doubled
walk_kids-returns-clause-doubled t c = among-done c.loop-i.doubled.first _ _
    (nodes_from-past c.args.kids.now c.loop-i.i (omega arith)) c.loop-i.invariant.doubled

pub walk_loop-walk-requires : goal.walk_loop-walk-requires
walk_loop-walk-requires t c =
    let less : size_of c.in-Some.binding.now < sizes_of (nodes_of c.args.kids.now) =
    c.in-Some.ensures.smaller in
    let some : bindings_in c.in-Some.binding.now ≤ bindings_among (nodes_of c.args.kids.now) =
    counted-one c.args.kids.now c.in-Some.binding.now c.in-Some.ensures.found in
    (omega arith, omega arith)

pub walk_loop-returns-in_default-get-clause-count : goal.walk_loop-returns-in_default-get-clause-count
walk_loop-returns-in_default-get-clause-count t c =
    let kids = ap bindings_among (one-kid c.args.kids.now c.in-Some.binding.now c.in-Some.ensures.found c.in_default-get.ensures.none) in
    let count : c.in_ok-behind.behind ≡ c.args.before + bindings_in c.in-Some.binding.now = c.in_ok-behind.ensures.count in
    omega (arith, kids, count)

pub walk_loop-returns-in_default-get-clause-notes : goal.walk_loop-returns-in_default-get-clause-notes
walk_loop-returns-in_default-get-clause-notes t c =
    loop-one (tables_of c.args.setting.directory.now) c.args.setting.file c.args.before c.args.locals.now c.args.notes.now
    c.walk.new.notes c.args.kids.now c.in-Some.binding.now
    (one-kid c.args.kids.now c.in-Some.binding.now c.in-Some.ensures.found c.in_default-get.ensures.none) c.in_ok-behind.ensures.notes

pub walk_loop-returns-in_default-get-clause-doubled : goal.walk_loop-returns-in_default-get-clause-doubled
walk_loop-returns-in_default-get-clause-doubled t c =
    doubled-one c.args.doubled.now.first c.walk.new.doubled.first (nodes_of c.args.kids.now) c.in-Some.binding.now
    (one-kid c.args.kids.now c.in-Some.binding.now c.in-Some.ensures.found c.in_default-get.ensures.none) c.in_ok-behind.ensures.doubled

pub walk_loop-walk-requires-2 : goal.walk_loop-walk-requires-2
walk_loop-walk-requires-2 t c =
    let less : size_of c.in-Some-get.over.now < sizes_of (nodes_of c.args.kids.now) =
    c.in-Some-get.ensures.smaller in
    let kids = counted-two c.args.kids.now c.in-Some.binding.now c.in-Some-get.over.now
    (two-kids c.args.kids.now c.in-Some.binding.now c.in-Some-get.over.now c.in-Some.ensures.found c.in-Some-get.ensures.found) in
    let count : c.in_ok-behind.behind ≡ c.args.before + bindings_in c.in-Some.binding.now = c.in_ok-behind.ensures.count in
    (omega arith, omega (arith, kids, count))

pub walk_loop-walk_kids-requires : goal.walk_loop-walk_kids-requires
walk_loop-walk_kids-requires t c =
    let kids = counted-two c.args.kids.now c.in-Some.binding.now c.in-Some-get.over.now
    (two-kids c.args.kids.now c.in-Some.binding.now c.in-Some-get.over.now c.in-Some.ensures.found c.in-Some-get.ensures.found) in
    let count : c.in_ok-behind.behind ≡ c.args.before + bindings_in c.in-Some.binding.now = c.in_ok-behind.ensures.count in
    let count-2 : c.in_ok-behind-2.behind ≡ c.in_ok-behind.behind + bindings_in c.in-Some-get.over.now = c.in_ok-behind-2.ensures.count in
    (omega arith, omega (arith, kids, count, count-2))

pub walk_loop-returns-clause-count : goal.walk_loop-returns-clause-count
walk_loop-returns-clause-count t c =
    let kids = counted-two c.args.kids.now c.in-Some.binding.now c.in-Some-get.over.now
    (two-kids c.args.kids.now c.in-Some.binding.now c.in-Some-get.over.now c.in-Some.ensures.found c.in-Some-get.ensures.found) in
    let count : c.in_ok-behind.behind ≡ c.args.before + bindings_in c.in-Some.binding.now = c.in_ok-behind.ensures.count in
    let count-2 : c.in_ok-behind-2.behind ≡ c.in_ok-behind.behind + bindings_in c.in-Some-get.over.now = c.in_ok-behind-2.ensures.count in
    let count-3 : c.in_ok-behind-3.behind ≡ c.in_ok-behind-2.behind + bindings_among (nodes_from 2 (nodes_of c.args.kids.now)) =
    c.in_ok-behind-3.ensures.count in
    omega (arith, kids, count, count-2, count-3)

pub walk_loop-returns-clause-locals : goal.walk_loop-returns-clause-locals
walk_loop-returns-clause-locals t c =
    let n = c.in_ok-behind.behind in
    let ls = c.args.locals.now in
    let one = c.back_to.ensures ∙ back (bound_by c.args.before c.in-Some.binding.now) ls c.walk.new.locals c.mark-mark.result
    c.in_ok-behind.ensures.locals c.mark-mark.ensures in
    let two = c.back_to-2.ensures ∙ back (bound_by n c.in-Some-get.over.now) ls c.walk-2.new.locals c.mark-mark.result
    (c.in_ok-behind-2.ensures.locals ∙ ap (λ xs. bound_by n c.in-Some-get.over.now ++ xs) one) c.mark-mark.ensures in
    let own = bound_itself c.args.before c.in-Some.binding.now in
    let bound = c.in_ok-bind_itself.ensures ∙ ap (λ xs. own ++ xs) two in
    let rest = bound_among c.in_ok-behind-2.behind (nodes_from 2 (nodes_of c.args.kids.now)) in
    c.back_to-3.ensures ∙ back (rest ++ own) ls c.walk_kids.new.locals c.mark-mark.result
    (c.in_ok-behind-3.ensures.locals ∙ ap (λ xs. rest ++ xs) bound ∙ sym (append_assoc rest own ls)) c.mark-mark.ensures

pub walk_loop-returns-clause-notes : goal.walk_loop-returns-clause-notes
walk_loop-returns-clause-notes t c =
    let n = c.in_ok-behind.behind in
    let ls = c.args.locals.now in
    let one = c.back_to.ensures ∙ back (bound_by c.args.before c.in-Some.binding.now) ls c.walk.new.locals c.mark-mark.result
    c.in_ok-behind.ensures.locals c.mark-mark.ensures in
    let two = c.back_to-2.ensures ∙ back (bound_by n c.in-Some-get.over.now) ls c.walk-2.new.locals c.mark-mark.result
    (c.in_ok-behind-2.ensures.locals ∙ ap (λ xs. bound_by n c.in-Some-get.over.now ++ xs) one) c.mark-mark.ensures in
    let bound = c.in_ok-bind_itself.ensures ∙ ap (λ xs. bound_itself c.args.before c.in-Some.binding.now ++ xs) two in
    loop-two (tables_of c.args.setting.directory.now) c.args.setting.file c.args.before n c.in_ok-behind-2.behind ls c.back_to.new.self
    c.bind_itself.new.locals c.args.notes.now c.walk.new.notes c.walk-2.new.notes c.walk_kids.new.notes c.args.kids.now
    c.in-Some.binding.now c.in-Some-get.over.now (nodes_from 2 (nodes_of c.args.kids.now))
    (two-kids c.args.kids.now c.in-Some.binding.now c.in-Some-get.over.now c.in-Some.ensures.found c.in-Some-get.ensures.found)
    c.in_ok-behind.ensures.count c.in_ok-behind-2.ensures.count one bound c.in_ok-behind.ensures.notes c.in_ok-behind-2.ensures.notes
    c.in_ok-behind-3.ensures.notes

pub walk_loop-returns-clause-doubled : goal.walk_loop-returns-clause-doubled
walk_loop-returns-clause-doubled t c =
    doubled-two c.args.doubled.now.first c.walk.new.doubled.first c.walk-2.new.doubled.first c.walk_kids.new.doubled.first
    (nodes_of c.args.kids.now) c.in-Some.binding.now c.in-Some-get.over.now (nodes_from 2 (nodes_of c.args.kids.now))
    (two-kids c.args.kids.now c.in-Some.binding.now c.in-Some-get.over.now c.in-Some.ensures.found c.in-Some-get.ensures.found)
    c.in_ok-behind.ensures.doubled c.in_ok-behind-2.ensures.doubled c.in_ok-behind-3.ensures.doubled
