use Rattle.std.proofs.Common.{Some, ◌&&◌, nat_eq, map, drop, ap, sym, ◌∙◌}
use Rattle.std.specs.List.{list_all, list_any}
use Rattle.indexmap.specs.IndexSet.{contains}
use Rattle.hare_rules.specs.Control.{pattern_of}
use Rattle.rule_match.specs.Patterns.{points_to}
use Rattle.rule_match.proofs.CoverLemmas.{covers_union, covers_nullable}
use Rattle.rule_match.proofs.covered.covers.Goals as goal

pub returns-in-Some-Union : goal.returns-in-Some-Union
returns-in-Some-Union c f l =
    covers_union f c.args.all.now (map pattern_of (drop 1 c.args.kids.now)) c.requires.all c.args.a.now c.if-all.false _
    (c.in-Some-Union.ensures.value f l)
    c.in-Some-Union.members c.has_each.result (ap Some c.in-Some-Union.field-0-is)
    (c.has_each.ensures ∙ ap (list_all (contains nat_eq c.args.all.now.types)) c.as_slice.ensures)

pub returns-then-all-2 : goal.returns-then-all-2
returns-then-all-2 c f l =
    let patterns = map pattern_of (drop 1 c.args.kids.now) in
    covers_nullable f c.args.all.now patterns c.requires.all c.args.a.now c.if-all.false _ (c.in-Some-Nullable.ensures.value f l)
    c.in-Some-Nullable.pointee c.has_pointer.result
    (ap Some c.in-Some-Nullable.field-0-is)
    (c.has_pointer.ensures f l ∙ ap (λ n. n && list_any (points_to f c.in-Some-Nullable.pointee) patterns) (sym c.if-all-2.true))
