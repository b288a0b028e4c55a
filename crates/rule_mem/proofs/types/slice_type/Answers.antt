use Rattle.std.proofs.Common.{◌≡◌, true, false, ap, sym, ◌∙◌, is_some}
use Rattle.hare_types.proofs.LaterLemmas.{later_here, later_trans}
use Rattle.hare_rules.specs.Aggregates.{slice_of}
use Rattle.hare_rules.specs.Words.{typed_as}
use Rattle.rule_mem.proofs.types.slice_type.Goals as goal

pub unreachable-requires : goal.unreachable-requires
unreachable-requires c =
    let h = later_here c.args.s.now c.declarations-law.ensures.sound in
    let no : false ≡ true = ap is_some (c.in-None.ensures.value c.args.s.now h) ∙ c.requires.met c.args.s.now h in
    cc

pub returns-clause-value : goal.returns-clause-value
returns-clause-value c f l =
    ap typed_as
    (ap (slice_of f) (sym (c.in-Some.ensures.value f (later_trans c.args.s.now c.slice_of.new.s f c.slice_of.ensures.grown.later l))) ∙
    c.in_ok-made-in-Some.ensures.id f l)
