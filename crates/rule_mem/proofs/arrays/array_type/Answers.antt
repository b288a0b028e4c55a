use Rattle.std.proofs.Common.{◌≡◌, Bool, true, false, not, ◌&&◌, is_some, ap, ap₂, sym, ◌∙◌}
use Rattle.hare_types.proofs.LaterLemmas.{later_here, later_trans}
use Rattle.rule_mem.proofs.ItemLemmas.{array_typed, empty_typed}
use Rattle.rule_mem.proofs.arrays.array_type.Goals as goal

pub unreachable-requires : goal.unreachable-requires
unreachable-requires c =
    let h = later_here c.args.s.now c.declarations-law.ensures.sound in
    let no : false ≡ true =
    sym (ap is_some c.in-None.is) ∙ c.in_ok-u.ensures.there c.args.s.now h
    ∙ ap₂ (λ (a b : Bool). not a && b) (sym (c.is_empty.ensures c.args.s.now h) ∙ c.if-is_empty.false) (c.requires.met c.args.s.now h) in
    cc

pub returns-then-is_empty-clause-value : goal.returns-then-is_empty-clause-value
returns-then-is_empty-clause-value c f l = empty_typed _ _ (sym (c.is_empty.ensures f l) ∙ c.if-is_empty.true)

pub returns-clause-value : goal.returns-clause-value
returns-clause-value c f l =
    let typed = later_trans c.item_type.new.s c.array_of.new.s f c.array_of.ensures.grown.later l in
    let counted = later_trans c.args.s.now c.item_type.new.s f c.item_type.ensures.grown.later typed in
    array_typed f _ _ c.element_count-count.result _ c.in-Some.u c.in_ok-made-in-Some.made
    (sym (c.is_empty.ensures f counted) ∙ c.if-is_empty.false) (c.element_count-count.ensures f counted)
    (sym (c.in_ok-u.ensures.value f typed) ∙ c.in-Some.is) (c.in_ok-made-in-Some.ensures.id f l)
