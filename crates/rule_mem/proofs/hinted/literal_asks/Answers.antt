use Rattle.std.proofs.Common.{arith, ap, ap₂, sym, ◌∙◌, List, ℕ, is_some}
use Rattle.hare_types.specs.declared.coercion.Ty.{Ty}
use Rattle.hare_typed.specs.Given.{base_row}
use Rattle.hare_typed.specs.Order.{tree_from_front}
use Rattle.hare_rules.specs.Aggregates.{field_type}
use Rattle.rule_judge.specs.Settings.{setting_of}
use Rattle.rule_mem.proofs.HintedLemmas.{literal_first, literal_later}
use Rattle.rule_mem.proofs.hinted.literal_asks.Goals as goal

pub returns : goal.returns
returns c f l =
    c.is_some.ensures
    ∙ ap is_some (c.field_of.ensures f l ∙ ap₂ (λ (a : Ty) (x : List ℕ). field_type f (base_row f a) x) c.own.ensures.value
    c.text_at.ensures)
    ∙ literal_later (setting_of f c.args.t.now.decls.now) c.args.t.now.kids.now c.args.i (tree_from_front c.args.i c.args.t.now.kids.now)
    (λ e. omega (arith, e))
