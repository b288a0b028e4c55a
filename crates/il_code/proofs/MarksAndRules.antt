-- A module is faultless exactly where it breaks no rule.
use Rattle.std.proofs.Common.{◌≡◌, true, refl, sym, ◌∙◌, subst}
use Rattle.std.specs.List.{list_all, list_any}
use Rattle.std.proofs.lemmas.Bool.{and_parts}
use Rattle.il_code.specs.declared.types.Module.{Module}
use Rattle.il_code.specs.Rules.{is_main, item_is_small, is_small, IsLawful}
use Rattle.il_code.specs.Loose.{loose}
use Rattle.il_code.specs.MarkLaws.{IsFaultless, MarksAreTheRules}
use Rattle.il_code.proofs.MarkFunctions.{clear-module, settled-loose}

faultless : (m : Module) → IsLawful m.items → IsFaultless (loose m.items)
faultless m l =
    let e = settled-loose m.items in
    record {
      unmarked = clear-module m.items ∙ rw (l.once, l.names, l.flow, l.operands) refl;
      main = subst (λ items. list_any is_main items ≡ true) (sym e) l.main;
      numbers = subst (λ items. list_all item_is_small items ≡ true) (sym e) l.numbers;
      small = subst (λ items. is_small items ≡ true) (sym e) l.small;
    }

lawful : (m : Module) → IsFaultless (loose m.items) → IsLawful m.items
lawful m f =
    let e = settled-loose m.items in
    let a = and_parts _ _ (sym (clear-module m.items) ∙ f.unmarked) in
    let b = and_parts _ _ a.1 in
    let c = and_parts _ _ b.1 in
    record {
      once = a.0;
      names = b.0;
      flow = c.0;
      operands = c.1;
      main = subst (λ items. list_any is_main items ≡ true) e f.main;
      numbers = subst (λ items. list_all item_is_small items ≡ true) e f.numbers;
      small = subst (λ items. is_small items ≡ true) e f.small;
    }

pub marks_are_the_rules : MarksAreTheRules
marks_are_the_rules m = (lawful m, faultless m)
