use Rattle.std.proofs.Common.{sym, ap, ◌∙◌}
use Rattle.hare_names.specs.Keys.{rising_at}
use Rattle.hare_names.proofs.RisingLemmas.{found-there, found-behind}
use Rattle.hare_names.proofs.rising.Rising.get.Goals as goal

pub returns-in-Some : goal.returns-in-Some
returns-in-Some c =
    found-there c.args.place c.self.inside.ordered.items c.self.inside.others c.args.self.now c.in-Some.meaning c.self.view_is
    (sym (c.in-Some.ensures ∙ ap (rising_at c.args.place) c.as_slice.ensures.value))

pub returns-in-None : goal.returns-in-None
returns-in-None c =
    c.get.ensures ∙ found-behind c.args.place c.self.inside.ordered.items c.self.inside.others c.args.self.now c.self.view_is
    (sym (c.in-None.ensures ∙ ap (rising_at c.args.place) c.as_slice.ensures.value))
