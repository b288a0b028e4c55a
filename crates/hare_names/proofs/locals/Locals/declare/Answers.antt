use Rattle.std.proofs.Common.{◌∙◌, refl, sym, ap}
use Rattle.std.specs.Option.{option_flatten}
use Rattle.hare_names.proofs.LocalLemmas.{told-declared}
use Rattle.hare_names.proofs.locals.Locals.declare.Goals as goal

pub invariant_of-self-2 : goal.invariant_of-self-2
invariant_of-self-2 c =
    let insert = c.in_ok-entry.ensures in
    rw (insert.entries, c.push_reserved.ensures.items, c.reserve.ensures.items)
    (told-declared (λ k. k.now) c.self.inside.newest.entries c.self.inside.locals.items c.args.name
    (record { name = c.args.name; number = c.args.number; entry = c.in_ok-entry.entry; hidden = c.flatten.result }) c.self.invariant
    (record {
      name_is = refl;
      entry_is = insert.index;
      within = rw insert.entries at insert.within;
      hidden_is = c.flatten.ensures ∙ ap option_flatten insert.old;
    }))
