use Rattle.std.proofs.Common.{ap, ◌∙◌}
use Rattle.hare_names.specs.Keys.{place_of}
use Rattle.hare_names.specs.Tables.{meaning_at}
use Rattle.hare_names.proofs.PlaceLemmas.{lookup-seen, keyed}
use Rattle.hare_names.proofs.places.Places.get.Goals as goal

pub returns : goal.returns
returns c =
    c.copied.ensures ∙ c.get.ensures.value
    ∙ lookup-seen place_of c.args.place _ (λ k. keyed (place_of c.key_of.result)
    (place_of k) c.args.place c.key_of.ensures) c.self.inside.meanings.entries ∙ ap (meaning_at c.args.place) c.self.view_is
