use Rattle.std.proofs.Common.{sym, ap, ◌∙◌, position, bytes_eq}
use Rattle.hare_modules.proofs.TableLemmas.{position-seen}
use Rattle.hare_modules.proofs.register.Register.number.Goals as goal

pub returns : goal.returns
returns c = c.get_index_of.ensures.index ∙ sym (position-seen (λ k. k.items) (bytes_eq c.args.name.now) c.self.inside.names.keys) ∙ ap
    (position (bytes_eq c.args.name.now)) c.self.view_is
