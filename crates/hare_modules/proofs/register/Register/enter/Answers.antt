use Rattle.std.proofs.Common.{sym, ap, ◌∙◌, bytes_eq, refl}
use Rattle.std.specs.List.{position_or_len}
use Rattle.hare_modules.proofs.TableLemmas.{position_or_len-seen, entered-seen}
use Rattle.hare_modules.proofs.register.Register.enter.Goals as goal

pub returns-clause-number : goal.returns-clause-number
returns-clause-number c =
    c.in_ok-number.ensures.index
    ∙ sym (position_or_len-seen (λ k. k.items) (bytes_eq c.args.name.items) c.self.inside.names.keys)
    ∙ ap (position_or_len (bytes_eq c.args.name.items)) c.self.view_is

pub returns-clause-ok : goal.returns-clause-ok
returns-clause-ok c =
    entered-seen (λ k. k.items) c.args.name c.args.name.items c.self.inside.names.keys c.insert_full.new.self.keys c.args.self.now
    c.self.view_is c.in_ok-number.ensures.keys refl
