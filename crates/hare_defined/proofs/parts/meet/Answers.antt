use Rattle.std.proofs.Common.{sym, subst}
use Rattle.std.specs.Prelude.{Contains, nat_eq}
use Rattle.std.specs.Cmp.{unsigned_Decides}
use Rattle.indexmap.proofs.CallerLemmas.{Contains-insert_key}
use Rattle.hare_defined.proofs.parts.meet.Goals as goal

pub returns-clause-ok : goal.returns-clause-ok
returns-clause-ok c =
    subst (λ ks. Contains ks c.args.t) (sym c.in_ok-insert.ensures.keys)
    (Contains-insert_key nat_eq (λ x y. (unsigned_Decides x y).0) c.args.met.now.keys c.args.t)
