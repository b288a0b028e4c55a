use Rattle.std.proofs.Common.{◌≡◌, ◌∙◌, sym, ap, subst}
use Rattle.std.specs.Prelude.{◌↔◌, IsTrue}
use Rattle.hare_tree.specs.declared.kind.Kind.TheVariants as kind
use Rattle.hare_typed.specs.Typed.{kids_of}
use Rattle.hare_typed.specs.Constants.{own_kind}
use Rattle.hare_typed.specs.Settled.{PlainKind}
use Rattle.hare_const.proofs.settled.is_plain_kind.Goals as goal

pub returns-in-Equal : goal.returns-in-Equal
returns-in-Equal c =
    let equal : own_kind c.args.t.now ≡ kind.Equal = sym (ap own_kind c.t.view_is) ∙ c.in-Equal.is in
    subst (λ k. IsTrue c.compares_plainly.result ↔ PlainKind c.args.s.now k (kids_of c.args.t.now)) (sym equal) c.compares_plainly.ensures

pub returns-in-Addr : goal.returns-in-Addr
returns-in-Addr c =
    let addr : own_kind c.args.t.now ≡ kind.Addr = sym (ap own_kind c.t.view_is) ∙ c.in-Addr.is in
    subst (λ k. IsTrue c.begins_with_place.result ↔ PlainKind c.args.s.now k (kids_of c.args.t.now)) (sym addr) c.begins_with_place.ensures
