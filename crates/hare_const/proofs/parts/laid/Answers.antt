use Rattle.std.proofs.Common.{◌<◌, ◌+◌, ◌∙◌, sym, refl, arith, length, get_or}
use Rattle.std.proofs.lemmas.List.Elements.{All-get_or}
use Rattle.hare_types.specs.declared.coercion.Ty.TheVariants as ty
use Rattle.hare_const.specs.declared.outcome.Outcome.TheVariants.{Aborts, Undefined}
use Rattle.hare_typed.specs.Sizes.{HasPart}
use Rattle.hare_const.proofs.SizeLemmas.{start_within, start_found}
use Rattle.hare_const.proofs.PartLemmas.{gathered_more, gathered_stopped, gathered_all}
use Rattle.hare_const.proofs.parts.laid.Goals as goal

pub index-start-requires : goal.index-start-requires
index-start-requires c =
    let s = c.args.s.now in
    let of = c.args.of in
    let k = get_or c.args.parts.now c.loop-i.i 0 in
    let part : HasPart s of k = All-get_or (HasPart s of) c.args.parts.now c.loop-i.i 0 c.loop-i-test.true c.requires.parts in
    let inside : k < length c.in_ok-starts.starts.items =
    start_within s of k c.in_ok-starts.starts.items part (c.in_ok-starts.ensures k part) in
    omega (arith, inside)

pub returns-in-Aborts : goal.returns-in-Aborts
returns-in-Aborts c =
    gathered_stopped c.args.s.now (ty.Of c.args.of) c.size_of-size.result c.args.parts.now c.args.from c.args.kids.now c.loop-i.i
    c.loop-i.given.items Aborts c.loop-i.invariant c.loop-i-test.true (sym c.kid_at.ensures ∙ c.in-Aborts.is) (λ f. refl)

pub returns-in-Undefined : goal.returns-in-Undefined
returns-in-Undefined c =
    gathered_stopped c.args.s.now (ty.Of c.args.of) c.size_of-size.result c.args.parts.now c.args.from c.args.kids.now c.loop-i.i
    c.loop-i.given.items Undefined c.loop-i.invariant c.loop-i-test.true (sym c.kid_at.ensures ∙ c.in-Undefined.is) (λ f. refl)

pub loop-i-preserved : goal.loop-i-preserved
loop-i-preserved c =
    let s = c.args.s.now in
    let of = c.args.of in
    let k = get_or c.args.parts.now c.loop-i.i 0 in
    let ns = c.in_ok-starts.starts.items in
    let part : HasPart s of k = All-get_or (HasPart s of) c.args.parts.now c.loop-i.i 0 c.loop-i-test.true c.requires.parts in
    gathered_more s (ty.Of of) c.size_of-size.result c.args.parts.now c.args.from c.args.kids.now c.loop-i.i c.loop-i.given.items
    c.push.new.self.items (record { start = c.index-start.result.now; kid = c.args.from + c.loop-i.i }) _ c.loop-i.invariant
    c.loop-i-test.true (sym c.kid_at.ensures ∙ c.in-Known.is) refl
    (start_found s of k c.index-start.result.now c.index-start.result.now ns part (c.in_ok-starts.ensures k part) c.index-start.ensures)
    c.in_ok-push-in-Known.ensures.items

pub returns : goal.returns
returns c =
    gathered_all c.args.s.now (ty.Of c.args.of) c.size_of-size.result c.args.parts.now c.args.from c.args.kids.now c.loop-i.i
    c.loop-i.given.items c.in_ok-whole.whole c.loop-i.invariant c.loop-i-test.false c.in_ok-whole.ensures
