use Rattle.std.proofs.Common.{◌<◌, refl, subst, sym}
use Rattle.hare_depends.proofs.ListLemmas.{there-below}
use Rattle.hare_steps.proofs.PlacesListed.Places.{places-next}
use Rattle.hare_steps.proofs.listed.push_places.Goals as goal

pub loop-decl-preserved : goal.loop-decl-preserved
loop-decl-preserved c = λ fs f file size.
    let x = there-below f.decls c.loop-decl.decl (subst (λ n. c.loop-decl.decl < n) (sym size) c.loop-decl-test.true) in
    places-next fs f (record { file = c.args.file; decl = c.loop-decl.decl }) c.loop-decl.decl x.0 c.loop-decl.places.items
    c.push.new.self.items _ file x.1 refl
    c.in_ok-push.ensures.items (c.loop-decl.invariant fs f file size)
